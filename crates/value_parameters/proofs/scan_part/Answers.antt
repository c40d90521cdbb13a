-- `value_parameters::scan_part` meets its contract. The invariant: the run over what follows `at` is the run over what is left, from the state so far, and the
-- byte read last is known outside marks. Assumes nothing.
use Rattle.value_parameters.proofs.Laws.Scans.{block_end, block_goes, block_stands, run_done}
use Rattle.value_parameters.proofs.Laws.Walks.{shut_none, stays, block_shut}
use mathlib.Core.Path.{◌≡◌, sym, ap, ◌∙◌}
use mathlib.Core.Bool.{false}
use Prim.Native.Nat.{◌-◌}
use native.Mathlib.Omega.{arith}
use lib.Dec.{eqb}
use lib.ListN.{drop}
use Rattle.value_parameters.specs.Scan.{run}
use Rattle.value_parameters.specs.declared.Scan.{Scan}
use Rattle.value_parameters.proofs.scan_part.Goals as goal

pub loop-w-init : goal.loop-w-init
loop-w-init c =
    let at : c.stands-w.result.scan.at ≡ c.args.at = ap (λ (x : Scan). x.at) c.stands-w.ensures.0 in
    (omega (arith, at), omega (arith, at), ap (λ (x : Scan). run c.args.bars x (drop x.at c.args.s.now)) (sym c.stands-w.ensures.0), λ q. stays c.args.s.now c.args.at c.args.at 0 c.stands-w.result.last c.stands-w.result.scan at c.stands-w.ensures.1 (sym (shut_none c.args.s.now c.args.at)))

pub returns-then-w-e : goal.returns-then-w-e
returns-then-w-e c =
    let shuts = block_shut c.args.bars c.args.s.now c.loop-w.w.scan c.block-w.result.scan c.block_end-e.result (omega arith) (omega arith) c.block-w.ensures.0 c.args.at (eqb c.loop-w.w.last 93) (eqb c.block-w.result.last 93) (omega arith) c.loop-w.invariant.3 c.block-w.ensures.1 in
    (sym (c.loop-w.invariant.2 ∙ block_stands c.args.bars c.args.s.now c.loop-w.w.scan c.block-w.result.scan c.block_end-e.result (omega arith) (omega arith) c.block-w.ensures.0 c.if-w-e.true), shuts)

pub loop-w-smaller : goal.loop-w-smaller
loop-w-smaller c =
    let ends = block_end c.args.bars c.args.s.now c.loop-w.w.scan c.block-w.result.scan c.block_end-e.result (omega arith) (omega arith) c.block-w.ensures.0 c.if-w-e.false in
    omega (arith, ends)

pub loop-w-preserved : goal.loop-w-preserved
loop-w-preserved c =
    let ends = block_end c.args.bars c.args.s.now c.loop-w.w.scan c.block-w.result.scan c.block_end-e.result (omega arith) (omega arith) c.block-w.ensures.0 c.if-w-e.false in
    let shuts = block_shut c.args.bars c.args.s.now c.loop-w.w.scan c.block-w.result.scan c.block_end-e.result (omega arith) (omega arith) c.block-w.ensures.0 c.args.at (eqb c.loop-w.w.last 93) (eqb c.block-w.result.last 93) (omega arith) c.loop-w.invariant.3 c.block-w.ensures.1 in (
      omega (arith, ends),
      omega (arith, ends),
      c.loop-w.invariant.2 ∙ block_goes c.args.bars c.args.s.now c.loop-w.w.scan c.block-w.result.scan c.block_end-e.result (omega arith) (omega arith) c.block-w.ensures.0 c.if-w-e.false,
      shuts,
    )

pub returns : goal.returns
returns c = (sym (c.loop-w.invariant.2 ∙ run_done c.args.bars c.args.s.now c.loop-w.w.scan (omega arith)), c.loop-w.invariant.3)
