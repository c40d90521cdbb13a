-- `value_parameters::block` meets its contract: the state says which of the two scans goes on, and where it reads nothing all is as it was. Assumes nothing.
use mathlib.Core.Path.{sym, ap, ◌∙◌, refl}
use mathlib.Core.Bool.{Bool}
use lib.Dec.{eqb}
use native.Mathlib.Omega.{arith}
use borrow.Author.Tests.{eq-eqb}
use Rattle.value_parameters.specs.Scan.{state, run}
use Rattle.text_bytes.specs.Places.{part}
use Rattle.value_parameters.proofs.Laws.Scans.{block_same}
use Rattle.value_parameters.proofs.Laws.Walks.{block_read, block_open}
use Rattle.value_parameters.proofs.block.Goals as goal

pub returns-then-st : goal.returns-then-st
returns-then-st c =
    let w = c.inside_scan.ensures.0 ∙ ap (λ (q : Bool). run c.args.bars (state c.args.w.scan.at c.args.w.scan.commas q c.args.w.scan.filled) (part c.args.w.scan.at c.args.end c.args.s.now)) (sym c.if-st.true) in
    (w, block_open c.args.bars c.args.s.now c.args.w.scan c.inside_scan.result.scan c.args.end (omega arith) (omega arith) w (eqb c.args.w.last 93) (eqb c.inside_scan.result.last 93) c.if-st.true c.inside_scan.ensures.1)

pub returns-then-r-st : goal.returns-then-r-st
returns-then-r-st c =
    let w = c.outside_scan-r.ensures.0 ∙ ap (λ (q : Bool). run c.args.bars (state c.args.w.scan.at c.args.w.scan.commas q c.args.w.scan.filled) (part c.args.w.scan.at c.args.end c.args.s.now)) (sym c.if-st.false) in
    (sym (block_same c.args.bars c.args.s.now c.args.w.scan c.outside_scan-r.result.scan c.args.end (omega arith) (omega arith) w c.if-r-st.true) ∙ w, λ q. rw (eq-eqb c.args.w.scan.at c.args.w.scan.at refl))

pub returns : goal.returns
returns c =
    let w = c.outside_scan-r.ensures.0 ∙ ap (λ (q : Bool). run c.args.bars (state c.args.w.scan.at c.args.w.scan.commas q c.args.w.scan.filled) (part c.args.w.scan.at c.args.end c.args.s.now)) (sym c.if-st.false) in
    (w, block_read c.args.bars c.args.s.now c.args.w.scan c.outside_scan-r.result.scan c.args.end (omega arith) (omega arith) w (eqb c.args.w.last 93) (eqb c.outside_scan-r.result.last 93) c.outside_scan-r.ensures.1 c.if-r-st.false)
