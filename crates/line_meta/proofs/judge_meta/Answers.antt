-- `line_meta::judge_meta` meets its contract: cell 1's puts, and then by the number of cells. Assumes nothing.
use mathlib.Core.Path.{◌≡◌, sym, ◌∙◌}
use Prim.Native.Nat.{◌+◌, ◌≤◌}
use lib.ListN.{length}
use native.Mathlib.Omega.{arith}
use Rattle.text.specs.Lines.{cells}
use Rattle.scan.specs.Places.{CEILING}
use Rattle.scan.specs.Machine.{ids_of}
use Rattle.line_meta_keys.proofs.Laws.Slotting.{in_slots}
use Rattle.line_meta.proofs.Laws.Slotted.{keeps_three, keeps_other}
use Rattle.line_meta.proofs.Laws.Fielding.{meta_three, meta_other}
use Rattle.line_meta.proofs.judge_meta.Goals as goal

pub judge_three-requires : goal.judge_three-requires
judge_three-requires c =
    let most : c.put_if-k3.result + 4 ≤ CEILING = omega (arith, c.requires.count_bound, c.put_if-k1.ensures.most, c.put_if-k2.ensures.most, c.put_if-k3.ensures.most) in
    let three = sym c.count_cells-n.ensures ∙ c.if-n-eq-CELLS.true in
    record {
      book = c.requires.book;
      flags = c.requires.flags;
      slots_len = c.requires.slots_len;
      line_len = three;
      count_bound = most;
    }

pub returns-then-n-eq-CELLS : goal.returns-then-n-eq-CELLS
returns-then-n-eq-CELLS c =
    let three = sym c.count_cells-n.ensures ∙ c.if-n-eq-CELLS.true in
    record {
      puts = meta_three _ c.args.table c.args.slots.now (ids_of c.args.flags.now) c.args.tag.control c.args.tag.line (cells c.args.line.now) c.put_if-k1.ensures (rw c.count_cells-n.ensures at c.put_if-k2.ensures) c.put_if-k3.ensures three c.judge_three.ensures.puts;
      keeps_keys = rw c.judge_three.ensures.slots_after (keeps_three _ c.args.slots.now c.requires.slots_len c.args.line.now c.args.tag.line c.requires.line_value (in_slots _ _) three);
    }

pub put_if-requires : goal.put_if-requires
put_if-requires c =
    let most : c.put_if-k3.result + 4 ≤ CEILING = omega (arith, c.requires.count_bound, c.put_if-k1.ensures.most, c.put_if-k2.ensures.most, c.put_if-k3.ensures.most) in
    omega (arith, most)

pub returns : goal.returns
returns c =
    let other : length (cells c.args.line.now) ≡ 3 → ⊥ = λ q. c.if-n-eq-CELLS.false (c.count_cells-n.ensures ∙ q) in
    record {
      puts = meta_other _ c.args.table c.args.slots.now (ids_of c.args.flags.now) c.args.tag.control c.args.tag.line (cells c.args.line.now) c.put_if-k1.ensures (rw c.count_cells-n.ensures at c.put_if-k2.ensures) c.put_if-k3.ensures other c.put_if.ensures;
      keeps_keys = keeps_other _ c.args.slots.now c.requires.slots_len c.args.line.now c.args.tag.line other;
    }
