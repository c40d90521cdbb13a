-- `line_meta::judge_three` meets its contract: the two parts between the tabs are the key and the value. Assumes nothing.
use mathlib.Core.Path.{◌∙◌}
use Prim.Native.Nat.{◌<◌}
use lib.ListN.{length}
use native.Mathlib.Omega.{arith}
use Rattle.text.specs.Lines.{cells}
use Rattle.scan.proofs.Laws.Celling.{three_second, three_cells, three_key}
use Rattle.line_meta_keys.proofs.Laws.Slotting.{in_slots}
use Rattle.line_meta.proofs.Laws.Fielding.{first_tab, three_puts}
use Rattle.line_meta.proofs.judge_three.Goals as goal

pub cell_end-f-requires : goal.cell_end-f-requires
cell_end-f-requires c = omega (arith, first_tab c.cell_end-e.ensures c.requires.line_len)

pub slice_bounds-judge_key-count-2 : goal.slice_bounds-judge_key-count-2
slice_bounds-judge_key-count-2 c =
    let second : c.cell_end-f.result < length c.args.line.now = three_second c.cell_end-e.ensures c.cell_end-f.ensures c.requires.line_len in
    omega (arith, second)

pub slice_bounds-judge_key-start-2 : goal.slice_bounds-judge_key-start-2
slice_bounds-judge_key-start-2 c =
    let second : c.cell_end-f.result < length c.args.line.now = three_second c.cell_end-e.ensures c.cell_end-f.ensures c.requires.line_len in
    omega (arith, second)

pub judge_key-judged-requires : goal.judge_key-judged-requires
judge_key-judged-requires c =
    record {
      book = c.requires.book;
      in_slots = rw c.key-found.ensures (in_slots _ _);
      flags = c.requires.flags;
      slots_len = c.requires.slots_len;
    }

pub mark-requires : goal.mark-requires
mark-requires c = record { book = c.requires.book; in_slots = rw c.key-found.ensures (in_slots _ _); slots_len = c.requires.slots_len }

pub put_field-k-requires : goal.put_field-k-requires
put_field-k-requires c = omega (arith, c.requires.count_bound)

pub put_field-requires : goal.put_field-requires
put_field-requires c = omega (arith, c.put_field-k.ensures.most, c.requires.count_bound)

pub returns : goal.returns
returns c =
    let judged = rw c.key-found.ensures at c.judge_key-judged.ensures in
    let cut = three_cells c.cell_end-e.ensures c.cell_end-f.ensures c.requires.line_len in
    let key = three_key c.cell_end-e.ensures c.cell_end-f.ensures c.requires.line_len in
    record {
      puts = three_puts _ c.args.tag.control c.args.tag.line judged c.put_field-k.ensures c.put_field.ensures (cells c.args.line.now) cut;
      slots_after = c.mark.ensures ∙ rw (c.key-found.ensures, key);
    }
