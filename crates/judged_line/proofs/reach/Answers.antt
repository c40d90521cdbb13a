-- `judged_line::reach` meets its contract. The invariant: what is worked out stands for the lines above line n, and the nearest header among them begins at
-- `head`. Assumes nothing.
use mathlib.Core.Path.{◌≡◌, subst⁻¹}
use mathlib.Core.Bool.{false, ◌&&◌}
use Prim.Native.Nat.{ℕ, ◌-◌, ◌≤◌, ◌<◌}
use native.Mathlib.Omega.{arith}
use borrow.Author.Tests.{lt-ltb, ltb-true, ltb-false}
use lib.Dec.{ltb}
use lib.ListN.{length, drop, length-take, length-drop}
use Rattle.text_bytes.proofs.Laws.Tests.{and_left, and_right}
use Rattle.text.specs.Lines.{lines}
use Rattle.book.specs.Text.{book_in}
use Rattle.book.proofs.Laws.Sized.{book_sized}
use Rattle.book_facts.specs.Asked.{AskingOf}
use Rattle.scan.proofs.Laws.Scanning.{scan_all}
use Rattle.judged_line.specs.Passing.{Reaches, Headed, Sought}
use Rattle.judged_line.proofs.Laws.Passing.{next_reached, next_headed, passes_slots, passes_asking}
use Rattle.judged_line.proofs.Laws.Alone.{told_when}
use Rattle.judged_line.proofs.reach.Goals as goal

pub loop-n-init : goal.loop-n-init
loop-n-init c = record { reaches = c.requires.reaches; headed = λ low. absurd (omega (arith, low, c.requires.section_value)); keys = c.requires.slots_len; asking = c.requires.asking_of }

pub returns-then-file-at : goal.returns-then-file-at
returns-then-file-at c = record {
  reached = λ low. omega (arith, scan_all (book_sized _) c.loop-n.invariant.reaches.1.1 c.if-file-at.true, c.loop-n-test.true);
  slots_len_2 = c.loop-n.invariant.keys;
}

pub pass_line-passed-requires : goal.pass_line-passed-requires
pass_line-passed-requires c =
    record {
      book = c.requires.book;
      line_len_bound = omega (arith, length-take (c.line_at-here.result.end - c.loop-n.at) (drop c.loop-n.at c.args.file.now), length-drop c.loop-n.at c.args.file.now, c.requires.file_len_bound);
      flags = c.requires.flags;
      slots_len = c.loop-n.invariant.keys;
    }

pub loop-n-preserved : goal.loop-n-preserved
loop-n-preserved c =
    let low : 1 ≤ c.loop-n.n = omega (arith, c.loop-n.auto.n) in
    let inv = c.loop-n.invariant in
    let passes = c.pass_line-passed.ensures.passes in
    record {
      reaches = next_reached (book_sized _) c.loop-n.n low inv.reaches c.line_at-here.ensures passes;
      headed = rw c.nearer_head-head.ensures (next_headed (book_sized _) c.loop-n.n low inv.reaches c.line_at-here.ensures passes c.pass_line-passed.result.header c.pass_line-passed.ensures.header_value (omega (arith, c.if-file-at.false)) inv.headed);
      keys = passes_slots inv.reaches passes;
      asking = subst⁻¹ (AskingOf (book_in c.args.book.now) (lines c.args.file.now)) (passes_asking inv.reaches passes) inv.asking;
    }

-- no line is left above: the line sought begins here, where one does
pub returns : goal.returns
returns c =
    let inv = c.loop-n.invariant in
    let none : (ltb 0 c.args.line && ltb c.loop-n.at (length c.args.file.now)) ≡ false → 1 ≤ c.args.line → length (lines c.args.file.now) < c.args.line = λ e low.
    omega (arith, scan_all (book_sized _) inv.reaches.1.1 (ltb-false c.loop-n.at (length c.args.file.now) (rw (lt-ltb 0 c.args.line low) at e)), c.loop-n.auto.n-end low, c.loop-n.auto.n) in
    record {
      reached = rw c.then_some.ensures (told_when (1 ≤ c.args.line → length (lines c.args.file.now) < c.args.line) (Sought (book_in c.args.book.now) c.args.file.now c.args.line c.loop-n.slots) _ _ none (λ e.
          let low : 1 ≤ c.args.line = ltb-true 0 c.args.line (and_left _ _ e) in
          let z : c.args.line - 1 ≡ c.loop-n.n - 1 = omega (arith, c.loop-n-test.false, c.loop-n.auto.n-end low) in
          record {
            low = low;
            on = ltb-true c.loop-n.at (length c.args.file.now) (and_right _ _ e);
            reaches = subst⁻¹ (λ (k : ℕ). Reaches (book_in c.args.book.now) c.args.file.now c.loop-n.at k c.loop-n.state c.loop-n.slots) z inv.reaches;
            headed = subst⁻¹ (λ (k : ℕ). Headed (book_in c.args.book.now) c.args.file.now k c.loop-n.head c.loop-n.state) z inv.headed;
            asking = inv.asking;
          }));
      slots_len_2 = inv.keys;
    }
