-- `book_links::link`. The invariant: the rows from `row` on are linked, and what stands before `at` is as it was. Assumes nothing.
use native.Mathlib.Omega.{arith}
use mathlib.Core.Path.{◌≡◌, refl, sym, ◌∙◌, subst}
use Prim.Native.Nat.{ℕ, ◌+◌, ◌-◌, ◌/◌, ◌≤◌, ◌<◌}
use lib.ListN.{length, get_or, set, drop, length-drop, length-set}
use lib.Seq.{take-set-le}
use Rattle.book_names.specs.Table.{entries}
use Rattle.book_names.specs.Links.{Linked}
use Rattle.book_names.proofs.Laws.Linking.{entry_count, entry_at, row_head, linked_none, linked_turn}
use Rattle.book_links.proofs.link.Goals as goal

pub loop-row-init : goal.loop-row-init
loop-row-init c =
    let room : 256 + length c.args.table.now / 54 ≤ length (drop c.args.at c.unlink.new.book) = omega (arith, length-drop c.args.at c.unlink.new.book, c.unlink.ensures.book_len_unchanged, c.requires.table_in_bounds) in
    (omega arith, refl, refl, linked_none (entries c.args.table.now) (drop c.args.at c.unlink.new.book) (length c.args.table.now / 54) (sym (entry_count c.args.table.now)) room c.unlink.ensures.by_index)

pub loop-row-preserved : goal.loop-row-preserved
loop-row-preserved c =
    let below : c.from.result < 256 = omega (arith, c.from.ensures) in
    let r = c.loop-row.row - 1 in
    let b' = set c.loop-row.book (c.args.at + 256 + r) (get_or c.loop-row.book (c.args.at + c.from.result) 0) in
    let lt : r < length c.args.table.now / 54 = omega arith in
    let lr : r < length (entries c.args.table.now) = omega (arith, entry_count c.args.table.now) in
    let e : c.loop-row.row ≡ r + 1 = omega arith in (
      omega arith,
      length-set b' (c.args.at + c.from.result) r ∙ length-set c.loop-row.book (c.args.at + 256 + r) (get_or c.loop-row.book (c.args.at + c.from.result) 0) ∙ c.loop-row.invariant.1,
      take-set-le c.args.at b' (c.args.at + c.from.result) r (omega arith) ∙ take-set-le c.args.at c.loop-row.book (c.args.at + 256 + r) (get_or c.loop-row.book (c.args.at + c.from.result) 0) (omega arith) ∙ c.loop-row.invariant.2,
      linked_turn (entries c.args.table.now) c.loop-row.book c.args.at r c.from.result _ (subst (λ (k : ℕ). Linked k (entries c.args.table.now) (drop c.args.at c.loop-row.book)) e c.loop-row.invariant.3) lr (entry_at c.args.table.now r lt) (row_head c.args.table.now r lt ∙ sym c.from.ensures) below,
    )

pub returns : goal.returns
returns c =
    let e : c.loop-row.row ≡ 0 = omega arith in
    record {
      long = c.loop-row.invariant.1 ∙ c.unlink.ensures.book_len_unchanged;
      kept = c.loop-row.invariant.2 ∙ c.unlink.ensures.book_unchanged;
      linked = subst (λ (r : ℕ). Linked r (entries c.args.table.now) (drop c.args.at c.loop-row.book)) e c.loop-row.invariant.3;
    }
