-- `line_head_required::lacks` meets its contract: the section's required columns stand in the book, as one text. Assumes nothing.
use mathlib.Core.Path.{◌≡◌, ap, ◌∙◌}
use Prim.Native.Nat.{ℕ, ◌+◌, ◌*◌, ◌-◌, ◌≤◌, ◌<◌}
use native.Mathlib.Omega.{arith}
use lib.ListN.{length}
use Rattle.book.specs.Book.{Book}
use Rattle.book.specs.Text.{book_in}
use Rattle.book.proofs.Laws.Directing.{section_within}
use Rattle.line_head_required.proofs.Laws.Requiring.{wanted_within, lacks_wanted, wanted_lines}
use Rattle.line_head_required.proofs.lacks.Goals as goal

pub bounds-book-0 : goal.bounds-book-0
bounds-book-0 c = omega (arith, c.requires.book.directory.size)

pub overflow_sub-k : goal.overflow_sub-k
overflow_sub-k c =
    let book : Book = book_in c.args.book.now in
    let first : c.from.result ≡ book.first = c.from.ensures ∙ c.requires.book.directory.first in
    let inside : (book.first ≤ c.args.section) × (c.args.section - book.first < length book.sections) = section_within book c.args.section c.requires.section_value in
    omega (arith, first, inside)

pub wanted_at-at-requires : goal.wanted_at-at-requires
wanted_at-at-requires c =
    let book : Book = book_in c.args.book.now in
    let first : c.from.result ≡ book.first = c.from.ensures ∙ c.requires.book.directory.first in
    let inside : (book.first ≤ c.args.section) × (c.args.section - book.first < length book.sections) = section_within book c.args.section c.requires.section_value in
    let size : 14 + 12 * (length book.sections + 1) ≤ length c.args.book.now = c.requires.book.directory.size in
    omega (arith, first, inside, size)

pub overflow_add-k-2 : goal.overflow_add-k-2
overflow_add-k-2 c =
    let book : Book = book_in c.args.book.now in
    let first : c.from.result ≡ book.first = c.from.ensures ∙ c.requires.book.directory.first in
    let inside : (book.first ≤ c.args.section) × (c.args.section - book.first < length book.sections) = section_within book c.args.section c.requires.section_value in
    let size : 14 + 12 * (length book.sections + 1) ≤ length c.args.book.now = c.requires.book.directory.size in
    omega (arith, first, inside, size)

pub wanted_at-end-requires : goal.wanted_at-end-requires
wanted_at-end-requires c =
    let book : Book = book_in c.args.book.now in
    let first : c.from.result ≡ book.first = c.from.ensures ∙ c.requires.book.directory.first in
    let inside : (book.first ≤ c.args.section) × (c.args.section - book.first < length book.sections) = section_within book c.args.section c.requires.section_value in
    let size : 14 + 12 * (length book.sections + 1) ≤ length c.args.book.now = c.requires.book.directory.size in
    omega (arith, first, inside, size)

pub slice_bounds-lacks_any-count : goal.slice_bounds-lacks_any-count
slice_bounds-lacks_any-count c =
    let book : Book = book_in c.args.book.now in
    let first : c.from.result ≡ book.first = c.from.ensures ∙ c.requires.book.directory.first in
    let place : c.args.section - c.from.result ≡ c.args.section - book.first = ap (λ (n : ℕ). c.args.section - n) first in
    let within : (c.wanted_at-at.result ≤ c.wanted_at-end.result) × (c.wanted_at-end.result ≤ length c.args.book.now) = wanted_within c.requires.book c.args.section (c.args.section - c.from.result) _ _ c.requires.section_value place c.wanted_at-at.ensures c.wanted_at-end.ensures in
    omega (arith, within)

pub slice_bounds-lacks_any-start : goal.slice_bounds-lacks_any-start
slice_bounds-lacks_any-start c =
    let book : Book = book_in c.args.book.now in
    let first : c.from.result ≡ book.first = c.from.ensures ∙ c.requires.book.directory.first in
    let place : c.args.section - c.from.result ≡ c.args.section - book.first = ap (λ (n : ℕ). c.args.section - n) first in
    let within : (c.wanted_at-at.result ≤ c.wanted_at-end.result) × (c.wanted_at-end.result ≤ length c.args.book.now) = wanted_within c.requires.book c.args.section (c.args.section - c.from.result) _ _ c.requires.section_value place c.wanted_at-at.ensures c.wanted_at-end.ensures in
    omega (arith, within)

pub slice_bounds-lacks_any-end : goal.slice_bounds-lacks_any-end
slice_bounds-lacks_any-end c =
    let book : Book = book_in c.args.book.now in
    let first : c.from.result ≡ book.first = c.from.ensures ∙ c.requires.book.directory.first in
    let place : c.args.section - c.from.result ≡ c.args.section - book.first = ap (λ (n : ℕ). c.args.section - n) first in
    let within : (c.wanted_at-at.result ≤ c.wanted_at-end.result) × (c.wanted_at-end.result ≤ length c.args.book.now) = wanted_within c.requires.book c.args.section (c.args.section - c.from.result) _ _ c.requires.section_value place c.wanted_at-at.ensures c.wanted_at-end.ensures in
    omega (arith, within)

pub lacks_any-requires : goal.lacks_any-requires
lacks_any-requires c =
    let book : Book = book_in c.args.book.now in
    let first : c.from.result ≡ book.first = c.from.ensures ∙ c.requires.book.directory.first in
    let place : c.args.section - c.from.result ≡ c.args.section - book.first = ap (λ (n : ℕ). c.args.section - n) first in
    record {
      from_in_bounds = c.requires.from_in_bounds;
      wanted_value = wanted_lines c.requires.book c.args.section (c.args.section - c.from.result) _ _ c.requires.section_value place c.wanted_at-at.ensures c.wanted_at-end.ensures;
    }

pub returns : goal.returns
returns c =
    let book : Book = book_in c.args.book.now in
    let first : c.from.result ≡ book.first = c.from.ensures ∙ c.requires.book.directory.first in
    let place : c.args.section - c.from.result ≡ c.args.section - book.first = ap (λ (n : ℕ). c.args.section - n) first in
    c.lacks_any.ensures
    ∙ lacks_wanted c.requires.book c.args.section (c.args.section - c.from.result) _ _ c.requires.section_value place c.wanted_at-at.ensures c.wanted_at-end.ensures _ _ c.requires.line_len_bound
