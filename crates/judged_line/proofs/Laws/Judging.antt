-- The promises of the call for one line, from what it ensures; and that its answer, in the line's place of the old list, makes the list of an edited file.
-- Assumes nothing.
use mathlib.Core.Path.{◌≡◌, refl, sym, ap, subst, ◌∙◌}
use mathlib.Core.List.{List, []}
use mathlib.Core.Bool.{Bool, true}
use Prim.Native.Nat.{ℕ, ◌*◌, ◌-◌, ◌≤◌, ◌<◌}
use native.Mathlib.Omega.{arith}
use borrow.Author.Tests.{le-ltb, lt-ltb, eqb-true, eq-eqb}
use lib.Dec.{eqb}
use lib.ListN.{length, get_or, length-set}
use Rattle.numbers.specs.Numbers.{TOO_LONG, NO_ROW}
use Rattle.text_bytes.specs.Bytes.{Bytes}
use Rattle.text.specs.Lines.{LIMIT, lines}
use Rattle.text.specs.Edits.{Edit, edited_line, edited_file}
use Rattle.text.proofs.Laws.Splicing.{edited_lines}
use Rattle.book.specs.Book.{book_of}
use Rattle.rules.specs.Sorts.{is_row}
use Rattle.rules.specs.Breaks.{Break, break_with, In}
use Rattle.rules.specs.Rules.{rules, end_rules, ends, breaks_by, breaks}
use Rattle.rules.specs.Edited.{on_line, others, renewed, of_line}
use Rattle.rules.proofs.Laws.Promises.{breaks_reported}
use Rattle.rules.proofs.Laws.Renewing.{kept_in, in_kept, kept_sorted, line_part}
use Rattle.rules.proofs.Laws.Locality.{edited_others, edited_breaks}
use Rattle.judged.specs.Judged.{outcome, judged}
use Rattle.judged.specs.Promised.{Refused, Lists, read_all}
use Rattle.judged.proofs.Laws.Judging.{refused_lists, put_lists, lists_read, judge_places_lists}
use Rattle.judged_line.specs.Judged.{judged_line}
use Rattle.judged_line.specs.Promised.{ReportsLine, Promised}
use Rattle.judged_line.proofs.Laws.Alone.{is_line_lem, no_line}

-- the breaks of a line are its part of the whole list
module _ (file : Bytes) (l : ℕ) (low : 1 ≤ l) (high : l ≤ length (lines file)) where
  pub of_line_lem : of_line file l ≡ on_line l (breaks file)
  unfolding breaks breaks_by
  of_line_lem = let b = book_of (lines file) in sym (line_part (rules b) (end_rules b) (ends b) (lines file) l low high)

  pub line_reported : ReportsLine file l (of_line file l)
  line_reported =
      let r = breaks_reported file in
      let t : Break → Bool = λ g. eqb g.line l in
      let was : (g : Break) → In g (of_line file l) → In g (on_line l (breaks file)) = λ g. subst (In g) of_line_lem in
      let kept : (g : Break) → In g (of_line file l) → (eqb g.line l ≡ true) × In g (breaks file) = λ g h. kept_in t (breaks file) g (was g h) in
      record {
        part = of_line_lem;
        sorted = rw of_line_lem (kept_sorted t (breaks file) r.sorted);
        broken = λ n c k f h. (eqb-true n l (kept (break_with n c k f) h).0, r.broken n c k f (kept (break_with n c k f) h).1);
        listed = λ c k f h. rw of_line_lem (in_kept t (breaks file) (break_with l c k f) (eq-eqb l l refl) (r.listed l c k f h));
        first = λ n c k f h. r.first n c k f (kept (break_with n c k f) h).1;
      }

module _ (file : Bytes) (l : ℕ) (ys : List ℕ) {n k : ℕ} {zs : List ℕ} (call : outcome n k zs ≡ judged_line file l ys) where
  -- A FILE OVER THE LIMIT
  pub judge_line_refused : LIMIT < length file → Refused TOO_LONG ys n k zs
  unfolding judged_line
  judge_line_refused h = refused_lists (rw (lt-ltb LIMIT (length file) h) at call)

  module _ (limit : length file ≤ LIMIT) where
    -- A LINE THAT IS NOT THERE: 0, N + 1 and all after it
    pub judge_line_none : (1 ≤ l → length (lines file) < l) → Refused NO_ROW ys n k zs
    unfolding judged_line
    judge_line_none h = refused_lists (rw (le-ltb LIMIT (length file) limit, no_line file l h) at call)

    -- ANY OTHER
    module _ (low : 1 ≤ l) (high : l ≤ length (lines file)) where
      pub judge_line_lists : Lists (of_line file l) ys n k zs
      unfolding judged_line
      judge_line_lists = put_lists (of_line file l) ys (rw (le-ltb LIMIT (length file) limit, is_line_lem file l low high) at call)

      pub judge_line_promised : Promised file l (of_line file l) ys n k zs
      judge_line_promised = record { reports = line_reported file l low high; lists = judge_line_lists }

-- ONE EDITED CELL: what a host reads of three calls, each with a list that has room for all
module _
    {file : Bytes} {l c : ℕ} {new : Bytes} (e : Edit file l c new) (row : is_row (book_of (lines file)) (get_or (lines file) (l - 1) []) ≡ true)
    (limit : length file ≤ LIMIT) (limit' : length (edited_file l c new file) ≤ LIMIT)
    (ys ys₂ : List ℕ) {n k n₂ k₂ : ℕ} {zs zs₂ : List ℕ}
    (old : outcome n k zs ≡ judged file ys) (room : 4 * k ≤ length ys)
    (now : outcome n₂ k₂ zs₂ ≡ judged (edited_file l c new file) ys₂) (room₂ : 4 * k₂ ≤ length ys₂) where
  abbrev file' : Bytes
  file' = edited_file l c new file

  before : read_all k zs ≡ breaks file
  before = lists_read (judge_places_lists file ys old limit) room

  after : read_all k₂ zs₂ ≡ breaks file'
  after = lists_read (judge_places_lists file' ys₂ now limit') room₂

  -- the edited file has as many lines
  as_many : length (lines file') ≡ length (lines file)
  as_many = ap length (edited_lines e) ∙ length-set (lines file) (l - 1) (edited_line c new (get_or (lines file) (l - 1) []))

  -- the breaks on all other lines are the same
  pub edit_others_judged : others l (read_all k₂ zs₂) ≡ others l (read_all k zs)
  edit_others_judged = rw (before, after) (edited_others e row)

  -- and the list of the edited file is the old one, with the answer of the call for that line of the edited file in the line's place
  pub edit_judged : (ys₁ : List ℕ) {n₁ k₁ : ℕ} {zs₁ : List ℕ} → outcome n₁ k₁ zs₁ ≡ judged_line file' l ys₁ → 4 * k₁ ≤ length ys₁
      → read_all k₂ zs₂ ≡ renewed l (read_all k₁ zs₁) (read_all k zs)
  edit_judged ys₁ line room₁ =
      rw (before, after, lists_read (judge_line_lists file' l ys₁ line limit' e.line_low (omega (arith, e.line_high, as_many))) room₁)
      (edited_breaks e row)
