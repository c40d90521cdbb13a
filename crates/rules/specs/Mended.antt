-- Empty cells filled with `null`: request 2026-02. Which breaks are mended, and the copy, by lines and cells. Assumes nothing.
use Rattle.std.specs.Prelude.{ℕ, suc, Bool, cond, not, ◌&&◌, List, [], ◌∷◌, eqb}
use Rattle.text_bytes.specs.Bytes.{Bytes, bytes, any}
use Rattle.text.specs.Lines.{lines, cells}
use Rattle.text.specs.Joined.{line_ends, joined, tabbed}
use Rattle.book.specs.Book.{Book, book_of}
use Rattle.book_kinds.specs.Kinds.{cell_of_kind}
use Rattle.rules.specs.Breaks.{Break, Spot, spot_at}
use Rattle.rules.specs.Rules.{column_kind, breaks_by, breaks}
use Rattle.rules.specs.Edited.{kept}

unfoldable pub NULL : Bytes
NULL = bytes "null"

-- `null` may stand at cell c of a row: it is of its column's kind
abbrev pub takes_null : Book → Spot → ℕ → Bool
takes_null b p c = cell_of_kind (column_kind b p c) NULL

-- a break that is mended: of rule 19, save in the columns where `null` may not stand
abbrev pub is_mended : Book → List Bytes → Break → Bool
is_mended b file g = eqb g.rule 19 && takes_null b (spot_at file g.line) g.cell

-- THE CHANGES, in order of line, then cell: one for each break that is mended
unfoldable pub changes_by : Book → List Bytes → List Break
changes_by b file = kept (is_mended b file) (breaks_by b file)

abbrev pub changes_of : Bytes → List Break
changes_of file = changes_by (book_of (lines file)) (lines file)

-- the breaks that are left
abbrev pub left_of : Bytes → List Break
left_of file = kept (λ g. not (is_mended (book_of (lines file)) (lines file) g)) (breaks file)

-- whether a change is at cell c of line n
abbrev pub is_changed : List Break → ℕ → ℕ → Bool
is_changed gs n c = any (λ g. eqb g.line n && eqb g.cell c) gs

-- the cells of line n from cell c on: `null` where a change is, and else what stood there
unfoldable pub mended_cells : List Break → ℕ → ℕ → List Bytes → List Bytes
mended_cells gs n c [] = []
mended_cells gs n c (x ∷ xs) = cond (is_changed gs n c) NULL x ∷ mended_cells gs n (suc c) xs

-- the lines from line n on, each its cells with tabs between
unfoldable pub mended_lines : List Break → ℕ → List Bytes → List Bytes
mended_lines gs n [] = []
mended_lines gs n (l ∷ ls) = tabbed (mended_cells gs n 1 (cells l)) ∷ mended_lines gs (suc n) ls

-- THE COPY: these lines, with the ends that the lines of the file have
unfoldable pub copy_by : Book → Bytes → Bytes
copy_by b file = joined (mended_lines (changes_by b (lines file)) 1 (lines file)) (line_ends file)

abbrev pub copy_of : Bytes → Bytes
copy_of file = copy_by (book_of (lines file)) file
