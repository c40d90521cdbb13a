-- One cell of a file with other bytes in its place: request 2026-14. Assumes nothing.
use Rattle.std.specs.Prelude.{ℕ, ◌+◌, ◌-◌, ◌≤◌, ◌≡◌, Bool, false, [], ◌++◌, eqb, length, take, drop, get_or}
use Rattle.text_bytes.specs.Bytes.{Bytes, any}
use Rattle.text_bytes.specs.Places.{after}
use Rattle.text.specs.Lines.{TAB, LF, CR, lines, cells}

-- `new` in place of `old`, which stands at `at`
abbrev pub splice : ℕ → Bytes → Bytes → Bytes → Bytes
splice at old new s = take at s ++ (new ++ drop (length old) (drop at s))

-- whether a byte stands in a text
abbrev pub has : ℕ → Bytes → Bool
has b s = any (λ x. eqb x b) s

-- what is asked of an edit: cell c of line n, not the first, and bytes that cut nothing
pub record Edit (file : Bytes) (n c : ℕ) (new : Bytes) : Type 0 where
  pub line_low : 1 ≤ n
  pub line_high : n ≤ length (lines file)
  pub cell_low : 2 ≤ c
  pub cell_high : c ≤ length (cells (get_or (lines file) (n - 1) []))
  pub no_tab : has TAB new ≡ false
  pub no_lf : has LF new ≡ false
  pub no_cr : has CR new ≡ false

-- a line with other bytes in cell c; a file with other bytes in cell c of line n
abbrev pub edited_line : ℕ → Bytes → Bytes → Bytes
edited_line c new line = splice (after TAB (c - 1) line) (get_or (cells line) (c - 1) []) new line

abbrev pub edited_file : ℕ → ℕ → Bytes → Bytes → Bytes
edited_file n c new file =
    let line = get_or (lines file) (n - 1) [] in
    splice (after LF (n - 1) file + after TAB (c - 1) line) (get_or (cells line) (c - 1) []) new file
