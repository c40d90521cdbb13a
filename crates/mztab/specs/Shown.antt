-- What the cell calls show of a file: paper 01, 'Calls and what they give back'. Assumes nothing.
use Rattle.std.specs.Prelude.{ℕ, ◌+◌, ◌-◌, ◌≤◌, ◌≡◌, Bool, true, false, cond, [], length, take, drop, ltb, Result, Ok, Err}
use Rattle.std.proofs.Math.Option.{Option, none, some}
use Rattle.std.specs.Borrow.{Bor}
use Rattle.numbers.specs.Numbers.{TOO_LONG, NO_SECTION, NO_ROW, NO_CELL}
use Rattle.numbers.specs.declared.Refusal.{Refusal}
use Rattle.text_bytes.specs.Bytes.{Bytes, is}
use Rattle.text_bytes.specs.Places.{part, after}
use Rattle.text.specs.Lines.{LIMIT, TAB, LF, lines}
use Rattle.rows.specs.Rows.{Line, row_of, cell_at}
use Rattle.mztab.specs.declared.cells.Place.{Place}
use Rattle.book.specs.Book.{is_section, book_of}

-- what a cell call finds: a number, the numbers of the line and the cell, where the cell begins in the file, and its bytes
pub record Sought : Type 0 where
  pub number : ℕ
  pub line : ℕ
  pub cell : ℕ
  pub start : ℕ
  pub view : Bytes

-- nothing is found, and the number says why
abbrev pub refused : ℕ → Sought
refused n = record { number = n; line = 0; cell = 0; start = 0; view = [] }

-- a row's line begins after the LF of the lines above it, and column c of it after c tabs
abbrev pub cell_start : Bytes → Line → ℕ → ℕ
cell_start file l column = after LF (l.line - 1) file + after TAB column l.text

abbrev pub sought_cell : ℕ → ℕ → ℕ → Option Bytes → Sought
sought_cell n c start none = refused NO_CELL
sought_cell n c start (some b) = record { number = 0; line = n; cell = c; start = start; view = b }

abbrev pub sought_row : Bytes → Option Line → ℕ → Sought
sought_row file none column = refused NO_ROW
sought_row file (some l) column = sought_cell l.line (column + 1) (cell_start file l column) (cell_at l.text column)

-- the cell asked for by section, row and column: 1 file too long, 2 no such section, 3 no such row, 4 no such cell, tried in this order
unfoldable pub sought : Bytes → ℕ → ℕ → ℕ → Sought
sought file section row column =
    cond (ltb LIMIT (length file)) (refused TOO_LONG)
    (cond (is_section (book_of (lines file)) section) (sought_row file (row_of file section row) column)
    (refused NO_SECTION))

-- what a call gives back: its number and the bytes of its view
pub record Shown : Type 0 where
  pub number : ℕ
  pub view : Bytes

abbrev pub given : ℕ → Bytes → Shown
given n v = record { number = n; view = v }

-- the plain cell call shows what is found
abbrev pub shown : Sought → Shown
shown s = given s.number s.view

-- the second shows the stand-in where the cell is `null` (the empty view of a refusal is not)
unfoldable pub or_else : Bytes → Shown → Shown
or_else other s = cond (is s.view "null") (given s.number other) s

-- a refusal's place: line 0 and the first zero bytes
abbrev pub nowhere : Place
nowhere = record { line = 0; cell = 0; start = 0; end = 0 }

-- the bytes of a view, none of a refusal
abbrev pub view_in : Result (Bor Bytes) Refusal → Bytes
view_in (Ok v) = v.now
view_in (Err e) = []

-- a number and a place in the file that answer what is sought
pub record Placed (file : Bytes) (s : Sought) (number : ℕ) (p : Place) : Type 0 where
  pub says : number ≡ s.number
  pub on : p.line ≡ s.line
  pub at : p.cell ≡ s.cell
  pub from : p.start ≡ s.start
  pub starts : p.start ≤ p.end
  pub ends : p.end ≤ length file
  pub views : part p.start p.end file ≡ s.view

-- WHERE A VIEW STANDS

-- in the memory of the file, so many bytes after its first; and it is the bytes that stand there
pub record Points (file : Bor Bytes) (start : ℕ) (view : Bor Bytes) : Type 0 where
  pub block : view.ref_ptr.0 ≡ file.ref_ptr.0
  pub offset : view.ref_ptr.1 ≡ file.ref_ptr.1 + start
  pub bytes : view.now ≡ take (length view.now) (drop start file.now)

-- the stand-in itself, or a view of the file
abbrev pub PointsOr : Bool → Bor Bytes → Bor Bytes → ℕ → Bor Bytes → Type 0
PointsOr true other file start view = view ≡ other
PointsOr false other file start view = Points file start view
