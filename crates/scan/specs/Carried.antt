-- What the scan carries from line to line, and what it means of the lines above. No public contract cites this file. Assumes nothing.
use Rattle.std.specs.Prelude.{ℕ, suc, ◌-◌, ◌≤◌, ◌<◌, ◌≡◌, true, false, cond, List, [], ◌∷◌, length, get_or, set, take, drop, ltb}
use Rattle.text_bytes.specs.Bytes.{Bytes, any, first_kept}
use Rattle.text.specs.Lines.{cells, lines, width}
use Rattle.book.specs.Book.{SECTIONS, SLOTS, Book}
use Rattle.book_facts.specs.Asked.{asked_by}
use Rattle.book_facts.specs.declared.Asking.{Asking}
use Rattle.rules.specs.Sorts.{sort_of, header, is_table, control_cell}
use Rattle.rules.specs.Breaks.{Break, spot_at, each, at_line, at_end}
use Rattle.rules.specs.Rules.{of_section, of_later, nearer, nearest, is_present, rules, end_rules, ends}
use Rattle.scan.specs.Machine.{Ids, meta_breaks, head_breaks, row_breaks, unknown_breaks, has_slot, FIRSTS, header_slot, Slots, Headers, Kinds}
use Rattle.scan.specs.declared.state.State.{State}
use Rattle.rules.specs.declared.sorts.Sort.{Sort}
use Rattle.rules.specs.declared.sorts.Sort.TheVariants.{Silent, Unknown, Meta, Header, Row}

-- no line is above
abbrev pub initial : Asking → State
initial a =
    record {
      present = true ∷ false ∷ false ∷ false ∷ false ∷ [];
      highest = 0;
      section = 0;
      asking = a;
      width = 1;
      table = false;
    }

abbrev pub after_header : ℕ → ℕ → State → State
after_header h w s =
    record {
      present = set s.present h true;
      highest = cond (ltb s.highest h) h s.highest;
      section = h;
      asking = s.asking;
      width = w;
      table = true;
    }

-- a row changes it only where nothing of its section came before
abbrev pub after_row : ℕ → State → State
after_row r s =
    cond (get_or s.present r false) s
    (record { present = set s.present r true; highest = s.highest; section = s.section; asking = s.asking; width = s.width; table = true })

-- the state after a line of w cells, by its sort
abbrev pub sort_state : Sort → State → ℕ → State
sort_state Silent s w = s
sort_state Meta s w = s
sort_state Unknown s w = s
sort_state (Header h) s w = after_header h w s
sort_state (Row r) s w = after_row r s

-- the breaks of a line, by its sort
abbrev pub sort_breaks : Book → Sort → Ids → State → List ℕ → List ℕ → ℕ → ℕ → List Bytes → List Break → List Break
sort_breaks b Silent ids s kinds slots cc n xs rest = rest
sort_breaks b Unknown ids s kinds slots cc n xs rest = unknown_breaks cc n rest
sort_breaks b Meta ids s kinds slots cc n xs rest = meta_breaks b s.table slots ids cc n xs rest
sort_breaks b (Header h) ids s kinds slots cc n xs rest = head_breaks b (asked_by s.asking) h (get_or slots (header_slot h) 0) (ltb h s.highest) ids cc n xs rest
sort_breaks b (Row r) ids s kinds slots cc n xs rest = row_breaks s.section s.width kinds r cc n xs rest

abbrev pub line_breaks : Book → Ids → State → List ℕ → List ℕ → ℕ → Bytes → List Break → List Break
line_breaks b ids s kinds slots n l rest = sort_breaks b (sort_of b l) ids s kinds slots (control_cell l) n (cells l) rest

-- what the state, the kinds of the nearest header's columns and the slots mean of the lines above
pub record Stands (b : Book) (above : List Bytes) (s : State) (kinds slots : List ℕ) : Type 0 where
  pub headers : Headers b above slots
  pub present : (i : ℕ) → i < SECTIONS → get_or s.present i false ≡ is_present b above i
  pub presents : length s.present ≡ SECTIONS
  pub highest : (h : ℕ) → ltb h s.highest ≡ any (of_later b h) above
  pub section : s.section ≡ header b (nearest b above)
  pub width : s.width ≡ length (cells (nearest b above))
  pub table : s.table ≡ any (is_table b) above
  pub columns : Kinds b (nearest b above) kinds
  pub keys : Slots b above slots

-- how they change by line n
pub record Follows (b : Book) (s : State) (kinds slots : List ℕ) (n : ℕ) (l : Bytes) (s' : State) (kinds' slots' : List ℕ) : Type 0 where
  pub state : s' ≡ sort_state (sort_of b l) s (width l)
  pub columns : (l₀ : Bytes) → Kinds b l₀ kinds → Kinds b (nearer b l l₀) kinds'
  pub keys : (i : ℕ) → i < SLOTS → get_or slots' i 0 ≡ first_kept (get_or slots i 0) (has_slot b i l) n
  pub headers : (i : ℕ) → 0 < i → i < SECTIONS → get_or slots' (header_slot i) 0 ≡ first_kept (get_or slots (header_slot i) 0) (of_section b i l) n
  pub kind_places : length kinds' ≡ 256
  pub key_places : length slots' ≡ FIRSTS

-- the breaks of the lines after the first n, and those at the end
abbrev pub from : Book → List Bytes → ℕ → List Break
from b F n = each (length F - n) (suc n) (λ i. at_line (rules b) (spot_at F i) i)

abbrev pub last : Book → List Bytes → List Break
last b F = at_end (end_rules b) (ends b) F

-- where a scan stands that has passed n lines: its place in the file, and what it carries
pub record Scan (b : Book) (file : Bytes) (at n : ℕ) (s : State) (kinds slots : List ℕ) : Type 0 where
  pub within : at ≤ length file
  pub counted : n ≤ at
  pub passed : n ≤ length (lines file)
  pub left : lines (drop at file) ≡ drop n (lines file)
  pub stands : Stands b (take n (lines file)) s kinds slots
