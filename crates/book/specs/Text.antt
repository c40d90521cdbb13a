-- A book as the code holds it, in one text: a directory, the lines of all tables as rows of one width, the required columns, where the slots of each key
-- begin, and the links of each table.
-- No public contract cites this file. Assumes nothing.
use Rattle.std.specs.Prelude.{ℕ, zero, suc, ◌+◌, ◌*◌, ◌/◌, ◌%◌, ◌≤◌, ◌<◌, ◌≡◌, Bool, true, false, cond, List, [], ◌∷◌, ◌++◌, map, length, get_or}
use Prim.Native.String.{String}
use Rattle.text_bytes.specs.Bytes.{Bytes, bytes, SPACE}
use Rattle.text_bytes.specs.Places.{part}
use Rattle.text.specs.Lines.{TAB, cells}
use Rattle.book_names.specs.Names.{Entry, form_of, spread, start_of}
use Rattle.book_names.specs.Table.{WIDTH, entries}
use Rattle.book_names.specs.Links.{HEADS, Linked}
use Rattle.book.specs.Book.{Section, section, Demand, no_demand, Book, has_form, no_section, code_in, entries_of, key_entries, mz_tab}
use Rattle.book.specs.declared.demands.Demand.{Demand as Read}

-- THE DIRECTORY: the number of the first section, how many there are, and an entry for each table, of which table 0 has the keys and table j + 1 the
-- columns of section j from the first: the codes of its headers and its rows, and where its rows, its required columns and its links begin. One entry more
-- says where the last ones end
abbrev pub CODES : ℕ
CODES = 14

abbrev pub STEP : ℕ
STEP = 12

-- a number that stands in two bytes, the lower first
abbrev pub number_at : Bytes → ℕ → ℕ
number_at t i = get_or t i 0 + 256 * get_or t (i + 1) 0

abbrev pub rows_at : Bytes → ℕ → ℕ
rows_at t k = number_at t (8 + STEP * k)

abbrev pub wanted_at : Bytes → ℕ → ℕ
wanted_at t k = number_at t (10 + STEP * k)

abbrev pub links_at : Bytes → ℕ → ℕ
links_at t k = number_at t (12 + STEP * k)

-- the rows, the required columns and the links of table k
abbrev pub rows_of : Bytes → ℕ → Bytes
rows_of t k = part (rows_at t k) (rows_at t (k + 1)) t

abbrev pub wanted_of : Bytes → ℕ → Bytes
wanted_of t k = part (wanted_at t k) (wanted_at t (k + 1)) t

abbrev pub links_of : Bytes → ℕ → Bytes
links_of t k = part (links_at t k) (links_at t (k + 1)) t

-- where the slots of the keys begin: a number for each, and one more, behind the last required columns
abbrev pub starts_at : Bytes → ℕ
starts_at t = wanted_at t (get_or t 1 0 + 1)

abbrev pub start_at : Bytes → ℕ → ℕ
start_at t e = number_at t (starts_at t + 2 * e)

-- where the line code of its rows, or of its headers, stands in the entry of section j
abbrev pub code_at : Bool → ℕ → ℕ
code_at true j = CODES + STEP * j + 3
code_at false j = CODES + STEP * j

-- a text that begins with the directory of a book
pub record IsDirectory (b : Book) (t : Bytes) : Type 0 where
  pub first : get_or t 0 0 ≡ b.first
  pub count : get_or t 1 0 ≡ length b.sections
  pub size : CODES + STEP * (length b.sections + 1) ≤ length t
  pub codes : (row : Bool) (j : ℕ) → j < length b.sections → part (code_at row j) (code_at row j + 3) t ≡ bytes (code_in row (get_or b.sections j no_section))

-- THE TABLES

-- table k lies in the text, and its links lead to its rows
pub record IsTable (t : Bytes) (k : ℕ) : Type 0 where
  pub rows_start : rows_at t k ≤ rows_at t (k + 1)
  pub rows_end : rows_at t (k + 1) ≤ length t
  pub links_start : links_at t k ≤ links_at t (k + 1)
  pub links_end : links_at t (k + 1) ≤ length t
  pub linked : Linked 0 (entries (rows_of t k)) (links_of t k)

-- it has these lines
pub record Holds (t : Bytes) (k : ℕ) (lines : List String) : Type 0 where
  pub table : IsTable t k
  pub rows : entries (rows_of t k) ≡ entries_of lines

-- the required columns of table k are these
pub record Wants (t : Bytes) (k : ℕ) (names : List String) : Type 0 where
  pub starts : wanted_at t k ≤ wanted_at t (k + 1)
  pub ends : wanted_at t (k + 1) ≤ length t
  pub wanted : cells (wanted_of t k) ≡ map bytes names

-- the slots of the keys begin where these entries say
pub record Starts (t : Bytes) (es : List Entry) : Type 0 where
  pub ends : starts_at t + 2 * (length es + 1) ≤ length t
  pub starts : (e : ℕ) → e ≤ length es → start_at t e ≡ start_of es e

-- THE DEMANDS stand behind the entries, a few bytes each: the cell, the entry of the key, when it is asked, the section, the family and the rule. How many
-- there are stands in the last entry

-- the bytes of a demand
abbrev pub SIZE : ℕ
SIZE = 7

-- the first line of a table of keys that has this form
unfoldable pub entry_for : List String → String → ℕ
entry_for [] form = 0
entry_for (k ∷ ks) form = let later = suc (entry_for ks form) in cond (has_form form k) 0 later

abbrev pub demand_at : Bytes → ℕ → ℕ
demand_at t k = CODES + STEP * (get_or t 1 0 + 1) + SIZE * k

pub record Demands (t : Bytes) (b : Book) : Type 0 where
  pub many : get_or t (CODES + STEP * get_or t 1 0) 0 ≡ length b.demands
  pub within : demand_at t (length b.demands) ≤ length t
  pub cells : (k : ℕ) → k < length b.demands → number_at t (demand_at t k) ≡ (get_or b.demands k no_demand).cell
  pub entries : (k : ℕ) → k < length b.demands → get_or t (demand_at t k + 2) 0 ≡ entry_for b.keys (get_or b.demands k no_demand).form
  pub asked : (k : ℕ) → k < length b.demands → get_or t (demand_at t k + 3) 0 ≡ (get_or b.demands k no_demand).asked
  pub sections : (k : ℕ) → k < length b.demands → get_or t (demand_at t k + 4) 0 ≡ (get_or b.demands k no_demand).section
  pub families : (k : ℕ) → k < length b.demands → get_or t (demand_at t k + 5) 0 ≡ (get_or b.demands k no_demand).each
  pub rules : (k : ℕ) → k < length b.demands → get_or t (demand_at t k + 6) 0 ≡ (get_or b.demands k no_demand).rule

-- a demand as it is read from the text
pub record Demanded (b : Book) (k : ℕ) (d : Read) : Type 0 where
  pub entry : d.entry ≡ entry_for b.keys (get_or b.demands k no_demand).form
  pub cell : d.cell ≡ (get_or b.demands k no_demand).cell
  pub asked : d.asked ≡ (get_or b.demands k no_demand).asked
  pub section : d.section ≡ (get_or b.demands k no_demand).section
  pub each : d.each ≡ (get_or b.demands k no_demand).each
  pub rule : d.rule ≡ (get_or b.demands k no_demand).rule
  pub fits : d.cell < 65536

-- a text holds a book
pub record IsText (b : Book) (t : Bytes) : Type 0 where
  pub directory : IsDirectory b t
  pub keys : Holds t 0 b.keys
  pub columns : (j : ℕ) → j < length b.sections → Holds t (j + 1) (get_or b.sections j no_section).columns
  pub wanted : (j : ℕ) → j < length b.sections → Wants t (j + 1) (get_or b.sections j no_section).required
  pub slots : Starts t (key_entries b)
  pub demands : Demands t b

-- the book that a text says it holds, and that it does
unfoldable pub book_in : Bytes → Book
book_in t = mz_tab

abbrev pub HasDirectory : Bytes → Type 0
HasDirectory t = IsDirectory (book_in t) t

abbrev pub IsBook : Bytes → Type 0
IsBook t = IsText (book_in t) t

-- HOW A BOOK IS LAID OUT

-- a line with spaces after it, n bytes in all
unfoldable pub padded : ℕ → Bytes → Bytes
padded zero line = []
padded (suc n) [] = SPACE ∷ padded n []
padded (suc n) (x ∷ line) = x ∷ padded n line

-- lines laid out as rows, one after the other
unfoldable pub laid : List String → Bytes
laid [] = []
laid (line ∷ lines) = padded WIDTH (bytes line) ++ laid lines

-- names with tabs between them
unfoldable pub tabbed : List String → Bytes
tabbed [] = []
tabbed (n ∷ []) = bytes n
tabbed (n ∷ m ∷ ns) = bytes n ++ (TAB ∷ tabbed (m ∷ ns))

-- the tables in their order: the keys, with the code of metadata lines, and the sections
abbrev pub tables_of : Book → List Section
tables_of b = section "MTD" "MTD" b.keys [] ∷ b.sections

unfoldable pub all_rows : List Section → Bytes
all_rows [] = []
all_rows (s ∷ ss) = laid s.columns ++ all_rows ss

unfoldable pub all_wanted : List Section → Bytes
all_wanted [] = []
all_wanted (s ∷ ss) = tabbed s.required ++ all_wanted ss

-- a number in two bytes
abbrev pub two : ℕ → Bytes
two n = n % 256 ∷ n / 256 ∷ []

-- where the names of these entries begin, the first at n, and where they end
unfoldable pub starts_from : ℕ → List Entry → Bytes
starts_from n [] = two n
starts_from n (x ∷ es) = two n ++ starts_from (n + spread (form_of x)) es

abbrev pub all_starts : Book → Bytes
all_starts b = starts_from 0 (key_entries b)

-- the demands of a book
unfoldable pub demand_rows : List String → List Demand → Bytes
demand_rows ks [] = []
demand_rows ks (d ∷ ds) = two d.cell ++ (entry_for ks d.form ∷ d.asked ∷ d.section ∷ d.each ∷ d.rule ∷ demand_rows ks ds)

-- the entries of these tables, whose rows, required columns and links begin at these places, and the places where they end, behind the number m
unfoldable pub entries_from : ℕ → ℕ → ℕ → ℕ → List Section → Bytes
entries_from m r w l [] = m ∷ bytes "     " ++ (two r ++ (two w ++ two l))
entries_from m r w l (s ∷ ss) =
    bytes s.header ++ (bytes s.row ++ (two r ++ (two w ++ (two l ++
    entries_from m (r + WIDTH * length s.columns) (w + length (tabbed s.required)) (l + (HEADS + length s.columns)) ss))))

-- the directory of a book whose text has so many bytes before the rows, the required columns and the links
unfoldable pub directory_of : Book → ℕ → ℕ → ℕ → Bytes
directory_of b r w l = b.first ∷ length b.sections ∷ (entries_from (length b.demands) r w l (tables_of b) ++ demand_rows b.keys b.demands)

-- THE TEXT of the one book: where its directory, its rows, its required columns, its starts and its links end
abbrev pub DIRECTORY : ℕ
DIRECTORY = 214

abbrev pub ROWS : ℕ
ROWS = 8152

abbrev pub WANTED : ℕ
WANTED = 8384

abbrev pub FRONT : ℕ
FRONT = 8508

abbrev pub LINKS : ℕ
LINKS = 9935

unfoldable pub directory_text : Bytes
directory_text = directory_of mz_tab DIRECTORY ROWS FRONT

-- all that stands in front of the links
unfoldable pub laid_out : Bytes
laid_out = directory_text ++ (all_rows (tables_of mz_tab) ++ (all_wanted (tables_of mz_tab) ++ all_starts mz_tab))
