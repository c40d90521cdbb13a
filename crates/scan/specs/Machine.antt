-- The same breaks from what a scan carries along: each of these sets the breaks of a cell or a line in front of `rest`, what comes after. No public
-- contract cites this file: that it says what the rules say is the law `means` of proofs/. Assumes nothing.
use Rattle.std.specs.Prelude.{ℕ, suc, ◌+◌, ◌-◌, ◌≤◌, ◌<◌, ◌≡◌, Bool, true, false, cond, not, ◌&&◌, ◌||◌, List, [], ◌∷◌, map, length, get_or, take, drop, eqb, leb, ltb, Ok, Err}
use Rattle.text_bytes.specs.Bytes.{Bytes, same, is_empty, any, first_from}
use Rattle.book.specs.Letters.{NONE, ASSAYS}
use Rattle.book.specs.Keys.{is_colunit}
use Rattle.book.specs.Book.{SECTIONS, SLOTS, Demand, Want, cell_of, wants, Book, key_of, key_entries, is_opt, column_of}
use Rattle.book.specs.Text.{entry_for}
use Rattle.book_names.specs.Names.{start_of, slot_of, is_strange, Found}
use Rattle.book_ids.specs.Ids.{declares, is_marked}
use Rattle.book_facts.specs.Facts.{mode_of, type_of}
use Rattle.book_facts.specs.Asked.{asks}
use Rattle.value_references.specs.Index.{MOST}
use Rattle.value_references.specs.declared.index.Flaw.{Flaw}
use Rattle.value_references.specs.declared.index.Flaw.TheVariants.{Form, Zero, Over}
use Rattle.book_kinds.specs.Kinds.{of_kind, kind_flaw, cell_of_kind, family_number}
use Rattle.text.specs.Lines.{width, is_field}
use Rattle.rules.specs.Sorts.{header}
use Rattle.rules.specs.Breaks.{Break, break_with, break_at, when}
use Rattle.rules.specs.Rules.{key_found, of_section, last_index, lacks_column, names, kind_in, named_in, is_present}

-- CELLS

-- f of each cell, the first of which has the number c
unfoldable pub each_cell : (ℕ → Bytes → List Break → List Break) → ℕ → List Bytes → List Break → List Break
each_cell f c [] rest = rest
each_cell f c (x ∷ xs) rest = f c x (each_cell f (suc c) xs rest)

-- rule 1 at cell c, where cc is the cell of the first control byte
abbrev pub control_at : ℕ → ℕ → ℕ → List Break → List Break
control_at cc n c rest = when (eqb cc c) (break_at n c 1) rest

-- the cells after the first, where only rule 1 judges them
abbrev pub plain_rest : ℕ → ℕ → List Break → List Break
plain_rest cc n rest = when (ltb 1 cc) (break_at n cc 1) rest

-- the rule r at cell c, of what stands first at f, where there is a first: 0 is none
abbrev pub again_at : ℕ → ℕ → ℕ → ℕ → List Break → List Break
again_at r n c f rest = when (not (eqb f 0)) (break_with n c r f) rest

-- and where it is a rule: 0 is none
abbrev pub rule_at : ℕ → ℕ → ℕ → ℕ → List Break → List Break
rule_at r n c f rest = when (not (eqb r 0)) (break_with n c r f) rest

-- the rule that a bad index breaks; r where none is bad
abbrev pub flaw_rule : Flaw → ℕ → ℕ
flaw_rule Form r = r
flaw_rule Zero r = 23
flaw_rule Over r = 24

-- WHAT IS CARRIED

-- the ids that are declared, by family and index
abbrev pub Ids : Type 0
Ids = ℕ → ℕ → Bool

-- the flags say it: index i stands at place i - 1
abbrev pub ids_of : List (List Bool) → Ids
ids_of flags f i = get_or (get_or flags f []) (i - 1) false

-- whether something is asked of the file, by its letter
abbrev pub Asked : Type 0
Asked = ℕ → Bool

-- METADATA LINES, by the slots of keys, which have the first lines of those that came before

-- the line where a key stands first that may not come again
abbrev pub first_in : Book → List ℕ → Bytes → Found → ℕ
first_in b slots key (Err w) = 0
first_in b slots key (Ok k) = cond (is_colunit key) 0 (get_or slots (slot_of (key_entries b) k.entry k.i k.j) 0)

abbrev pub undeclared_in : Ids → Found → Bytes → Bool
undeclared_in ids (Err w) v = false
undeclared_in ids (Ok k) v = of_kind k.kind k.family v && any (λ n. not (ids (family_number k.family) n)) (named_in k.kind k.family v)

-- the one rule of 5, 6, 23 and 24 that a key breaks, and of 7, 8, 23 and 24 that its value breaks, 0 for none
abbrev pub key_rule : ℕ → Found → ℕ
key_rule first (Err w) = flaw_rule w 5
key_rule first (Ok k) = cond (not (eqb first 0)) 6 0

abbrev pub kind_rule : Ids → ℕ → ℕ → Bytes → ℕ
kind_rule ids k f v = cond (of_kind k f v) (cond (any (λ i. not (ids (family_number f) i)) (named_in k f v)) 8 0) (flaw_rule (kind_flaw k f v) 7)

abbrev pub value_rule : Ids → Found → Bytes → ℕ
value_rule ids (Err w) v = 0
value_rule ids (Ok k) v = kind_rule ids k.kind k.family v

-- the key and the value, cells 2 and 3
abbrev pub field_rule : Book → List ℕ → Ids → Bytes → Bytes → ℕ → ℕ
field_rule b slots ids key value c =
    cond (eqb c 2) (key_rule (first_in b slots key (key_of b key)) (key_of b key))
    (cond (eqb c 3) (value_rule ids (key_of b key) value) 0)

-- only a key stands first somewhere
abbrev pub field_first : Book → List ℕ → Bytes → ℕ → ℕ
field_first b slots key c = cond (eqb c 2) (first_in b slots key (key_of b key)) 0

abbrev pub meta_cell : Book → List ℕ → Ids → Bytes → Bytes → ℕ → ℕ → ℕ → Bytes → List Break → List Break
meta_cell b slots ids key value cc n c x rest = control_at cc n c (rule_at (field_rule b slots ids key value c) n c (field_first b slots key c) rest)

-- an MTD line of the cells xs; `table` says whether a header or row stands above
unfoldable pub meta_breaks : Book → Bool → List ℕ → Ids → ℕ → ℕ → List Bytes → List Break → List Break
meta_breaks b table slots ids cc n xs rest =
    control_at cc n 1
    (when (not (eqb (length xs) 3)) (break_at n 1 3)
    (when table (break_at n 1 4)
    (cond (eqb (length xs) 3) (each_cell (meta_cell b slots ids (get_or xs 1 []) (get_or xs 2 []) cc n) 2 (drop 1 xs) rest) (plain_rest cc n rest))))

-- HEADERS

abbrev pub column_in : Ids → Found → Bool
column_in ids (Err w) = false
column_in ids (Ok k) = not (eqb k.family NONE) && not (ids (family_number k.family) (last_index k.i k.j))

-- a column that names an id names one of the four families, by an index of 1 to 64
abbrev pub Within : Found → Type 0
Within (Err w) = Unit
Within (Ok k) = eqb k.family NONE ≡ false → (family_number k.family < 4) × (1 ≤ last_index k.i k.j) × (last_index k.i k.j ≤ 64)

-- a column name that the book answers so, by the cell where it stands first, 0 where it did not come before: what its bytes and the ids do not decide
abbrev pub known_breaks : ℕ → Found → ℕ → ℕ → ℕ → List Break → List Break
known_breaks first found cc n c rest = control_at cc n c (when (is_strange found) (break_at n c 12) (again_at 13 n c first rest))

-- the one rule of 15, 23 and 24 that it breaks, 0 for none
abbrev pub name_rule : Ids → Found → ℕ
name_rule ids (Err w) = flaw_rule w 0
name_rule ids (Ok k) = cond (column_in ids (Ok k)) 15 0

-- and by whether an optional one came before
abbrev pub name_cell : ℕ → Bool → Ids → Found → ℕ → ℕ → ℕ → Bytes → List Break → List Break
name_cell first opt ids found cc n c x rest =
    known_breaks first found cc n c
    (when (not (is_opt x) && opt) (break_at n c 14)
    (rule_at (name_rule ids found) n c 0 rest))

abbrev pub head_cell : Book → ℕ → List Bytes → Ids → ℕ → ℕ → ℕ → Bytes → List Break → List Break
head_cell b section ns ids cc n c x rest = name_cell (first_from 2 (same x) (take (c - 2) ns)) (any is_opt (take (c - 2) ns)) ids (column_of b section x) cc n c x rest

-- cell 1, where the names do not decide; `first` is the line of the first header of its section above, 0 for none, `later` says whether one of a later section
-- stands there
abbrev pub head_first : ℕ → Bool → Bool → ℕ → ℕ → List Break → List Break
head_first first later wide cc n rest = control_at cc n 1 (again_at 9 n 1 first (when later (break_at n 1 10) (when wide (break_at n 1 11) rest)))

-- the names: one rule at cell 1, and those at each
abbrev pub name_breaks : Book → Asked → ℕ → Ids → ℕ → ℕ → List Bytes → List Break → List Break
name_breaks b asked section ids cc n ns rest = when (lacks_column b asked section ns) (break_at n 1 16) (each_cell (head_cell b section ns ids cc n) 2 ns rest)

-- a header of the cells xs
unfoldable pub head_breaks : Book → Asked → ℕ → ℕ → Bool → Ids → ℕ → ℕ → List Bytes → List Break → List Break
head_breaks b asked section first later ids cc n xs rest =
    let wide = ltb 256 (length xs) in
    head_first first later wide cc n (cond wide (plain_rest cc n rest) (name_breaks b asked section ids cc n (drop 1 xs) rest))

-- the kinds of a header's columns, cell c's at place c - 1
abbrev pub KindsOf : Book → ℕ → List Bytes → List ℕ → Type 0
KindsOf b section ns kinds = (i : ℕ) → i < length ns → get_or kinds (i + 1) 0 ≡ kind_in (column_of b section (get_or ns i []))

abbrev pub Kinds : Book → Bytes → List ℕ → Type 0
Kinds b l kinds = width l ≤ 256 → KindsOf b (header b l) (names l) kinds

-- ROWS

-- a cell whose column has the kind
abbrev pub kind_cell : ℕ → ℕ → ℕ → ℕ → Bytes → List Break → List Break
kind_cell kind cc n c x rest =
    control_at cc n c
    (when (is_empty x) (break_at n c 19)
    (when (not (is_empty x) && not (cell_of_kind kind x)) (break_at n c 20) rest))

abbrev pub row_cell : List ℕ → ℕ → ℕ → ℕ → Bytes → List Break → List Break
row_cell kinds cc n c x rest = kind_cell (get_or kinds (c - 1) 0) cc n c x rest

-- cell 1; `headed` says whether the nearest header above is of the row's section, `uneven` whether it has another number of cells and not over 256
abbrev pub row_first : Bool → Bool → ℕ → ℕ → List Break → List Break
row_first headed uneven cc n rest = control_at cc n 1 (when (not headed) (break_at n 1 17) (when uneven (break_at n 1 18) rest))

-- a row of the cells xs; the nearest header is of the section h and has w cells
unfoldable pub row_breaks : ℕ → ℕ → List ℕ → ℕ → ℕ → ℕ → List Bytes → List Break → List Break
row_breaks h w kinds section cc n xs rest =
    let headed = eqb h section in
    let under = headed && leb w 256 in
    let even = eqb (length xs) w in
    row_first headed (under && not even) cc n (cond (under && even) (each_cell (row_cell kinds cc n) 2 (drop 1 xs) rest) (plain_rest cc n rest))

-- OTHER LINES

unfoldable pub unknown_breaks : ℕ → ℕ → List Break → List Break
unknown_breaks cc n rest = control_at cc n 1 (when true (break_at n 1 2) (plain_rest cc n rest))

-- WHAT IS CARRIED MEANS

-- the slot of a known key is this one
abbrev pub is_slot : Book → ℕ → Found → Bool
is_slot b s (Err w) = false
is_slot b s (Ok k) = eqb (slot_of (key_entries b) k.entry k.i k.j) s

-- an MTD line of three cells whose key has this slot
unfoldable pub has_slot : Book → ℕ → Bytes → Bool
has_slot b s m = is_field m && is_slot b s (key_found b m)

-- THE FIRST LINES stand in a list: a slot for each key, and behind them one for the headers of each section
abbrev pub FIRSTS : ℕ
FIRSTS = 43284

abbrev pub header_slot : ℕ → ℕ
header_slot section = SLOTS + section

-- the slots have the first lines of the keys that came before, and 0 of others
abbrev pub Slots : Book → List Bytes → List ℕ → Type 0
Slots b above slots = (s : ℕ) → s < SLOTS → get_or slots s 0 ≡ first_from 1 (has_slot b s) above

-- and those of the headers
abbrev pub Headers : Book → List Bytes → List ℕ → Type 0
Headers b above slots = (i : ℕ) → 0 < i → i < SECTIONS → get_or slots (header_slot i) 0 ≡ first_from 1 (of_section b i) above

-- the slots of keys say which came
abbrev pub marks : List ℕ → List Bool
marks slots = map (λ n. not (eqb n 0)) slots

abbrev pub Marks : Book → List Bytes → List Bool → Type 0
Marks b above came = (s : ℕ) → s < SLOTS → get_or came s false ≡ any (has_slot b s) above

-- the ids say what the file declares
abbrev pub Declares : Book → List Bytes → Ids → Type 0
Declares b file ids = (f i : ℕ) → f < 4 → 1 ≤ i → i ≤ 64 → ids f i ≡ any (declares b f i) file

-- REQUIRED METADATA, by the slots that all lines marked, the ids, the facts and the sections present

-- what was found of the file
pub record Seen : Type 0 where
  pub slots : List Bool
  pub flags : List (List Bool)
  pub mode : ℕ
  pub typed : ℕ
  pub present : List Bool

-- it says what the file has
pub record SeenOf (b : Book) (file : List Bytes) (x : Seen) : Type 0 where
  pub slots : Marks b file x.slots
  pub ids : Declares b file (ids_of x.flags)
  pub mode : x.mode ≡ mode_of file
  pub typed : x.typed ≡ type_of file
  pub present : (s : ℕ) → s < SECTIONS → get_or x.present s false ≡ is_present b file s

-- whether a demand is asked of the file, and for the id
unfoldable pub is_asked_in : Seen → Demand → Bool
is_asked_in x d = asks d.asked x.mode x.typed (is_marked (get_or x.flags ASSAYS []) 0 MOST) && get_or x.present d.section false

abbrev pub is_for_in : Seen → Want → Bool
is_for_in x w = eqb w.index 0 || ids_of x.flags w.demand.each w.index

-- the slots of the keys that are wanted: all of the entry's, or the one with the index
abbrev pub first_slot : Book → Want → ℕ
first_slot b w = start_of (key_entries b) (entry_for b.keys w.demand.form) + (w.index - 1)

abbrev pub end_slot : Book → Want → ℕ
end_slot b w = cond (eqb w.index 0) (start_of (key_entries b) (entry_for b.keys w.demand.form + 1)) (first_slot b w + 1)

-- what is asked, and no such slot is marked
unfoldable pub is_lacking : Book → Seen → Want → Bool
is_lacking b x w = (is_asked_in x w.demand && is_for_in x w) && not (is_marked x.slots (first_slot b w) (end_slot b w))

abbrev pub want_break : Book → Seen → ℕ → Want → List Break → List Break
want_break b x n w rest = when (is_lacking b x w) (break_at n (cell_of w) w.demand.rule) rest

-- these, one after the other, and all of a book
unfoldable pub want_breaks : Book → Seen → ℕ → List Want → List Break → List Break
want_breaks b x n [] rest = rest
want_breaks b x n (w ∷ ws) rest = want_break b x n w (want_breaks b x n ws rest)

abbrev pub end_breaks : Book → Seen → ℕ → List Break → List Break
end_breaks b x n rest = want_breaks b x n (wants b) rest
