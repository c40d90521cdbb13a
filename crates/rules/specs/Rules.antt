-- When a line breaks each of the 24 rules: paper 01, 'The 21 rules', one line each, in its words and order, with what stops it; rule 22 of request 2026-01;
-- and rules 23 and 24 of request 2026-05. Rules 6, 9 and 13 say where it stands first, as request 2026-08 asks. Assumes nothing.
use Rattle.std.specs.Prelude.{ℕ, ◌+◌, ◌-◌, Bool, false, cond, not, ◌&&◌, ◌||◌, List, [], ◌∷◌, ◌++◌, map, length, get_or, take, drop, eqb, leb, ltb, Ok, Err}
use Rattle.text_bytes.specs.Bytes.{Bytes, bytes, same, is_empty, any, all, first_from}
use Rattle.text.specs.Lines.{lines, cells, cell, width, is_meta, is_three, is_field}
use Rattle.book.specs.Keys.{is_colunit}
use Rattle.book.specs.Book.{Demand, ONCE, Want, want, wants, last_cell, Book, has_form, section_of, key_of, is_opt, column_of, book_of}
use Rattle.book.specs.Letters.{TEXT, REFERENCE, REFERENCES, NONE}
use Rattle.book_names.specs.Names.{is_known, is_strange, why_not, Found}
use Rattle.book_ids.specs.Ids.{declares}
use Rattle.book_facts.specs.Asked.{asked_of}
use Rattle.value_references.specs.Index.{MOST, is_form, is_zero, is_over}
use Rattle.value_references.specs.References.{ref_to, refs_to}
use Rattle.value_references.specs.declared.index.Flaw.{Flaw}
use Rattle.value_references.specs.declared.index.Flaw.TheVariants.{Form}
use Rattle.book_kinds.specs.Kinds.{of_kind, kind_flaw, cell_of_kind, family_number, word_of}
use Rattle.rules.specs.Sorts.{header, row, is_header, is_row, is_table, is_unknown, control_cell}
use Rattle.rules.specs.Breaks.{Break, Spot, Rule, again, rule, in_lines, at_end}

-- METADATA LINES

-- what the book says of the key
abbrev pub key_found : Book → Bytes → Found
key_found b l = key_of b (cell 2 l)

-- an MTD line of three cells with the same key
unfoldable pub same_key : Bytes → Bytes → Bool
same_key l m = is_field m && same (cell 2 l) (cell 2 m)

-- the flaw for which the value is no reference to ids, or list of them
abbrev pub value_flaw : Found → Bytes → Flaw
value_flaw (Err w) v = Form
value_flaw (Ok k) v = kind_flaw k.kind k.family v

-- the value is not of its key's kind, and would not be with other indices
abbrev pub is_wrong : Found → Bytes → Bool
is_wrong (Err w) v = false
is_wrong (Ok k) v = not (of_kind k.kind k.family v) && is_form (kind_flaw k.kind k.family v)

-- the indices of the ids that a value names: only references name any
unfoldable pub named_in : ℕ → ℕ → Bytes → List ℕ
named_in k f v = cond (eqb k REFERENCE) (ref_to (word_of f) v ∷ []) (cond (eqb k REFERENCES) (refs_to (word_of f) v) [])

-- an id that no line of the file declares
unfoldable pub is_undeclared : Book → List Bytes → ℕ → ℕ → Bool
is_undeclared b file f i = not (any (declares b f i) file)

-- the value is of its kind, and names an undeclared id
abbrev pub names_undeclared : Book → List Bytes → Found → Bytes → Bool
names_undeclared b file (Err w) v = false
names_undeclared b file (Ok k) v = of_kind k.kind k.family v && any (is_undeclared b file (family_number k.family)) (named_in k.kind k.family v)

-- HEADERS AND ROWS

-- an earlier line is a header of this section; of a later one
abbrev pub of_section : Book → ℕ → Bytes → Bool
of_section b s l = eqb (header b l) s

abbrev pub of_later : Book → ℕ → Bytes → Bool
of_later b s l = ltb s (header b l)

abbrev pub is_wide : Bytes → Bool
is_wide l = ltb 256 (width l)

-- a header's column names: cell 1 is none
abbrev pub names : Bytes → List Bytes
names l = drop 1 (cells l)

-- those before cell c
abbrev pub names_before : Bytes → ℕ → List Bytes
names_before l c = take (c - 2) (names l)

-- a header that has not over 256 cells
abbrev pub is_judged : Book → Spot → Bool
is_judged b p = is_header b p.here && not (is_wide p.here)

-- what the book says of the name in cell c of a header
abbrev pub column_found : Book → ℕ → Bytes → ℕ → Found
column_found b section l c = column_of b section (cell c l)

-- a known column names an undeclared assay, study variable or run, by its last index
abbrev pub last_index : ℕ → ℕ → ℕ
last_index i j = cond (eqb j 0) i j

abbrev pub column_undeclared : Book → List Bytes → Found → Bool
column_undeclared b file (Err w) = false
column_undeclared b file (Ok k) = not (eqb k.family NONE) && is_undeclared b file (family_number k.family) (last_index k.i k.j)

-- a required column, by its line: it is not asked, by its letter, or its name, behind the letter and a space, is one of these
abbrev pub has_column : (ℕ → Bool) → List Bytes → Bytes → Bool
has_column asked ns line = not (asked (get_or line 0 0)) || any (same (drop 2 line)) ns

unfoldable pub lacks_column : Book → (ℕ → Bool) → ℕ → List Bytes → Bool
lacks_column b asked section ns = not (all (has_column asked ns) (map bytes (section_of b section).required))

-- the nearest header above, the empty line where there is none
abbrev pub nearer : Book → Bytes → Bytes → Bytes
nearer b l found = cond (is_header b l) l found

unfoldable pub nearest_in : Book → List Bytes → Bytes → Bytes
nearest_in b [] found = found
nearest_in b (l ∷ ls) found = nearest_in b ls (nearer b l found)

abbrev pub nearest : Book → List Bytes → Bytes
nearest b above = nearest_in b above []

-- a row whose nearest header above is its own section's; that header has not over 256 cells; and has as many as the row
abbrev pub is_headed : Book → Spot → Bool
is_headed b p = is_row b p.here && eqb (header b (nearest b p.above)) (row b p.here)

abbrev pub is_under : Book → Spot → Bool
is_under b p = is_headed b p && not (is_wide (nearest b p.above))

abbrev pub is_as_wide : Book → Spot → Bool
is_as_wide b p = eqb (width p.here) (width (nearest b p.above))

-- the kind of a column's cells: those under an unknown column are text
abbrev pub kind_in : Found → ℕ
kind_in (Err w) = TEXT
kind_in (Ok k) = k.kind

abbrev pub column_kind : Book → Spot → ℕ → ℕ
column_kind b p c = kind_in (column_found b (row b p.here) (nearest b p.above) c)

-- BAD INDICES

-- the flaw that a bad index gives to what stands in cell c: a key, a value, a column name
unfoldable pub flaw_at : Book → Spot → ℕ → Flaw
flaw_at b p c =
    cond (is_field p.here && eqb c 2) (why_not (key_found b p.here))
    (cond (is_field p.here && eqb c 3) (value_flaw (key_found b p.here) (cell 3 p.here))
    (cond (leb 2 c && is_judged b p) (why_not (column_found b (header b p.here) p.here c))
    Form))

-- THE RULES of a line, by a book; of what comes again also the line where it stands first, and of a name the cell, where names begin at cell 2
unfoldable pub rules : Book → List Rule
rules b =
    rule 1 (λ p c. eqb (control_cell p.here) c)
    ∷ rule 2 (λ p c. eqb c 1 && is_unknown b p.here)
    ∷ rule 3 (λ p c. eqb c 1 && (is_meta p.here && not (is_three p.here)))
    ∷ rule 4 (λ p c. eqb c 1 && (is_meta p.here && any (is_table b) p.above))
    ∷ rule 5 (λ p c. is_meta p.here && (eqb c 2 && (is_three p.here && is_strange (key_found b p.here))))
    ∷ again 6 (λ p c. is_meta p.here && (eqb c 2 && (is_three p.here && (is_known (key_found b p.here) && (not (is_colunit (cell 2 p.here)) && any (same_key p.here) p.above)))))
    (λ p c. first_from 1 (same_key p.here) p.above)
    ∷ rule 7 (λ p c. is_meta p.here && (eqb c 3 && (is_three p.here && is_wrong (key_found b p.here) (cell 3 p.here))))
    ∷ rule 8 (λ p c. is_meta p.here && (eqb c 3 && (is_three p.here && names_undeclared b p.file (key_found b p.here) (cell 3 p.here))))
    ∷ again 9 (λ p c. eqb c 1 && (is_header b p.here && any (of_section b (header b p.here)) p.above))
    (λ p c. first_from 1 (of_section b (header b p.here)) p.above)
    ∷ rule 10 (λ p c. eqb c 1 && (is_header b p.here && any (of_later b (header b p.here)) p.above))
    ∷ rule 11 (λ p c. eqb c 1 && (is_header b p.here && is_wide p.here))
    ∷ rule 12 (λ p c. leb 2 c && (is_judged b p && is_strange (column_found b (header b p.here) p.here c)))
    ∷ again 13 (λ p c. leb 2 c && (is_judged b p && any (same (cell c p.here)) (names_before p.here c)))
    (λ p c. first_from 2 (same (cell c p.here)) (names_before p.here c))
    ∷ rule 14 (λ p c. leb 2 c && (is_judged b p && (not (is_opt (cell c p.here)) && any is_opt (names_before p.here c))))
    ∷ rule 15 (λ p c. leb 2 c && (is_judged b p && column_undeclared b p.file (column_found b (header b p.here) p.here c)))
    ∷ rule 16 (λ p c. eqb c 1 && (is_judged b p && lacks_column b (asked_of b p.file) (header b p.here) (names p.here)))
    ∷ rule 17 (λ p c. eqb c 1 && (is_row b p.here && not (is_headed b p)))
    ∷ rule 18 (λ p c. eqb c 1 && (is_under b p && not (is_as_wide b p)))
    ∷ rule 19 (λ p c. leb 2 c && ((is_under b p && is_as_wide b p) && is_empty (cell c p.here)))
    ∷ rule 20 (λ p c. leb 2 c && ((is_under b p && is_as_wide b p) && (not (is_empty (cell c p.here)) && not (cell_of_kind (column_kind b p c) (cell c p.here)))))
    ∷ rule 23 (λ p c. is_zero (flaw_at b p c))
    ∷ rule 24 (λ p c. is_over (flaw_at b p c))
    ∷ []

-- REQUIRED METADATA, at line N + 1, at the cells that the book's demands name

-- a section is present where a line has its header code or its row code; 0 is asked of none
abbrev pub in_section : Book → ℕ → Bytes → Bool
in_section b s l = eqb (header b l) s || eqb (row b l) s

unfoldable pub is_present : Book → List Bytes → ℕ → Bool
is_present b file s = eqb s 0 || any (in_section b s) file

-- what is wanted for an id is asked where the id is declared
abbrev pub is_for : Book → List Bytes → Want → Bool
is_for b file w = eqb w.index 0 || any (declares b w.demand.each w.index) file

unfoldable pub is_asked : Book → List Bytes → Want → Bool
is_asked b file w = (asked_of b file w.demand.asked && is_present b file w.demand.section) && is_for b file w

-- a key of the form that is wanted, as the table of keys writes it, and with the id's index
abbrev pub is_wanted : Book → Want → Found → Bool
is_wanted b w (Err u) = false
is_wanted b w (Ok k) = has_form w.demand.form (get_or b.keys k.entry "") && (eqb w.index 0 || eqb w.index k.i)

-- an MTD line of three cells with such a key
unfoldable pub has_key : Book → Want → Bytes → Bool
has_key b w m = is_field m && is_wanted b w (key_found b m)

-- what is asked and no line has
unfoldable pub is_unmet : Book → List Bytes → Want → Bool
is_unmet b file w = is_asked b file w && not (any (has_key b w) file)

-- a demand has this cell: its own, or so many further on as an index says
abbrev pub has_cell : Demand → ℕ → Bool
has_cell d c = cond (eqb d.each ONCE) (eqb c d.cell) (ltb d.cell c && leb c (d.cell + MOST))

-- a demand breaks rule k at cell c: what it wants there is asked, and no line has it
abbrev pub is_broken_at : Book → List Bytes → ℕ → ℕ → Demand → Bool
is_broken_at b file k c d = eqb d.rule k && (has_cell d c && is_unmet b file (want d (c - d.cell)))

unfoldable pub end_rules : Book → List Rule
end_rules b =
    rule 21 (λ p c. any (is_broken_at b p.file 21 c) b.demands)
    ∷ rule 22 (λ p c. any (is_broken_at b p.file 22 c) b.demands)
    ∷ []

abbrev pub ends : Book → ℕ
ends b = last_cell 0 (wants b)

-- ALL BREAKS of a file by a book, in order of line, then cell, then rule
unfoldable pub breaks_by : Book → List Bytes → List Break
breaks_by b file = in_lines (rules b) file ++ at_end (end_rules b) (ends b) file

-- and by its own
unfoldable pub breaks : Bytes → List Break
breaks file = breaks_by (book_of (lines file)) (lines file)

-- a file is accepted where it breaks none
abbrev pub is_accepted : Bytes → Bool
is_accepted file = eqb (length (breaks file)) 0
