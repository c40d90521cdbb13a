-- The breaks that a scan puts of a line, from what it carries along, are those that the rules give. Assumes nothing.
use mathlib.Core.Path.{◌≡◌, refl, ap}
use mathlib.Core.List.{List, [], ◌∷◌, ◌++◌, map}
use mathlib.Core.Bool.{not}
use Prim.Native.Nat.{ℕ}
use lib.Dec.{ltb}
use lib.ListN.{get_or}
use Rattle.text_bytes.specs.Bytes.{Bytes, bytes, all}
use Rattle.text.specs.Lines.{cells, cell}
use Rattle.rules.specs.Sorts.{sort_of, control_cell}
use Rattle.rules.specs.Breaks.{Break, spot, at_line}
use Rattle.book_facts.specs.Asked.{asked_of, asked_by}
use Rattle.rules.specs.Rules.{names_undeclared, column_undeclared, names, has_column, lacks_column, rules}
use Rattle.scan.specs.Machine.{Ids, Asked, undeclared_in, column_in, header_slot}
use Rattle.scan.specs.Carried.{sort_breaks, line_breaks, Stands}
use Rattle.scan.specs.declared.state.State.{State}
use Rattle.rules.specs.declared.sorts.Sort.{Sort}
use Rattle.rules.specs.declared.sorts.Sort.TheVariants.{Silent, Unknown, Meta, Header, Row}
use Rattle.rules.proofs.Laws.Sorting.{header_section}
use Rattle.scan.proofs.Laws.Means.{means_silent, means_unknown, means_meta, means_header, means_row}
use Rattle.scan.proofs.Laws.Keeping.{repeats}
use Rattle.book.specs.Book.{Book, section_of, key_of, column_of}
use Rattle.book.proofs.Laws.Sized.{Sized}

-- the ids say of every value and every column whether it names an undeclared one, and of every letter it is known whether what has it is asked
pub record Knows (book : Book) (file : List Bytes) (asked : Asked) (ids : Ids) : Type 0 where
  pub values : (x v : Bytes) → names_undeclared book file (key_of book x) v ≡ undeclared_in ids (key_of book x) v
  pub columns : (section : ℕ) (x : Bytes) → column_undeclared book file (column_of book section x) ≡ column_in ids (column_of book section x)
  pub letters : (letter : ℕ) → asked letter ≡ asked_of book file letter

-- required columns, by two that ask the same
lacks_alike : (book : Book) (asked asked' : Asked) → ((letter : ℕ) → asked letter ≡ asked' letter) → (section : ℕ) (ns : List Bytes) → lacks_column book asked section ns ≡ lacks_column book asked' section ns
unfolding lacks_column all
lacks_alike book asked asked' h section ns = ap not (go (map bytes (section_of book section).required))
  where
    go : (ls : List Bytes) → all (has_column asked ns) ls ≡ all (has_column asked' ns) ls
    go [] = refl
    go (l ∷ ls) = rw (h (get_or l 0 0), go ls)

module _ {book : Book} (sized : Sized book) {above file : List Bytes} {ids : Ids} {s : State} {kinds slots : List ℕ} (k : Knows book file (asked_by s.asking) ids) (st : Stands book above s kinds slots) (l : Bytes) (n : ℕ) (rest : List Break) where
  pub means : line_breaks book ids s kinds slots n l rest ≡ at_line (rules book) (spot above l file) n ++ rest
  means = go (sort_of book l) refl
    where
      go : (σ : Sort) → sort_of book l ≡ σ → sort_breaks book σ ids s kinds slots (control_cell l) n (cells l) rest ≡ at_line (rules book) (spot above l file) n ++ rest
      go Silent e = means_silent book sized above file l n rest e
      go Unknown e = means_unknown book sized above file l n rest e
      go Meta e = means_meta book sized above file l n rest e s.table slots ids st.table (repeats book sized l above slots st.keys) (k.values (cell 2 l) (cell 3 l))
      go (Header h) e = means_header book sized above file l n rest h e (asked_by s.asking) (get_or slots (header_slot h) 0) (ltb h s.highest) ids (lacks_alike book (asked_by s.asking) (asked_of book file) k.letters h (names l)) (st.headers h (header_section book sized l h e).0 (header_section book sized l h e).1) (st.highest h) (k.columns h)
      go (Row r) e = means_row book sized above file l n rest r e s.section s.width kinds st.section st.width st.columns
