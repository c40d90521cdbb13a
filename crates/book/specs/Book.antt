-- A rule book: what a version of the format says of sections and their line codes, of keys and of columns. Every definition that asks a table takes the
-- book. Then the one book that there is. Assumes nothing.
use Rattle.std.specs.Prelude.{ℕ, zero, suc, ◌+◌, ◌-◌, Bool, true, false, cond, ◌&&◌, List, [], ◌∷◌, ◌++◌, map, length, get_or, drop, eqb, leb, ltb, Err}
use Prim.Native.String.{String}
use Rattle.text_bytes.specs.Bytes.{Bytes, bytes, same, is, begins}
use Rattle.book_names.specs.Names.{Entry, entry_of, lookup_in, Found, known_as}
use Rattle.value_references.specs.declared.index.Flaw.TheVariants.{Form}
use Rattle.value_references.specs.Index.{MOST}
use Rattle.book.specs.Letters.{TEXT, NONE, ALWAYS, TYPED, COMPLETE, QUANTIFIED, BOTH, ASSAYED, ASSAYS, STUDY_VARIABLES, OPT}
use Rattle.book.specs.Keys.{keys}
use Rattle.book.specs.Columns.{protein_columns, peptide_columns, psm_columns, molecule_columns, protein_required, peptide_required, psm_required, molecule_required}

-- a section: the line codes of its headers and of its rows, its columns, a line each, and those that its header must have, a line each too
pub record Section : Type 0 where
  pub header : String
  pub row : String
  pub columns : List String
  pub required : List String

abbrev pub section : String → String → List String → List String → Section
section header row columns required = record { header = header; row = row; columns = columns; required = required }

-- a demand on the metadata: the form of a key that some line must have, the rule that its absence breaks and the cell of line N + 1 at which that is reported,
-- a letter that says of which files it is asked, and the section that these must have, 0 for none. With the number of a family it is asked for each id of it
-- that the file declares: the key must have the id's index, and its absence is reported so many cells further on
pub record Demand : Type 0 where
  pub form : String
  pub rule : ℕ
  pub cell : ℕ
  pub asked : ℕ
  pub section : ℕ
  pub each : ℕ

-- once, and not for each id of a family
abbrev pub ONCE : ℕ
ONCE = 4

-- rule 21: asked of every file
abbrev pub always : ℕ → String → Demand
always cell form = record { form = form; rule = 21; cell = cell; asked = ALWAYS; section = 0; each = ONCE }

-- rule 22: of the files that the letter says, where they have the section, any one line will do; or a line for each id of a family
abbrev pub any_one : ℕ → String → ℕ → ℕ → Demand
any_one cell form asked section = record { form = form; rule = 22; cell = cell; asked = asked; section = section; each = ONCE }

abbrev pub for_each : ℕ → String → ℕ → ℕ → Demand
for_each cell form asked family = record { form = form; rule = 22; cell = cell; asked = asked; section = 0; each = family }

abbrev pub no_demand : Demand
no_demand = always 0 ""

-- what a demand wants: its key, with the index of an id, or 0 where any line with such a key will do
pub record Want : Type 0 where
  pub demand : Demand
  pub index : ℕ

abbrev pub want : Demand → ℕ → Want
want d i = record { demand = d; index = i }

abbrev pub cell_of : Want → ℕ
cell_of w = w.demand.cell + w.index

-- k, k + 1, .., n of them
unfoldable pub up_from : ℕ → ℕ → List ℕ
up_from zero k = []
up_from (suc n) k = k ∷ up_from n (suc k)

-- one thing, or one for each index of the family's ids
unfoldable pub wants_of : Demand → List Want
wants_of d = cond (eqb d.each ONCE) (want d 0 ∷ []) (map (want d) (up_from MOST 1))

unfoldable pub wants_in : List Demand → List Want
wants_in [] = []
wants_in (d ∷ ds) = wants_of d ++ wants_in ds

-- the cell of the last of these, c where there is none
unfoldable pub last_cell : ℕ → List Want → ℕ
last_cell c [] = c
last_cell c (w ∷ ws) = last_cell (cell_of w) ws

-- a book: the number of its first section, its sections in their order, its keys, a line each, and its demands, by rising cells
pub record Book : Type 0 where
  pub first : ℕ
  pub sections : List Section
  pub keys : List String
  pub demands : List Demand

-- so many things are wanted at line N + 1, at most, and at so many cells, in every book
abbrev pub WANTS : ℕ
WANTS = 272

abbrev pub CELLS : ℕ
CELLS = 1564

-- all that its demands want
abbrev pub wants : Book → List Want
wants b = wants_in b.demands

-- SECTIONS

-- their numbers are below this, in every book
abbrev pub SECTIONS : ℕ
SECTIONS = 5

-- whether a number is that of a section
unfoldable pub is_section : Book → ℕ → Bool
is_section b s = leb b.first s && ltb s (b.first + length b.sections)

abbrev pub no_section : Section
no_section = section "" "" [] []

-- the section of a number; without a code or a column where there is none
unfoldable pub section_of : Book → ℕ → Section
section_of b s = cond (is_section b s) (get_or b.sections (s - b.first) no_section) no_section

-- the line codes of a section's headers and rows
abbrev pub header_code : Book → ℕ → Bytes
header_code b s = bytes (section_of b s).header

abbrev pub row_code : Book → ℕ → Bytes
row_code b s = bytes (section_of b s).row

-- row 0 is a header, the others are rows
unfoldable pub code_for : Book → ℕ → ℕ → Bytes
code_for b s row = cond (eqb row 0) (header_code b s) (row_code b s)

-- the line code of a section's rows, or of its headers
abbrev pub code_in : Bool → Section → String
code_in true s = s.row
code_in false s = s.header

-- the first of these sections that has the line code, of which the first has the number n; 0 where there is none
unfoldable pub coded_from : Bool → ℕ → List Section → Bytes → ℕ
coded_from row n [] code = 0
coded_from row n (s ∷ ss) code =
    let later = coded_from row (n + 1) ss code in
    cond (is code (code_in row s)) n later

-- the section whose rows, or whose headers, have this line code; 0 for none
abbrev pub section_by : Book → Bool → Bytes → ℕ
section_by b row code = coded_from row b.first b.sections code

-- NAMES

-- the slots of the keys end by this, in every book
abbrev pub SLOTS : ℕ
SLOTS = 43279

abbrev pub entries_of : List String → List Entry
entries_of lines = map entry_of (map bytes lines)

-- a line of the keys has this form: what stands behind its two letters and a space
unfoldable pub has_form : String → String → Bool
has_form form line = same (drop 3 (bytes line)) (bytes form)

-- what the book says of a key
abbrev pub key_entries : Book → List Entry
key_entries b = entries_of b.keys

unfoldable pub key_of : Book → Bytes → Found
key_of b name = lookup_in (key_entries b) name

-- whether a name begins `opt_`
unfoldable pub is_opt : Bytes → Bool
is_opt name = begins (bytes "opt_") name

-- an `opt_` column: text, and names no id; it has a byte more than `opt_`
unfoldable pub opt_of : Bytes → Found
opt_of name = cond (ltb 4 (length name)) (known_as OPT TEXT NONE 0 0) (Err Form)

abbrev pub column_entries : Book → ℕ → List Entry
column_entries b s = entries_of (section_of b s).columns

-- what the book says of a column's name
unfoldable pub column_of : Book → ℕ → Bytes → Found
column_of b s name = cond (is_opt name) (opt_of name) (lookup_in (column_entries b s) name)

-- what the metadata of mzTab 1.0 must have: rule 21; and by mode and type, the sections that are present and the ids that are declared, rule 22
unfoldable pub demands : List Demand
demands =
    always 1 "mzTab-version"
    ∷ always 2 "mzTab-mode"
    ∷ always 3 "mzTab-type"
    ∷ always 4 "description"
    ∷ always 5 "ms_run[n]-location"
    ∷ for_each 100 "assay[n]-ms_run_ref" QUANTIFIED ASSAYS
    ∷ for_each 200 "study_variable[n]-assay_refs" ASSAYED STUDY_VARIABLES
    ∷ for_each 300 "study_variable[n]-description" QUANTIFIED STUDY_VARIABLES
    ∷ any_one 400 "software[n]" COMPLETE 0
    ∷ any_one 500 "protein_search_engine_score[n]" TYPED 1
    ∷ any_one 600 "peptide_search_engine_score[n]" TYPED 2
    ∷ any_one 700 "psm_search_engine_score[n]" TYPED 3
    ∷ any_one 800 "smallmolecule_search_engine_score[n]" TYPED 4
    ∷ any_one 900 "fixed_mod[n]" TYPED 0
    ∷ any_one 1000 "variable_mod[n]" TYPED 0
    ∷ any_one 1100 "quantification_method" BOTH 0
    ∷ any_one 1200 "protein-quantification_unit" QUANTIFIED 1
    ∷ any_one 1300 "peptide-quantification_unit" QUANTIFIED 2
    ∷ any_one 1400 "small_molecule-quantification_unit" QUANTIFIED 4
    ∷ for_each 1500 "assay[n]-quantification_reagent" QUANTIFIED ASSAYS
    ∷ []

-- THE BOOK of mzTab 1.0: sections 1 protein, 2 peptide, 3 PSM, 4 small molecule
unfoldable pub mz_tab : Book
mz_tab =
    record {
      first = 1;
      sections =
          section "PRH" "PRT" protein_columns protein_required
          ∷ section "PEH" "PEP" peptide_columns peptide_required
          ∷ section "PSH" "PSM" psm_columns psm_required
          ∷ section "SMH" "SML" molecule_columns molecule_required
          ∷ [];
      keys = keys;
      demands = demands;
    }

-- the book that a file goes by, of its lines: the one there is
unfoldable pub book_of : List Bytes → Book
book_of file = mz_tab
