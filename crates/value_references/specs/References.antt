-- A reference, a list of references, and the four families of ids that they name. Paper 01, 'The kinds of value'. Assumes nothing.
use Rattle.std.specs.Prelude.{ℕ, ◌-◌, ◌≤◌, ◌≡◌, Bool, false, cond, not, List, [], ◌∷◌, ◌++◌, map, length, get_or, drop, eqb}
use Prim.Native.String.{String}
use Rattle.text_bytes.specs.Bytes.{Bytes, bytes, begins, any, all, split_on, COMMA, is_space}
use Rattle.value_references.specs.Index.{index_at, is_read, index_in, flaw_in, sooner}
use Rattle.value_references.specs.declared.index.Index.{Index}
use Rattle.value_references.specs.declared.index.Index.TheVariants.{Not, Bad, Is}
use Rattle.value_references.specs.declared.index.Flaw.{Flaw}
use Rattle.value_references.specs.declared.index.Flaw.TheVariants.{Form}
use Rattle.value_references.specs.declared.Named.{Named}

-- the words of the families, numbered from 0
abbrev pub families : List String
families = "sample" ∷ "assay" ∷ "study_variable" ∷ "ms_run" ∷ []

abbrev pub family : ℕ → Bytes
family f = bytes (get_or families f "")

-- all of them, one after the other
abbrev pub words : Bytes
words = family 0 ++ family 1 ++ family 2 ++ family 3

-- the index that is read, good or bad, where it is all of a text of n bytes
abbrev pub alone : Index → ℕ → Index
alone Not n = Not
alone (Bad z w) n = cond (eqb w n) (Bad z w) Not
alone (Is i w) n = cond (eqb w n) (Is i w) Not

-- the index, good or bad, that b has behind the word, where nothing comes after it
unfoldable pub ref_in : Bytes → Bytes → Index
ref_in word b =
    let rest = drop (length word) b in
    cond (begins word b) (alone (index_at rest) (length rest)) Not

-- the index i where b is the word and then i in brackets, else 0
unfoldable pub ref_to : Bytes → Bytes → ℕ
ref_to word b = index_in (ref_in word b)

-- the flaw for which b is none, Form where it has no such index
unfoldable pub ref_flaw : Bytes → Bytes → Flaw
ref_flaw word b = flaw_in (ref_in word b)

-- the spaces in front go
unfoldable pub trimmed : Bytes → Bytes
trimmed [] = []
trimmed (b ∷ bs) =
    let rest = trimmed bs in
    cond (is_space b) rest (b ∷ bs)

-- zero or more spaces may stand in front of each part but the first
abbrev pub spaced : List Bytes → List Bytes
spaced [] = []
spaced (p ∷ ps) = p ∷ map trimmed ps

-- the parts of a list, separated by a comma with spaces after it
abbrev pub ref_parts : Bytes → List Bytes
ref_parts b = spaced (split_on COMMA b)

-- their indices; 0 for what is no reference
unfoldable pub refs_to : Bytes → Bytes → List ℕ
refs_to word b = map (ref_to word) (ref_parts b)

abbrev pub is_index : ℕ → Bool
is_index i = not (eqb i 0)

-- one or more references, and nothing else
unfoldable pub is_references : Bytes → Bytes → Bool
is_references word b = all is_index (refs_to word b)

-- whether a part is a reference, or one but for its index
abbrev pub is_like : Bytes → Bytes → Bool
is_like word p = is_read (ref_in word p)

-- the first flaw of the parts
unfoldable pub flaw_among : Bytes → List Bytes → Flaw
flaw_among word [] = Form
flaw_among word (p ∷ ps) = sooner (ref_flaw word p) (flaw_among word ps)

-- the flaw for which b is no list of references: that of the leftmost bad index, where each part is one but for its index
unfoldable pub refs_flaw : Bytes → Bytes → Flaw
refs_flaw word b = cond (all (is_like word) (ref_parts b)) (flaw_among word (ref_parts b)) Form

-- whether a list names an index
abbrev pub refers_to : ℕ → Bytes → Bytes → Bool
refers_to i word b = any (eqb i) (refs_to word b)

-- an answer says whether b is a list of references, for which flaw it is none, and of each index from 1 to 64 whether b names it
pub record Tells (word b : Bytes) (r : Named) : Type 0 where
  pub width : length r.named ≡ 64
  pub good : r.good ≡ is_references word b
  pub flaw : r.flaw ≡ refs_flaw word b
  pub named : (i : ℕ) → 1 ≤ i → i ≤ 64 → get_or r.named (i - 1) false ≡ refers_to i word b
