-- A tally and the sum of two: paper 02, request 2026-09. Assumes nothing.
use Rattle.std.specs.Prelude.{ℕ, ◌+◌, ◌^◌, ◌≡◌, Bool, false, cond, ◌||◌, List, [], ◌∷◌, get_or, eqb, leb, refl, Option, Some, None, MatchOption, is_none, option_map}
use Rattle.std.proofs.Common.{sym, ap, ◌∙◌, true≢false}
use Rattle.numbers.specs.Numbers.{PAST_64_BITS}
use Rattle.text_bytes.specs.Bytes.{any}
use Rattle.tally.specs.declared.Tally.{Tally}

-- THE EIGHT TOTALS: PSMs, distinct and unique peptides, rows of sections 1 to 4, missing cells
abbrev pub totals : Tally → List ℕ
totals t = t.psms.0 ∷ t.distinct.0 ∷ t.unique.0 ∷ t.protein_rows ∷ t.peptide_rows ∷ t.psm_rows ∷ t.small_molecule_rows ∷ t.missing ∷ []

-- the tally with these totals
abbrev pub tally_of : List ℕ → Tally
tally_of ns =
    record {
      psms = record { 0 = get_or ns 0 0 };
      distinct = record { 0 = get_or ns 1 0 };
      unique = record { 0 = get_or ns 2 0 };
      protein_rows = get_or ns 3 0;
      peptide_rows = get_or ns 4 0;
      psm_rows = get_or ns 5 0;
      small_molecule_rows = get_or ns 6 0;
      missing = get_or ns 7 0;
    }

-- the tally of nothing
abbrev pub zero : Tally
zero = tally_of []

-- whether a number passes 64 bits
abbrev pub is_past : ℕ → Bool
is_past n = leb (2 ^ 64) n

-- each total of a tally fits in 64 bits, as those of a tally of the code do
abbrev pub Within : Tally → Type 0
Within t = any is_past (totals t) ≡ false

-- one checked sum: 0 where it passes 64 bits
abbrev pub sum_of : ℕ → ℕ → ℕ
sum_of a b = cond (is_past (a + b)) 0 (a + b)

-- the sums of two lists, place by place
unfoldable pub sums : List ℕ → List ℕ → List ℕ
sums [] ys = []
sums (x ∷ xs) [] = []
sums (x ∷ xs) (y ∷ ys) = (x + y) ∷ sums xs ys

-- what a call that answers a tally gives: its number, and the tally
pub record Outcome : Type 0 where
  pub number : ℕ
  pub tally : Tally

abbrev pub outcome : ℕ → Tally → Outcome
outcome n t = record { number = n; tally = t }

-- a refused call answers the tally of nothing
abbrev pub answered : ℕ → Tally → Outcome
answered n t = outcome n (cond (eqb n 0) t zero)

-- the same with the totals one to a place, as hosts have them
pub record Placed : Type 0 where
  pub number : ℕ
  pub places : List ℕ

abbrev pub placed : ℕ → List ℕ → Placed
placed n ps = record { number = n; places = ps }

abbrev pub in_places : Outcome → Placed
in_places o = placed o.number (totals o.tally)

-- THE SUM OF TWO TALLIES, total by total; refused where any of the eight passes 64 bits
unfoldable pub added : Tally → Tally → Outcome
added a b =
    let ns = sums (totals a) (totals b) in
    answered (cond (any is_past ns) PAST_64_BITS 0) (tally_of ns)

-- NO SECOND OUTCOME FITS: of a counter's sum, of any call that answers a tally, in places too, of the sum of two
pub counter_once : (a b : ℕ) (past : Bool) {n m : ℕ} {p q : Bool} → (n ≡ sum_of a b) × (p ≡ (past || is_past (a + b))) → (m ≡ sum_of a b) × (q ≡ (past || is_past (a + b))) → (n ≡ m) × (p ≡ q)
counter_once a b past x y = (x.0 ∙ sym y.0, x.1 ∙ sym y.1)

-- the same of a counter's sum as the calls answer it, none where it is past: both are none, or both hold one number
pub counter_told : {A : Type 0} (held : A → ℕ) (a b : ℕ) (r s : Option A) → MatchOption r (sum_of a b ≡ 0) (λ x. held x ≡ sum_of a b) × (is_none r ≡ is_past (a + b))
    → MatchOption s (sum_of a b ≡ 0) (λ x. held x ≡ sum_of a b) × (is_none s ≡ is_past (a + b)) → option_map held r ≡ option_map held s
counter_told held a b None None p q = refl
counter_told held a b None (Some y) p q = absurd (true≢false (p.1 ∙ sym q.1))
counter_told held a b (Some x) None p q = absurd (true≢false (q.1 ∙ sym p.1))
counter_told held a b (Some x) (Some y) p q = ap Some (p.0 ∙ sym q.0)

pub outcome_once : {o : Outcome} {n m : ℕ} {s t : Tally} → outcome n s ≡ o → outcome m t ≡ o → (n ≡ m) × (s ≡ t)
outcome_once p q = (ap (λ (x : Outcome). x.number) (p ∙ sym q), ap (λ (x : Outcome). x.tally) (p ∙ sym q))

pub placed_once : {o : Placed} {n m : ℕ} {ps qs : List ℕ} → placed n ps ≡ o → placed m qs ≡ o → (n ≡ m) × (ps ≡ qs)
placed_once p q = (ap (λ (x : Placed). x.number) (p ∙ sym q), ap (λ (x : Placed). x.places) (p ∙ sym q))

pub add_once : (a b : Tally) {n m : ℕ} {s t : Tally} → outcome n s ≡ added a b → outcome m t ≡ added a b → (n ≡ m) × (s ≡ t)
add_once a b p q = outcome_once p q
