-- A name that a pattern fits or misses is like it: byte for byte, and a bracket of digits where it has a place. What so follows from step to step. Assumes nothing.
use Prim.Native.Nat.{ℕ}
use mathlib.Core.Path.{◌≡◌, refl, ap, sym, ◌∙◌, subst}
use mathlib.Core.Bool.{Bool, true, false, cond}
use mathlib.Core.List.{List, [], ◌∷◌}
use lib.Dec.{eqb}
use lib.ListN.{drop}
use borrow.Author.Tests.{eqb-true}
use Rattle.value_references.specs.Index.{index_at, flaw_in, sooner}
use Rattle.value_references.specs.declared.index.Index.{Index}
use Rattle.value_references.specs.declared.index.Index.TheVariants.{Not, Bad, Is}
use Rattle.value_references.specs.declared.index.Flaw.{Flaw}
use Rattle.value_references.specs.declared.index.Flaw.TheVariants.{Form, Zero, Over}
use Rattle.value_references.proofs.Laws.Indices.{Bracket, Holds, index_holds}
use Rattle.book_names.specs.Names.{Piece, byte, place, missing, on_index, fits}
use Rattle.book_names.specs.Steps.{flaw_of}
use Rattle.book_names.specs.declared.Match.{Match}
use Rattle.book_names.specs.declared.Match.TheVariants.{Differs, Misses, Fits}
use Rattle.book_names.proofs.Laws.Turns.{on_place, place_fits}

-- a flaw in front of a rest that does not differ
flaw_missing : (z : Flaw) (m : Match) → (z ≡ Form → ⊥) → (m ≡ Differs → ⊥) → flaw_of (missing z m) ≡ sooner z (flaw_of m)
flaw_missing Form m h n = absurd (h refl)
flaw_missing Zero m h n = go m n
  where
    go : (m : Match) → (m ≡ Differs → ⊥) → flaw_of (missing Zero m) ≡ Zero
    go Differs n = absurd (n refl)
    go (Misses w) n = refl
    go (Fits i j) n = refl
flaw_missing Over m h n = go m n
  where
    go : (m : Match) → (m ≡ Differs → ⊥) → flaw_of (missing Over m) ≡ Over
    go Differs n = absurd (n refl)
    go (Misses w) n = refl
    go (Fits i j) n = refl

-- what holds of the empty pattern and name, and is kept by a byte more and by a bracket more in front, holds of all that are alike, with the flaw of the name
module _ (P : List Piece → List ℕ → Flaw → Type 0) (none : P [] [] Form) (one : (p : ℕ) (ps : List Piece) (s : List ℕ) (z : Flaw) → P ps s z → P (byte p ∷ ps) (p ∷ s) z)
    (index : (ps : List Piece) (s : List ℕ) (w : ℕ) (z : Flaw) → Bracket s w → P ps (drop w s) z → P (place ∷ ps) s (sooner (flaw_in (index_at s)) z)) where
  pub alike : (ps : List Piece) (s : List ℕ) (i j : ℕ) → (fits ps s i j ≡ Differs → ⊥) → P ps s (flaw_of (fits ps s i j))
  unfolding fits Holds
  alike [] [] i j n = none
  alike [] (x ∷ s) i j n = absurd (n refl)
  alike (byte p ∷ ps) [] i j n = absurd (n refl)
  alike (byte p ∷ ps) (x ∷ s) i j n = go (eqb x p) refl n (alike ps s i j)
    where
      go : (t : Bool) → eqb x p ≡ t → (cond t (fits ps s i j) Differs ≡ Differs → ⊥) → ((fits ps s i j ≡ Differs → ⊥) → P ps s (flaw_of (fits ps s i j)))
          → P (byte p ∷ ps) (x ∷ s) (flaw_of (cond t (fits ps s i j) Differs))
      go true e n rest = subst (λ (y : ℕ). P (byte p ∷ ps) (y ∷ s) (flaw_of (fits ps s i j))) (sym (eqb-true x p e)) (one p ps s (flaw_of (fits ps s i j)) (rest n))
      go false e n rest = absurd (n refl)
  alike (place ∷ ps) s i j n =
      subst (λ (m : Match). P (place ∷ ps) s (flaw_of m)) (sym (place_fits ps s i j))
      (go (index_at s) refl (λ (e : on_index (index_at s) (on_place ps s i j) ≡ Differs). n (place_fits ps s i j ∙ e)) (λ (w a b : ℕ). alike ps (drop w s) a b))
    where
      on : (v w : ℕ) (t u : Bool) → (cond t (fits ps (drop w s) v j) (cond u (fits ps (drop w s) i v) Differs) ≡ Differs → ⊥)
          → ((w a b : ℕ) → (fits ps (drop w s) a b ≡ Differs → ⊥) → P ps (drop w s) (flaw_of (fits ps (drop w s) a b)))
          → P ps (drop w s) (flaw_of (cond t (fits ps (drop w s) v j) (cond u (fits ps (drop w s) i v) Differs)))
      on v w true u n rest = rest w v j n
      on v w false true n rest = rest w i v n
      on v w false false n rest = absurd (n refl)

      -- the index that was read, in front
      front : (x : Index) (w : ℕ) (m : Match) → index_at s ≡ x → Bracket s w → P ps (drop w s) (flaw_of m) → P (place ∷ ps) s (sooner (flaw_in x) (flaw_of m))
      front x w m e b p = subst (λ (y : Index). P (place ∷ ps) s (sooner (flaw_in y) (flaw_of m))) e (index ps s w (flaw_of m) b p)

      go : (x : Index) → index_at s ≡ x → (on_index x (on_place ps s i j) ≡ Differs → ⊥)
          → ((w a b : ℕ) → (fits ps (drop w s) a b ≡ Differs → ⊥) → P ps (drop w s) (flaw_of (fits ps (drop w s) a b)))
          → P (place ∷ ps) s (flaw_of (on_index x (on_place ps s i j)))
      go Not e n rest = absurd (n refl)
      go (Bad z w) e n rest =
          let h = index_holds s (Bad z w) e in
          let m = on_place ps s i j 1 w in
          let k : m ≡ Differs → ⊥ = λ (d : m ≡ Differs). n (ap (missing z) d) in
          subst (P (place ∷ ps) s) (sym (flaw_missing z m h.1 k)) (front (Bad z w) w m e h.0 (on 1 w (eqb i 0) (eqb j 0) k rest))
      go (Is v w) e n rest = let h = index_holds s (Is v w) e in front (Is v w) w (on_place ps s i j v w) e h.0 (on v w (eqb i 0) (eqb j 0) n rest)
