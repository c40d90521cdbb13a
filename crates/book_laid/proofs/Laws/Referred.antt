-- A reference is read as a name is: what a text is beside the pattern of its word and a place, that it is as a reference. So what is shown of names that are
-- known but for their indices holds of references too. Assumes nothing.
use Prim.Native.Nat.{ℕ, suc, ◌≤◌}
use mathlib.Core.Path.{◌≡◌, refl, ap, sym, ◌∙◌, subst}
use mathlib.Core.Bool.{Bool, true, false, cond, ◌&&◌}
use mathlib.Core.List.{List, [], ◌∷◌, ◌++◌, map}
use native.Mathlib.Omega.{arith}
use lib.Dec.{eqb}
use lib.ListN.{length, drop, length-drop, drop_of_length-le}
use borrow.Author.Tests.{eq-eqb, ne_eqb, eqb-true, eqb-false}
use Rattle.text_bytes.specs.Bytes.{Bytes, begins}
use Rattle.value_references.specs.Index.{index_at, is_read, flaw_in}
use Rattle.value_references.specs.References.{alone, ref_in, ref_flaw}
use Rattle.value_references.specs.declared.index.Index.{Index}
use Rattle.value_references.specs.declared.index.Index.TheVariants.{Not, Bad, Is}
use Rattle.value_references.specs.declared.index.Flaw.{Flaw}
use Rattle.value_references.specs.declared.index.Flaw.TheVariants.{Form, Zero, Over}
use Rattle.value_references.proofs.Laws.Indices.{Holds, index_holds}
use Rattle.book_names.specs.Names.{Piece, byte, place, missing, on_index, fits}
use Rattle.book_names.specs.Steps.{flaw_of}
use Rattle.book_names.specs.declared.Match.{Match}
use Rattle.book_names.specs.declared.Match.TheVariants.{Differs, Misses, Fits}
use Rattle.book_names.proofs.Laws.Missing.{Spelled, spelled_like}
use Rattle.text_bytes.proofs.Laws.Tests.{absurd_bool}

-- the pattern of the references to a word
abbrev pub ref_pattern : Bytes → List Piece
ref_pattern w = map byte w ++ (place ∷ [])

-- what is read as a match
abbrev pub match_of : Index → Match
match_of Not = Differs
match_of (Bad z w) = Misses z
match_of (Is i w) = Fits i 0

-- what comes after the index: nothing, or more
end_fits : (s : List ℕ) (w v : ℕ) → w ≤ length s → fits [] (drop w s) v 0 ≡ cond (eqb w (length s)) (Fits v 0) Differs
unfolding fits
end_fits s w v h = go (drop w s) refl
  where
    go : (r : List ℕ) → drop w s ≡ r → fits [] r v 0 ≡ cond (eqb w (length s)) (Fits v 0) Differs
    go [] e = rw (eq-eqb w (length s) (omega (arith, h, length-drop w s, ap length e)))
    go (x ∷ r) e = rw (ne_eqb w (length s) (λ (q : w ≡ length s). omega (arith, length-drop w s, ap length e)))

-- the place, and nothing more
place_fits : (s : List ℕ) → fits (place ∷ []) s 0 0 ≡ match_of (alone (index_at s) (length s))
unfolding fits Holds
place_fits s = go (index_at s) (index_holds s (index_at s) refl)
  where
    on_bad : (z : Flaw) (t : Bool) (w : ℕ) → missing z (cond t (Fits 1 0) Differs) ≡ match_of (cond t (Bad z w) Not)
    on_bad z true w = refl
    on_bad z false w = refl

    on_good : (t : Bool) (v w : ℕ) → cond t (Fits v 0) Differs ≡ match_of (cond t (Is v w) Not)
    on_good true v w = refl
    on_good false v w = refl

    go : (x : Index) → Holds s x → on_index x (λ v w. fits [] (drop w s) v 0) ≡ match_of (alone x (length s))
    go Not h = refl
    go (Bad z w) h = rw (end_fits s w 1 h.0.within) (on_bad z (eqb w (length s)) w)
    go (Is v w) h = rw (end_fits s w v h.0.within) (on_good (eqb w (length s)) v w)

-- THE LAW
pub reference_fits : (w b : Bytes) → fits (ref_pattern w) b 0 0 ≡ match_of (ref_in w b)
unfolding fits ref_in begins
reference_fits [] b = place_fits b
reference_fits (p ∷ w) [] = refl
reference_fits (p ∷ w) (x ∷ b) = go (eqb x p) refl (reference_fits w b)
  where
    go : (t : Bool) → eqb x p ≡ t → fits (ref_pattern w) b 0 0 ≡ match_of (ref_in w b)
        → cond t (fits (ref_pattern w) b 0 0) Differs ≡ match_of (cond (eqb p x && begins w b) (alone (index_at (drop (length w) b)) (length (drop (length w) b))) Not)
    go true e h = rw (eq-eqb p x (sym (eqb-true x p e))) h
    go false e h = rw (ne_eqb p x (λ (q : p ≡ x). eqb-false x p e (sym q)))

-- so one that is a reference, or is one but for its index, is the word with digits in brackets, and has their flaw
pub reference_spelled : (w b : Bytes) → is_read (ref_in w b) ≡ true → Spelled (ref_pattern w) b (ref_flaw w b)
unfolding ref_flaw
reference_spelled w b h = subst (λ (z : Flaw). Spelled (ref_pattern w) b z) (ap flaw_of (reference_fits w b) ∙ flaws (ref_in w b)) (spelled_like (ref_pattern w) b 0 0 (λ d. differs (ref_in w b) h (sym (reference_fits w b) ∙ d)))
  where
    flaws : (x : Index) → flaw_of (match_of x) ≡ flaw_in x
    flaws Not = refl
    flaws (Bad z n) = refl
    flaws (Is i n) = refl

    differs : (x : Index) → is_read x ≡ true → match_of x ≡ Differs → ⊥
    differs Not r d = absurd_bool r
    differs (Bad z n) r d = absurd (let o : ◌≡◌ {A = ℕ} 0 1 = cc in omega arith)
    differs (Is i n) r d = absurd (let o : ◌≡◌ {A = ℕ} 0 1 = cc in omega arith)
