-- Flaws: the first of several decides, Form is none. Assumes nothing.
use Prim.Native.Nat.{ℕ, ◌≤◌}
use mathlib.Core.Path.{◌≡◌, refl, ap, sym, ◌∙◌}
use mathlib.Core.List.{List}
use native.Mathlib.Omega.{arith}
use lib.ListN.{length}
use Rattle.std.specs.Prelude.{Ok, Err}
use Rattle.value_references.specs.Index.{index_at, flaw_in, sooner}
use Rattle.value_references.specs.declared.index.Index.{Index}
use Rattle.value_references.specs.declared.index.Index.TheVariants.{Not, Bad, Is}
use Rattle.value_references.specs.declared.index.Flaw.{Flaw}
use Rattle.value_references.specs.declared.index.Flaw.TheVariants.{Form, Zero, Over}
use Rattle.value_references.proofs.Laws.Indices.{Holds, index_holds}
use Rattle.value_references.proofs.Laws.Firsts.{sooner_again}
use Rattle.book_names.specs.Names.{missing, on_index, misses, on_match, Found}
use Rattle.book_names.specs.Steps.{width_in, taken_in, Place, flawed, flaw_of}
use Rattle.book_names.specs.declared.Match.{Match}
use Rattle.book_names.specs.declared.Match.TheVariants.{Differs, Misses, Fits}

-- A NAME with a flaw in front of its rest
pub marked_differs : (z : Flaw) → flawed z Differs ≡ Differs
marked_differs Form = refl
marked_differs Zero = refl
marked_differs Over = refl

missing_again : (f z : Flaw) (m : Match) → missing f (missing z m) ≡ missing f m
missing_again f z Differs = refl
missing_again f z (Misses w) = refl
missing_again f z (Fits i j) = refl

missing_marked : (f z : Flaw) (m : Match) → missing f (flawed z m) ≡ missing f m
missing_marked f Form m = refl
missing_marked f Zero m = missing_again f Zero m
missing_marked f Over m = missing_again f Over m

pub marked_again : (f z : Flaw) (m : Match) → flawed f (flawed z m) ≡ flawed (sooner f z) m
marked_again Form z m = refl
marked_again Zero z m = missing_marked Zero z m
marked_again Over z m = missing_marked Over z m

-- one turn more of a name whose flaw so far is f: it differs, or the flaw z comes after
module _ (f : Flaw) {x m : Match} (so : x ≡ flawed f m) where
  pub turn_differs : m ≡ Differs → x ≡ Differs
  turn_differs e = so ∙ ap (flawed f) e ∙ marked_differs f

  pub turn_flaw : (z g : Flaw) (n : Match) → m ≡ flawed z n → g ≡ sooner f z → x ≡ flawed g n
  turn_flaw z g n e h = so ∙ ap (flawed f) e ∙ rw h (marked_again f z n)

missing_is : (z : Flaw) (m : Match) → (z ≡ Form → ⊥) → missing z m ≡ flawed z m
missing_is Form m h = absurd (h refl)
missing_is Zero m h = refl
missing_is Over m h = refl

-- WHERE A PATTERN HAS A PLACE: what stands there is passed over with its flaw, or it is no index
module _ (s : List ℕ) (v w : ℕ) (z : Flaw) (p : Place s v w z) (f : ℕ → ℕ → Match) where
  pub on_none : w ≡ 0 → on_index (index_at s) f ≡ Differs
  unfolding Holds
  on_none e = go (index_at s) (index_holds s (index_at s) refl) (sym p.width ∙ e)
    where
      go : (x : Index) → Holds s x → width_in x ≡ 0 → on_index x f ≡ Differs
      go Not h e = refl
      go (Bad z w) h e = absurd (omega (arith, h.0.some))
      go (Is v w) h e = absurd (omega (arith, h.0.some))

  pub on_some : (w ≡ 0 → ⊥) → on_index (index_at s) f ≡ flawed z (f v w)
  unfolding Holds
  on_some n = rw (p.width, p.taken, p.flaw) (go (index_at s) (index_holds s (index_at s) refl) (λ (e : width_in (index_at s) ≡ 0). n (p.width ∙ e)))
    where
      go : (x : Index) → Holds s x → (width_in x ≡ 0 → ⊥) → on_index x f ≡ flawed (flaw_in x) (f (taken_in x) (width_in x))
      go Not h n = absurd (n refl)
      go (Bad z w) h n = missing_is z (f 1 w) h.1
      go (Is v w) h n = refl

pub place_within : (s : List ℕ) (v w : ℕ) (z : Flaw) → Place s v w z → w ≤ length s
unfolding Holds
place_within s v w z p = rw p.width (go (index_at s) (index_holds s (index_at s) refl))
  where
    go : (x : Index) → Holds s x → width_in x ≤ length s
    go Not h = omega arith
    go (Bad z w) h = h.0.within
    go (Is v w) h = h.0.within

-- ENTRIES that a name misses
pub misses_none : (d : Found) → misses Form d ≡ d
misses_none (Err w) = refl
misses_none (Ok k) = refl

pub misses_again : (f z : Flaw) (d : Found) → misses f (misses z d) ≡ misses (sooner f z) d
misses_again f z (Err w) = ap Err (sooner_again f z w)
misses_again f z (Ok k) = refl

-- an entry that the name does not fit
pub on_miss : (m : Match) (d : Found) (f : ℕ → ℕ → Found) → ((i j : ℕ) → m ≡ Fits i j → ⊥) → on_match m d f ≡ misses (flaw_of m) d
on_miss Differs d f n = sym (misses_none d)
on_miss (Misses z) d f n = refl
on_miss (Fits i j) d f n = absurd (n i j refl)
