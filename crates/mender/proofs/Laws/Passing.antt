-- A line that stays as it is, and one that is a header: what is laid, and what is carried after it. Assumes nothing.
use mathlib.Core.Path.{◌≡◌, refl, sym, ap, ◌∙◌}
use mathlib.Core.List.{List, []}
use mathlib.Core.Logic.{◌⊎◌, inl, inr}
use Prim.Native.Nat.{ℕ, ◌+◌, ◌*◌, ◌≤◌, ◌<◌}
use native.Mathlib.Omega.{arith}
use lib.ListN.{length, drop}
use borrow.Author.Tests.{lt-ltb}
use Rattle.text_bytes.specs.Bytes.{Bytes}
use Rattle.text.specs.Lines.{cells}
use Rattle.text.specs.Joined.{tabbed}
use Rattle.text.proofs.Laws.Joining.{cells_tabbed}
use Rattle.book.specs.Book.{Book}
use Rattle.rules.specs.Sorts.{sort_of, header_in}
use Rattle.rules.specs.declared.sorts.Sort.{Sort}
use Rattle.rules.specs.declared.sorts.Sort.TheVariants.{Silent, Unknown, Meta, Header}
use Rattle.scan.specs.Places.{Lent, lent}
use Rattle.scan.specs.Machine.{KindsOf}
use Rattle.mender_places.specs.Places.{lay_all, note_all, Mends}
use Rattle.mender_places.proofs.Laws.Laying.{lay_count}
use Rattle.mender.specs.declared.Walk.{Walk}
use Rattle.mender.specs.Walk.{sort_filled, sort_found, section_after, width_after, Passes}

module _ (b : Book) (l : Bytes) {σ : Sort} (e : sort_of b l ≡ σ) (h w : ℕ) (kinds : List ℕ) where
  -- a line that is no row is laid as it is
  pub kept_mends : (n : ℕ) → sort_filled σ h w kinds (cells l) ≡ cells l → sort_found σ h w kinds n (cells l) ≡ [] → {copy copy' changes : List ℕ} {to to' count count' : ℕ}
      → lent copy' to' ≡ lay_all (lent copy to) l → count' ≡ count
      → Mends (tabbed (sort_filled (sort_of b l) h w kinds (cells l))) (sort_found (sort_of b l) h w kinds n (cells l)) (5 * length l) (length l) (lent copy to) (lent copy' to') (lent changes count) (lent changes count')
  unfolding note_all
  kept_mends n same none {copy} {copy'} {changes} {to} {to'} {count} {count'} lays k = record {
    lays = rw (e, same, cells_tabbed l) lays;
    notes = rw (e, none, k);
    most_bytes = omega (arith, ap (λ (o : Lent). o.count) lays, lay_count l (lent copy to));
    most_changes = omega (arith, k);
  }

  -- and where it is no header, what is carried stays
  pub kept_passes : {h' w' : ℕ} → header_in σ ≡ 0 → section_after σ h ≡ h → width_after σ w (length (cells l)) ≡ w → h' ≡ h → w' ≡ w → length kinds ≡ 256 → Passes b l h w kinds h' w' kinds
  kept_passes none s v p q k = record { section_next = p ∙ rw e (sym s); width_next = q ∙ rw e (sym v); columns_after = λ l₀ c. rw (e, none) c; kind_places = k }

-- both, of a walk that passes it
pub kept_plain : (b : Book) (l : Bytes) → (sort_of b l ≡ Silent) ⊎ ((sort_of b l ≡ Unknown) ⊎ (sort_of b l ≡ Meta)) → (walk : Walk) (kinds : List ℕ) → length kinds ≡ 256
    → {copy copy' changes : List ℕ} {r : Walk} → lent copy' r.to ≡ lay_all (lent copy walk.to) l
    → (r.line ≡ walk.line + 1) × (r.count ≡ walk.count) × (r.section ≡ walk.section) × (r.width ≡ walk.width)
    → Mends (tabbed (sort_filled (sort_of b l) walk.section walk.width kinds (cells l))) (sort_found (sort_of b l) walk.section walk.width kinds (walk.line + 1) (cells l)) (5 * length l) (length l)
    (lent copy walk.to) (lent copy' r.to) (lent changes walk.count) (lent changes r.count)
    × (Passes b l walk.section walk.width kinds r.section r.width kinds × (r.line ≡ walk.line + 1))
kept_plain b l (inl e) walk kinds k lays q =
    (kept_mends b l e walk.section walk.width kinds (walk.line + 1) refl refl lays q.1, (kept_passes b l e walk.section walk.width kinds refl refl refl q.2 q.3 k, q.0))
kept_plain b l (inr (inl e)) walk kinds k lays q =
    (kept_mends b l e walk.section walk.width kinds (walk.line + 1) refl refl lays q.1, (kept_passes b l e walk.section walk.width kinds refl refl refl q.2 q.3 k, q.0))
kept_plain b l (inr (inr e)) walk kinds k lays q =
    (kept_mends b l e walk.section walk.width kinds (walk.line + 1) refl refl lays q.1, (kept_passes b l e walk.section walk.width kinds refl refl refl q.2 q.3 k, q.0))

-- a header
pub head_passes : (b : Book) (l : Bytes) (s : ℕ) → sort_of b l ≡ Header s → 0 < s → (h w : ℕ) (kinds : List ℕ) {w' : ℕ} {kinds' : List ℕ} → w' ≡ length (cells l)
    → (length (cells l) ≤ 256 → KindsOf b s (drop 1 (cells l)) kinds') → length kinds' ≡ 256 → Passes b l h w kinds s w' kinds'
head_passes b l s e z h w kinds {w'} {kinds'} v learnt k = record {
  section_next = rw e;
  width_next = v ∙ rw e;
  columns_after = λ l₀ c. rw (e, lt-ltb 0 s z) (λ few. rw e (learnt few));
  kind_places = k;
}
