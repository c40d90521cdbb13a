-- What stands in the lent list after breaks were recorded: break i in record i where that is there, and every other record as it was. Assumes nothing.
use mathlib.Core.Path.{◌≡◌, refl, sym, ap, ◌∙◌}
use mathlib.Core.List.{List, [], ◌∷◌, map}
use Prim.Native.Nat.{ℕ, zero, suc, ◌+◌, ◌≤◌, ◌<◌}
use native.Mathlib.Nat.{not-suc-le-zero}
use native.Mathlib.Omega.{arith}
use lib.Seq.{sets, length-sets, get_or-set_same, get_or-set_other}
use lib.ListN.{length, get_or, set, length-set, length-map, get_or-map}
use Rattle.rules.specs.Breaks.{Break, break_at}
use Rattle.fault_steps.specs.declared.Fault.{Fault}
use Rattle.fault_steps.specs.Records.{fault_of}

-- a run of stores from place k on
module _ {A : Type 0} (d : A) where
  -- what stands before it is kept
  below : (vs ys : List A) (k j : ℕ) → j < k → get_or (sets ys k vs) j d ≡ get_or ys j d
  below [] ys k j h = refl
  below (v ∷ vs) ys k j h = below vs (set ys k v) (suc k) j (omega arith) ∙ get_or-set_other ys k j v d (λ e. omega arith)

  -- and what stands after it
  above : (vs ys : List A) (k j : ℕ) → k + length vs ≤ j → get_or (sets ys k vs) j d ≡ get_or ys j d
  above [] ys k j h = refl
  above (v ∷ vs) ys k j h = above vs (set ys k v) (suc k) j (omega arith) ∙ get_or-set_other ys k j v d (λ e. omega arith)

  at : (vs ys : List A) (k i : ℕ) → i < length vs → k + i < length ys → get_or (sets ys k vs) (k + i) d ≡ get_or vs i d
  at [] ys k i h l = absurd (not-suc-le-zero h)
  at (v ∷ vs) ys k zero h l =
      let z : k + 0 ≡ k = omega arith in
      ap (λ (j : ℕ). get_or (sets (set ys k v) (suc k) vs) j d) z ∙ below vs (set ys k v) (suc k) k (omega arith) ∙ get_or-set_same ys k v d (omega arith)
  at (v ∷ vs) ys k (suc i) h l =
      let z : k + suc i ≡ suc k + i = omega arith in
      ap (λ (j : ℕ). get_or (sets (set ys k v) (suc k) vs) j d) z ∙ at vs (set ys k v) (suc k) i (omega arith) (omega (arith, length-set ys k v))

module _ (bs : List Break) (ys : List Fault) where
  pub recorded_length : length (sets ys 0 (map fault_of bs)) ≡ length ys
  recorded_length = length-sets ys 0 (map fault_of bs)

  -- break i stands in record i, where that is there
  pub recorded_at : (i : ℕ) → i < length bs → i < length ys → get_or (sets ys 0 (map fault_of bs)) i (fault_of (break_at 0 0 0)) ≡ fault_of (get_or bs i (break_at 0 0 0))
  recorded_at i h l =
      let z : 0 + i ≡ i = omega arith in
      ap (λ (j : ℕ). get_or (sets ys 0 (map fault_of bs)) j (fault_of (break_at 0 0 0))) (sym z)
      ∙ at (fault_of (break_at 0 0 0)) (map fault_of bs) ys 0 i (omega (arith, length-map bs fault_of)) (omega arith) ∙ get_or-map fault_of bs i (break_at 0 0 0)

  -- a record past the last break is as it was
  pub recorded_above : (d : Fault) (i : ℕ) → length bs ≤ i → get_or (sets ys 0 (map fault_of bs)) i d ≡ get_or ys i d
  recorded_above d i h = above d (map fault_of bs) ys 0 i (omega (arith, length-map bs fault_of))
