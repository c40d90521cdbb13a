-- Numbers of eight bytes, one behind the other: how long they are, where each stands, and that what is written is read, and the other way round. Assumes nothing.
use mathlib.Core.Path.{◌≡◌, refl, sym, ap, ◌∙◌}
use mathlib.Core.Bool.{false}
use mathlib.Core.List.{List, [], ◌∷◌, ◌++◌, append_assoc, append-nil}
use Prim.Native.Nat.{ℕ, zero, suc, ◌+◌, ◌-◌, ◌*◌, ◌^◌, ◌<◌}
use native.Mathlib.Omega.{arith}
use borrow.Author.Count.{below_more}
use lib.Seq.{get_or-set_same, get_or-set_other}
use lib.ListN.{length, get_or, set, drop, length-append, drop_of_length-le}
use borrow.Author.Tests.{leb-false}
use Rattle.text_bytes.specs.Bytes.{Bytes, any}
use Rattle.text_bytes.specs.Places.{part}
use Rattle.text_bytes.proofs.Laws.Tests.{or_none}
use Rattle.tally.specs.Tally.{is_past}
use Rattle.tally_records.specs.Records.{little, number_in, in_eights, eights_from}
use Rattle.tally_records.specs.Promised.{AreBytes}
use Rattle.tally_records.proofs.Laws.Little.{length_little, number_little, part_behind, part_rest, part_little}

pub length_eights : (ns : List ℕ) → length (in_eights ns) ≡ 8 * length ns
unfolding in_eights
length_eights [] = refl
length_eights (n ∷ ns) = omega (arith, length-append (little 8 n) (in_eights ns), length_little 8 n, length_eights ns)

-- one number more
pub eights_snoc : (ns : List ℕ) (n : ℕ) → in_eights ns ++ little 8 n ≡ in_eights (ns ++ (n ∷ []))
unfolding in_eights
eights_snoc [] n = sym (append-nil (little 8 n))
eights_snoc (m ∷ ns) n = append_assoc (little 8 m) (in_eights ns) (little 8 n) ∙ ap (λ (l : Bytes). little 8 m ++ l) (eights_snoc ns n)

-- number i of those from a place on
pub eights_at : (k at i : ℕ) (bs : Bytes) → i < k → get_or (eights_from k at bs) i 0 ≡ number_in (part (at + 8 * i) (at + 8 * i + 8) bs)
unfolding eights_from
eights_at zero at i bs h = absurd (omega arith)
eights_at (suc k) at zero bs h = let e : at + 8 * 0 ≡ at = omega arith in rw e
eights_at (suc k) at (suc i) bs h = let e : at + 8 * suc i ≡ at + 8 + 8 * i = omega arith in rw e (eights_at k (at + 8) i bs (omega arith))

pub eights_length : (k at : ℕ) (bs : Bytes) → length (eights_from k at bs) ≡ k
unfolding eights_from
eights_length zero at bs = refl
eights_length (suc k) at bs = ap suc (eights_length k (at + 8) bs)

-- one more of them is read
pub eights_next : (ts es : List ℕ) (i : ℕ) {v : ℕ} → i < length ts → v ≡ get_or es i 0 → ((k : ℕ) → k < i → get_or ts k 0 ≡ get_or es k 0)
    → (k : ℕ) → k < i + 1 → get_or (set ts i v) k 0 ≡ get_or es k 0
eights_next ts es i {v} h e f =
    below_more (λ (k : ℕ). get_or (set ts i v) k 0 ≡ get_or es k 0) i
    (λ k l. let ne : k ≡ i → ⊥ = λ q. omega arith in get_or-set_other ts i k v 0 ne ∙ f k l) (get_or-set_same ts i v 0 h ∙ e)

-- WHAT IS WRITTEN IS READ, and what is read is written again

pub eights_read : (ns : List ℕ) (p : Bytes) (at : ℕ) → any is_past ns ≡ false → length p ≡ at → eights_from (length ns) at (p ++ in_eights ns) ≡ ns
unfolding in_eights eights_from any
eights_read [] p at h e = refl
eights_read (n ∷ ns) p at h e =
    let lt : n < 256 ^ 8 = leb-false (2 ^ 64) n (or_none (is_past n) (any is_past ns) h).0 in
    let m : length (p ++ little 8 n) ≡ at + 8 = omega (arith, length-append p (little 8 n), length_little 8 n) in
    let rest = rw (append_assoc p (little 8 n) (in_eights ns)) at (eights_read ns (p ++ little 8 n) (at + 8) (or_none (is_past n) (any is_past ns) h).1 m) in
    rw (part_behind p (little 8 n) (in_eights ns) at 8 e (length_little 8 n), number_little 8 n lt, rest)

pub eights_written : (k at : ℕ) (bs : Bytes) → AreBytes bs → at + 8 * k ≡ length bs → in_eights (eights_from k at bs) ≡ drop at bs
unfolding in_eights eights_from
eights_written zero at bs h e = sym (drop_of_length-le bs {i = at} (omega arith))
eights_written (suc k) at bs h e = rw (part_little bs at 8 h (omega arith), eights_written k (at + 8) bs h (omega arith)) (part_rest bs at 8)
