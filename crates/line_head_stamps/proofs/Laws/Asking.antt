-- The hash of a name, the codes of its bytes, and its sides at forks. Assumes nothing.
use mathlib.Core.Path.{◌≡◌, refl, sym, ap, ◌∙◌}
use mathlib.Core.Bool.{Bool, true, false, not, ◌&&◌}
use mathlib.Core.List.{[], ◌∷◌}
use Prim.Native.Nat.{ℕ, zero, suc, ◌+◌, ◌*◌, ◌/◌, ◌%◌, ◌^◌, ◌≤◌, ◌<◌}
use native.Mathlib.Nat.{mod-lt, not-suc-le-zero, le_of_suc-le-suc}
use native.Mathlib.Omega.{arith}
use lib.Dec.{eqb, ltb}
use lib.ListN.{length, drop, get_or, drop_of_length-le}
use borrow.Author.Tests.{eqb-true, eq-eqb, ltb-true, ltb-false, not-true, not-false}
use denote.Bor.{Bor}
use Rattle.std.specs.Prelude.{Option, Some, None}
use Rattle.std.specs.Option.{option_eq}
use Rattle.std.specs.Slice.{IsItemAt}
use Rattle.text_bytes.specs.Bytes.{Bytes, same}
use Rattle.text_bytes.proofs.Laws.Pieces.{drop_step}
use Rattle.text_bytes.proofs.Laws.Same.{same_equal, same_end}
use Rattle.text_bytes.proofs.Laws.Tests.{and_both, absurd_bool}
use Rattle.line_head_stamps.specs.Stamps.{DOORS, hash_from, hash_of, byte_code, side_of}
use Rattle.line_head_stamps.specs.Ways.{PartsAt}

-- THE HASH

-- a byte more
pub hash_next : (name : Bytes) (i h : ℕ) → i < length name → hash_from h (drop i name) ≡ hash_from ((h * 33 + get_or name i 0) % 65536) (drop (i + 1) name)
unfolding hash_from
hash_next name i h l = rw (drop_step name i l)

pub hash_end : (name : Bytes) (i h : ℕ) → length name ≤ i → hash_from h (drop i name) ≡ h
unfolding hash_from
hash_end name i h l = rw (drop_of_length-le name l)

pub hash_below : (name : Bytes) → hash_of name < DOORS
unfolding hash_of
hash_below name = mod-lt (hash_from 0 name) (omega arith)

-- CODES

pub code_here : (name : Bytes) (place : ℕ) → place < length name → byte_code name place ≡ get_or name place 0 + 1
unfolding byte_code
code_here [] place l = absurd (not-suc-le-zero l)
code_here (x ∷ xs) zero l = refl
code_here (x ∷ xs) (suc place) l = code_here xs place (le_of_suc-le-suc l)

pub code_past : (name : Bytes) (place : ℕ) → length name ≤ place → byte_code name place ≡ 0
unfolding byte_code
code_past [] place l = refl
code_past (x ∷ xs) zero l = absurd (not-suc-le-zero l)
code_past (x ∷ xs) (suc place) l = code_past xs place (le_of_suc-le-suc l)

-- what is read at a place, or nothing past the end
module _ (name : Bytes) (place : ℕ) where
  read_here : (x : Bor ℕ) → IsItemAt name place (Some x) → (place < length name) × (x.now ≡ get_or name place 0)
  read_here x h = (ltb-true place (length name) (sym h.0), h.4 (omega arith) 0)

  pub code_read : (x : Bor ℕ) → IsItemAt name place (Some x) → x.now + 1 ≡ byte_code name place
  code_read x h = let r = read_here x h in ap (λ (b : ℕ). b + 1) r.1 ∙ sym (code_here name place r.0)

  pub code_none : IsItemAt name place None → 0 ≡ byte_code name place
  code_none h = sym (code_past name place (ltb-false place (length name) (sym h.0)))

  -- and whether it is a byte
  pub read_same : (r : Option (Bor ℕ)) (w : Bor ℕ) → IsItemAt name place r → not (option_eq (λ (x y : Bor ℕ). eqb x.now y.now) r (Some w)) ≡ false → (place < length name) × (w.now ≡ get_or name place 0)
  read_same None w h e = absurd_bool (sym e)
  read_same (Some x) w h e =
      let r = read_here x h in
      (r.0, sym (eqb-true x.now w.now (not-false (eqb x.now w.now) e)) ∙ r.1)

  pub read_other : (r : Option (Bor ℕ)) (w : Bor ℕ) → IsItemAt name place r → not (option_eq (λ (x y : Bor ℕ). eqb x.now y.now) r (Some w)) ≡ true → w.now + 1 ≡ byte_code name place → ⊥
  read_other None w h e q = omega (arith, q, code_none h)
  read_other (Some x) w h e q =
      let same : x.now ≡ w.now = omega (arith, q, code_read x h) in
      absurd_bool (sym (rw (eq-eqb x.now w.now same) at (not-true (eqb x.now w.now) e)))

-- PARTED: at a place within the first name, where the codes differ
pub parts_before : (a b : Bytes) (i : ℕ) → i < length a → (byte_code a i ≡ byte_code b i → ⊥) → PartsAt a b i
parts_before a b i l differ = record { within = omega arith; equal = λ e. absurd (omega (arith, e)); ended = λ e. absurd (differ e) }

-- or at its end, where the second ends too or goes on
pub parts_end : (a b : Bytes) (i : ℕ) → length a ≤ i → i ≤ length a → i ≤ length b → same (drop i a) (drop i b) ≡ same a b → PartsAt a b i
parts_end a b i l m h left =
    record {
      within = m;
      equal = λ p q. same_equal a b (sym left ∙ same_end a b i l (omega (arith, q)));
      ended = λ e. (omega arith, go e (ltb i (length b)) refl);
    }
  where
    go : byte_code a i ≡ byte_code b i → (t : Bool) → ltb i (length b) ≡ t → i ≡ length b
    go e true q = absurd (omega (arith, e, code_past a i l, code_here b i (ltb-true i (length b) q)))
    go e false q = omega (arith, ltb-false i (length b) q)

-- the end of both
pub both_ended : (place m n : ℕ) → (eqb place m && eqb place n) ≡ true → (place ≡ m) × (place ≡ n)
both_ended place m n e = let b = and_both (eqb place m) (eqb place n) e in (eqb-true place m b.0, eqb-true place n b.1)

pub ended_both : (place m n : ℕ) → (eqb place m && eqb place n) ≡ false → place ≡ m → place ≡ n → ⊥
ended_both place m n e p q = absurd_bool (sym (rw (eq-eqb place m p, eq-eqb place n q) at e))

-- SIDES

pub side_below : (ask : ℕ) (name : Bytes) → side_of ask name < 16
unfolding side_of
side_below ask name = mod-lt (byte_code name (ask / 16) / 2 ^ (ask % 16)) (omega arith)

side_at : (place shift : ℕ) (name : Bytes) → shift < 16 → side_of (16 * place + shift) name ≡ byte_code name place / 2 ^ shift % 16
unfolding side_of
side_at place shift name l =
    let p : (16 * place + shift) / 16 ≡ place = omega arith in
    let s : (16 * place + shift) % 16 ≡ shift = omega arith in
    rw (p, s)

-- where four bits decide whether the codes at a place are equal, and these are not, the sides part two names
pub side_parts : (a b : Bytes) (place shift x y : ℕ) → shift ≤ 8 → x ≡ byte_code a place → y ≡ byte_code b place → (x / 2 ^ shift % 16 ≡ y / 2 ^ shift % 16 → x ≡ y)
    → (x ≡ y → ⊥) → side_of (16 * place + shift) a ≡ side_of (16 * place + shift) b → ⊥
side_parts a b place shift x y l p q f differ e =
    let few : shift < 16 = omega arith in
    differ (f (rw (p, q) (sym (side_at place shift a few) ∙ e ∙ side_at place shift b few)))
