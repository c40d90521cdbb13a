-- Numbers in bytes, the lowest first, in any width: written byte by byte from below, read byte by byte from above, and each undoes the other. Assumes nothing.
use mathlib.Core.Path.{◌≡◌, refl, sym, ap, ◌∙◌}
use mathlib.Core.List.{[], ◌∷◌, ◌++◌, append_assoc, append-nil, reverse}
use Prim.Native.Nat.{ℕ, zero, suc, ◌+◌, ◌-◌, ◌*◌, ◌/◌, ◌%◌, ◌^◌, ◌≤◌, ◌<◌}
use native.Mathlib.Nat.{pow-succ', mod-add-div, pow-le-pow_right}
use native.Mathlib.Numerals.{add-one}
use native.Mathlib.Omega.{arith}
use lib.ListN.{length, take, drop, get_or, set, length-drop, take-append-drop}
use lib.Seq.{take-suc-set, take_all, drop-cons, drop-length, length-take-le, take_at, drop_at, drop-drop, get_or-drop}
use Rattle.std.proofs.lemmas.List.{length-reverse, get_or-reverse, get_or_read}
use Rattle.text_bytes.specs.Bytes.{Bytes}
use Rattle.text_bytes.specs.Places.{part}
use Rattle.tally_records.specs.Records.{little, number_in}
use Rattle.tally_records.specs.Promised.{AreBytes}

pub length_little : (w n : ℕ) → length (little w n) ≡ w
unfolding little
length_little zero n = refl
length_little (suc w) n = ap suc (length_little w (n / 256))

-- WRITTEN: i low bytes of a number stand, and what is left of it goes behind them

pub little_next : (i w n : ℕ) (bs : Bytes) → i < length bs → w ≡ length bs → take (i + 1) (set bs i (n % 256)) ++ little (w - (i + 1)) (n / 256) ≡ take i bs ++ little (w - i) n
unfolding little
little_next i w n bs h l =
    let e : w - i ≡ suc (w - (i + 1)) = omega arith in
    let t : take (i + 1) (set bs i (n % 256)) ≡ take i bs ++ (n % 256 ∷ []) = rw add-one (take-suc-set bs i (n % 256) h) in
    rw (e, t) (append_assoc (take i bs) (n % 256 ∷ []) (little (w - (i + 1)) (n / 256)))

pub little_done : (i w n : ℕ) (bs : Bytes) → w ≤ i → length bs ≤ i → bs ≡ take i bs ++ little (w - i) n
unfolding little
little_done i w n bs h l =
    let e : w - i ≡ 0 = omega arith in
    rw (e, take_all i bs l) (sym (append-nil bs))

-- READ, from the highest byte down: n is the number in the bytes from i on, and fits in as many
pub record Reads (bs : Bytes) (i n : ℕ) : Type 0 where
  pub within : i ≤ length bs
  pub fits : n < 256 ^ (length bs - i)
  pub number : n ≡ number_in (drop i bs)

pub reads_start : (bs : Bytes) (i : ℕ) → i ≡ length bs → Reads bs i 0
unfolding number_in
reads_start bs i e =
    let z : length bs - i ≡ 0 = omega arith in
    record { within = omega arith; fits = rw z (omega arith); number = rw (e, drop-length bs) }

-- the byte at the front, and the number behind it
number_step : (bs : Bytes) (i : ℕ) → i < length bs → number_in (drop i bs) ≡ number_in (drop (i + 1) bs) * 256 + get_or bs i 0
unfolding number_in
number_step bs i h =
    let e : drop i bs ≡ get_or bs i 0 ∷ drop (i + 1) bs = rw (add-one, drop-cons bs i 0) in
    rw e (omega arith)

-- the byte below comes in
pub reads_next : {bs : Bytes} {i j n b : ℕ} → Reads bs i n → j + 1 ≡ i → b ≡ get_or bs j 0 → b < 256 → Reads bs j (n * 256 + b)
reads_next {bs} {i} {j} {n} {b} r e q l =
    let k : length bs - j ≡ suc (length bs - i) = omega (arith, r.within) in
    record {
      within = omega (arith, r.within);
      fits = rw (k, pow-succ' 256 (length bs - i)) (omega (arith, r.fits));
      number = rw (r.number, ← e, q) (sym (number_step bs j (omega (arith, r.within))));
    }

-- byte number k from the end
pub byte_at : (bs : Bytes) (k b : ℕ) → (k < length (reverse bs)) × (b ≡ get_or (reverse bs) k b) → (k < length bs) × (b ≡ get_or bs (length bs - 1 - k) 0)
byte_at bs k b t =
    let h : k < length bs = omega (arith, t.0, length-reverse bs) in
    (h, get_or_read bs (length bs - 1 - k) b (omega arith) (t.1 ∙ get_or-reverse bs k b h) 0)

pub reads_turn : {bs : Bytes} {k m n b : ℕ} → Reads bs (length bs - k) n → m ≡ k + 1 → k < length bs → b ≡ get_or bs (length bs - 1 - k) 0 → get_or bs (length bs - 1 - k) 0 < 256
    → Reads bs (length bs - m) (n * 256 + b)
reads_turn {bs} {k} {m} {n} {b} r e h q l =
    let f : length bs - 1 - k ≡ length bs - m = omega arith in
    reads_next r (omega arith) (rw f at q) (omega (arith, q))

-- there is room for it
pub reads_room : {bs : Bytes} {i n : ℕ} → Reads bs i n → 0 < i → length bs ≤ 8 → n < 2 ^ 56
reads_room {bs} {i} r h k = omega (arith, r.fits, pow-le-pow_right {n = 256} (omega arith) {i = length bs - i} {j = 7} (omega arith))

pub reads_end : {bs : Bytes} {i n : ℕ} → Reads bs i n → i ≡ 0 → n ≡ number_in bs
reads_end r z = r.number ∙ rw z

-- EACH UNDOES THE OTHER

-- a number that has room in w bytes is read from them again
pub number_little : (w n : ℕ) → n < 256 ^ w → number_in (little w n) ≡ n
unfolding little number_in
number_little zero n h = omega arith
number_little (suc w) n h = rw (number_little w (n / 256) (omega (arith, pow-succ' 256 w))) (mod-add-div n 256)

-- bytes are written again as the number in them
pub little_number : (bs : Bytes) → AreBytes bs → little (length bs) (number_in bs) ≡ bs
unfolding little number_in
little_number [] h = refl
little_number (b ∷ bs) h =
    let m : (b + 256 * number_in bs) % 256 ≡ b = omega (arith, h 0) in
    let d : (b + 256 * number_in bs) / 256 ≡ number_in bs = omega (arith, h 0) in
    rw (m, d, little_number bs (λ i. h (suc i)))

-- PARTS OF BYTES

-- a part that stands behind others
pub part_behind : (p q r : Bytes) (at w : ℕ) → length p ≡ at → length q ≡ w → part at (at + w) (p ++ (q ++ r)) ≡ q
part_behind p q r at w e f =
    let g : at + w - at ≡ w = omega arith in
    rw (g, drop_at p (q ++ r) at e) (take_at q r w f)

-- a part, and what comes after it
pub part_rest : (bs : Bytes) (at w : ℕ) → part at (at + w) bs ++ drop (at + w) bs ≡ drop at bs
part_rest bs at w =
    let g : at + w - at ≡ w = omega arith in
    rw (g, ← (drop-drop w at bs)) (take-append-drop w (drop at bs))

take_bytes : (n : ℕ) (bs : Bytes) → AreBytes bs → AreBytes (take n bs)
take_bytes zero bs h i = omega arith
take_bytes (suc n) [] h i = omega arith
take_bytes (suc n) (b ∷ bs) h zero = h 0
take_bytes (suc n) (b ∷ bs) h (suc i) = take_bytes n bs (λ j. h (suc j)) i

-- a part is written again as the number in it
pub part_little : (bs : Bytes) (at w : ℕ) → AreBytes bs → at + w ≤ length bs → little w (number_in (part at (at + w) bs)) ≡ part at (at + w) bs
part_little bs at w h k =
    let g : at + w - at ≡ w = omega arith in
    let l : length (take w (drop at bs)) ≡ w = length-take-le w (drop at bs) (omega (arith, length-drop at bs)) in
    let d : AreBytes (drop at bs) = λ i. rw (get_or-drop at bs i 0) (h (at + i)) in
    rw g (rw l at (little_number (take w (drop at bs)) (take_bytes w (drop at bs) d)))
