-- What is written: pieces put into a buffer, one behind the other, the totals among them, and the whole record. Assumes nothing.
use mathlib.Core.Path.{◌≡◌, sym, ap, ◌∙◌}
use mathlib.Core.List.{List, [], ◌∷◌, ◌++◌, append_assoc}
use Prim.Native.Nat.{ℕ, ◌+◌, ◌-◌, ◌*◌, ◌≤◌, ◌<◌}
use native.Mathlib.Omega.{arith}
use borrow.Rule.Slice.PartMut.{put_mid, Post-is}
use Rattle.std.proofs.lemmas.List.{take_more}
use lib.ListN.{length, take, drop, get_or, take-append-drop, length-append, length-drop}
use lib.Seq.{length-take-le, take_all, take_at, drop-append-add, drop-drop}
use borrow.Author.Tests.{lt-ltb, le-ltb}
use Rattle.numbers.specs.Numbers.{NO_ROOM}
use Rattle.text_bytes.specs.Bytes.{Bytes}
use Rattle.tally.specs.declared.Tally.{Tally}
use Rattle.tally.specs.Tally.{totals}
use Rattle.tally_records.specs.Records.{RECORD, REST, KIND, little, in_eights, record_of, outcome, written}
use Rattle.tally_records.proofs.Laws.Little.{length_little}
use Rattle.tally_records.proofs.Laws.Eights.{length_eights, eights_snoc}

-- PIECES: from place `at` up to place `to` stand the bytes ps, all else is as it was in bs
pub record Stand (at to : ℕ) (ps bs xs : Bytes) : Type 0 where
  pub long : at + length ps ≡ to
  pub room : to ≤ length bs
  pub are : xs ≡ take at bs ++ (ps ++ drop to bs)

pub stand_none : (at : ℕ) (bs : Bytes) → at ≤ length bs → Stand at at [] bs bs
stand_none at bs h = record { long = omega arith; room = h; are = sym (take-append-drop at bs) }

-- what is behind the pieces is as it was
past : (p bs : Bytes) (mid to : ℕ) → length p ≡ mid → mid ≤ to → drop to (p ++ drop mid bs) ≡ drop to bs
past p bs mid to e h =
    let f : to ≡ length p + (to - mid) = omega arith in
    let g : mid + (to - mid) ≡ to = omega arith in
    ap (λ (k : ℕ). drop k (p ++ drop mid bs)) f ∙ drop-append-add p (drop mid bs) (to - mid) ∙ drop-drop (to - mid) mid bs ∙ ap (λ (k : ℕ). drop k bs) g

-- one piece more
pub stand_more : {at mid to : ℕ} {ps bs xs ys : Bytes} (qs : Bytes) → Stand at mid ps bs xs → mid + length qs ≡ to → to ≤ length bs → ys ≡ take mid xs ++ (qs ++ drop to xs)
    → Stand at to (ps ++ qs) bs ys
stand_more {at} {mid} {to} {ps} {bs} qs s e h put =
    let p : Bytes = take at bs ++ ps in
    let l : length p ≡ mid = omega (arith, length-append (take at bs) ps, length-take-le at bs (omega (arith, s.long, s.room)), s.long) in
    let w = s.are ∙ sym (append_assoc (take at bs) ps (drop mid bs)) in
    record {
      long = omega (arith, length-append ps qs, s.long);
      room = h;
      are = put ∙ rw (w, take_at p (drop mid bs) mid l, past p bs mid to l (omega arith)) (simp append_assoc);
    }

-- a number put into a part of the buffer
pub put_at : (at w n : ℕ) (xs ys : Bytes) → at + w ≤ length xs → ys ≡ little (length (take (at + w - at) (drop at xs))) n
    → put_mid at (at + w - at) xs ys ≡ take at xs ++ (little w n ++ drop (at + w) xs)
put_at at w n xs ys h e =
    let k : at + w - at ≡ w = omega arith in
    let l : length (take (at + w - at) (drop at xs)) ≡ w = rw k (length-take-le w (drop at xs) (omega (arith, length-drop at xs))) in
    let q : ys ≡ little w n = e ∙ ap (λ (m : ℕ). little m n) l in
    ap (λ (z : Bytes). take at xs ++ (ys ++ z)) (Post-is at (at + w) xs (omega arith)) ∙ ap (λ (z : Bytes). take at xs ++ (z ++ drop (at + w) xs)) q

-- TOTALS: so many of them stand from place 6 on
pub record Totals (ns : List ℕ) (bs xs : Bytes) : Type 0 where
  pub room : RECORD ≤ length bs
  pub stand : Stand 6 (6 + 8 * length ns) (in_eights ns) bs xs

pub totals_none : (bs : Bytes) → RECORD ≤ length bs → Totals [] bs bs
unfolding in_eights
totals_none bs h = record { room = h; stand = stand_none 6 bs (omega arith) }

-- one total more
pub totals_more : (n : ℕ) {ns : List ℕ} {bs xs ys : Bytes} → Totals ns bs xs → length ns < 8
    → ys ≡ take (6 + 8 * length ns) xs ++ (little 8 n ++ drop (6 + 8 * length ns + 8) xs) → Totals (ns ++ (n ∷ [])) bs ys
totals_more n {ns} {bs} s h put =
    let e : 6 + 8 * length (ns ++ (n ∷ [])) ≡ 6 + 8 * length ns + 8 = omega (arith, length-append ns (n ∷ [])) in
    record {
      room = s.room;
      stand = rw (e, ← (eights_snoc ns n)) (stand_more (little 8 n) s.stand (omega (arith, length_little 8 n)) (omega (arith, s.room)) put);
    }

-- the same of a list of totals
pub totals_next : (ts : List ℕ) {bs xs ys : Bytes} (i : ℕ) → length ts ≡ 8 → i < 8 → length xs ≡ length bs → Totals (take i ts) bs xs
    → ys ≡ little (length (take (6 + 8 * i + 8 - (6 + 8 * i)) (drop (6 + 8 * i) xs))) (get_or ts i 0)
    → Totals (take (i + 1) ts) bs (put_mid (6 + 8 * i) (6 + 8 * i + 8 - (6 + 8 * i)) xs ys)
totals_next ts {bs} {xs} {ys} i e h q s put =
    let l : length (take i ts) ≡ i = length-take-le i ts (omega arith) in
    let p = put_at (6 + 8 * i) 8 (get_or ts i 0) xs ys (omega (arith, s.room)) put in
    rw (take_more ts i 0 (omega arith)) (totals_more (get_or ts i 0) s (omega arith) (rw l p))

pub totals_end : (t : Tally) (i : ℕ) {ts : List ℕ} {bs xs : Bytes} → 8 ≤ i → ts ≡ totals t → Totals (take i ts) bs xs → xs ≡ take 6 bs ++ (in_eights (totals t) ++ drop RECORD bs)
totals_end t i {ts} h q s = let e : take i ts ≡ totals t = take_all i ts (omega (arith, ap length q)) ∙ q in (rw e at s).stand.are

-- THE RECORD: the length of the rest, the kind, and the totals
module _ (t : Tally) (bs : Bytes) where
  pub write_short : length bs < RECORD → outcome NO_ROOM 0 bs ≡ written t bs
  unfolding written
  write_short h = rw (lt-ltb (length bs) RECORD h)

  pub write_long : RECORD ≤ length bs → outcome 0 RECORD (record_of t ++ drop RECORD bs) ≡ written t bs
  unfolding written
  write_long h = rw (le-ltb (length bs) RECORD h)

  -- the three pieces of it, one behind the other
  pub write_whole : {y1 y2 zs : Bytes} → RECORD ≤ length bs → y1 ≡ little (length (take 4 bs)) REST → y2 ≡ little (length (take 2 (drop 4 (y1 ++ drop 4 bs)))) KIND
      → zs ≡ take 6 (put_mid 4 2 (y1 ++ drop 4 bs) y2) ++ (in_eights (totals t) ++ drop RECORD (put_mid 4 2 (y1 ++ drop 4 bs) y2)) → outcome 0 RECORD zs ≡ written t bs
  unfolding record_of
  write_whole {y1} {y2} h e1 e2 r =
      let front : length (take 4 bs) ≡ 4 = length-take-le 4 bs (omega arith) in
      let f : y1 ≡ little 4 REST = e1 ∙ ap (λ (m : ℕ). little m REST) front in
      let p : y1 ++ drop 4 bs ≡ take 0 bs ++ (little 4 REST ++ drop 4 bs) = ap (λ (z : Bytes). z ++ drop 4 bs) f in
      let long : length (y1 ++ drop 4 bs) ≡ length bs = omega (arith, length-append y1 (drop 4 bs), length-drop 4 bs, ap length f, length_little 4 REST) in
      let q = put_at 4 2 KIND (y1 ++ drop 4 bs) y2 (omega arith) e2 in
      let s1 = stand_more {to = 4} (little 4 REST) (stand_none 0 bs (omega arith)) (omega (arith, length_little 4 REST)) (omega arith) p in
      let s2 = stand_more {to = 6} (little 2 KIND) s1 (omega (arith, length_little 2 KIND)) (omega arith) q in
      let s3 = stand_more {to = RECORD} (in_eights (totals t)) s2 (omega (arith, length_eights (totals t))) h r in
      rw (s3.are, append_assoc (little 4 REST) (little 2 KIND) (in_eights (totals t))) (write_long h)
