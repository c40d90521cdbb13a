-- The promises of the judging call over places, from what it ensures; and what any list of breaks leaves in the lent places. Assumes nothing.
use mathlib.Core.Path.{◌≡◌, refl, sym, ap, subst, ◌∙◌}
use mathlib.Core.Bool.{Bool, true, false}
use mathlib.Core.List.{List, [], ◌∷◌, map}
use mathlib.Core.Logic.{◌⊎◌, ⊎_elim}
use Prim.Native.Nat.{ℕ, suc, ◌+◌, ◌*◌, ◌/◌, ◌≤◌, ◌<◌}
use native.Mathlib.Omega.{arith}
use lib.Dec.{leb, ltb}
use lib.ListN.{length, get_or}
use borrow.Author.Tests.{le-ltb, lt-ltb, leb-true, leb-false, ltb-true, ltb-false}
use Rattle.numbers.specs.Numbers.{TOO_LONG}
use Rattle.text_bytes.specs.Bytes.{Bytes}
use Rattle.text.specs.Lines.{LIMIT}
use Rattle.book.specs.Book.{up_from}
use Rattle.rules.specs.Breaks.{Break, break_at}
use Rattle.rules.specs.Rules.{breaks}
use Rattle.rules.proofs.Laws.Promises.{breaks_reported, accepted_whole, whole_accepted, length_none}
use Rattle.scan.specs.Places.{Written, lent, put_all}
use Rattle.scan.proofs.Laws.Putting.{put_count}
use Rattle.scan.proofs.Laws.Placing.{placed_length, placed_at, placed_above, placed_short}
use Rattle.judged.specs.Judged.{Outcome, outcome, ended, judged}
use Rattle.judged.specs.Promised.{Refused, HasPlaces, Lists, Promised, read_at, read_all}

-- WHAT IS REFUSED, by any number
pub refused_lists : {w n k : ℕ} {ys zs : List ℕ} → outcome n k zs ≡ outcome w 0 ys → Refused w ys n k zs
refused_lists e = record { number = ap (λ (x : Outcome). x.number) e; count = ap (λ (x : Outcome). x.count) e; untouched = ap (λ (x : Outcome). x.places) e }

-- ANY BREAKS IN THE LENT PLACES
module _ (bs : List Break) (ys : List ℕ) {n k : ℕ} {zs : List ℕ} (call : outcome n k zs ≡ ended (put_all (lent ys 0) bs)) where
  many : k ≡ length bs
  many = ap (λ (x : Outcome). x.count) call ∙ put_count bs (lent ys 0) ∙ omega arith

  places : zs ≡ (put_all (lent ys 0) bs).places
  places = ap (λ (x : Outcome). x.places) call

  -- a place that is none of a written break's
  kept : (j : ℕ) → ((i : ℕ) → HasPlaces k ys i → (j < 4 * i) ⊎ (4 * i + 4 ≤ j)) → get_or zs j 0 ≡ get_or ys j 0
  kept j out = ap (λ (l : List ℕ). get_or l j 0) places ∙ go (ltb (j / 4) k) refl (leb (4 * (j / 4) + 4) (length ys)) refl
    where
      go : (s : Bool) → ltb (j / 4) k ≡ s → (t : Bool) → leb (4 * (j / 4) + 4) (length ys) ≡ t → get_or (put_all (lent ys 0) bs).places j 0 ≡ get_or ys j 0
      go true a true b =
          ⊎_elim
          (λ (q : j < 4 * (j / 4)). absurd (omega arith))
          (λ (q : 4 * (j / 4) + 4 ≤ j). absurd (omega arith))
          (out (j / 4) (ltb-true (j / 4) k a, leb-true (4 * (j / 4) + 4) (length ys) b))
      go true a false b = placed_short bs ys 0 (j / 4) j (leb-false (4 * (j / 4) + 4) (length ys) b) (omega arith)
      go false a t b = placed_above bs ys 0 j (omega (arith, ltb-false (j / 4) k a, many))

  pub put_lists : Lists bs ys n k zs
  put_lists =
      record {
        number = ap (λ (x : Outcome). x.number) call;
        count = many;
        long = ap length places ∙ placed_length bs ys 0;
        stands = λ i f. let z : 0 + i ≡ i = omega arith in rw places (subst (λ (j : ℕ). Written (put_all (lent ys 0) bs).places (4 * j) (get_or bs i (break_at 0 0 0))) z (placed_at bs ys 0 i (omega (arith, f.0, many)) (omega (arith, f.1))));
        untouched = kept;
      }

-- what is written is what a host reads
read_from : (zs : List ℕ) (bs : List Break) (i : ℕ) → ((j : ℕ) → j < length bs → Written zs (4 * (i + j)) (get_or bs j (break_at 0 0 0))) → map (read_at zs) (up_from (length bs) i) ≡ bs
unfolding up_from
read_from zs [] i h = refl
read_from zs (b ∷ bs) i h =
    let w : Written zs (4 * i) b = let z : i + 0 ≡ i = omega arith in subst (λ (j : ℕ). Written zs (4 * j) b) z (h 0 (omega arith)) in
    let rest = read_from zs bs (suc i) (λ j lt. let z : i + suc j ≡ suc i + j = omega arith in subst (λ (m : ℕ). Written zs (4 * m) (get_or bs j (break_at 0 0 0))) z (h (suc j) (omega arith))) in
    rw (w.rule, w.line, w.cell, w.first, rest)

-- where all breaks fit, a host reads them all
pub lists_read : {bs : List Break} {ys zs : List ℕ} {n k : ℕ} → Lists bs ys n k zs → 4 * k ≤ length ys → read_all k zs ≡ bs
lists_read {bs} {ys} {zs} {n} {k} l room =
    rw l.count
    (read_from zs bs 0 (λ j lt. let z : j ≡ 0 + j = omega arith in subst (λ (m : ℕ). Written zs (4 * m) (get_or bs j (break_at 0 0 0))) z (l.stands j (omega (arith, l.count), omega (arith, l.count)))))

module _ (file : Bytes) (ys : List ℕ) {n k : ℕ} {zs : List ℕ} (call : outcome n k zs ≡ judged file ys) where
  -- A FILE OVER THE LIMIT
  pub judge_places_refused : LIMIT < length file → Refused TOO_LONG ys n k zs
  unfolding judged
  judge_places_refused h = refused_lists (rw (lt-ltb LIMIT (length file) h) at call)

  -- A FILE WITHIN IT
  module _ (limit : length file ≤ LIMIT) where
    whole : outcome n k zs ≡ ended (put_all (lent ys 0) (breaks file))
    unfolding judged
    whole = rw (le-ltb LIMIT (length file) limit) at call

    pub judge_places_lists : Lists (breaks file) ys n k zs
    judge_places_lists = put_lists (breaks file) ys whole

    pub judge_places_promised : Promised file (breaks file) ys n k zs
    judge_places_promised =
        let l = judge_places_lists in
        record {
          reports = breaks_reported file;
          lists = l;
          none_broken = λ z a c r f h. accepted_whole file (length_none (breaks file) (sym l.count ∙ z)) h;
          accepted = λ h. l.count ∙ ap length (whole_accepted file h);
        }

-- the count of the judging call is that of all breaks, whatever the list
pub judged_count : (file : Bytes) (ys : List ℕ) {zs : List ℕ} {n k : ℕ} → length file ≤ LIMIT → outcome n k zs ≡ judged file ys → k ≡ length (breaks file)
judged_count file ys fits e = (judge_places_lists file ys e fits).count
