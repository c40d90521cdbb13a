-- A part's breaks as records of the lent list. Assumes nothing.
use mathlib.Core.Path.{◌≡◌, refl, sym, ap, ◌∙◌}
use mathlib.Core.Bool.{Bool, true, false, cond}
use mathlib.Core.List.{List, [], ◌∷◌, ◌++◌, map, map-append}
use Prim.Native.Nat.{ℕ, zero, suc, ◌+◌, ◌-◌, ◌*◌, ◌≤◌, ◌<◌, min}
use native.Mathlib.Nat.{zero-min, min-zero, suc-min-suc}
use native.Mathlib.Omega.{arith}
use lib.Dec.{leb}
use lib.Seq.{sets, set_out, drop-drop, drop-cons, length-take-le}
use lib.ListN.{length, get_or, set, take, drop, length-set, length-map, length-drop, take-append-drop, drop_of_length-le}
use borrow.Author.Tests.{le-ltb, lt-ltb, leb-true, leb-false}
use Rattle.text_bytes.specs.Bytes.{Bytes}
use Rattle.text.specs.Lines.{LIMIT, lines}
use Rattle.rules.specs.Breaks.{Break, break_at}
use Rattle.rules.specs.Rules.{breaks_by, breaks}
use Rattle.scan.specs.Places.{Written, Lent, lent, put_all}
use Rattle.scan.proofs.Laws.Placing.{placed_at}
use Rattle.judging.specs.Parts.{put_so_far, Parts}
use Rattle.judging.specs.declared.parts.Stand.{Stand}
use Rattle.fault_steps.specs.declared.Fault.{Fault}
use Rattle.fault_steps.specs.declared.Progress.{Progress}
use Rattle.fault_steps.specs.Records.{fault_of}
use Rattle.fault_steps.specs.Steps.{record_at, records, reported, away}
use Rattle.book.specs.Book.{book_of}

-- A RUN OF STORES

module _ {A : Type 0} where
  -- past the end nothing is stored
  sets_out : (vs l : List A) (i : ℕ) → length l ≤ i → sets l i vs ≡ l
  sets_out [] l i h = refl
  sets_out (a ∷ vs) l i h = ap (λ (xs : List A). sets xs (suc i) vs) (set_out l i a h) ∙ sets_out vs l (suc i) (omega arith)

  sets_append : (xs zs l : List A) (i : ℕ) → sets l i (xs ++ zs) ≡ sets (sets l i xs) (i + length xs) zs
  sets_append [] zs l i = let z : i ≡ i + 0 = omega arith in ap (λ (k : ℕ). sets l k zs) z
  sets_append (a ∷ xs) zs l i = let z : suc i + length xs ≡ i + suc (length xs) = omega arith in sets_append xs zs (set l i a) (suc i) ∙ ap (λ (k : ℕ). sets (sets (set l i a) (suc i) xs) k zs) z

  sets_short : (vs l : List A) (i m : ℕ) → length l ≤ i + m → sets l i (take m vs) ≡ sets l i vs
  sets_short [] l i zero h = refl
  sets_short [] l i (suc m) h = refl
  sets_short (a ∷ vs) l i zero h = sym (sets_out (a ∷ vs) l i (omega arith))
  sets_short (a ∷ vs) l i (suc m) h = sets_short vs (set l i a) (suc i) m (omega (arith, length-set l i a))

  -- of a list that is stored from place T on, a list of `cap` takes what fits
  sets_clip : (vs l : List A) (T cap : ℕ) → length l ≡ cap → sets l (min T cap) (take (cap - min T cap) vs) ≡ sets l T vs
  sets_clip vs l T cap e = go (leb T cap) refl
    where
      go : (t : Bool) → leb T cap ≡ t → sets l (min T cap) (take (cap - min T cap) vs) ≡ sets l T vs
      go true h = let z : min T cap ≡ T = omega (arith, leb-true T cap h) in rw z (sets_short vs l T (cap - T) (omega arith))
      go false h =
          let far = leb-false T cap h in
          let z : min T cap ≡ cap = omega (arith, far) in
          let none : cap - min T cap ≡ 0 = omega (arith, far) in
          rw none (sym (sets_out vs l T (omega (arith, far))))

-- RECORDS IN PLACES

records_take : (ps : List ℕ) (j k m : ℕ) → records ps j (min k m) ≡ take m (records ps j k)
records_take ps j zero m = ap (records ps j) (zero-min m) ∙ none m
  where
    none : (m : ℕ) → [] ≡ take m (records ps j 0)
    none zero = refl
    none (suc m) = refl
records_take ps j (suc k) zero = ap (records ps j) (min-zero (suc k))
records_take ps j (suc k) (suc m) = ap (records ps j) (suc-min-suc k m) ∙ ap (λ (fs : List Fault). record_at ps j ∷ fs) (records_take ps (j + 4) k m)

-- the breaks that were put are read back as records
records_put : (bs : List Break) (ys : List ℕ) (t i : ℕ) → i + t ≡ length bs → 4 * length bs ≤ length ys → records (put_all (lent ys 0) bs).places (4 * i) t ≡ map fault_of (drop i bs)
records_put bs ys zero i e h = ap (map fault_of) (sym (drop_of_length-le bs {i = i} (omega arith)))
records_put bs ys (suc t) i e h =
    let z : 0 + i ≡ i = omega arith in
    let w : 4 * i + 4 ≡ 4 * suc i = omega arith in
    let ps = (put_all (lent ys 0) bs).places in
    let b = get_or bs i (break_at 0 0 0) in
    let held : Written ps (4 * i) b = rw z at (placed_at bs ys 0 i (omega arith) (omega arith)) in
    let first : record_at ps (4 * i) ≡ fault_of b = rw (held.rule, held.line, held.cell, held.first) in
    ap (λ (f : Fault). f ∷ records ps (4 * i + 4) t) first ∙ ap (λ (j : ℕ). fault_of b ∷ records ps j t) w ∙ ap (λ (fs : List Fault). fault_of b ∷ fs) (records_put bs ys t (suc i) (omega arith) h)
    ∙ ap (map fault_of) (sym (drop-cons bs i (break_at 0 0 0) (omega arith)))

-- WHAT IS REPORTED of a file, by the limit
module _ (file : Bytes) where
  module _ (h : length file ≤ LIMIT) where
    pub found_all : reported file ≡ breaks_by (book_of (lines file)) (lines file)
    unfolding reported breaks
    found_all = rw (le-ltb LIMIT (length file) h)

  module _ (h : LIMIT < length file) where
    pub found_none : reported file ≡ []
    unfolding reported
    found_none = rw (lt-ltb LIMIT (length file) h)

-- A STEP: the places hold the breaks of a part

module _ {file : Bytes} {room : ℕ} {s r : Stand} {ps ps' : List ℕ} (p : Parts (book_of (lines file)) file room s r ps ps') (fits : 4 * r.held ≤ length ps) where
  -- the breaks of the part, and those after it
  abbrev now : List Break
  now = take r.held (drop (put_so_far s) (breaks_by (book_of (lines file)) (lines file)))

  abbrev later : List Break
  later = drop (put_so_far r) (breaks_by (book_of (lines file)) (lines file))

  as_many : length now ≡ r.held
  as_many = length-take-le r.held (drop (put_so_far s) (breaks_by (book_of (lines file)) (lines file))) (omega (arith, length-drop (put_so_far s) (breaks_by (book_of (lines file)) (lines file)), p.most, p.before))

  cut : drop (put_so_far s) (breaks_by (book_of (lines file)) (lines file)) ≡ now ++ later
  cut =
      let z : put_so_far s + r.held ≡ put_so_far r = omega (arith, p.before) in
      sym (take-append-drop r.held (drop (put_so_far s) (breaks_by (book_of (lines file)) (lines file)))) ∙ ap (λ (xs : List Break). now ++ xs) (drop-drop r.held (put_so_far s) (breaks_by (book_of (lines file)) (lines file)) ∙ ap (λ (n : ℕ). drop n (breaks_by (book_of (lines file)) (lines file))) z)

  read : records ps' 0 r.held ≡ map fault_of now
  read =
      ap (λ (o : Lent). records o.places 0 r.held) p.puts
      ∙ records_put now ps r.held 0 (omega (arith, as_many)) (omega (arith, as_many))

  step_writes : (cap : ℕ) (ys : List Fault) → length ys ≡ cap
      → sets ys (put_so_far s) (map fault_of (drop (put_so_far s) (breaks_by (book_of (lines file)) (lines file))))
      ≡ sets (sets ys (min r.before cap) (records ps' 0 (min r.held (cap - min r.before cap)))) (put_so_far r) (map fault_of (drop (put_so_far r) (breaks_by (book_of (lines file)) (lines file))))
  step_writes cap ys e =
      let T = put_so_far s in
      let from = min r.before cap in
      let stored : sets ys from (records ps' 0 (min r.held (cap - from))) ≡ sets ys T (map fault_of now) =
      ap (sets ys from) (records_take ps' 0 r.held (cap - from) ∙ ap (take (cap - from)) read) ∙ sets_clip (map fault_of now) ys r.before cap e
      ∙ ap (λ (n : ℕ). sets ys n (map fault_of now)) p.before in
      let z : T + length (map fault_of now) ≡ put_so_far r = omega (arith, length-map now fault_of, as_many, p.before) in
      ap (λ (xs : List Break). sets ys T (map fault_of xs)) cut ∙ ap (sets ys T) (map-append fault_of now later) ∙ sets_append (map fault_of now) (map fault_of later) ys T
      ∙ ap (λ (n : ℕ). sets (sets ys T (map fault_of now)) n (map fault_of later)) z ∙ ap (λ (xs : List Fault). sets xs (put_so_far r) (map fault_of later)) (sym stored)

  -- the same in the words of a step
  pub step_moves : {n cap from fit : ℕ} → length file ≤ LIMIT → n ≡ put_so_far s → from ≡ min r.before cap → fit ≡ min r.held (cap - from) → (ys : List Fault) → length ys ≡ cap
      → sets ys n (map fault_of (drop n (reported file))) ≡ sets (sets ys from (records ps' 0 fit)) (put_so_far r) (map fault_of (drop (put_so_far r) (reported file)))
  step_moves {cap = cap} h n-is from_is fit_is ys e = rw (found_all file h, n-is, fit_is, from_is) (step_writes cap ys e)

-- the way left grows shorter
pub step_less : (file : Bytes) (s r : Progress) → s.more ≡ true → (r.more ≡ true → (s.carried.stand.at < r.carried.stand.at) × (r.carried.stand.at ≤ length file)) → away file r < away file s
unfolding away
step_less file s r e h = rw e (go r.more refl)
  where
    go : (t : Bool) → r.more ≡ t → cond r.more (suc (length file - r.carried.stand.at)) 0 < suc (length file - s.carried.stand.at)
    go true q = rw q (omega (arith, (h q).0, (h q).1))
    go false q = rw q (omega arith)
