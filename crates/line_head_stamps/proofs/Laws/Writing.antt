-- What stands where in the list after places were filled, after a name was entered, and after a fork was put. Assumes nothing.
use mathlib.Core.Path.{◌≡◌, refl, sym, ap, ◌∙◌}
use mathlib.Core.List.{List}
use mathlib.Core.Logic.{⊎_elim}
use Prim.Native.Nat.{ℕ, zero, suc, ◌+◌, ◌*◌, ◌≤◌, ◌<◌}
use native.Mathlib.Nat.{not-suc-le-zero, eq-or-lt_of_le, le_of_suc-le-suc}
use native.Mathlib.Omega.{arith}
use lib.Seq.{get_or-set_same, get_or-set_other, paste, paste-zero, paste-suc}
use lib.ListN.{length, get_or, set, replicate, length-set, length-replicate, get_or-replicate}
use borrow.Rule.Slice.PartMut.{put_mid}
use Rattle.std.proofs.lemmas.Slice.{put_mid-paste}
use Rattle.line_head_stamps.specs.Stamps.{BRANCHES, ASKS, STARTS, ENDS, ROOM, branch, covered, entered, forked}

-- PLACES FILLED
module _ (t : List ℕ) (from held : ℕ) where
  -- as a part of the list that is written at once
  filled_paste : (n m : ℕ) → from + m ≤ length t → n ≤ m → covered t from n held ≡ paste t from (replicate m held) n
  unfolding covered
  filled_paste zero m room few = paste-zero t from (replicate m held)
  filled_paste (suc n) m room few =
      let long = length-replicate {A = ℕ} m held in
      let lt : n < length (replicate m held) = omega arith in
      rw (filled_paste n m room (omega arith))
      (ap (λ (x : ℕ). set (paste t from (replicate m held) n) (from + n) x) (sym (get_or-replicate m n held 0 few)) ∙ paste-suc t from (replicate m held) n 0 (omega arith) lt)

  pub filled_part : (m k : ℕ) (ys : List ℕ) → from + m ≤ length t → k ≡ m → ys ≡ replicate m held → put_mid from k t ys ≡ covered t from m held
  filled_part m k ys room e h =
      put_mid-paste from k t ys (replicate m held) m h (sym e) (sym (length-replicate {A = ℕ} m held)) ∙ sym (filled_paste m m room (omega arith))

  pub filled_length : (n : ℕ) → length (covered t from n held) ≡ length t
  unfolding covered
  filled_length zero = refl
  filled_length (suc n) = length-set (covered t from n held) (from + n) held ∙ filled_length n

  filled_other : (n i : ℕ) → (from ≤ i → from + n ≤ i) → get_or (covered t from n held) i 0 ≡ get_or t i 0
  unfolding covered
  filled_other zero i out = refl
  filled_other (suc n) i out =
      get_or-set_other (covered t from n held) (from + n) i held 0 (λ e. omega (arith, e, out (omega (arith, e)))) ∙ filled_other n i (λ l. omega (arith, out l))

  filled_there : (n s : ℕ) → s < n → from + n ≤ length t → get_or (covered t from n held) (from + s) 0 ≡ held
  unfolding covered
  filled_there zero s l room = absurd (not-suc-le-zero l)
  filled_there (suc n) s l room =
      ⊎_elim (λ (q : s ≡ n). rw q (get_or-set_same (covered t from n held) (from + n) held 0 (omega (arith, filled_length n))))
      (λ (q : s < n). get_or-set_other (covered t from n held) (from + n) (from + s) held 0 (omega arith) ∙ filled_there n s q (omega arith))
      (eq-or-lt_of_le (le_of_suc-le-suc l))

-- A NAME ENTERED
module _ (t : List ℕ) (m start end : ℕ) where
  placed : List ℕ
  placed = set (set t (STARTS + m) start) (ENDS + m) end

  placed_length : length placed ≡ length t
  unfolding placed
  placed_length = length-set (set t (STARTS + m) start) (ENDS + m) end ∙ length-set t (STARTS + m) start

  pub entered_length : length (entered t m start end) ≡ length t
  unfolding entered placed
  entered_length = filled_length placed (BRANCHES + 16 * m) m 16 ∙ placed_length

  pub entered_other : (i : ℕ) → (i ≡ STARTS + m → ⊥) → (i ≡ ENDS + m → ⊥) → (branch m 0 ≤ i → branch m 16 ≤ i) → get_or (entered t m start end) i 0 ≡ get_or t i 0
  unfolding entered
  entered_other i a b c =
      let t1 = set t (STARTS + m) start in
      filled_other (set t1 (ENDS + m) end) (BRANCHES + 16 * m) m 16 i (λ l. c (omega (arith, l))) ∙ get_or-set_other t1 (ENDS + m) i end 0 b ∙ get_or-set_other t (STARTS + m) i start 0 a

  module _ (room : length t ≡ ROOM) (few : m ≤ 254) where
    pub entered_start : get_or (entered t m start end) (STARTS + m) 0 ≡ start
    unfolding entered
    entered_start =
        let t1 = set t (STARTS + m) start in
        filled_other (set t1 (ENDS + m) end) (BRANCHES + 16 * m) m 16 (STARTS + m) (λ l. omega arith) ∙ get_or-set_other t1 (ENDS + m) (STARTS + m) end 0 (omega arith) ∙ get_or-set_same t (STARTS + m) start 0 (omega arith)

    pub entered_end : get_or (entered t m start end) (ENDS + m) 0 ≡ end
    unfolding entered
    entered_end =
        let t1 = set t (STARTS + m) start in
        filled_other (set t1 (ENDS + m) end) (BRANCHES + 16 * m) m 16 (ENDS + m) (λ l. omega arith) ∙ get_or-set_same t1 (ENDS + m) end 0 (omega (arith, length-set t (STARTS + m) start))

    -- all doors of its fork hold it
    pub entered_own : (s : ℕ) → s < 16 → get_or (entered t m start end) (branch m s) 0 ≡ m
    unfolding entered placed
    entered_own s l = filled_there placed (BRANCHES + 16 * m) m 16 s l (omega (arith, placed_length))

-- A FORK PUT at a door that is none of its own
module _ (t : List ℕ) (d m ask their : ℕ) where
  pub forked_length : length (forked t d m ask their) ≡ length t
  unfolding forked
  forked_length =
      let t1 = set t (ASKS + m) ask in
      let t2 = set t1 (branch m their) (get_or t d 0) in
      length-set t2 d (256 + m) ∙ length-set t1 (branch m their) (get_or t d 0) ∙ length-set t (ASKS + m) ask

  pub forked_other : (i : ℕ) → (i ≡ ASKS + m → ⊥) → (i ≡ branch m their → ⊥) → (i ≡ d → ⊥) → get_or (forked t d m ask their) i 0 ≡ get_or t i 0
  unfolding forked
  forked_other i a b c =
      let t1 = set t (ASKS + m) ask in
      let t2 = set t1 (branch m their) (get_or t d 0) in
      get_or-set_other t2 d i (256 + m) 0 c ∙ get_or-set_other t1 (branch m their) i (get_or t d 0) 0 b ∙ get_or-set_other t (ASKS + m) i ask 0 a

  module _ (room : length t ≡ ROOM) (few : m ≤ 254) (before : d < branch m 0) (sixteen : their < 16) where
    pub forked_ask : get_or (forked t d m ask their) (ASKS + m) 0 ≡ ask
    unfolding forked
    forked_ask =
        let t1 = set t (ASKS + m) ask in
        let t2 = set t1 (branch m their) (get_or t d 0) in
        get_or-set_other t2 d (ASKS + m) (256 + m) 0 (omega arith) ∙ get_or-set_other t1 (branch m their) (ASKS + m) (get_or t d 0) 0 (omega arith) ∙ get_or-set_same t (ASKS + m) ask 0 (omega arith)

    pub forked_their : get_or (forked t d m ask their) (branch m their) 0 ≡ get_or t d 0
    unfolding forked
    forked_their =
        let t1 = set t (ASKS + m) ask in
        let t2 = set t1 (branch m their) (get_or t d 0) in
        get_or-set_other t2 d (branch m their) (256 + m) 0 (omega arith) ∙ get_or-set_same t1 (branch m their) (get_or t d 0) 0 (omega (arith, length-set t (ASKS + m) ask))

    pub forked_door : get_or (forked t d m ask their) d 0 ≡ 256 + m
    unfolding forked
    forked_door =
        let t1 = set t (ASKS + m) ask in
        let t2 = set t1 (branch m their) (get_or t d 0) in
        get_or-set_same t2 d (256 + m) 0 (omega (arith, length-set t1 (branch m their) (get_or t d 0), length-set t (ASKS + m) ask))
