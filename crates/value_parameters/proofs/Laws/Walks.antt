-- What a walk carries beside the scans' state: the byte that it read last, and how far a field holds spaces alone. Assumes nothing.
use mathlib.Core.Path.{◌≡◌, refl, sym, ap, ◌∙◌}
use mathlib.Core.Bool.{Bool, true, false, cond, ◌&&◌, ◌||◌, and-false, or-false, true≢false}
use mathlib.Core.List.{List}
use Prim.Native.Nat.{ℕ, ◌+◌, ◌-◌, ◌≤◌, ◌<◌}
use mathlib.Core.Logic.{⊎_elim}
use native.Mathlib.Nat.{eq-or-lt_of_le}
use native.Mathlib.Omega.{arith}
use borrow.Author.Tests.{eq-eqb, ne_eqb, eqb-true, eqb-false, lt-ltb, le-ltb}
use lib.Dec.{eqb, ltb}
use lib.ListN.{length, get_or, drop_of_length-le}
use lib.Seq.{get_or-drop}
use Rattle.text_bytes.specs.Places.{part}
use Rattle.text_bytes.proofs.Laws.Tests.{and_left, and_right}
use Rattle.value_parameters.specs.Scan.{state, one_more, held, run}
use Rattle.value_parameters.specs.declared.Scan.{Scan}
use Rattle.value_parameters.proofs.Laws.Scans.{part_none, part_final, run_comma, run_field, block_within, block_same}

pub past : (l : List ℕ) (i : ℕ) → length l ≤ i → get_or l i 0 ≡ 0
past l i h =
    let z : i + 0 ≡ i = omega arith in
    ap (λ (j : ℕ). get_or l j 0) (sym z) ∙ sym (get_or-drop i l 0 0) ∙ ap (λ (x : List ℕ). get_or x 0 0) (drop_of_length-le l h)

-- THE LAST BYTE

-- whether the last byte from `at` up to e is a `]`
abbrev pub shut : List ℕ → ℕ → ℕ → Bool
shut l at e = eqb (get_or (part at e l) (e - at - 1) 0) 93

pub shut_none : (l : List ℕ) (at : ℕ) → shut l at at ≡ false
shut_none l at = rw (part_none at l)

-- it is the byte before e, wherever the walk began
pub shut_at : (l : List ℕ) (at e : ℕ) → at < e → shut l at e ≡ eqb (get_or l (e - 1) 0) 93
shut_at l at e h = ap (λ (b : ℕ). eqb b 93) (part_final l at e h)

pub shut_next : (l : List ℕ) (at i : ℕ) → at ≤ i → shut l at (i + 1) ≡ eqb (get_or l i 0) 93
shut_next l at i h =
    let z : i + 1 - 1 ≡ i = omega arith in
    shut_at l at (i + 1) (omega arith) ∙ ap (λ (j : ℕ). eqb (get_or l j 0) 93) z

-- from behind a byte that is no `]`, it is the same
pub shut_on : (l : List ℕ) (at i e : ℕ) → at ≤ i → i < e → (get_or l i 0 ≡ 93 → ⊥) → shut l (i + 1) e ≡ shut l at e
shut_on l at i e h k n =
    ⊎_elim
    (λ (q : i + 1 ≡ e). rw (← q) (shut_none l (i + 1) ∙ sym (shut_next l at i h ∙ ne_eqb (get_or l i 0) 93 n)))
    (λ (q : i + 1 < e). shut_at l (i + 1) e q ∙ sym (shut_at l at e (omega arith)))
    (eq-or-lt_of_le (omega arith))

-- where a walk stops
pub stays : (l : List ℕ) (at i last y : ℕ) (r : Scan) → r.at ≡ i → y ≡ last → eqb last 93 ≡ shut l at i → eqb y 93 ≡ shut l at r.at
stays l at i last y r p q w = ap (λ (b : ℕ). eqb b 93) q ∙ w ∙ ap (shut l at) (sym p)

-- THE THIRD FIELD

-- whether it holds something at i, where the field after n commas holds spaces alone up to gap and no space there
abbrev pub filled_at : ℕ → Bool → ℕ → ℕ → Bool
filled_at n f gap i = f || (eqb n 2 && ltb gap i)

pub filled_start : (n : ℕ) (f : Bool) (i : ℕ) → filled_at n f i i ≡ f
filled_start n f i = rw (le-ltb i i (omega arith), and-false (eqb n 2)) (or-false f)

or_once : (f a b : Bool) → ((f || (a && b)) || (a && true)) ≡ (f || (a && true))
or_once true a b = refl
or_once false true true = refl
or_once false true false = refl
or_once false false b = refl

-- one byte more: no space, and a space
pub filled_more : (n : ℕ) (f : Bool) (gap i b : ℕ) → gap ≤ i → (b ≡ 32 → ⊥) → filled_at n f gap (i + 1) ≡ held n (filled_at n f gap i) b
filled_more n f gap i b h k = rw (lt-ltb gap (i + 1) (omega arith), ne_eqb b 32 k) (sym (or_once f (eqb n 2) (ltb gap i)))

pub filled_blank : (n : ℕ) (f : Bool) (i b : ℕ) → b ≡ 32 → filled_at n f (i + 1) (i + 1) ≡ held n (filled_at n f i i) b
filled_blank n f i b k = rw (filled_start n f (i + 1), filled_start n f i, eq-eqb b 32 k, and-false (eqb n 2)) (sym (or-false f))

-- a space behind something else changes nothing
pub filled_space : (n : ℕ) (f : Bool) (gap i b : ℕ) → gap < i → b ≡ 32 → filled_at n f gap (i + 1) ≡ held n (filled_at n f gap i) b
filled_space n f gap i b h k =
    rw (lt-ltb gap (i + 1) (omega arith), lt-ltb gap i h, eq-eqb b 32 k, and-false (eqb n 2)) (sym (or-false (f || (eqb n 2 && true))))

-- a mark is no space
pub filled_mark : (n : ℕ) (f : Bool) (gap i b : ℕ) → b ≡ 34 → held n f b ≡ held n (filled_at n f gap i) b
filled_mark n f gap i b k = rw (ne_eqb b 32 (λ z. omega arith)) (sym (or_once f (eqb n 2) (ltb gap i)))

-- ONE BYTE MORE, outside marks

module _ (bars : Bool) (l : List ℕ) (i e : ℕ) (h : i < e) (k : e ≤ length l) where
  abbrev b : ℕ
  b = get_or l i 0

  abbrev runs : ℕ → ℕ → Bool → ℕ → Scan
  runs j n f gap = run bars (state j n false (filled_at n f gap j)) (part j e l)

  -- up to the comma no byte is a bar
  no_bar : b ≤ 44 → (bars && eqb b 124) ≡ false
  no_bar le = rw (ne_eqb b 124 (λ z. omega arith)) (and-false bars)

  pub on_comma :
      (n m : ℕ) (f g : Bool) (gap : ℕ) → b ≤ 44 → (b ≡ 34 → ⊥) → b ≡ 44 → m ≡ cond (eqb b 44) (one_more n) n → g ≡ filled_at n f gap i
      → runs i n f gap ≡ runs (i + 1) m g (i + 1)
  on_comma n m f g gap le a c v w =
      run_comma bars l i e h k n m (filled_at n f gap i) a (no_bar le) c v
      ∙ ap (λ (t : Bool). run bars (state (i + 1) m false t) (part (i + 1) e l)) (sym (filled_start m g (i + 1) ∙ w))

  on_field :
      (n : ℕ) (f : Bool) (gap to : ℕ) → (b ≡ 34 → ⊥) → (bars && eqb b 124) ≡ false → (b ≡ 44 → ⊥) → filled_at n f to (i + 1) ≡ held n (filled_at n f gap i) b
      → runs i n f gap ≡ runs (i + 1) n f to
  on_field n f gap to a s c w = run_field bars l i e h k n (filled_at n f gap i) (filled_at n f to (i + 1)) a s c w

  -- a space more at the front of a field, and any other byte below the comma
  pub on_blank : (n : ℕ) (f : Bool) (gap : ℕ) → b ≤ 44 → (b ≡ 34 → ⊥) → (b ≡ 44 → ⊥) → (eqb b 32 && eqb gap i) ≡ true → runs i n f gap ≡ runs (i + 1) n f (i + 1)
  on_blank n f gap le a c w =
      let q : gap ≡ i = eqb-true gap i (and_right (eqb b 32) (eqb gap i) w) in
      on_field n f gap (i + 1) a (no_bar le) c (rw q (filled_blank n f i b (eqb-true b 32 (and_left (eqb b 32) (eqb gap i) w))))

  pub on_other : (n : ℕ) (f : Bool) (gap : ℕ) → gap ≤ i → b ≤ 44 → (b ≡ 34 → ⊥) → (b ≡ 44 → ⊥) → (eqb b 32 && eqb gap i) ≡ false → runs i n f gap ≡ runs (i + 1) n f gap
  on_other n f gap g le a c w = on_field n f gap gap a (no_bar le) c (go (eqb b 32) refl w)
    where
      go : (t : Bool) → eqb b 32 ≡ t → (t && eqb gap i) ≡ false → filled_at n f gap (i + 1) ≡ held n (filled_at n f gap i) b
      go true q z = filled_space n f gap i b (⊎_elim (λ (y : gap ≡ i). absurd (eqb-false gap i z y)) (λ (y : gap < i). y) (eq-or-lt_of_le g)) (eqb-true b 32 q)
      go false q z = filled_more n f gap i b g (eqb-false b 32 q)

  -- a byte above it that ends no part
  pub on_plain : (n : ℕ) (f : Bool) (gap : ℕ) → gap ≤ i → 44 < b → (bars && eqb b 124) ≡ false → runs i n f gap ≡ runs (i + 1) n f gap
  on_plain n f gap g gt s = on_field n f gap gap (λ z. omega arith) s (λ z. omega arith) (filled_more n f gap i b g (λ z. omega arith))

  -- what a scan from behind a mark says of its last byte holds from further left too
  pub mark_on :
      (at n : ℕ) (q f x : Bool) (r : Scan) → at ≤ i → b ≡ 34 → r ≡ run bars (state (i + 1) n q f) (part (i + 1) e l)
      → (r.quoted ≡ false → x ≡ shut l (i + 1) r.at) → r.quoted ≡ false → x ≡ shut l at r.at
  mark_on at n q f x r a m w c o = c o ∙ shut_on l at i r.at a (omega (arith, (block_within bars l (state (i + 1) n q f) r e (omega arith) k w).0)) (λ z. omega arith)

-- ONE BLOCK MORE

-- whether the byte read last is a `]`, where a walk from st that had read such a byte, or not, has come to r
abbrev pub shut_by : List ℕ → Scan → Bool → Scan → Bool
shut_by l st x r = cond (eqb r.at st.at) x (eqb (get_or l (r.at - 1) 0) 93)

module _ (bars : Bool) (l : List ℕ) (st r : Scan) (e : ℕ) (h : st.at ≤ e) (k : e ≤ length l) (w : r ≡ run bars st (part st.at e l)) where
  -- where something was read it is that of the scan
  pub block_read : (x y : Bool) → (r.quoted ≡ false → y ≡ shut l st.at r.at) → (r.at ≡ st.at → ⊥) → r.quoted ≡ false → y ≡ shut_by l st x r
  block_read x y c n o =
      ⊎_elim
      (λ (q : st.at ≡ r.at). absurd (n (sym q)))
      (λ (q : st.at < r.at). c o ∙ shut_at l st.at r.at q ∙ rw (ne_eqb r.at st.at n))
      (eq-or-lt_of_le (block_within bars l st r e h k w).0)

  -- a quotation that was open at the start is open still where nothing was read
  pub block_open : (x y : Bool) → st.quoted ≡ true → (r.quoted ≡ false → y ≡ shut l st.at r.at) → r.quoted ≡ false → y ≡ shut_by l st x r
  block_open x y s c o = block_read x y c (λ q. true≢false (sym s ∙ sym (ap (λ (z : Scan). z.quoted) (block_same bars l st r e h k w q)) ∙ o)) o

  -- from block to block, for the part that starts at `at`
  module _ (at : ℕ) (x y : Bool) (a : at ≤ st.at) (c : st.quoted ≡ false → x ≡ shut l at st.at) (d : r.quoted ≡ false → y ≡ shut_by l st x r) where
    pub block_shut : r.quoted ≡ false → y ≡ shut l at r.at
    block_shut o =
        ⊎_elim
        (λ (q : st.at ≡ r.at).
        let z = block_same bars l st r e h k w (sym q) in
        d o ∙ rw (eq-eqb r.at st.at (sym q)) (c (sym (ap (λ (u : Scan). u.quoted) z) ∙ o) ∙ ap (shut l at) q))
        (λ (q : st.at < r.at). d o ∙ rw (ne_eqb r.at st.at (λ z. omega arith)) (sym (shut_at l at r.at (omega arith))))
        (eq-or-lt_of_le (block_within bars l st r e h k w).0)
