-- Decimals, and two of them with a bar between. Assumes nothing.
use mathlib.Core.Path.{◌≡◌, ◌∙◌}
use mathlib.Core.Bool.{true, false, ◌&&◌, and-true, and-false}
use mathlib.Core.List.{List}
use Prim.Native.Nat.{ℕ, ◌+◌, ◌-◌, ◌<◌}
use native.Mathlib.Omega.{arith}
use borrow.Author.Tests.{ne_eqb}
use lib.ListN.{length, take, drop}
use Rattle.text_bytes.specs.Bytes.{is, all, split_on}
use Rattle.text_bytes.specs.Places.{Ends}
use Rattle.text_bytes.proofs.Laws.Pieces.{piece_cut, piece_last, count_last, count_next}
use Rattle.text_bytes.proofs.Laws.Each.{split_some}
use Rattle.values.specs.Values.{unsigned, is_numeral, is_decimal, is_decimals, is_window, CutAt}
use Rattle.values.specs.declared.Cuts.{Cuts}

-- at the first bar, at none, and at a second
module _ {f : List ℕ} {e : ℕ} (h : Ends 124 f 0 e) where
  pub window_none : e ≡ length f → is_window f ≡ false
  unfolding is_window
  window_none q = rw (count_last h q) (and-false (is_decimals f))

  module _ {k : ℕ} (lt : e < length f) (h' : Ends 124 f (e + 1) k) where
    pub window_more : k < length f → is_window f ≡ false
    unfolding is_window
    window_more q = rw (count_next h lt, count_next h' q, ne_eqb (1 + (1 + length (split_on 124 (drop (k + 1) f)))) 2 (λ z. split_some 124 (drop (k + 1) f) (omega arith))) (and-false (is_decimals f))

    pub window_two : k ≡ length f → is_window f ≡ (is_decimal (take e f) && is_decimal (take (length f - (e + 1)) (drop (e + 1) f)))
    unfolding is_window is_decimals all
    window_two q =
        let z : e - 0 ≡ e = omega arith in
        rw (piece_cut h lt, piece_last h' q, z, q, and-true (is_decimal (take (length f - (e + 1)) (drop (e + 1) f)))) (and-true (is_decimal (take e f) && is_decimal (take (length f - (e + 1)) (drop (e + 1) f))))

    pub window_good : k ≡ length f → is_decimal (take e f) ≡ true → is_window f ≡ is_decimal (take (length f - (e + 1)) (drop (e + 1) f))
    window_good q g = window_two q ∙ rw g

    pub window_bad : k ≡ length f → is_decimal (take e f) ≡ false → is_window f ≡ false
    window_bad q g = window_two q ∙ rw g

-- the three ways to be a decimal, by where its text after the minus is cut
module _ (l : List ℕ) {u : List ℕ} {m : Cuts} (e : u ≡ unsigned l) (h : CutAt u m) where
  pub decimal_numeral : m.good ≡ true → true ≡ is_decimal l
  unfolding is_decimal is_numeral
  decimal_numeral g = rw (← e, ← h.good, g)

  pub decimal_inf : m.good ≡ false → is l "INF" ≡ true → true ≡ is_decimal l
  unfolding is_decimal is_numeral
  decimal_inf g i = rw (← e, ← h.good, g, i)

  pub decimal_nan : m.good ≡ false → is l "INF" ≡ false → is l "NaN" ≡ is_decimal l
  unfolding is_decimal is_numeral
  decimal_nan g i = rw (← e, ← h.good, g, i)
