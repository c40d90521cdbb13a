-- The weights of a file are weights that a split takes: no fee within the limit is refused over them but where they are all zero. Assumes nothing.
use mathlib.Core.Path.{◌≡◌, refl}
use mathlib.Core.Bool.{false, cond}
use mathlib.Core.List.{List, [], ◌∷◌}
use Prim.Native.Nat.{ℕ, zero, suc, ◌≤◌, ◌<◌}
use native.Mathlib.Omega.{arith}
use lib.Dec.{eqb}
use lib.ListN.{length, get_or}
use borrow.Author.Tests.{le-leb, lt-leb}
use Rattle.numbers.specs.Numbers.{ALL_ZERO}
use Rattle.text_bytes.specs.Bytes.{Bytes}
use Rattle.text.specs.Lines.{LIMIT}
use Rattle.fee_shares.specs.Shares.{total}
use Rattle.fee_shares.specs.Refusals.{LIMIT as FEE-LIMIT, WEIGHT_END, any_large, refusal}
use Rattle.fee.proofs.Laws.Theorems.{list_length, list_at}
use Rattle.weight_counts.specs.Variables.{VARIABLES}
use Rattle.weights.specs.Weights.{weight_of, weights_of}
use Rattle.weights.proofs.Laws.Weighing.{weight_small}

none_large : (ws : List ℕ) → ((i : ℕ) → i < length ws → get_or ws i 0 < WEIGHT_END) → any_large ws ≡ false
unfolding any_large
none_large [] h = refl
none_large (w ∷ ws) h = rw (lt-leb WEIGHT_END w (h zero (omega arith))) (none_large ws (λ i l. h (suc i) (omega arith)))

module _ (file : Bytes) (fits : length file ≤ LIMIT) where
  as_many : length (weights_of file) ≡ VARIABLES
  as_many = list_length VARIABLES (λ (i : ℕ). weight_of file (suc i))

  light : any_large (weights_of file) ≡ false
  light =
      none_large (weights_of file)
      (λ i l. let k : i < VARIABLES = omega (arith, as_many) in omega (arith, list_at VARIABLES (λ (j : ℕ). weight_of file (suc j)) 0 i k, weight_small file (suc i) fits))

  pub weights_split : (fee : ℕ) → fee ≤ FEE-LIMIT → refusal fee (weights_of file) VARIABLES ≡ cond (eqb (total (weights_of file)) 0) ALL_ZERO 0
  unfolding refusal
  weights_split fee h = rw (as_many, le-leb fee FEE-LIMIT h, light)
