-- What a search promises of places in a slice. Assumes nothing.
use Rattle.std.specs.Prelude.{ℕ, zero, suc, ◌+◌, ◌-◌, ◌≤◌, ◌≡◌, cond, [], ◌∷◌, length, take, drop, eqb}
use Rattle.text_bytes.specs.Bytes.{Bytes}

-- the bytes from one place up to another
abbrev pub part : ℕ → ℕ → Bytes → Bytes
part from to s = take (to - from) (drop from s)

-- how many bytes stand before the first b; all where there is none
unfoldable pub up_to : ℕ → Bytes → ℕ
up_to b [] = 0
up_to b (x ∷ xs) = cond (eqb x b) 0 (suc (up_to b xs))

-- how many bytes stand up to the k-th b, which is among them; all where there are fewer: so line n of a file begins after n - 1 LF
unfoldable pub after : ℕ → ℕ → Bytes → ℕ
after b zero s = 0
after b (suc k) [] = 0
after b (suc k) (x ∷ xs) = suc (cond (eqb x b) (after b k xs) (after b (suc k) xs))

-- the first b of s from `from` on stands at `to`, or `to` is the length where there is none
pub record Ends (b : ℕ) (s : Bytes) (from to : ℕ) : Type 0 where
  pub starts : from ≤ to
  pub within : to ≤ length s
  pub at : to ≡ from + up_to b (drop from s)
