-- `line_head_stamps::differing_bits` meets its contract: codes that agree in the lowest four bits, in the next four and in what is left are equal. Assumes nothing.
use mathlib.Core.Path.{◌≡◌}
use Prim.Native.Nat.{ℕ, ◌/◌, ◌%◌, ◌≤◌}
use native.Mathlib.Omega.{arith}
use Rattle.line_head_stamps.proofs.differing_bits.Goals as goal

highest : (a : ℕ) → a ≤ 256 → a / 256 % 16 ≡ a / 16 / 16
highest a l = omega arith

pub returns : goal.returns
returns c = (omega arith, λ (e : c.args.a / 256 % 16 ≡ c.args.b / 256 % 16). omega (arith, e, highest c.args.a c.requires.0, highest c.args.b c.requires.1, c.if-a-b.false, c.if-a-b-2.false))
