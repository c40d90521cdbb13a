-- `value_readings::number_on` meets its contract. The invariant: the number is that of the digits left after m, which k and the digits passed wrote. Assumes nothing.
use mathlib.Core.Path.{◌≡◌}
use Prim.Native.Nat.{◌+◌, ◌<◌, ◌^◌}
use mathlib.Core.Bool.{true}
use lib.ListN.{drop}
use Rattle.text_bytes.specs.Bytes.{all}
use Rattle.value_references.specs.Index.{is_digit, number}
use Rattle.value_readings.proofs.number_on.Given as goal

abbrev pub invariant-loop-b : goal.invariant-loop-b
invariant-loop-b l = (l.m < 10 ^ (l.k + l.b-index)) × (all is_digit (drop l.b-index l.s) ≡ true) × (number l.n l.s ≡ number l.m (drop l.b-index l.s))
