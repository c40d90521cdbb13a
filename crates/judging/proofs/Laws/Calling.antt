-- The number of a call by the limit. Assumes nothing.
use mathlib.Core.Path.{◌≡◌}
use Prim.Native.Nat.{◌≤◌, ◌<◌}
use lib.ListN.{length}
use borrow.Author.Tests.{le-ltb, lt-ltb}
use Rattle.numbers.specs.Numbers.{TOO_LONG}
use Rattle.text_bytes.specs.Bytes.{Bytes}
use Rattle.text.specs.Lines.{LIMIT}
use Rattle.judging.specs.Calls.{length_number}

module _ (file : Bytes) where
  pub number_none : length file ≤ LIMIT → length_number file ≡ 0
  unfolding length_number
  number_none h = rw (le-ltb LIMIT (length file) h)

  pub number_one : LIMIT < length file → length_number file ≡ TOO_LONG
  unfolding length_number
  number_one h = rw (lt-ltb LIMIT (length file) h)
