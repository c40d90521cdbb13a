-- `tally_records::put` meets its contract. The invariant: the bytes that are there, and what is left of the number behind them, are what is promised. Assumes
-- nothing.
use Rattle.std.proofs.Common.{◌≡◌, ◌++◌, ◌-◌, length, take}
use Rattle.tally_records.specs.Records.{little}
use Rattle.tally_records.proofs.put.Given as goal

abbrev pub invariant-loop-place : goal.invariant-loop-place
invariant-loop-place l =
    (length l.places ≡ length l.initial.places)
    × (take l.place-index l.places ++ little (length l.initial.places - l.place-index) l.left ≡ little (length l.initial.places) l.n)
