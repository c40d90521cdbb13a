-- `faults::judge` meets its contract. The invariant: what holds between two steps, and that the records that are still to come, laid over the list as it is now, are those of the whole file. Assumes nothing.
use Rattle.std.proofs.Common.{◌≡◌, length}
use Rattle.std.proofs.lemmas.List.Edits.{sets}
use Rattle.fault_steps.specs.Steps.{PLACES, remaining, away, Between}
use Rattle.faults.proofs.Laws.Closing.{whole}
use Rattle.faults.proofs.judge.Given as goal

abbrev pub invariant-loop-s : goal.invariant-loop-s
invariant-loop-s l = record {
  between : Between l.file l.s l.slots;
  places_len : length l.places ≡ PLACES;
  cap : l.s.cap ≡ length l.initial.faults;
  long : length l.faults ≡ length l.initial.faults;
  ahead : sets l.faults l.s.count (remaining l.file l.s) ≡ whole l.file l.initial.faults;
}

abbrev pub decreases-loop-s : goal.decreases-loop-s
decreases-loop-s l = away l.file l.s
