-- `faults::copy_out` meets its contract. The invariant says what is still to be done: the records that are left, laid over the list as it is now, are the list that the contract names. Assumes nothing.
use Rattle.std.proofs.Common.{◌≡◌, ◌+◌, ◌-◌, ◌*◌, length}
use Rattle.std.proofs.lemmas.List.Edits.{sets}
use Rattle.fault_steps.specs.Steps.{records}
use Rattle.faults.proofs.copy_out.Given as goal

abbrev pub invariant-loop-i : goal.invariant-loop-i
invariant-loop-i l = record {
  long : length l.faults ≡ length l.initial.faults;
  ahead : sets l.faults (l.at + l.i) (records l.places (4 * l.i) (l.n - l.i)) ≡ sets l.initial.faults l.at (records l.places 0 l.n);
}
