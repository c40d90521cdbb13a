-- `faults::judge` meets its contract: the records that are still to come at the start, after a step, and when nothing is left to judge. Assumes nothing.
use Rattle.std.proofs.Common.{ℕ, refl, sym, ◌∙◌}
use Rattle.std.proofs.lemmas.List.{length-replicate}
use Rattle.std.proofs.lemmas.Result.{err_from_is_err_and}
use Rattle.fault_steps.specs.Steps.{PLACES}
use Rattle.faults.proofs.Laws.Closing.{ahead_first, ahead_next, ended, refused_is}
use Rattle.faults.proofs.judge.Goals as goal

pub returns-in_err-s : goal.returns-in_err-s
returns-in_err-s c =
    let p = err_from_is_err_and c.from_residual.result c.from_residual.ensures.1 in
    rw (p.1, p.2) (refused_is c.args.file.now c.args.faults.now _ c.in_err-s.ensures.number)

pub loop-s-init : goal.loop-s-init
loop-s-init c = record {
  between = c.in_ok-s.ensures.between;
  places_len = length-replicate {A = ℕ} PLACES 0;
  cap = c.in_ok-s.ensures.cap_value.0;
  long = refl;
  ahead = ahead_first c.args.file.now c.in_ok-s.s c.args.faults.now c.in_ok-s.ensures.cap_value.1;
}

pub loop-s-preserved : goal.loop-s-preserved
loop-s-preserved c = record {
  between = c.next-s.ensures.between_2;
  places_len = c.next-s.ensures.places_len_2;
  cap = c.next-s.ensures.moves.cap ∙ c.loop-s.invariant.cap;
  long = c.copy_out.auto.faults ∙ c.loop-s.invariant.long;
  ahead = ahead_next c.args.file.now c.loop-s.s c.next-s.result c.next-s.new.places c.loop-s.faults c.copy_out.new.faults c.args.faults.now c.next-s.ensures.moves
      (c.loop-s.invariant.long ∙ sym c.loop-s.invariant.cap) c.copy_out.ensures c.loop-s.invariant.ahead;
}

pub returns : goal.returns
returns c = ended c.args.file.now c.loop-s.s c.loop-s.slots c.loop-s.faults c.args.faults.now c.loop-s.invariant.between c.loop-s-test.false c.loop-s.invariant.ahead
