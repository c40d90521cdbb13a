-- `faults::copy_out` meets its contract: a turn lays the first of the records that are left. Assumes nothing.
use Rattle.std.proofs.Common.{◌≡◌, ◌<◌, ℕ, suc, ◌+◌, ◌-◌, ◌*◌, List, ◌∷◌, set, sym, ap, ◌∙◌, arith}
use Rattle.std.proofs.lemmas.List.Edits.{sets}
use Rattle.fault_steps.specs.declared.Fault.{Fault}
use Rattle.fault_steps.specs.Steps.{record_at, records}
use Rattle.faults.proofs.copy_out.Goals as goal

-- laying all that are left is laying the first, and then the others
sets_first : (ps : List ℕ) (ys zs : List Fault) (at i n : ℕ) → i < n → zs ≡ set ys (at + i) (record_at ps (4 * i))
    → sets zs (at + (i + 1)) (records ps (4 * (i + 1)) (n - (i + 1))) ≡ sets ys (at + i) (records ps (4 * i) (n - i))
sets_first ps ys zs at i n h e =
    let left : n - i ≡ suc (n - (i + 1)) = omega arith in
    let place : at + (i + 1) ≡ suc (at + i) = omega arith in
    let next : 4 * (i + 1) ≡ 4 * i + 4 = omega arith in
    rw (left, place, next, e)

pub loop-i-preserved : goal.loop-i-preserved
loop-i-preserved c = record {
  long = omega arith;
  ahead = sets_first c.args.places.now c.loop-i.faults c.put_record.new.faults c.args.at c.loop-i.i c.args.n c.loop-i-test.true c.put_record.ensures ∙ c.loop-i.invariant.ahead;
}
