-- The promises of the judging call over records, from what it ensures. Assumes nothing.
use mathlib.Core.Path.{◌≡◌, sym, ap, ◌∙◌}
use mathlib.Core.List.{List, map}
use Prim.Native.Nat.{ℕ, ◌≤◌, ◌<◌}
use native.Mathlib.Omega.{arith}
use lib.ListN.{length, get_or}
use lib.Seq.{sets}
use borrow.Author.Tests.{le-ltb, lt-ltb}
use Rattle.text_bytes.specs.Bytes.{Bytes}
use Rattle.text.specs.Lines.{LIMIT}
use Rattle.rules.specs.Breaks.{break_at}
use Rattle.rules.specs.Rules.{breaks}
use Rattle.rules.proofs.Laws.Promises.{breaks_reported, accepted_whole, whole_accepted, length_none}
use Rattle.fault_steps.specs.declared.Fault.{Fault}
use Rattle.fault_steps.specs.Records.{fault_of}
use Rattle.faults.specs.Records.{Outcome, outcome, judged}
use Rattle.faults.specs.Promised.{Refused, Promised}
use Rattle.faults.proofs.Laws.Recording.{recorded_length, recorded_at, recorded_above}

module _ (file : Bytes) (ys : List Fault) {n k : ℕ} {zs : List Fault} (call : outcome n k zs ≡ judged file ys) where
  -- A FILE OVER THE LIMIT
  pub judge_refused : LIMIT < length file → Refused ys n k zs
  unfolding judged
  judge_refused h =
      let e = rw (lt-ltb LIMIT (length file) h) at call in
      record { number = ap (λ (x : Outcome). x.number) e; count = ap (λ (x : Outcome). x.count) e; untouched = ap (λ (x : Outcome). x.faults) e }

  -- A FILE WITHIN IT
  module _ (limit : length file ≤ LIMIT) where
    whole : outcome n k zs ≡ outcome 0 (length (breaks file)) (sets ys 0 (map fault_of (breaks file)))
    unfolding judged
    whole = rw (le-ltb LIMIT (length file) limit) at call

    many : k ≡ length (breaks file)
    many = ap (λ (x : Outcome). x.count) whole

    records : zs ≡ sets ys 0 (map fault_of (breaks file))
    records = ap (λ (x : Outcome). x.faults) whole

    pub judge_promised : Promised file (breaks file) ys n k zs
    judge_promised =
        record {
          reports = breaks_reported file;
          number = ap (λ (x : Outcome). x.number) whole;
          count = many;
          none_broken = λ z l c r f h. accepted_whole file (length_none (breaks file) (sym many ∙ z)) h;
          accepted = λ h. many ∙ ap length (whole_accepted file h);
          long = ap length records ∙ recorded_length (breaks file) ys;
          stands = λ i f l. ap (λ (r : List Fault). get_or r i (fault_of (break_at 0 0 0))) records ∙ recorded_at (breaks file) ys i (omega (arith, f, many)) l;
          untouched = λ d i h. ap (λ (r : List Fault). get_or r i d) records ∙ recorded_above (breaks file) ys d i (omega (arith, h, many));
        }
