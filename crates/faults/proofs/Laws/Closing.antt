-- The list, the number and the count when nothing is left to judge; and what is still to be written at the start and after a step. Assumes nothing.
use mathlib.Core.Path.{◌≡◌, refl, sym, ◌∙◌, ap}
use mathlib.Core.Bool.{Bool, true, false, cond}
use mathlib.Core.List.{List, [], map}
use Prim.Native.Nat.{ℕ, ◌≤◌}
use native.Mathlib.Omega.{arith}
use lib.ListN.{length, drop, drop_of_length-le}
use lib.Seq.{sets}
use lib.Dec.{ltb}
use borrow.Author.Tests.{le-ltb}
use Rattle.numbers.specs.Numbers.{TOO_LONG}
use Rattle.numbers.specs.Refusals.{number_of}
use Rattle.numbers.specs.declared.Refusal.{Refusal}
use Rattle.numbers.specs.declared.Refusal.TheVariants.{TooLong, NoSection, NoRow, NoCell, NoRoom, NotAccepted, BelowZero, Past64Bits, NoRecord, NotAsMany, TooLarge, AllZero}
use Rattle.text_bytes.specs.Bytes.{Bytes}
use Rattle.text.specs.Lines.{LIMIT}
use Rattle.rules.specs.Breaks.{Break}
use Rattle.rules.specs.Rules.{breaks}
use Rattle.fault_steps.specs.declared.Fault.{Fault}
use Rattle.fault_steps.specs.declared.Progress.{Progress}
use Rattle.judging.specs.Calls.{length_number}
use Rattle.fault_steps.specs.Records.{fault_of}
use Rattle.fault_steps.specs.Steps.{reported, records, remaining, Between, Moves}
use Rattle.faults.specs.Records.{outcome, judged}

-- the list that is to be
abbrev pub whole : Bytes → List Fault → List Fault
whole file ys = sets ys 0 (map fault_of (reported file))

pub ahead_first : (file : Bytes) (s : Progress) (ys : List Fault) → s.count ≡ 0 → sets ys s.count (remaining file s) ≡ whole file ys
ahead_first file s ys e = ap (λ (k : ℕ). sets ys k (map fault_of (drop k (reported file)))) e

pub ahead_next : (file : Bytes) (s r : Progress) (places : List ℕ) (cur zs ys : List Fault) → Moves file s r places → length cur ≡ s.cap → zs ≡ sets cur r.from (records places 0 r.fit)
    → sets cur s.count (remaining file s) ≡ whole file ys → sets zs r.count (remaining file r) ≡ whole file ys
ahead_next file s r places cur zs ys h l e ahead = ap (λ (l : List Fault). sets l r.count (remaining file r)) e ∙ sym (h.writes cur l) ∙ ahead

none_left : (bs : List Break) (n : ℕ) → n ≡ length bs → map fault_of (drop n bs) ≡ []
none_left bs n e =
    let le : length bs ≤ n = omega (arith, e) in
    ap (map fault_of) (drop_of_length-le bs le)

all_is : (file : Bytes) (ys : List Fault) → length file ≤ LIMIT → outcome 0 (length (reported file)) (whole file ys) ≡ judged file ys
unfolding reported judged
all_is file ys h = rw (le-ltb LIMIT (length file) h)

pub ended : (file : Bytes) (s : Progress) (slots : List ℕ) (cur ys : List Fault) → Between file s slots → s.more ≡ false → sets cur s.count (remaining file s) ≡ whole file ys → outcome 0 s.count cur ≡ judged file ys
ended file s slots cur ys g e ahead =
    ap (λ (k : ℕ). outcome 0 k cur) (g.done e)
    ∙ ap (outcome 0 (length (reported file))) (sym (ap (sets cur s.count) (none_left (reported file) s.count (g.done e))) ∙ ahead) ∙ all_is file ys g.limit

-- no refusal has the number 0
refusal_numbered : (e : Refusal) → number_of e ≡ 0 → ⊥
refusal_numbered TooLong h = omega arith
refusal_numbered NoSection h = omega arith
refusal_numbered NoRow h = omega arith
refusal_numbered NoCell h = omega arith
refusal_numbered NoRoom h = omega arith
refusal_numbered NotAccepted h = omega arith
refusal_numbered BelowZero h = omega arith
refusal_numbered Past64Bits h = omega arith
refusal_numbered NoRecord h = omega arith
refusal_numbered NotAsMany h = omega arith
refusal_numbered TooLarge h = omega arith
refusal_numbered AllZero h = omega arith

-- a file that is refused is too long
pub refused_is : (file : Bytes) (ys : List Fault) (e : Refusal) → number_of e ≡ length_number file → outcome (number_of e) 0 ys ≡ judged file ys
unfolding length_number judged
refused_is file ys e h = go (ltb LIMIT (length file)) refl h
  where
    go : (t : Bool) → ltb LIMIT (length file) ≡ t → number_of e ≡ cond t TOO_LONG 0 → outcome (number_of e) 0 ys ≡ cond t (outcome TOO_LONG 0 ys) (outcome 0 (length (breaks file)) (sets ys 0 (map fault_of (breaks file))))
    go true q h = rw h
    go false q h = absurd (refusal_numbered e h)
