-- `line_meta_values::judge_references` meets its contract. The invariant: the indices behind the first `i` decide. Assumes nothing.
use mathlib.Core.Path.{◌≡◌, refl, sym, ap, ◌∙◌}
use mathlib.Core.Bool.{Bool, true, false, not, ◌&&◌}
use mathlib.Core.List.{List}
use Prim.Native.Nat.{ℕ, ◌+◌, ◌-◌}
use lib.ListN.{get_or}
use native.Mathlib.Omega.{arith}
use lib.Dec.{eqb}
use Rattle.text_bytes.specs.Bytes.{any, all}
use Rattle.value_references.specs.References.{refs_to, is_references}
use Rattle.book_kinds.specs.Kinds.{family_number, word_of}
use Rattle.scan.specs.Machine.{flaw_rule, ids_of}
use Rattle.value_references.specs.declared.index.Flaw.{Flaw}
use Rattle.line_meta_values.proofs.Laws.Referring.{list_good, list_named, list_flawed, is_high, refs_high}
use Rattle.line_meta_values.proofs.Laws.Valuing.{rule_wrong, rule_good, left_start, left_next, left_hit, left_end}
use Rattle.line_meta_values.proofs.judge_references.Goals as goal

pub returns-then-not-told : goal.returns-then-not-told
returns-then-not-told c =
    let bad = list_good 108 c.args.family c.args.value.now refl ∙ sym c.references_to-told.ensures.good ∙ c.if-not-told.true in
    let why = c.references_to-told.ensures.flaw ∙ sym (list_flawed 108 c.args.family c.args.value.now refl) in
    c.flaw_rule.ensures ∙ ap (λ (z : Flaw). flaw_rule z 7) why ∙ sym (rule_wrong (ids_of c.args.flags.now) 108 c.args.family c.args.value.now bad)

pub loop-i-init : goal.loop-i-init
loop-i-init c =
    let refs : List ℕ = refs_to (word_of c.args.family) c.args.value.now in
    let good : is_references (word_of c.args.family) c.args.value.now ≡ true = sym c.references_to-told.ensures.good ∙ c.if-not-told.false in
    let high : all is_high refs ≡ true = refs_high (word_of c.args.family) c.args.value.now good in
    left_start _ refs high

pub is_declared-requires : goal.is_declared-requires
is_declared-requires c = record { flags = c.requires; le_index = (omega arith, omega arith) }

pub returns-then-named-is_declared : goal.returns-then-named-is_declared
returns-then-named-is_declared c =
    let refs : List ℕ = refs_to (word_of c.args.family) c.args.value.now in
    let good : is_references (word_of c.args.family) c.args.value.now ≡ true = sym c.references_to-told.ensures.good ∙ c.if-not-told.false in
    let lacks : ℕ → Bool = λ i. not (ids_of c.args.flags.now (family_number c.args.family) i) in
    let z : c.loop-i.i + 1 - 1 ≡ c.loop-i.i = omega arith in
    let named : get_or c.references_to-told.result.named c.loop-i.i false ≡ any (eqb (c.loop-i.i + 1)) refs = rw z at (c.references_to-told.ensures.named (c.loop-i.i + 1) (omega arith) (omega arith)) in
    let tested : (get_or c.references_to-told.result.named c.loop-i.i false && not c.is_declared.result) ≡ (any (eqb (c.loop-i.i + 1)) refs && lacks (c.loop-i.i + 1)) = rw (named, c.is_declared.ensures, c.family_number-number.ensures) in
    sym (rule_good (ids_of c.args.flags.now) 108 c.args.family c.args.value.now true
    (list_good 108 c.args.family c.args.value.now refl ∙ good)
    (left_hit lacks (c.loop-i.i + 1) refs (sym tested ∙ c.if-named-is_declared.true) c.loop-i.invariant ∙ ap (any lacks) (sym (list_named 108 c.args.family c.args.value.now refl))))

pub loop-i-preserved : goal.loop-i-preserved
loop-i-preserved c =
    let refs : List ℕ = refs_to (word_of c.args.family) c.args.value.now in
    let lacks : ℕ → Bool = λ i. not (ids_of c.args.flags.now (family_number c.args.family) i) in
    let z : c.loop-i.i + 1 - 1 ≡ c.loop-i.i = omega arith in
    let named : get_or c.references_to-told.result.named c.loop-i.i false ≡ any (eqb (c.loop-i.i + 1)) refs = rw z at (c.references_to-told.ensures.named (c.loop-i.i + 1) (omega arith) (omega arith)) in
    let tested : (get_or c.references_to-told.result.named c.loop-i.i false && not c.is_declared.result) ≡ (any (eqb (c.loop-i.i + 1)) refs && lacks (c.loop-i.i + 1)) = rw (named, c.is_declared.ensures, c.family_number-number.ensures) in
    left_next lacks (c.loop-i.i + 1) refs (sym tested ∙ c.if-named-is_declared.false) c.loop-i.invariant

pub returns : goal.returns
returns c =
    let refs : List ℕ = refs_to (word_of c.args.family) c.args.value.now in
    let good : is_references (word_of c.args.family) c.args.value.now ≡ true = sym c.references_to-told.ensures.good ∙ c.if-not-told.false in
    let high : all is_high refs ≡ true = refs_high (word_of c.args.family) c.args.value.now good in
    let lacks : ℕ → Bool = λ i. not (ids_of c.args.flags.now (family_number c.args.family) i) in
    sym (rule_good (ids_of c.args.flags.now) 108 c.args.family c.args.value.now false
    (list_good 108 c.args.family c.args.value.now refl ∙ good)
    (left_end lacks (c.loop-i.i + 1) refs (omega arith) high c.loop-i.invariant ∙ ap (any lacks) (sym (list_named 108 c.args.family c.args.value.now refl))))
