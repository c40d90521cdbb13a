-- `line_meta_values::judge_reference` meets its contract: the one index that the value names is bad, or declared or not. Assumes nothing.
use mathlib.Core.Path.{◌≡◌, refl, sym, ap, ◌∙◌}
use mathlib.Core.Bool.{not}
use Prim.Native.Nat.{ℕ}
use native.Mathlib.Omega.{arith}
use borrow.Author.Tests.{ne_eqb}
use Rattle.value_references.specs.Index.{index_in, flaw_in}
use Rattle.value_references.specs.References.{ref_to, ref_flaw, is_index}
use Rattle.value_references.specs.declared.index.Flaw.{Flaw}
use Rattle.value_references.proofs.Laws.Names.{ref_le}
use Rattle.book_kinds.specs.Kinds.{family_number, word_of}
use Rattle.scan.specs.Machine.{flaw_rule, ids_of}
use Rattle.line_meta_values.proofs.Laws.Referring.{one_good, one_flawed}
use Rattle.line_meta_values.proofs.Laws.Valuing.{rule_wrong, rule_good, one_any}
use Rattle.line_meta_values.proofs.judge_reference.Goals as goal

pub returns-then-index-eq0 : goal.returns-then-index-eq0
unfolding ref_flaw ref_to
returns-then-index-eq0 c =
    let index : c.index_in-index.result ≡ ref_to (word_of c.args.family) c.args.value.now = c.index_in-index.ensures ∙ ap index_in c.reference_to-found.ensures in
    let bad = one_good 114 c.args.family c.args.value.now refl ∙ ap is_index (sym index ∙ c.if-index-eq0.true) in
    let why = c.flaw_in.ensures ∙ ap flaw_in c.reference_to-found.ensures ∙ sym (one_flawed 114 c.args.family c.args.value.now refl) in
    c.flaw_rule.ensures ∙ ap (λ (z : Flaw). flaw_rule z 7) why ∙ sym (rule_wrong (ids_of c.args.flags.now) 114 c.args.family c.args.value.now bad)

pub is_declared-declared-requires : goal.is_declared-declared-requires
unfolding ref_to
is_declared-declared-requires c =
    let index : c.index_in-index.result ≡ ref_to (word_of c.args.family) c.args.value.now = c.index_in-index.ensures ∙ ap index_in c.reference_to-found.ensures in
    record {
      flags = c.requires;
      le_index = (omega (arith, c.if-index-eq0.false), omega (arith, index, ref_le (word_of c.args.family) c.args.value.now));
    }

pub returns : goal.returns
unfolding ref_to
returns c =
    let index : c.index_in-index.result ≡ ref_to (word_of c.args.family) c.args.value.now = c.index_in-index.ensures ∙ ap index_in c.reference_to-found.ensures in
    let e = index in
    let good = one_good 114 c.args.family c.args.value.now refl ∙ ap is_index (sym e) ∙ ap not (ne_eqb c.index_in-index.result 0 c.if-index-eq0.false) in
    let named = rw (c.family_number.ensures, e) at c.is_declared-declared.ensures in
    c.rule_if.ensures
    ∙ sym (rule_good (ids_of c.args.flags.now) 114 c.args.family c.args.value.now (not c.is_declared-declared.result) good
    (ap not named ∙ sym (one_any (ids_of c.args.flags.now) 114 c.args.family c.args.value.now (λ (i : ℕ). not (ids_of c.args.flags.now (family_number c.args.family) i)) refl)))
