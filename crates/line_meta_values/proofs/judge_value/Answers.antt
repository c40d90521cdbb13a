-- `line_meta_values::judge_value` meets its contract: only the two kinds of references name ids. Assumes nothing.
use native.Mathlib.Omega.{arith}
use mathlib.Core.Path.{sym, ap, ◌∙◌}
use Prim.Native.Nat.{ℕ}
use Rattle.scan.specs.Machine.{ids_of, kind_rule}
use Rattle.line_meta_values.proofs.Laws.Valuing.{rule_plain}
use Rattle.line_meta_values.proofs.judge_value.Goals as goal

pub returns-in-114 : goal.returns-in-114
returns-in-114 c = c.judge_reference.ensures ∙ ap (λ (k : ℕ). kind_rule (ids_of c.args.flags.now) k c.args.family c.args.value.now) (sym c.in-114.is)

pub returns-in-108 : goal.returns-in-108
returns-in-108 c = c.judge_references.ensures ∙ ap (λ (k : ℕ). kind_rule (ids_of c.args.flags.now) k c.args.family c.args.value.now) (sym c.in-108.is)

pub returns-in_default : goal.returns-in_default
returns-in_default c = c.rule_if.ensures ∙ rule_plain (ids_of c.args.flags.now) c.args.kind c.args.family c.args.value.now c.of_kind.result (λ e. omega arith) (λ e. omega arith) c.of_kind.ensures
