-- `line_meta_values::judge_references` meets its contract. The invariant: the indices behind the first `i` decide. Assumes nothing.
use mathlib.Core.Bool.{not}
use Prim.Native.Nat.{◌+◌}
use Rattle.value_references.specs.References.{refs_to}
use Rattle.book_kinds.specs.Kinds.{family_number, word_of}
use Rattle.scan.specs.Machine.{ids_of}
use Rattle.line_meta_values.proofs.Laws.Valuing.{Left}
use Rattle.line_meta_values.proofs.judge_references.Given as goal

abbrev pub invariant-loop-i : goal.invariant-loop-i
invariant-loop-i l = Left (λ n. not (ids_of l.flags (family_number l.family) n)) (refs_to (word_of l.family) l.value) (l.i + 1)
