-- `book_kinds::family_number` meets its contract: the letters are tried in the order of the definition. Assumes nothing.
use native.Mathlib.Omega.{arith}
use mathlib.Core.Path.{sym, ap}
use Rattle.book_kinds.specs.Kinds.{family_number}
use Rattle.book_kinds.proofs.Laws.Letters.{no_family}
use Rattle.book_kinds.proofs.family_number.Goals as goal

pub returns-in-83 : goal.returns-in-83
unfolding family_number
returns-in-83 c = sym (ap family_number c.in-83.is)

pub returns-in-65 : goal.returns-in-65
unfolding family_number
returns-in-65 c = sym (ap family_number c.in-65.is)

pub returns-in-86 : goal.returns-in-86
unfolding family_number
returns-in-86 c = sym (ap family_number c.in-86.is)

pub returns-in-82 : goal.returns-in-82
unfolding family_number
returns-in-82 c = sym (ap family_number c.in-82.is)

pub returns-in_default : goal.returns-in_default
returns-in_default c = sym (no_family c.args.family (λ e. omega arith) (λ e. omega arith) (λ e. omega arith) (λ e. omega arith))
