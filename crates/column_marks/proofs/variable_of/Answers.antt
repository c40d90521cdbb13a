-- `column_marks::variable_of` meets its contract: a column's name is the word and an index, as a reference is. Assumes nothing.
use native.Mathlib.Omega.{arith}
use Rattle.text_bytes.specs.Bytes.{bytes}
use Rattle.value_references.proofs.Laws.Names.{ref_le}
use Rattle.column_marks.specs.Columns.{ABUNDANCE}
use Rattle.column_marks.specs.Marks.{variable_of}
use Rattle.column_marks.proofs.variable_of.Goals as goal

pub overflow_cast-result : goal.overflow_cast-result
unfolding bytes
overflow_cast-result c = omega (arith, c.reference-i.ensures, ref_le ABUNDANCE c.args.name.now)

pub returns : goal.returns
unfolding variable_of bytes
returns c = c.reference-i.ensures
