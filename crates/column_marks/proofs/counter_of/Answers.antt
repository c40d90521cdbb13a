-- `column_marks::counter_of` meets its contract: a column's name is a word and an index, as a reference is; the words are tried one after the other. Assumes nothing.
use Rattle.text_bytes.specs.Bytes.{bytes}
use Rattle.column_marks.proofs.Laws.Columning.{counts_psms, counts_distinct, counts_unique, counts_nothing}
use Rattle.column_marks.proofs.counter_of.Goals as goal

pub returns-then-reference-ne0 : goal.returns-then-reference-ne0
unfolding bytes
returns-then-reference-ne0 c = counts_psms c.args.name.now c.reference.ensures c.if-reference-ne0.true

pub returns-then-reference-ne0-2 : goal.returns-then-reference-ne0-2
unfolding bytes
returns-then-reference-ne0-2 c = counts_distinct c.args.name.now c.reference.ensures c.if-reference-ne0.false c.reference-2.ensures c.if-reference-ne0-2.true

pub returns-then-reference-ne0-3 : goal.returns-then-reference-ne0-3
unfolding bytes
returns-then-reference-ne0-3 c = counts_unique c.args.name.now c.reference.ensures c.if-reference-ne0.false c.reference-2.ensures c.if-reference-ne0-2.false c.reference-3.ensures c.if-reference-ne0-3.true

pub returns : goal.returns
unfolding bytes
returns c = counts_nothing c.args.name.now c.reference.ensures c.if-reference-ne0.false c.reference-2.ensures c.if-reference-ne0-2.false c.reference-3.ensures c.if-reference-ne0-3.false
