-- `value_references::reference` meets its contract: it is the index that is read there, 0 where that is bad or none. Assumes nothing.
use mathlib.Core.Path.{ap, ◌∙◌}
use Rattle.value_references.specs.Index.{index_in}
use Rattle.value_references.specs.References.{ref_to}
use Rattle.value_references.proofs.reference.Goals as goal

pub returns : goal.returns
unfolding ref_to
returns c = c.index_in.ensures ∙ ap index_in c.read_reference.ensures
