-- `tally_cells::is_plain` meets its contract: both tests are those of the definition. Assumes nothing.
use mathlib.Core.Path.{ap}
use mathlib.Core.Bool.{Bool, ◌&&◌}
use lib.Dec.{ltb}
use Rattle.tally_cells.proofs.is_plain.Goals as goal

pub returns : goal.returns
returns c = ap (λ (t : Bool). ltb c.args.at c.args.end && t) c.is_end.ensures
