-- `capi::mztab_reading` meets its contract: `reading` gives the record, a host is told it, and the values of its case follow. Assumes nothing.
use mathlib.Core.Path.{◌∙◌}
use mir.ValLaws.{to_z-of_z}
use mir.Syntax.{w32, w64}
use Rattle.capi.proofs.Laws.{told_as}
use Rattle.capi.proofs.mztab_reading.Goals as goal

pub returns : goal.returns
returns c = told_as (rw (c.told-record.ensures.number_value, c.told-record.ensures.answer_value) c.reading.ensures) c.number_of.ensures (to_z-of_z w64 c.whole_of.result (record { sfits = c.whole_of.type_inv }) ∙ c.whole_of.ensures) (to_z-of_z w32 c.power_of.result (record { sfits = c.power_of.type_inv }) ∙ c.power_of.ensures) c.double_of.ensures
