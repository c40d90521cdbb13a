-- `value_readings::numeral` meets its contract: where it is cut are its digits and its exponent. Assumes nothing.
use mathlib.Core.Path.{sym, ◌∙◌}
use lib.Seq.{length-take-le}
use mir.Syntax.{w32}
use mir.ValLaws.{to_z-of_z}
use Rattle.value_readings.proofs.Laws.Readings.{cut_exponent, cut_before, cut_after, cut_read}
use Rattle.value_readings.proofs.numeral.Goals as goal

pub exponent-x-requires : goal.exponent-x-requires
exponent-x-requires c = cut_exponent c.requires.0 c.requires.1

pub slice_bounds-decimal-end : goal.slice_bounds-decimal-end
slice_bounds-decimal-end c = sym (length-take-le c.args.m.whole c.args.u.now c.requires.0.first)

pub decimal-requires : goal.decimal-requires
decimal-requires c = (cut_before c.requires.0 c.requires.1, cut_after c.requires.0 c.requires.1, rw (to_z-of_z w32 c.exponent-x.result (record { sfits = c.exponent-x.type_inv })) c.exponent-x.ensures.1)

pub returns : goal.returns
returns c = c.decimal.ensures ∙ cut_read c.requires.0 c.requires.1 c.args.minus _ (to_z-of_z w32 c.exponent-x.result (record { sfits = c.exponent-x.type_inv }) ∙ c.exponent-x.ensures.0)
