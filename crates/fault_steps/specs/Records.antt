-- The record of a break: paper 01, 'Calls and what they give back'. Assumes nothing.
use Rattle.rules.specs.Breaks.{Break}
use Rattle.fault_steps.specs.declared.Fault.{Fault}

abbrev pub fault_of : Break → Fault
fault_of b = record { rule = b.rule; line = b.line; cell = b.cell; first = b.first }
