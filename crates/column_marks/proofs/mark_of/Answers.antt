-- `column_marks::mark_of` meets its contract: a name is marked by what is asked for. Assumes nothing.
use Rattle.column_marks.proofs.mark_of.Goals as goal

pub returns-in-Variables : goal.returns-in-Variables
returns-in-Variables c = rw c.in-Variables.is c.variable_of.ensures

pub returns-in-Counters : goal.returns-in-Counters
returns-in-Counters c = rw c.in-Counters.is c.counter_of.ensures
