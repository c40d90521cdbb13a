-- `text::lines::ends_in` meets its contract. The invariant: the LF met are the lines passed with the k bytes passed. Assumes nothing.
use Rattle.text.proofs.Laws.Openings.{Counted}
use Rattle.text.proofs.lines.ends_in.Given as goal

abbrev pub invariant-loop-k : goal.invariant-loop-k
invariant-loop-k l = Counted l.file l.at l.n l.k
