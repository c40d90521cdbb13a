-- `book::directory::code_of`: the line codes of a section stand in its entry of the directory. Assumes nothing.
use native.Mathlib.Omega.{arith}
use mathlib.Core.Path.{ap, ◌∙◌}
use mathlib.Core.Bool.{not}
use Prim.Native.Nat.{ℕ, ◌-◌}
use lib.Dec.{eqb}
use Rattle.book.specs.Text.{book_in}
use Rattle.book.proofs.Laws.Directing.{section_within, code_fits, code_of_section}
use Rattle.book.proofs.directory.code_of.Goals as goal

pub overflow_sub-j : goal.overflow_sub-j
overflow_sub-j c = omega (arith, (section_within (book_in c.args.text.now) c.args.section c.requires.section_value).0)

-- the code lies in the text
pub slice_bounds-result-end : goal.slice_bounds-result-end
slice_bounds-result-end c =
    let w = section_within (book_in c.args.text.now) c.args.section c.requires.section_value in
    code_fits c.requires.has_directory (not (eqb c.args.row 0)) c.code_place.result (c.args.section - c.from.result) c.code_place.ensures (omega arith)

pub returns : goal.returns
returns c =
    code_of_section c.requires.has_directory c.args.section c.args.row c.code_place.result (c.args.section - c.from.result) c.requires.section_value c.code_place.ensures
    (ap (λ (n : ℕ). c.args.section - n) (c.from.ensures ∙ c.requires.has_directory.first))
