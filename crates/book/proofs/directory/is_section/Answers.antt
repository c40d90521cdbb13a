-- `book::directory::is_section`: the directory has the number of the first section and how many there are. Assumes nothing.
use native.Mathlib.Omega.{arith}
use mathlib.Core.Path.{◌≡◌, ap, sym, ◌∙◌}
use Prim.Native.Nat.{◌+◌}
use lib.Dec.{ltb}
use lib.ListN.{length}
use Rattle.book.specs.Text.{book_in}
use Rattle.book.proofs.Laws.Directing.{section_below, section_from}
use Rattle.book.proofs.directory.is_section.Goals as goal

pub returns-then-section-first : goal.returns-then-section-first
returns-then-section-first c = sym (section_below (book_in c.args.text.now) c.args.section (omega arith))

pub returns : goal.returns
returns c =
    let b = book_in c.args.text.now in
    let e : c.from-first.result + c.from-count.result ≡ b.first + length b.sections = omega arith in
    ap (ltb c.args.section) e ∙ sym (section_from b c.args.section (omega arith))
