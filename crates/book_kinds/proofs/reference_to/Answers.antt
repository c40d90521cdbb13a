-- `book_kinds::reference_to`: the word that the letter's number gives is the family's. Assumes nothing.
use Rattle.book_kinds.proofs.reference_to.Goals as goal

pub returns : goal.returns
returns c = rw (c.word.ensures, c.family_number.ensures) at c.read_reference.ensures
