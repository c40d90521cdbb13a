-- `book_kinds::references_to`: the word that the letter's number gives is the family's. Assumes nothing.
use Rattle.book_kinds.proofs.references_to.Goals as goal

pub returns : goal.returns
returns c = rw (c.word.ensures, c.family_number.ensures) at c.references.ensures
