-- What an iterator over pieces has left. Assumes nothing.
use Rattle.std.specs.Prelude.{ℕ, List, [], Option, Some, None}
use Rattle.std.specs.Borrow.{Bor}
use Rattle.text_bytes.specs.Bytes.{Bytes, split_on}
use Rattle.text_bytes.specs.declared.Pieces.{Pieces}

-- the pieces of a rest, where there is one
abbrev pub pieces_of : ℕ → Option (Bor Bytes) → List Bytes
pieces_of mark (Some rest) = split_on mark rest.now
pieces_of mark None = []

abbrev pub pieces_left : Pieces → List Bytes
pieces_left p = pieces_of p.mark p.rest
