-- The line of a required column. No public contract cites this file. Assumes nothing.
use Rattle.std.specs.Prelude.{Bool, length, leb}
use Rattle.text_bytes.specs.Bytes.{Bytes}

-- it has a letter and a space
abbrev pub is_line : Bytes → Bool
is_line line = leb 2 (length line)
