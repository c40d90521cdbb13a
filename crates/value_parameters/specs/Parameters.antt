-- A parameter, and a list of parameters. Paper 01, 'The kinds of value'. Assumes nothing.
use Rattle.std.specs.Prelude.{ℕ, ◌-◌, Bool, false, cond, ◌&&◌, not, List, [], ◌∷◌, length, get_or, eqb, leb}
use Rattle.text_bytes.specs.Bytes.{Bytes, BAR, COMMA, is_space, all, on_first}
use Rattle.text_bytes.specs.Places.{part}

abbrev pub MARK : ℕ
MARK = 34

abbrev pub OPENS : ℕ
OPENS = 91

abbrev pub CLOSES : ℕ
CLOSES = 93

-- outside a quotation a mark opens one, inside it the next mark closes it
abbrev pub turn : Bool → ℕ → Bool
turn quoted b = cond (eqb b MARK) (not quoted) quoted

-- whether a quotation is open after a text, where `quoted` says whether one is before it
unfoldable pub quoted_after : Bool → Bytes → Bool
quoted_after quoted [] = quoted
quoted_after quoted (b ∷ bs) = quoted_after (turn quoted b) bs

-- a separator outside quotation marks
abbrev pub separates : ℕ → Bool → ℕ → Bool
separates sep quoted b = not quoted && eqb b sep

-- the pieces between the separators that stand outside quotation marks
unfoldable pub cut_outside : ℕ → Bool → Bytes → List Bytes
cut_outside sep quoted [] = [] ∷ []
cut_outside sep quoted (b ∷ bs) =
    let rest = cut_outside sep (turn quoted b) bs in
    cond (separates sep quoted b) ([] ∷ rest) (on_first b rest)

-- exactly three commas outside quotation marks, so four fields; no quotation open at the end; the third field holds something besides spaces
unfoldable pub has_fields : Bytes → Bool
has_fields b =
    eqb (length (cut_outside COMMA false b)) 4 && not (quoted_after false b) && not (all is_space (get_or (cut_outside COMMA false b) 2 []))

-- first byte `[`, last byte a `]` of its own, so that there are two at least, and the fields between them
unfoldable pub is_parameter : Bytes → Bool
is_parameter b =
    leb 2 (length b) && eqb (get_or b 0 0) OPENS && eqb (get_or b (length b - 1) 0) CLOSES && has_fields (part 1 (length b - 1) b)

-- one or more; each `|` outside quotation marks separates
unfoldable pub is_parameters : Bytes → Bool
is_parameters b = all is_parameter (cut_outside BAR false b)
