-- What the steps of the look-up answer: the contracts of private functions cite it, and those of public ones do not. Assumes nothing.
use Rattle.std.specs.Prelude.{ℕ, ◌+◌, ◌-◌, ◌≡◌, Bool, true, false, cond, ◌&&◌, ◌||◌, [], ◌∷◌, eqb, get_or}
use Rattle.text_bytes.specs.Bytes.{Bytes, SPACE}
use Rattle.value_references.specs.Index.{is_digit, index_at, flaw_in}
use Rattle.value_references.specs.declared.index.Index.{Index}
use Rattle.value_references.specs.declared.index.Index.TheVariants.{Not, Bad, Is}
use Rattle.value_references.specs.declared.index.Flaw.{Flaw}
use Rattle.value_references.specs.declared.index.Flaw.TheVariants.{Form, Zero, Over}
use Rattle.book_names.specs.Names.{OPEN, CLOSE, missing}
use Rattle.book_names.specs.declared.Match.{Match}
use Rattle.book_names.specs.declared.Match.TheVariants.{Differs, Misses, Fits}

-- WHERE A PATTERN HAS A PLACE: the bytes that are passed over, 0 where no index stands there; and the index that is taken, 1 for a bad one
abbrev pub width_in : Index → ℕ
width_in Not = 0
width_in (Bad z w) = w
width_in (Is v w) = w

abbrev pub taken_in : Index → ℕ
taken_in Not = 0
taken_in (Bad z w) = 1
taken_in (Is v w) = v

-- this was read at the front of s: the index v is taken, w bytes are passed over, and z is its flaw
pub record Place (s : Bytes) (v w : ℕ) (z : Flaw) : Type 0 where
  pub width : w ≡ width_in (index_at s)
  pub taken : v ≡ taken_in (index_at s)
  pub flaw : z ≡ flaw_in (index_at s)

-- what a name is that has the flaw z, Form for none, in front of a rest that is m
abbrev pub flawed : Flaw → Match → Match
flawed Form m = m
flawed Zero m = missing Zero m
flawed Over m = missing Over m

-- the flaw that a name has against a pattern, Form for none
abbrev pub flaw_of : Match → Flaw
flaw_of Differs = Form
flaw_of (Misses z) = z
flaw_of (Fits i j) = Form

-- BEFORE A ROW IS READ

-- whether a pattern whose second byte is q may fit a name that begins with x and y
unfoldable pub may_fit : ℕ → ℕ → ℕ → Bool
may_fit q x y = eqb q y || (eqb q OPEN || (eqb q SPACE || (eqb x OPEN || eqb x SPACE)))

-- whether a pattern may end before q in a row where the name's last byte is z: a space stands at q, and before it z, or a place where z is `]`
unfoldable pub may_end : Bytes → ℕ → ℕ → Bool
may_end row q z = eqb (get_or row q 0) SPACE && (eqb (get_or row (q - 1) 0) z || (eqb z CLOSE && eqb (get_or row (q - 3) 0) OPEN))

-- how many bytes the text of a name's form has: digits behind `[` count none and `]` behind them two, so that each index counts as the `[n]` of a pattern
abbrev pub counts : Bool → ℕ → ℕ
counts false x = 1
counts true x = cond (is_digit x) 0 (cond (eqb x CLOSE) 2 1)

-- whether digits that come now stand behind `[`
abbrev pub opens : Bool → ℕ → Bool
opens inside x = eqb x OPEN || (inside && is_digit x)

unfoldable pub extent : Bool → Bytes → ℕ
extent inside [] = 0
extent inside (x ∷ s) = counts inside x + extent (opens inside x) s

-- the bytes of a `]` at a place of a name
abbrev pub close_at : Bytes → ℕ → ℕ
close_at name at = cond (eqb (get_or name at SPACE) CLOSE) 1 0
