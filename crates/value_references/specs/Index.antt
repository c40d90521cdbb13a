-- An index: 1 to 64, decimal, no leading zero, in square brackets. Assumes nothing.
use Rattle.std.specs.Prelude.{ℕ, ◌+◌, ◌*◌, ◌-◌, ◌/◌, ◌%◌, ◌<◌, ◌≡◌, Bool, true, false, cond, ◌&&◌, [], ◌∷◌, eqb, leb, ltb, length, get_or, drop}
use Rattle.text_bytes.specs.Bytes.{Bytes}
use Rattle.value_references.specs.declared.index.Index.{Index}
use Rattle.value_references.specs.declared.index.Index.TheVariants.{Not, Bad, Is}
use Rattle.value_references.specs.declared.index.Flaw.{Flaw}
use Rattle.value_references.specs.declared.index.Flaw.TheVariants.{Form, Zero, Over}

-- the highest index
abbrev pub MOST : ℕ
MOST = 64

-- the index i as it is written: 91 is `[`, 48 is `0`, 93 is `]`
unfoldable pub written : ℕ → Bytes
written i = cond (ltb i 10) (91 ∷ (48 + i) ∷ 93 ∷ []) (91 ∷ (48 + i / 10) ∷ (48 + i % 10) ∷ 93 ∷ [])

abbrev pub is_digit : ℕ → Bool
is_digit x = leb 48 x && leb x 57

-- the digits at the front of a text
unfoldable pub digits : Bytes → Bytes
digits [] = []
digits (x ∷ s) = let r = x ∷ digits s in cond (is_digit x) r []

-- a number with one digit more
abbrev pub more : ℕ → ℕ → ℕ
more n d = n * 10 + (d - 48)

-- the number that digits write after n
unfoldable pub number : ℕ → Bytes → ℕ
number n [] = n
number n (d ∷ ds) = number (more n d) ds

-- whether `[`, one digit or more and `]` stand at the front of a text
unfoldable pub bracketed : Bytes → Bool
bracketed s =
    let n = length (digits (drop 1 s)) in
    eqb (get_or s 0 0) 91 && ltb 1 (1 + n) && eqb (get_or s (1 + n) 0) 93

-- whether the digits of a bracketed text begin with zero
abbrev pub begins_zero : Bytes → Bool
begins_zero s = eqb (get_or s 1 0) 48

-- the index at the front of a text, with the number of its bytes; a bad one begins with zero, else it is over the highest
unfoldable pub index_at : Bytes → Index
index_at s =
    let ds = digits (drop 1 s) in
    let w = 1 + length ds + 1 in
    cond (bracketed s)
    (cond (begins_zero s) (Bad Zero w) (cond (ltb MOST (number 0 ds)) (Bad Over w) (Is (number 0 ds) w)))
    Not

-- WHAT IS READ

-- whether brackets with digits stand there, good or bad
abbrev pub is_read : Index → Bool
is_read Not = false
is_read (Bad z w) = true
is_read (Is v w) = true

-- the index, 0 for none
abbrev pub index_in : Index → ℕ
index_in Not = 0
index_in (Bad z w) = 0
index_in (Is v w) = v

-- its flaw, Form for none
abbrev pub flaw_in : Index → Flaw
flaw_in Not = Form
flaw_in (Bad z w) = z
flaw_in (Is v w) = Form

-- FLAWS

-- no index is bad; one is zero or begins with zero; one is over the highest
abbrev pub is_form : Flaw → Bool
is_form Form = true
is_form Zero = false
is_form Over = false

abbrev pub is_zero : Flaw → Bool
is_zero Form = false
is_zero Zero = true
is_zero Over = false

abbrev pub is_over : Flaw → Bool
is_over Form = false
is_over Zero = false
is_over Over = true

-- the first of two flaws, Form for none
abbrev pub sooner : Flaw → Flaw → Flaw
sooner Form w = w
sooner Zero w = Zero
sooner Over w = Over

-- the digits behind the first byte of a text end at e: there are some, and the first is not zero
pub record Run (s : Bytes) (e : ℕ) : Type 0 where
  pub ends : e ≡ 1 + length (digits (drop 1 s))
  pub some : 1 < e
  pub first : get_or s 1 0 ≡ 48 → ⊥
