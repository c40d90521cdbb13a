-- What the scans of parameters carry from byte to byte. No public contract cites it: proofs/Laws shows that it answers what specs/Parameters says. Assumes nothing.
use Rattle.std.specs.Prelude.{ℕ, ◌+◌, Bool, false, cond, ◌&&◌, ◌||◌, not, [], ◌∷◌, eqb, ltb}
use Rattle.text_bytes.specs.Bytes.{Bytes, BAR, COMMA, SPACE}
use Rattle.value_parameters.specs.Parameters.{turn, separates}
use Rattle.value_parameters.specs.declared.Scan.{Scan}

-- the place, the commas outside marks, whether a quotation is open, and whether the third field holds something
abbrev pub state : ℕ → ℕ → Bool → Bool → Scan
state i n q f = record { at = i; commas = n; quoted = q; filled = f }

-- where a part begins
abbrev pub start : ℕ → Scan
start i = state i 0 false false

-- one comma more, up to four: more than three are too many, however many
abbrev pub one_more : ℕ → ℕ
one_more n = cond (ltb n 4) (n + 1) n

-- whether the third field holds something besides spaces, with b in the field after n commas
abbrev pub held : ℕ → Bool → ℕ → Bool
held n f b = f || (eqb n 2 && not (eqb b SPACE))

abbrev pub step : Scan → ℕ → Scan
step st b =
    state (st.at + 1)
    (cond (separates COMMA st.quoted b) (one_more st.commas) st.commas)
    (turn st.quoted b)
    (cond (separates COMMA st.quoted b) st.filled (held st.commas st.filled b))

-- the state after a text; where bars separate, at the first bar outside marks
unfoldable pub run : Bool → Scan → Bytes → Scan
run bars st [] = st
run bars st (b ∷ bs) =
    let rest = run bars (step st b) bs in
    cond (bars && separates BAR st.quoted b) st rest

-- whether what was scanned has the fields of a parameter
abbrev pub good : Scan → Bool
good st = eqb st.commas 3 && not st.quoted && st.filled
