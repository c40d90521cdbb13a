-- That no second outcome fits, for the calls for hosts. Assumes nothing.
use Rattle.std.specs.Prelude.{ℕ, ◌≡◌, ℤ, Float}
use Rattle.std.proofs.Common.{sym, ◌∙◌}
use Rattle.text_bytes.specs.Bytes.{Bytes}
use Rattle.mztab.specs.Shown.{Sought}
use Rattle.mztab.specs.Readings.{Told}
use Rattle.capi.specs.Answers.{CellAt, CellOrAt, ReadAs}

-- `mztab_cell`: one number, one start, one length
pub mztab_cell_once : {file : Bytes} {s : Sought} {n m a b k l : ℕ} → CellAt file s n a k → CellAt file s m b l → (n ≡ m) × (a ≡ b) × (k ≡ l)
mztab_cell_once p q = (p.says ∙ sym q.says, p.from ∙ sym q.from, p.long ∙ sym q.long)

-- `mztab_cell_or`: one number, one start, one length, and one of the two
pub mztab_cell_or_once : {file other : Bytes} {s : Sought} {n m a b k l t u : ℕ} → CellOrAt file other s n a k t → CellOrAt file other s m b l u → (n ≡ m) × (a ≡ b) × (k ≡ l) × (t ≡ u)
mztab_cell_or_once p q = (p.says ∙ sym q.says, p.from ∙ sym q.from, p.long ∙ sym q.long, p.stands ∙ sym q.stands)

-- `mztab_reading`: one of each
pub mztab_reading_once : {t : Told} {n m r q l k c d : ℕ} {w v p o : ℤ} {x y : Float} → ReadAs t n r l c w p x → ReadAs t m q k d v o y
    → (n ≡ m) × (r ≡ q) × (l ≡ k) × (c ≡ d) × (w ≡ v) × (p ≡ o) × (x ≡ y)
mztab_reading_once a b =
    (a.says ∙ sym b.says, a.is ∙ sym b.is, a.on ∙ sym b.on, a.at ∙ sym b.at, a.wholes ∙ sym b.wholes, a.scaled ∙ sym b.scaled, a.doubles ∙ sym b.doubles)
