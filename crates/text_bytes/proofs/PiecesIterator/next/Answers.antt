-- `text_bytes::Pieces` gives the pieces: the first ends where the byte stands first, and those after it are the pieces of what is left. Assumes nothing.
use mathlib.Core.Path.{◌≡◌, sym, ap, ◌∙◌}
use mathlib.Core.List.{List, [], ◌∷◌}
use Prim.Native.Nat.{ℕ, ◌+◌, ◌-◌}
use native.Mathlib.Omega.{arith}
use borrow.Author.Rules.{rules}
use lib.ListN.{length, take, drop, length-drop}
use lib.Seq.{take_all}
use Rattle.text_bytes.specs.Bytes.{split_on}
use Rattle.text_bytes.specs.Places.{Ends}
use Rattle.text_bytes.specs.Pieces.{pieces_left, pieces_of}
use Rattle.text_bytes.proofs.Laws.Pieces.{piece_cut, piece_last}
use Rattle.text_bytes.proofs.PiecesIterator.next.Goals as goal

-- the last piece, and one with others after it
last : {b : ℕ} (f : List ℕ) {e : ℕ} → Ends b f 0 e → e ≡ length f → split_on b f ≡ f ∷ []
last f h q = piece_last h q ∙ ap (λ (x : List ℕ). x ∷ []) (take_all _ f (omega arith))

first : {b : ℕ} (f : List ℕ) {e : ℕ} → Ends b f 0 e → (e ≡ length f → ⊥) → split_on b f ≡ take e f ∷ split_on b (take (length f - (e + 1)) (drop (e + 1) f))
first {b} f {e} h ne =
    let k : e - 0 ≡ e = omega arith in
    let cut : split_on b f ≡ take (e - 0) f ∷ split_on b (drop (e + 1) f) = piece_cut h (omega (arith, h.within)) in
    (rw k at cut) ∙ ap (λ (x : List ℕ). take e f ∷ split_on b x) (sym (take_all (length f - (e + 1)) (drop (e + 1) f) (omega (arith, length-drop (e + 1) f))))

pub returns-then-end-rest-clause-steps : goal.returns-then-end-rest-clause-steps
returns-then-end-rest-clause-steps c = ap (pieces_of c.args.self.now.mark) c.in_ok-rest.was ∙ last c.in_ok-rest.rest.now c.seek-end.ensures c.if-end-rest.true

pub returns-then-end-rest-clause-goes : goal.returns-then-end-rest-clause-goes
returns-then-end-rest-clause-goes c =
    let shorter = ap length (ap (pieces_of c.args.self.now.mark) c.in_ok-rest.was ∙ last c.in_ok-rest.rest.now c.seek-end.ensures c.if-end-rest.true) in
    search rules

pub returns-clause-steps : goal.returns-clause-steps
returns-clause-steps c = ap (pieces_of c.args.self.now.mark) c.in_ok-rest.was ∙ first c.in_ok-rest.rest.now c.seek-end.ensures c.if-end-rest.false

pub returns-clause-goes : goal.returns-clause-goes
returns-clause-goes c =
    let shorter = ap length (ap (pieces_of c.args.self.now.mark) c.in_ok-rest.was ∙ first c.in_ok-rest.rest.now c.seek-end.ensures c.if-end-rest.false) in
    search rules
