-- `book_fits::fits`: the flaw so far, and what is left of the row and of the name, decide the whole. Assumes nothing.
use borrow.Author.Rules.{rules}
use native.Mathlib.Omega.{arith}
use mathlib.Core.Path.{◌≡◌, refl, sym, ◌∙◌, ap}
use mathlib.Core.List.{List}
use Prim.Native.Nat.{ℕ, ◌+◌, ◌≤◌, ◌<◌}
use lib.ListN.{length, drop, length-drop}
use Rattle.value_references.specs.declared.index.Flaw.{Flaw}
use Rattle.book_names.specs.Steps.{flawed, Place}
use Rattle.book_names.proofs.Laws.Flaws.{turn_differs, turn_flaw, place_within}
use Rattle.book_names.proofs.Laws.Turns.{inside, rest_end, rest_space, rest_byte, rest_other, rest_none, rest_first, rest_second, rest_third}
use Rattle.book_fits.proofs.fits.Goals as goal

-- a place is passed over within the name, and has a byte
passed : (name : List ℕ) (b v w : ℕ) (z : Flaw) → b ≤ length name → Place (drop b name) v w z → b + w ≤ length name
passed name b v w z h p = omega (arith, length-drop b name, place_within (drop b name) v w z p)

has_byte : {w : ℕ} → 1 ≤ w → w ≡ 0 → ⊥
has_byte h e = omega arith

pub returns-then-x-eq-SPACE : goal.returns-then-x-eq-SPACE
returns-then-x-eq-SPACE c =
    let row : List ℕ = c.args.p.now in
    let name : List ℕ = c.args.s.now in
    c.ended.ensures
    ∙ sym (c.loop-a.invariant.1 ∙ ap (flawed c.loop-a.flaw) (rest_space row name c.loop-a.a c.loop-a.b c.loop-a.i c.loop-a.j (search rules) c.if-x-eq-SPACE.true))

pub returns-in_default : goal.returns-in_default
returns-in_default c =
    let row : List ℕ = c.args.p.now in
    let name : List ℕ = c.args.s.now in
    sym (turn_differs c.loop-a.flaw c.loop-a.invariant.1
    (rest_none row name c.loop-a.a c.loop-a.b c.loop-a.i c.loop-a.j (search rules) c.if-x-eq91.true _ _ _ c.in_default.ensures refl))

pub overflow_add-b : goal.overflow_add-b
overflow_add-b c =
    let name : List ℕ = c.args.s.now in
    let within = passed name c.loop-a.b _ _ _ c.loop-a.invariant.0 c.in-Some.ensures.1 in
    omega (arith, within)

pub loop-a-preserved-then-i-eq0 : goal.loop-a-preserved-then-i-eq0
loop-a-preserved-then-i-eq0 c =
    let row : List ℕ = c.args.p.now in
    let name : List ℕ = c.args.s.now in
    let within = passed name c.loop-a.b _ _ _ c.loop-a.invariant.0 c.in-Some.ensures.1 in (
      within,
      turn_flaw c.loop-a.flaw c.loop-a.invariant.1 _ _ _
          (rest_first row name c.loop-a.a c.loop-a.b c.loop-a.i c.loop-a.j (search rules) c.if-x-eq91.true _ _ _ c.in-Some.ensures.1 (has_byte c.in-Some.ensures.0) c.if-i-eq0.true)
          c.sooner-flaw.ensures,
    )

pub loop-a-preserved-then-j-eq0 : goal.loop-a-preserved-then-j-eq0
loop-a-preserved-then-j-eq0 c =
    let row : List ℕ = c.args.p.now in
    let name : List ℕ = c.args.s.now in
    let within = passed name c.loop-a.b _ _ _ c.loop-a.invariant.0 c.in-Some.ensures.1 in (
      within,
      turn_flaw c.loop-a.flaw c.loop-a.invariant.1 _ _ _
          (rest_second row name c.loop-a.a c.loop-a.b c.loop-a.i c.loop-a.j (search rules) c.if-x-eq91.true _ _ _ c.in-Some.ensures.1 (has_byte c.in-Some.ensures.0) c.if-i-eq0.false c.if-j-eq0.true)
          c.sooner-flaw.ensures,
    )

pub returns-else-j-eq0 : goal.returns-else-j-eq0
returns-else-j-eq0 c =
    let row : List ℕ = c.args.p.now in
    let name : List ℕ = c.args.s.now in
    sym (turn_differs c.loop-a.flaw c.loop-a.invariant.1
    (rest_third row name c.loop-a.a c.loop-a.b c.loop-a.i c.loop-a.j (search rules) c.if-x-eq91.true _ _ _ c.in-Some.ensures.1 (has_byte c.in-Some.ensures.0) c.if-i-eq0.false c.if-j-eq0.false))

pub returns-then-byte_of-x : goal.returns-then-byte_of-x
returns-then-byte_of-x c =
    let row : List ℕ = c.args.p.now in
    let name : List ℕ = c.args.s.now in
    sym (turn_differs c.loop-a.flaw c.loop-a.invariant.1
    (rest_other row name c.loop-a.a c.loop-a.b c.loop-a.i c.loop-a.j (search rules) c.if-x-eq-SPACE.false c.if-x-eq91.false (λ e. c.if-byte_of-x.true (c.byte_of.ensures ∙ e))))

pub loop-a-preserved : goal.loop-a-preserved
loop-a-preserved c =
    let row : List ℕ = c.args.p.now in
    let name : List ℕ = c.args.s.now in
    let stands : c.loop-a.b < length name = inside name c.loop-a.b (λ z. c.if-x-eq-SPACE.false (sym c.if-byte_of-x.false ∙ c.byte_of.ensures ∙ z)) in (
      omega (arith, stands),
      c.loop-a.invariant.1 ∙ ap (flawed c.loop-a.flaw)
          (rest_byte row name c.loop-a.a c.loop-a.b c.loop-a.i c.loop-a.j (search rules) c.if-x-eq-SPACE.false c.if-x-eq91.false (sym c.byte_of.ensures ∙ c.if-byte_of-x.false)),
    )

pub returns : goal.returns
returns c =
    let row : List ℕ = c.args.p.now in
    let name : List ℕ = c.args.s.now in
    c.ended-2.ensures ∙ sym (c.loop-a.invariant.1 ∙ ap (flawed c.loop-a.flaw) (rest_end row name c.loop-a.a c.loop-a.b c.loop-a.i c.loop-a.j c.loop-a-test.false))
