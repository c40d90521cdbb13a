-- `book_ids::id_of` meets its contract. The loop's invariant: the id that the name begins with is the one that the words left find. Assumes nothing.
use mathlib.Core.Path.{◌≡◌, refl, sym, ap, ◌∙◌}
use mathlib.Core.List.{List, ◌∷◌, map}
use Prim.Native.Nat.{ℕ, ◌+◌}
use native.Mathlib.Omega.{arith}
use lib.ListN.{drop}
use Rattle.text_bytes.specs.Bytes.{bytes}
use Rattle.value_references.specs.References.{families, family}
use Rattle.book_ids.specs.Ids.{index_after, id_in, id_of}
use Rattle.book_ids.proofs.Laws.Words.{id_here, id_later, id_nowhere, words_from}
use Rattle.book_ids.proofs.id_of.Goals as goal

pub loop-f-init : goal.loop-f-init
unfolding id_of
loop-f-init c = (omega arith, refl)

pub returns-then-i-ne0 : goal.returns-then-i-ne0
returns-then-i-ne0 c =
    let name : List ℕ = c.args.name.now in
    let index_is : c.index_after-i.result ≡ index_after (family c.loop-f.f) name = rw c.word.ensures at c.index_after-i.ensures in
    let first : id_of name ≡ id_in c.loop-f.f (family c.loop-f.f ∷ drop (c.loop-f.f + 1) (map bytes families)) name = c.loop-f.invariant.1 ∙ ap (λ (ws : List (List ℕ)). id_in c.loop-f.f ws name) (words_from c.loop-f.f (omega (arith, c.loop-f-test.true))) in
    sym (first ∙ id_here _ _ c.loop-f.f name _ index_is c.if-i-ne0.true)

pub loop-f-preserved : goal.loop-f-preserved
loop-f-preserved c =
    let name : List ℕ = c.args.name.now in
    let index_is : c.index_after-i.result ≡ index_after (family c.loop-f.f) name = rw c.word.ensures at c.index_after-i.ensures in
    let first : id_of name ≡ id_in c.loop-f.f (family c.loop-f.f ∷ drop (c.loop-f.f + 1) (map bytes families)) name = c.loop-f.invariant.1 ∙ ap (λ (ws : List (List ℕ)). id_in c.loop-f.f ws name) (words_from c.loop-f.f (omega (arith, c.loop-f-test.true))) in
    (omega (arith, c.loop-f-test.true), first ∙ id_later _ _ c.loop-f.f name _ index_is c.if-i-ne0.false)

pub returns : goal.returns
returns c =
    let all : c.loop-f.f ≡ 4 = omega (arith, c.loop-f-test.false, c.loop-f.invariant.0) in
    sym (c.loop-f.invariant.1 ∙ ap (λ (k : ℕ). id_in k (drop k (map bytes families)) c.args.name.now) all ∙ id_nowhere 4 c.args.name.now)
