-- `value_references::read_reference` meets its contract: the word stands in front, and what follows it is an index and nothing more. Assumes nothing.
use mathlib.Core.Path.{◌≡◌, refl, sym, ◌∙◌}
use mathlib.Core.Bool.{true}
use mathlib.Core.List.{List}
use Prim.Native.Nat.{ℕ}
use Rattle.text_bytes.specs.Bytes.{begins}
use borrow.Author.Tests.{not-true, not-false}
use Rattle.text_bytes.proofs.Laws.Begins.{begins_within}
use Rattle.value_references.proofs.Laws.Names.{ref_none, ref_not, ref_all, ref_more}
use borrow.Author.Rules.{rules}
use Rattle.value_references.proofs.read_reference.Goals as goal

pub returns-then-not-begins_with : goal.returns-then-not-begins_with
returns-then-not-begins_with c = sym (ref_none c.args.word.now c.args.s.now (sym c.begins_with.ensures ∙ not-true _ c.if-not-begins_with.true-raw))

pub slice_bounds-rest-count : goal.slice_bounds-rest-count
slice_bounds-rest-count c =
    let h = begins_within c.args.word.now c.args.s.now (sym c.begins_with.ensures ∙ not-false _ c.if-not-begins_with.false-raw) in
    search rules

pub slice_bounds-rest-start : goal.slice_bounds-rest-start
slice_bounds-rest-start c =
    let h = begins_within c.args.word.now c.args.s.now (sym c.begins_with.ensures ∙ not-false _ c.if-not-begins_with.false-raw) in
    search rules

pub returns-in-Not : goal.returns-in-Not
returns-in-Not c =
    let begun : begins c.args.word.now c.args.s.now ≡ true = sym c.begins_with.ensures ∙ not-false _ c.if-not-begins_with.false-raw in
    let word : List ℕ = c.args.word.now in
    let text : List ℕ = c.args.s.now in
    sym (ref_not word text begun c.read_index-found.result c.read_index-found.ensures c.in-Not.is)

pub returns-then-w-rest : goal.returns-then-w-rest
returns-then-w-rest c =
    let begun : begins c.args.word.now c.args.s.now ≡ true = sym c.begins_with.ensures ∙ not-false _ c.if-not-begins_with.false-raw in
    let word : List ℕ = c.args.word.now in
    let text : List ℕ = c.args.s.now in
    sym (ref_all word text begun c.read_index-found.result c.read_index-found.ensures _ _ (λ n. refl) c.in-Bad.is c.if-w-rest.true)

pub returns-else-w-rest : goal.returns-else-w-rest
returns-else-w-rest c =
    let begun : begins c.args.word.now c.args.s.now ≡ true = sym c.begins_with.ensures ∙ not-false _ c.if-not-begins_with.false-raw in
    let word : List ℕ = c.args.word.now in
    let text : List ℕ = c.args.s.now in
    sym (ref_more word text begun c.read_index-found.result c.read_index-found.ensures _ _ (λ n. refl) c.in-Bad.is c.if-w-rest.false)

pub returns-then-w-rest-2 : goal.returns-then-w-rest-2
returns-then-w-rest-2 c =
    let begun : begins c.args.word.now c.args.s.now ≡ true = sym c.begins_with.ensures ∙ not-false _ c.if-not-begins_with.false-raw in
    let word : List ℕ = c.args.word.now in
    let text : List ℕ = c.args.s.now in
    sym (ref_all word text begun c.read_index-found.result c.read_index-found.ensures _ _ (λ n. refl) c.in-Is.is c.if-w-rest-2.true)

pub returns-else-w-rest-2 : goal.returns-else-w-rest-2
returns-else-w-rest-2 c =
    let begun : begins c.args.word.now c.args.s.now ≡ true = sym c.begins_with.ensures ∙ not-false _ c.if-not-begins_with.false-raw in
    let word : List ℕ = c.args.word.now in
    let text : List ℕ = c.args.s.now in
    sym (ref_more word text begun c.read_index-found.result c.read_index-found.ensures _ _ (λ n. refl) c.in-Is.is c.if-w-rest-2.false)
