-- `book_ids::index_after` meets its contract: where the word stands in front, the index after it is read. Assumes nothing.
use native.Mathlib.Omega.{arith}
use mathlib.Core.Path.{◌≡◌, sym, ◌∙◌, ap}
use mathlib.Core.List.{List}
use Prim.Native.Nat.{ℕ, ◌-◌, ◌≤◌}
use lib.ListN.{length, drop, take, length-drop}
use lib.Seq.{take_all}
use Rattle.value_references.specs.Index.{index_at, index_in}
use Rattle.book_ids.specs.Ids.{index_after}
use Rattle.text_bytes.proofs.Laws.Begins.{begins_within}
use Rattle.book_ids.proofs.Laws.Words.{after_none, after_some}
use Rattle.book_ids.proofs.index_after.Goals as goal

pub slice_bounds-read_index-count : goal.slice_bounds-read_index-count
slice_bounds-read_index-count c =
    let word : List ℕ = c.args.word.now in
    let name : List ℕ = c.args.name.now in
    let within : length word ≤ length name = begins_within word name (sym c.begins_with.ensures ∙ c.if-begins_with.true) in
    omega (arith, within)

pub slice_bounds-read_index-start : goal.slice_bounds-read_index-start
slice_bounds-read_index-start c =
    let word : List ℕ = c.args.word.now in
    let name : List ℕ = c.args.name.now in
    let within : length word ≤ length name = begins_within word name (sym c.begins_with.ensures ∙ c.if-begins_with.true) in
    omega (arith, within)

pub returns-then-begins_with : goal.returns-then-begins_with
returns-then-begins_with c =
    let word : List ℕ = c.args.word.now in
    let name : List ℕ = c.args.name.now in
    let reading : index_after word name ≡ index_in c.read_index.result = let s = name in
    let a = length word in
    let e : take (length s - a) (drop a s) ≡ drop a s = take_all (length s - a) (drop a s) (omega (arith, length-drop a s)) in
    after_some word s (sym c.begins_with.ensures ∙ c.if-begins_with.true) ∙ ap index_in (sym (c.read_index.ensures ∙ ap index_at e)) in
    c.index_in.ensures ∙ sym reading

pub returns : goal.returns
returns c =
    let word : List ℕ = c.args.word.now in
    let name : List ℕ = c.args.name.now in
    sym (after_none word name (sym c.begins_with.ensures ∙ c.if-begins_with.false))
