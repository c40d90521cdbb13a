-- `value_references::words::word`: each word stands in the text where the code cuts it out. Assumes nothing.
use mathlib.Core.Path.{◌≡◌, refl, sym, ap, ◌∙◌}
use native.Mathlib.Omega.{arith}
use lib.ListN.{length}
use Rattle.text_bytes.specs.Bytes.{bytes}
use Rattle.value_references.proofs.Laws.Words.{words_length, word_at, no_word}
use Rattle.value_references.proofs.words.word.Goals as goal

pub slice_bounds-result-start : goal.slice_bounds-result-start
slice_bounds-result-start c =
    let long : length c.args.text.now ≡ 31 = ap length c.requires ∙ words_length in
    omega (arith, long)

pub slice_bounds-result-end : goal.slice_bounds-result-end
slice_bounds-result-end c =
    let long : length c.args.text.now ≡ 31 = ap length c.requires ∙ words_length in
    omega (arith, long)

pub slice_bounds-result-start-in-1 : goal.slice_bounds-result-start-in-1
slice_bounds-result-start-in-1 c =
    let long : length c.args.text.now ≡ 31 = ap length c.requires ∙ words_length in
    omega (arith, long)

pub slice_bounds-result-end-in-1 : goal.slice_bounds-result-end-in-1
slice_bounds-result-end-in-1 c =
    let long : length c.args.text.now ≡ 31 = ap length c.requires ∙ words_length in
    omega (arith, long)

pub slice_bounds-result-start-in-2 : goal.slice_bounds-result-start-in-2
slice_bounds-result-start-in-2 c =
    let long : length c.args.text.now ≡ 31 = ap length c.requires ∙ words_length in
    omega (arith, long)

pub slice_bounds-result-end-in-2 : goal.slice_bounds-result-end-in-2
slice_bounds-result-end-in-2 c =
    let long : length c.args.text.now ≡ 31 = ap length c.requires ∙ words_length in
    omega (arith, long)

pub slice_bounds-result-start-in-3 : goal.slice_bounds-result-start-in-3
slice_bounds-result-start-in-3 c =
    let long : length c.args.text.now ≡ 31 = ap length c.requires ∙ words_length in
    omega (arith, long)

pub slice_bounds-result-end-in-3 : goal.slice_bounds-result-end-in-3
slice_bounds-result-end-in-3 c =
    let long : length c.args.text.now ≡ 31 = ap length c.requires ∙ words_length in
    omega (arith, long)

pub slice_bounds-result-count-in_default : goal.slice_bounds-result-count-in_default
slice_bounds-result-count-in_default c =
    let long : length c.args.text.now ≡ 31 = ap length c.requires ∙ words_length in
    omega (arith, long)

pub slice_bounds-result-start-in_default : goal.slice_bounds-result-start-in_default
slice_bounds-result-start-in_default c =
    let long : length c.args.text.now ≡ 31 = ap length c.requires ∙ words_length in
    omega (arith, long)

pub slice_bounds-result-end-in_default : goal.slice_bounds-result-end-in_default
slice_bounds-result-end-in_default c =
    let long : length c.args.text.now ≡ 31 = ap length c.requires ∙ words_length in
    omega (arith, long)

pub returns-in-0 : goal.returns-in-0
unfolding bytes
returns-in-0 c = word_at 0 6 c.requires c.in-0.is refl

pub returns-in-1 : goal.returns-in-1
unfolding bytes
returns-in-1 c = word_at 6 5 c.requires c.in-1.is refl

pub returns-in-2 : goal.returns-in-2
unfolding bytes
returns-in-2 c = word_at 11 14 c.requires c.in-2.is refl

pub returns-in-3 : goal.returns-in-3
unfolding bytes
returns-in-3 c = word_at 25 6 c.requires c.in-3.is refl

pub returns-in_default : goal.returns-in_default
unfolding bytes
returns-in_default c = rw c.requires (sym (no_word c.args.f (λ e. omega arith) (λ e. omega arith) (λ e. omega arith) (λ e. omega arith)))
