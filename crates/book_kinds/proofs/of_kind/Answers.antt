-- `book_kinds::of_kind`: each arm of the code is the case of its letter. Assumes nothing.
use native.Mathlib.Omega.{arith}
use mathlib.Core.Path.{◌≡◌, sym, ap, ◌∙◌}
use mathlib.Core.List.{List}
use Prim.Native.Nat.{ℕ}
use Rattle.text_bytes.specs.Bytes.{bytes}
use Rattle.value_references.specs.Index.{index_in}
use Rattle.value_references.specs.References.{ref_to, is_index}
use Rattle.book_kinds.specs.Kinds.{is_fixed, of_kind}
use Rattle.book_kinds.proofs.Laws.Letters.{other_text}
use Rattle.book_kinds.proofs.of_kind.Goals as goal

-- the case of a letter
case : (k l f : ℕ) (b : List ℕ) → k ≡ l → of_kind l f b ≡ of_kind k f b
case k l f b e = sym (ap (λ (x : ℕ). of_kind x f b) e)

pub returns-in-87 : goal.returns-in-87
unfolding of_kind
returns-in-87 c = c.is_whole.ensures ∙ case c.args.kind 87 c.args.family c.args.s.now c.in-87.is

pub returns-in-68 : goal.returns-in-68
unfolding of_kind
returns-in-68 c = c.is_decimal.ensures ∙ case c.args.kind 68 c.args.family c.args.s.now c.in-68.is

pub returns-in-76 : goal.returns-in-76
unfolding of_kind
returns-in-76 c = c.is_decimals.ensures ∙ case c.args.kind 76 c.args.family c.args.s.now c.in-76.is

pub returns-in-78 : goal.returns-in-78
unfolding of_kind
returns-in-78 c = c.is_window.ensures ∙ case c.args.kind 78 c.args.family c.args.s.now c.in-78.is

pub returns-in-80 : goal.returns-in-80
unfolding of_kind
returns-in-80 c = c.is_parameter.ensures ∙ case c.args.kind 80 c.args.family c.args.s.now c.in-80.is

pub returns-in-81 : goal.returns-in-81
unfolding of_kind
returns-in-81 c = c.is_parameters.ensures ∙ case c.args.kind 81 c.args.family c.args.s.now c.in-81.is

pub returns-in-114 : goal.returns-in-114
unfolding of_kind ref_to
returns-in-114 c = ap is_index (c.index_in.ensures ∙ ap index_in c.reference_to.ensures) ∙ case c.args.kind 114 c.args.family c.args.s.now c.in-114.is

pub returns-in-108 : goal.returns-in-108
unfolding of_kind
returns-in-108 c = c.references_to.ensures.good ∙ case c.args.kind 108 c.args.family c.args.s.now c.in-108.is

pub returns-in-75 : goal.returns-in-75
unfolding of_kind
returns-in-75 c = c.is_kept.ensures ∙ case c.args.kind 75 c.args.family c.args.s.now c.in-75.is

pub returns-in-82 : goal.returns-in-82
unfolding of_kind is_fixed bytes
returns-in-82 c = c.is_reliability.ensures ∙ case c.args.kind 82 c.args.family c.args.s.now c.in-82.is

pub returns-in-85 : goal.returns-in-85
unfolding of_kind is_fixed bytes
returns-in-85 c = c.is_either.ensures ∙ case c.args.kind 85 c.args.family c.args.s.now c.in-85.is

pub returns-in-118 : goal.returns-in-118
unfolding of_kind is_fixed bytes
returns-in-118 c = c.is_either-in-118.ensures ∙ case c.args.kind 118 c.args.family c.args.s.now c.in-118.is

pub returns-in-109 : goal.returns-in-109
unfolding of_kind is_fixed bytes
returns-in-109 c = c.is_either-in-109.ensures ∙ case c.args.kind 109 c.args.family c.args.s.now c.in-109.is

pub returns-in-116 : goal.returns-in-116
unfolding of_kind is_fixed bytes
returns-in-116 c = c.is_either-in-116.ensures ∙ case c.args.kind 116 c.args.family c.args.s.now c.in-116.is

pub returns-in_default : goal.returns-in_default
unfolding of_kind
returns-in_default c = c.is_text.ensures ∙ sym (other_text c.args.kind c.args.family c.args.s.now (λ e. omega arith) (λ e. omega arith) (λ e. omega arith) (λ e. omega arith) (λ e. omega arith) (λ e. omega arith) (λ e. omega arith) (λ e. omega arith) (λ e. omega arith) (λ e. omega arith) (λ e. omega arith) (λ e. omega arith) (λ e. omega arith) (λ e. omega arith))
