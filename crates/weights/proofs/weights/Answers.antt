-- `weights::weights` meets its contract: a call that goes on has an accepted file, whose lines add its weights to zeros. Assumes nothing.
use mathlib.Core.Path.{◌≡◌, refl, sym, ◌∙◌}
use mathlib.Core.List.{[]}
use Prim.Native.Nat.{◌≤◌}
use lib.ListN.{length}
use Rattle.std.proofs.lemmas.Result.{err_from_is_err_and}
use Rattle.text.specs.Lines.{LIMIT}
use Rattle.rules.specs.Rules.{breaks}
use Rattle.fee_shares.proofs.Laws.Refusals.{refused_some}
use Rattle.weights.proofs.Laws.Refusing.{granted, list_kept, list_given, weights_room, weights_all}
use Rattle.weights.proofs.weights.Goals as goal

pub returns-in_err-refusal_of : goal.returns-in_err-refusal_of
returns-in_err-refusal_of c =
    let p = err_from_is_err_and c.from_residual.result c.from_residual.ensures.1 in
    rw (p.1, p.2) (list_kept c.args.file.now c.args.weights.now c.in_err-refusal_of.ensures (refused_some c.in_err-refusal_of.field-0.0))

pub marks_of-found-requires : goal.marks_of-found-requires
marks_of-found-requires c = (granted c.args.file.now (length c.args.weights.now) (sym c.in_ok-refusal_of.ensures)).0

pub count_lines-requires : goal.count_lines-requires
count_lines-requires c =
    let k : (length c.args.file.now ≤ LIMIT) × (breaks c.args.file.now ≡ []) × (length c.args.weights.now ≡ 64) = granted c.args.file.now (length c.args.weights.now) (sym c.in_ok-refusal_of.ensures) in
    record {
      marks = c.marks_of-found.ensures.good;
      room = weights_room c.args.file.now k.0 k.1 c.marks_of-found.ensures _ (c.clear.ensures.weights_len_unchanged ∙ k.2) c.clear.ensures.by_index;
    }

pub returns : goal.returns
returns c =
    let k : (length c.args.file.now ≤ LIMIT) × (breaks c.args.file.now ≡ []) × (length c.args.weights.now ≡ 64) = granted c.args.file.now (length c.args.weights.now) (sym c.in_ok-refusal_of.ensures) in
    list_given c.args.file.now c.args.weights.now c.in_ok-refusal_of.ensures refl
    (weights_all c.args.file.now k.0 k.1 c.marks_of-found.ensures _ (c.clear.ensures.weights_len_unchanged ∙ k.2) c.clear.ensures.by_index c.count_lines.ensures)
