-- `weight_counts::clear` meets its contract: a list of zeros holds 0 everywhere. Assumes nothing.
use Rattle.std.proofs.Common.{◌≡◌, length, replicate, rules}
use Rattle.weight_counts.proofs.Laws.Raising.{zeros}
use Rattle.weight_counts.proofs.clear.Goals as goal

pub returns : goal.returns
returns c =
    let e : c.fill.new.self ≡ replicate (length c.args.weights.now) 0 = c.fill.ensures.after (λ y k. search rules) in
    record { weights_len_unchanged = c.fill.ensures.len; by_index = λ i. rw e (zeros (length c.args.weights.now) i) }
