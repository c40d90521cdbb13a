-- `line_head_stamps::fill_doors` meets its contract: the sixteen doors are a part of the list, all of which is written. Assumes nothing.
use mathlib.Core.Path.{◌≡◌, ap, ◌∙◌}
use mathlib.Core.List.{List}
use Prim.Native.Nat.{ℕ, ◌+◌, ◌-◌, ◌*◌}
use native.Mathlib.Omega.{arith}
use borrow.Rule.Slice.PartMut.{mid_len}
use lib.ListN.{length, take, drop, replicate}
use Rattle.line_head_stamps.proofs.Laws.Writing.{filled_part}
use Rattle.line_head_stamps.proofs.fill_doors.Goals as goal

pub returns : goal.returns
returns c =
    let from : ℕ = 8192 + 16 * c.args.count in
    let part : List ℕ = take (from + 16 - from) (drop from c.args.stamps.now) in
    let sixteen : length part ≡ 16 = mid_len from (from + 16) c.args.stamps.now (omega (arith, c.requires.stamps_len, c.requires.count_bound)) ∙ omega arith in
    filled_part c.args.stamps.now from c.args.count 16 (from + 16 - from) c.fill.new.self (omega (arith, c.requires.stamps_len, c.requires.count_bound)) (omega arith)
    (c.fill.ensures.after (λ y e. e) ∙ ap (λ (m : ℕ). replicate m c.args.count) sixteen)
