-- `line_end::judge_demands` meets its contract. The loop's invariant: what was put, and what the demands left will put, is what all demands put. Assumes nothing.
use mathlib.Core.Path.{◌≡◌, refl, sym, ap, ◌∙◌}
use mathlib.Core.List.{List, ◌∷◌}
use Prim.Native.Nat.{suc, ◌+◌, ◌≤◌}
use native.Mathlib.Numerals.{add-one}
use native.Mathlib.Omega.{arith}
use borrow.Author.Rules.{rules}
use lib.ListN.{length, get_or, drop, drop_of_length-le, length-append}
use lib.Seq.{drop-cons}
use Rattle.book.specs.Book.{Demand, no_demand, wants_of, wants_in}
use Rattle.book.specs.Text.{book_in}
use Rattle.book.proofs.Laws.Sized.{book_sized}
use Rattle.scan.specs.Places.{lent, put_all}
use Rattle.scan.specs.Machine.{want_breaks}
use Rattle.line_end.specs.Ends.{seen}
use Rattle.line_end.proofs.Laws.Wanting.{wants_append}
use Rattle.line_end.proofs.judge_demands.Goals as goal

pub loop-k-init : goal.loop-k-init
loop-k-init c = (search rules, search rules, λ rest. refl)

pub judge_demand-c-requires : goal.judge_demand-c-requires
unfolding wants_in
judge_demand-c-requires c =
    let many : c.count_demands-n.result ≡ length (book_in c.args.book.now).demands = c.count_demands-n.ensures in
    let cut : suc c.loop-k.k ≤ c.count_demands-n.result
    → let ds = (book_in c.args.book.now).demands in drop c.loop-k.k ds ≡ get_or ds c.loop-k.k no_demand ∷ drop (c.loop-k.k + 1) ds = λ h. let ds = (book_in c.args.book.now).demands in
    drop-cons ds c.loop-k.k no_demand (omega (arith, many)) ∙ rw (add-one c.loop-k.k) in
    let sizes : suc c.loop-k.k ≤ c.count_demands-n.result
    → let ds = (book_in c.args.book.now).demands in length (wants_in (drop c.loop-k.k ds)) ≡ length (wants_of (get_or ds c.loop-k.k no_demand)) + length (wants_in (drop (c.loop-k.k + 1) ds)) = λ h. let ds = (book_in c.args.book.now).demands in
    ap (λ (es : List Demand). length (wants_in es)) (cut h) ∙ length-append (wants_of (get_or ds c.loop-k.k no_demand)) (wants_in (drop (c.loop-k.k + 1) ds)) in
    record {
      book = c.requires.book;
      k_in_bounds = omega (arith, many, c.loop-k-test.true);
      whole = c.requires.whole;
      no_demand_bound = omega (arith, c.loop-k.invariant.0, sizes (omega (arith, c.loop-k-test.true)), (book_sized c.args.book.now).many, c.requires.count_bound);
    }

pub loop-k-preserved : goal.loop-k-preserved
unfolding wants_in
loop-k-preserved c =
    let many : c.count_demands-n.result ≡ length (book_in c.args.book.now).demands = c.count_demands-n.ensures in
    let cut : suc c.loop-k.k ≤ c.count_demands-n.result
    → let ds = (book_in c.args.book.now).demands in drop c.loop-k.k ds ≡ get_or ds c.loop-k.k no_demand ∷ drop (c.loop-k.k + 1) ds = λ h. let ds = (book_in c.args.book.now).demands in
    drop-cons ds c.loop-k.k no_demand (omega (arith, many)) ∙ rw (add-one c.loop-k.k) in
    let sizes : suc c.loop-k.k ≤ c.count_demands-n.result
    → let ds = (book_in c.args.book.now).demands in length (wants_in (drop c.loop-k.k ds)) ≡ length (wants_of (get_or ds c.loop-k.k no_demand)) + length (wants_in (drop (c.loop-k.k + 1) ds)) = λ h. let ds = (book_in c.args.book.now).demands in
    ap (λ (es : List Demand). length (wants_in es)) (cut h) ∙ length-append (wants_of (get_or ds c.loop-k.k no_demand)) (wants_in (drop (c.loop-k.k + 1) ds)) in
    let b = book_in c.args.book.now in
    let x = seen c.args.slots.now c.args.flags.now c.args.end in
    let D = get_or b.demands c.loop-k.k no_demand in
    let e = cut (omega (arith, c.loop-k-test.true)) in (
      omega (arith, c.judge_demand-c.ensures.most, c.loop-k.invariant.0, sizes (omega (arith, c.loop-k-test.true))),
      search rules,
      λ rest. c.judge_demand-c.ensures.does (want_breaks b x c.args.end.line (wants_in (drop (c.loop-k.k + 1) b.demands)) rest)
          ∙ ap (put_all (lent c.loop-k.places c.loop-k.c))
          (sym (wants_append b x c.args.end.line (wants_of D) (wants_in (drop (c.loop-k.k + 1) b.demands)) rest) ∙ ap (λ (ds : List Demand). want_breaks b x c.args.end.line (wants_in ds) rest) (sym e))
          ∙ c.loop-k.invariant.2 rest,
    )

pub returns : goal.returns
unfolding wants_in want_breaks
returns c =
    let many : c.count_demands-n.result ≡ length (book_in c.args.book.now).demands = c.count_demands-n.ensures in
    let b = book_in c.args.book.now in
    let x = seen c.args.slots.now c.args.flags.now c.args.end in
    let none = drop_of_length-le b.demands {i = c.loop-k.k} (omega (arith, many, c.loop-k-test.false)) in
    record {
      does = λ rest. ap (λ (ds : List Demand). put_all (lent c.loop-k.places c.loop-k.c) (want_breaks b x c.args.end.line (wants_in ds) rest)) (sym none) ∙ c.loop-k.invariant.2 rest;
      most = omega (arith, c.loop-k.invariant.0, (book_sized c.args.book.now).many);
    }
