-- `value_references::index::small_number`: one digit, two, or more of them. Assumes nothing.
use native.Mathlib.Omega.{arith}
use mathlib.Core.Path.{◌≡◌}
use mathlib.Core.List.{List}
use Prim.Native.Nat.{ℕ, ◌≤◌}
use lib.ListN.{get_or}
use Rattle.value_references.specs.Index.{Run}
use Rattle.value_references.proofs.Laws.Indices.{run_first, run_second, run_one, run_two, run_long}
use Rattle.value_references.proofs.index.small_number.Goals as goal

pub returns-then-end-gt-LATEST : goal.returns-then-end-gt-LATEST
returns-then-end-gt-LATEST c = ((λ h. absurd (omega arith)), (λ h. run_long c.args.s.now c.args.end c.requires c.if-end-gt-LATEST.true))

pub bounds-s-1 : goal.bounds-s-1
bounds-s-1 c =
    let text : List ℕ = c.args.s.now in
    let end : ℕ = c.args.end in
    let run : Run text end = c.requires in
    omega (arith, (run_first text end run).0)

pub overflow_sub-first : goal.overflow_sub-first
overflow_sub-first c =
    let text : List ℕ = c.args.s.now in
    let end : ℕ = c.args.end in
    let run : Run text end = c.requires in
    let first : (48 ≤ c.from-first.result) × (c.from-first.result ≤ 57) × (c.from-first.result ≡ get_or text 1 0) = let r = run_first text end run in
    (omega (arith, r.1, c.from-first.ensures), omega (arith, r.2, c.from-first.ensures), c.from-first.ensures) in
    omega (arith, first.0)

pub returns-then-end-lt-LATEST : goal.returns-then-end-lt-LATEST
returns-then-end-lt-LATEST c =
    let text : List ℕ = c.args.s.now in
    let end : ℕ = c.args.end in
    let run : Run text end = c.requires in
    let first : (48 ≤ c.from-first.result) × (c.from-first.result ≤ 57) × (c.from-first.result ≡ get_or text 1 0) = let r = run_first text end run in
    (omega (arith, r.1, c.from-first.ensures), omega (arith, r.2, c.from-first.ensures), c.from-first.ensures) in
    let n = run_one text end run c.if-end-lt-LATEST.true in
    ((λ h. omega (arith, n, first.2)), (λ h. omega (arith, n, h, first.2)))

pub overflow_mul-result : goal.overflow_mul-result
overflow_mul-result c =
    let text : List ℕ = c.args.s.now in
    let end : ℕ = c.args.end in
    let run : Run text end = c.requires in
    let first : (48 ≤ c.from-first.result) × (c.from-first.result ≤ 57) × (c.from-first.result ≡ get_or text 1 0) = let r = run_first text end run in
    (omega (arith, r.1, c.from-first.ensures), omega (arith, r.2, c.from-first.ensures), c.from-first.ensures) in
    omega (arith, first.1)

pub bounds-s-2 : goal.bounds-s-2
bounds-s-2 c =
    let text : List ℕ = c.args.s.now in
    let end : ℕ = c.args.end in
    let run : Run text end = c.requires in
    omega (arith, (run_second text end run c.if-end-lt-LATEST.false).0)

pub overflow_sub-result : goal.overflow_sub-result
overflow_sub-result c =
    let text : List ℕ = c.args.s.now in
    let end : ℕ = c.args.end in
    let run : Run text end = c.requires in
    let second : (48 ≤ c.from.result) × (c.from.result ≤ 57) × (c.from.result ≡ get_or text 2 0) = let r = run_second text end run c.if-end-lt-LATEST.false in
    (omega (arith, r.1, c.from.ensures), omega (arith, r.2, c.from.ensures), c.from.ensures) in
    omega (arith, second.0)

pub overflow_add-result-2 : goal.overflow_add-result-2
overflow_add-result-2 c =
    let text : List ℕ = c.args.s.now in
    let end : ℕ = c.args.end in
    let run : Run text end = c.requires in
    let first : (48 ≤ c.from-first.result) × (c.from-first.result ≤ 57) × (c.from-first.result ≡ get_or text 1 0) = let r = run_first text end run in
    (omega (arith, r.1, c.from-first.ensures), omega (arith, r.2, c.from-first.ensures), c.from-first.ensures) in
    let second : (48 ≤ c.from.result) × (c.from.result ≤ 57) × (c.from.result ≡ get_or text 2 0) = let r = run_second text end run c.if-end-lt-LATEST.false in
    (omega (arith, r.1, c.from.ensures), omega (arith, r.2, c.from.ensures), c.from.ensures) in
    omega (arith, first.1, second.1)

pub returns : goal.returns
returns c =
    let text : List ℕ = c.args.s.now in
    let end : ℕ = c.args.end in
    let run : Run text end = c.requires in
    let first : (48 ≤ c.from-first.result) × (c.from-first.result ≤ 57) × (c.from-first.result ≡ get_or text 1 0) = let r = run_first text end run in
    (omega (arith, r.1, c.from-first.ensures), omega (arith, r.2, c.from-first.ensures), c.from-first.ensures) in
    let second : (48 ≤ c.from.result) × (c.from.result ≤ 57) × (c.from.result ≡ get_or text 2 0) = let r = run_second text end run c.if-end-lt-LATEST.false in
    (omega (arith, r.1, c.from.ensures), omega (arith, r.2, c.from.ensures), c.from.ensures) in
    let n = run_two text end run c.if-end-lt-LATEST.false c.if-end-gt-LATEST.false in
    ((λ h. omega (arith, n, first.2, second.2)), (λ h. omega (arith, n, h, first.2, second.2)))
