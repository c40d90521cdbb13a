-- `text::bytes::seek` meets its contract. The invariant of both loops: the first b from `from` on is the first from i on. Assumes nothing.
use native.Mathlib.Omega.{arith}
use lib.ListN.{drop, length-drop}
use Rattle.text_bytes.proofs.Laws.Pieces.{up_to_hit, up_to_miss, up_to_le}
use Rattle.text_bytes.proofs.Laws.Blocks.{Clear, clear_one, clear_more, clear_ends}
use Rattle.text_bytes.proofs.seek.Goals as goal

pub returns-then-s-i : goal.returns-then-s-i
returns-then-s-i c = omega (arith, up_to_hit c.args.b c.args.s.now c.loop-i.i (omega arith) c.if-s-i.true)

pub returns-then-s-i-2 : goal.returns-then-s-i-2
returns-then-s-i-2 c =
    let clear1 : Clear c.args.b c.args.s.now c.loop-i.i 1 = clear_one c.args.b c.args.s.now c.loop-i.i (omega arith) c.if-s-i.false in
    let ends = clear_ends c.args.b c.args.s.now c.loop-i.i 1 (omega arith) c.if-s-i-2.true clear1 in
    omega (arith, ends.at)

pub returns-then-s-i-3 : goal.returns-then-s-i-3
returns-then-s-i-3 c =
    let clear1 : Clear c.args.b c.args.s.now c.loop-i.i 1 = clear_one c.args.b c.args.s.now c.loop-i.i (omega arith) c.if-s-i.false in
    let clear2 : Clear c.args.b c.args.s.now c.loop-i.i 2 = clear_more c.args.b c.args.s.now c.loop-i.i 1 (omega arith) c.if-s-i-2.false clear1 in
    let ends = clear_ends c.args.b c.args.s.now c.loop-i.i 2 (omega arith) c.if-s-i-3.true clear2 in
    omega (arith, ends.at)

pub returns-then-s-i-4 : goal.returns-then-s-i-4
returns-then-s-i-4 c =
    let clear1 : Clear c.args.b c.args.s.now c.loop-i.i 1 = clear_one c.args.b c.args.s.now c.loop-i.i (omega arith) c.if-s-i.false in
    let clear2 : Clear c.args.b c.args.s.now c.loop-i.i 2 = clear_more c.args.b c.args.s.now c.loop-i.i 1 (omega arith) c.if-s-i-2.false clear1 in
    let clear3 : Clear c.args.b c.args.s.now c.loop-i.i 3 = clear_more c.args.b c.args.s.now c.loop-i.i 2 (omega arith) c.if-s-i-3.false clear2 in
    let ends = clear_ends c.args.b c.args.s.now c.loop-i.i 3 (omega arith) c.if-s-i-4.true clear3 in
    omega (arith, ends.at)

pub loop-i-preserved : goal.loop-i-preserved
loop-i-preserved c =
    let clear1 : Clear c.args.b c.args.s.now c.loop-i.i 1 = clear_one c.args.b c.args.s.now c.loop-i.i (omega arith) c.if-s-i.false in
    let clear2 : Clear c.args.b c.args.s.now c.loop-i.i 2 = clear_more c.args.b c.args.s.now c.loop-i.i 1 (omega arith) c.if-s-i-2.false clear1 in
    let clear3 : Clear c.args.b c.args.s.now c.loop-i.i 3 = clear_more c.args.b c.args.s.now c.loop-i.i 2 (omega arith) c.if-s-i-3.false clear2 in
    let clear4 : Clear c.args.b c.args.s.now c.loop-i.i 4 = clear_more c.args.b c.args.s.now c.loop-i.i 3 (omega arith) c.if-s-i-4.false clear3 in
    omega (arith, clear4)

pub returns-then-s-i-5 : goal.returns-then-s-i-5
returns-then-s-i-5 c = omega (arith, up_to_hit c.args.b c.args.s.now c.loop-i-2.i (omega arith) c.if-s-i-5.true)

pub loop-i-2-preserved : goal.loop-i-2-preserved
loop-i-2-preserved c = omega (arith, up_to_miss c.args.b c.args.s.now c.loop-i-2.i (omega arith) c.if-s-i-5.false)

pub returns : goal.returns
returns c = omega (arith, up_to_le c.args.b (drop c.loop-i-2.i c.args.s.now), length-drop c.loop-i-2.i c.args.s.now)
