-- `tally_records::get` meets its contract. The invariant: n is the number in the bytes that were passed, the last of all, and fits in as many bytes. Assumes nothing.
use Rattle.std.proofs.Common.{◌∙◌, ◌-◌, ◌<◌, length, get_or, arith}
use Rattle.std.proofs.lemmas.List.{length_push, length-reverse}
use Rattle.std.proofs.lemmas.Iterator.Adapters.{YieldsList-from_rev_slice}
use Rattle.std.proofs.lemmas.Iterator.Consumers.{YieldsList-turn, YieldsList-end}
use Rattle.tally_records.proofs.Laws.Little.{reads_start, reads_next, reads_room, reads_end, byte_at, reads_turn}
use Rattle.tally_records.proofs.get.Goals as goal

pub loop-byte-init : goal.loop-byte-init
loop-byte-init c = reads_start c.args.bytes.now (length c.args.bytes.now - 0) (omega arith)

pub overflow_mul-n : goal.overflow_mul-n
overflow_mul-n c =
    let t = YieldsList-turn (YieldsList-from_rev_slice c.args.bytes.now cc) c.loop-byte.yielded _ c.loop-byte.yielded_by _ _ c.in-Some.byte c.in-Some.is c.next.ensures.steps in
    omega (arith, reads_room c.loop-byte.invariant (omega (arith, (byte_at c.args.bytes.now _ _ t).0)) c.requires)

pub overflow_add-n : goal.overflow_add-n
overflow_add-n c =
    let t = YieldsList-turn (YieldsList-from_rev_slice c.args.bytes.now cc) c.loop-byte.yielded _ c.loop-byte.yielded_by _ _ c.in-Some.byte c.in-Some.is c.next.ensures.steps in
    let b = byte_at c.args.bytes.now _ _ t in
    let j = length c.args.bytes.now - 1 - length c.loop-byte.yielded in
    omega (arith, reads_room c.loop-byte.invariant (omega (arith, b.0)) c.requires, c.from.ensures, b.1, c.type_inv.bytes j)

pub loop-byte-preserved : goal.loop-byte-preserved
loop-byte-preserved c =
    let t = YieldsList-turn (YieldsList-from_rev_slice c.args.bytes.now cc) c.loop-byte.yielded _ c.loop-byte.yielded_by _ _ c.in-Some.byte c.in-Some.is c.next.ensures.steps in
    let b = byte_at c.args.bytes.now _ _ t in
    let low : get_or c.args.bytes.now (length c.args.bytes.now - 1 - length c.loop-byte.yielded) 0 < 256 = omega (arith, c.type_inv.bytes (length c.args.bytes.now - 1 - length c.loop-byte.yielded)) in
    reads_turn c.loop-byte.invariant (length_push c.loop-byte.yielded c.in-Some.byte) b.0 (c.from.ensures ∙ b.1) low

pub returns : goal.returns
returns c =
    let t = YieldsList-end (YieldsList-from_rev_slice c.args.bytes.now cc) c.loop-byte.yielded _ c.loop-byte.yielded_by _ _ c.in-None.is c.next.ensures.steps in
    reads_end c.loop-byte.invariant (omega (arith, t.1, length-reverse c.args.bytes.now))
