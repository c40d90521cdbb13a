-- `value_readings::scaled` meets its contract: a power below 0 turned round divides, any other multiplies. Assumes nothing.
use Rattle.value_readings.proofs.Laws.Powers.{up_cast, up_le, turned_fits, turned, times_below, kept, times_up}
use Rattle.value_readings.proofs.scaled.Goals as goal

pub overflow_sub-p : goal.overflow_sub-p
overflow_sub-p c = turned_fits c.args.p c.requires.1 c.if-p-lt0.true

pub overflow_cast-p : goal.overflow_cast-p
overflow_cast-p c = up_cast (turned c.args.p c.requires.1 c.if-p-lt0.true)

pub ten_to-requires : goal.ten_to-requires
ten_to-requires c = up_le (turned c.args.p c.requires.1 c.if-p-lt0.true)

pub returns-then-p-lt0 : goal.returns-then-p-lt0
returns-then-p-lt0 c = times_below c.args.p c.requires.1 c.if-p-lt0.true c.args.n c.exact-top.result c.ten_to.result c.exact-top.ensures c.ten_to.ensures

pub overflow_cast-p-2 : goal.overflow_cast-p-2
overflow_cast-p-2 c = up_cast (kept c.args.p c.requires.1 c.if-p-lt0.false)

pub returns : goal.returns
returns c = times_up c.args.p c.requires.1 c.if-p-lt0.false c.args.n c.exact-top.result c.ten_to-2.result c.exact-top.ensures c.ten_to-2.ensures
