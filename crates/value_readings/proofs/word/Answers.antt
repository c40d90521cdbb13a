-- `value_readings::word` meets its contract: each word has the case that the definition gives it. Assumes nothing.
use Rattle.text_bytes.specs.Bytes.{bytes}
use Rattle.value_readings.proofs.word.Goals as goal

pub returns-then-same_bytes : goal.returns-then-same_bytes
unfolding bytes
returns-then-same_bytes c = rw (← c.same_bytes.ensures, c.if-same_bytes.true)

pub returns-then-same_bytes-2 : goal.returns-then-same_bytes-2
unfolding bytes
returns-then-same_bytes-2 c = rw (← c.same_bytes.ensures, c.if-same_bytes.false, ← c.same_bytes-2.ensures, c.if-same_bytes-2.true)

pub returns : goal.returns
unfolding bytes
returns c = rw (← c.same_bytes.ensures, c.if-same_bytes.false, ← c.same_bytes-2.ensures, c.if-same_bytes-2.false)
