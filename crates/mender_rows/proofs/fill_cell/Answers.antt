-- `mender_rows::fill_cell` meets its contract: it lays `null` and notes the change where `null` comes into the cell, and else lays the cell. Assumes nothing.
use Rattle.text_bytes.specs.Bytes.{bytes}
use Rattle.rules.specs.Mended.{NULL}
use Rattle.mender_rows.proofs.Laws.Filling.{cell_new, cell_same}
use Rattle.mender_rows.proofs.fill_cell.Goals as goal

pub returns-then-fills : goal.returns-then-fills
unfolding NULL bytes
returns-then-fills c = cell_new c.args.kind c.args.n c.args.c c.args.cell.now (rw c.is_empty.ensures at c.if-fills.true) c.lay-to.ensures c.note-more.ensures

pub returns : goal.returns
returns c = cell_same c.args.kind c.args.n c.args.c c.args.cell.now (rw c.is_empty.ensures at c.if-fills.false) c.lay-to-2.ensures
