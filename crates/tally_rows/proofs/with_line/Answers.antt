-- `tally_rows::with_line` meets its contract: the section of a line is found first, and only a protein row's cells are counted. Assumes nothing.
use Rattle.tally_rows.specs.Counts.{nine}
use Rattle.tally_rows.proofs.Laws.Adding.{row_room, row_done, cells_room, cells_done}
use Rattle.tally_rows.proofs.with_line.Goals as goal

pub with_row-found-requires : goal.with_row-found-requires
with_row-found-requires c = row_room c.args.marks.now c.args.line.now c.row_section-section.ensures (nine c.args.f) (nine c.args.f) c.requires.room

pub returns-then-section-ne-PROTEIN : goal.returns-then-section-ne-PROTEIN
returns-then-section-ne-PROTEIN c = row_done c.args.marks.now c.args.line.now c.row_section-section.ensures (nine c.args.f) (nine c.with_row-found.result) c.with_row-found.ensures c.if-section-ne-PROTEIN.true

pub with_cells-requires : goal.with_cells-requires
with_cells-requires c =
    record {
      marks = c.requires.marks;
      room = cells_room c.args.marks.now c.args.line.now c.row_section-section.ensures (nine c.args.f) (nine c.with_row-found.result) c.with_row-found.ensures c.if-section-ne-PROTEIN.false c.requires.room;
    }

pub returns : goal.returns
returns c = cells_done c.args.marks.now c.args.line.now c.row_section-section.ensures (nine c.args.f) (nine c.with_row-found.result) c.with_row-found.ensures c.if-section-ne-PROTEIN.false (nine c.with_cells.result) c.with_cells.ensures
