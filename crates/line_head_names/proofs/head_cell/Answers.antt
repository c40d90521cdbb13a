-- `line_head_names::head_cell` meets its contract: one look-up gives the breaks and the kind. Assumes nothing.
use mathlib.Core.Path.{sym, subst}
use Rattle.scan.specs.Machine.{Within}
use Rattle.scan.proofs.Laws.Families.{column_within}
use borrow.Author.Rules.{rules}
use Rattle.line_head_names.proofs.head_cell.Goals as goal

pub name_cell-requires : goal.name_cell-requires
name_cell-requires c =
    record {
      count_bound = search rules;
      within = subst Within (sym c.column-found.ensures) (column_within _ c.args.section c.args.name.now);
    }

pub returns : goal.returns
returns c =
    record {
      puts = rw c.column-found.ensures at c.name_cell.ensures;
      kinds_after = rw (c.kind_in.ensures, c.column-found.ensures);
    }
