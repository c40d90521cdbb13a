-- `tally::sum` meets its contract: the first of the eight that passes 64 bits is named by its number. Assumes nothing.
use Rattle.std.proofs.Common.{◌+◌, sym}
use Rattle.tally.specs.Tally.{sums}
use Rattle.tally.proofs.Laws.Adding.{past_true, past_at, sum_fits, sums_fit}
use Rattle.tally.proofs.sum.Goals as goal

pub returns-in_err-add : goal.returns-in_err-add
unfolding sums
returns-in_err-add c = rw c.from_residual.ensures (past_at c.args.a c.args.b 0 (sym c.in_err-add.ensures.past))

pub returns-in_err-add-2 : goal.returns-in_err-add-2
unfolding sums
returns-in_err-add-2 c = rw c.from_residual-in_err-add-2.ensures (past_at c.args.a c.args.b 1 (sym c.in_err-add-2.ensures.past))

pub returns-in_err-add-3 : goal.returns-in_err-add-3
unfolding sums
returns-in_err-add-3 c = rw c.from_residual-in_err-add-3.ensures (past_at c.args.a c.args.b 2 (sym c.in_err-add-3.ensures.past))

pub returns-in_err-checked_add : goal.returns-in_err-checked_add
unfolding sums
returns-in_err-checked_add c = rw c.from_residual-in_err-checked_add.ensures (past_at c.args.a c.args.b 3 (past_true (c.args.a.protein_rows + c.args.b.protein_rows) c.in_err-checked_add.ensures))

pub returns-in_err-checked_add-2 : goal.returns-in_err-checked_add-2
unfolding sums
returns-in_err-checked_add-2 c = rw c.from_residual-in_err-checked_add-2.ensures (past_at c.args.a c.args.b 4 (past_true (c.args.a.peptide_rows + c.args.b.peptide_rows) c.in_err-checked_add-2.ensures))

pub returns-in_err-checked_add-3 : goal.returns-in_err-checked_add-3
unfolding sums
returns-in_err-checked_add-3 c = rw c.from_residual-in_err-checked_add-3.ensures (past_at c.args.a c.args.b 5 (past_true (c.args.a.psm_rows + c.args.b.psm_rows) c.in_err-checked_add-3.ensures))

pub returns-in_err-checked_add-4 : goal.returns-in_err-checked_add-4
unfolding sums
returns-in_err-checked_add-4 c = rw c.from_residual-in_err-checked_add-4.ensures (past_at c.args.a c.args.b 6 (past_true (c.args.a.small_molecule_rows + c.args.b.small_molecule_rows) c.in_err-checked_add-4.ensures))

pub returns-in_err-checked_add-5 : goal.returns-in_err-checked_add-5
unfolding sums
returns-in_err-checked_add-5 c = rw c.from_residual-in_err-checked_add-5.ensures (past_at c.args.a c.args.b 7 (past_true (c.args.a.missing + c.args.b.missing) c.in_err-checked_add-5.ensures))

pub returns : goal.returns
returns c =
    sums_fit
    {t = record {
      psms = c.in_ok-add.field-0;
      distinct = c.in_ok-add-2.field-0;
      unique = c.in_ok-add-3.field-0;
      protein_rows = c.in_ok-checked_add.field-0;
      peptide_rows = c.in_ok-checked_add-2.field-0;
      psm_rows = c.in_ok-checked_add-3.field-0;
      small_molecule_rows = c.in_ok-checked_add-4.field-0;
      missing = c.in_ok-checked_add-5.field-0;
    }}
    (record {
      psms = sum_fits c.args.a.psms.0 c.args.b.psms.0 c.in_ok-add.ensures.sum c.in_ok-add.ensures.past;
      distinct = sum_fits c.args.a.distinct.0 c.args.b.distinct.0 c.in_ok-add-2.ensures.sum c.in_ok-add-2.ensures.past;
      unique = sum_fits c.args.a.unique.0 c.args.b.unique.0 c.in_ok-add-3.ensures.sum c.in_ok-add-3.ensures.past;
      proteins = c.in_ok-checked_add.ensures;
      peptides = c.in_ok-checked_add-2.ensures;
      matches = c.in_ok-checked_add-3.ensures;
      molecules = c.in_ok-checked_add-4.ensures;
      missing = c.in_ok-checked_add-5.ensures;
    })
