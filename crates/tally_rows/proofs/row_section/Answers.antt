-- `tally_rows::row_section` meets its contract: the codes are tried one after the other. Assumes nothing.
use mathlib.Core.Path.{◌≡◌, sym, ◌∙◌}
use mathlib.Core.Bool.{false}
use lib.Seq.{length-take-le}
use Rattle.text_bytes.specs.Bytes.{bytes}
use Rattle.text.specs.Lines.{coded}
use Rattle.book.specs.Book.{row_code, is_section, mz_tab, section_of}
use Rattle.tally_rows.proofs.Laws.Adding.{code_is, is_protein, is_peptide, is_psm, is_small_molecule, is_no_row}
use Rattle.tally_rows.proofs.row_section.Goals as goal

pub slice_bounds-code-end : goal.slice_bounds-code-end
slice_bounds-code-end c = sym (length-take-le c.cell_end-e.result c.args.line.now c.cell_end-e.ensures.within)

pub returns-then-same_bytes : goal.returns-then-same_bytes
unfolding mz_tab is_section section_of bytes
returns-then-same_bytes c = is_protein c.args.line.now (code_is c.cell_end-e.ensures (row_code mz_tab 1) c.same_bytes.ensures ∙ c.if-same_bytes.true)

pub returns-then-same_bytes-2 : goal.returns-then-same_bytes-2
unfolding mz_tab is_section section_of bytes
returns-then-same_bytes-2 c =
    let not_protein : coded (row_code mz_tab 1) c.args.line.now ≡ false = code_is c.cell_end-e.ensures (row_code mz_tab 1) c.same_bytes.ensures ∙ c.if-same_bytes.false in
    is_peptide c.args.line.now not_protein (code_is c.cell_end-e.ensures (row_code mz_tab 2) c.same_bytes-2.ensures ∙ c.if-same_bytes-2.true)

pub returns-then-same_bytes-3 : goal.returns-then-same_bytes-3
unfolding mz_tab is_section section_of bytes
returns-then-same_bytes-3 c =
    let not_protein : coded (row_code mz_tab 1) c.args.line.now ≡ false = code_is c.cell_end-e.ensures (row_code mz_tab 1) c.same_bytes.ensures ∙ c.if-same_bytes.false in
    let not_peptide : coded (row_code mz_tab 2) c.args.line.now ≡ false = code_is c.cell_end-e.ensures (row_code mz_tab 2) c.same_bytes-2.ensures ∙ c.if-same_bytes-2.false in
    is_psm c.args.line.now not_protein not_peptide (code_is c.cell_end-e.ensures (row_code mz_tab 3) c.same_bytes-3.ensures ∙ c.if-same_bytes-3.true)

pub returns-then-same_bytes-4 : goal.returns-then-same_bytes-4
unfolding mz_tab is_section section_of bytes
returns-then-same_bytes-4 c =
    let not_protein : coded (row_code mz_tab 1) c.args.line.now ≡ false = code_is c.cell_end-e.ensures (row_code mz_tab 1) c.same_bytes.ensures ∙ c.if-same_bytes.false in
    let not_peptide : coded (row_code mz_tab 2) c.args.line.now ≡ false = code_is c.cell_end-e.ensures (row_code mz_tab 2) c.same_bytes-2.ensures ∙ c.if-same_bytes-2.false in
    let not_psm : coded (row_code mz_tab 3) c.args.line.now ≡ false = code_is c.cell_end-e.ensures (row_code mz_tab 3) c.same_bytes-3.ensures ∙ c.if-same_bytes-3.false in
    is_small_molecule c.args.line.now not_protein not_peptide not_psm (code_is c.cell_end-e.ensures (row_code mz_tab 4) c.same_bytes-4.ensures ∙ c.if-same_bytes-4.true)

pub returns : goal.returns
unfolding mz_tab is_section section_of bytes
returns c =
    let not_protein : coded (row_code mz_tab 1) c.args.line.now ≡ false = code_is c.cell_end-e.ensures (row_code mz_tab 1) c.same_bytes.ensures ∙ c.if-same_bytes.false in
    let not_peptide : coded (row_code mz_tab 2) c.args.line.now ≡ false = code_is c.cell_end-e.ensures (row_code mz_tab 2) c.same_bytes-2.ensures ∙ c.if-same_bytes-2.false in
    let not_psm : coded (row_code mz_tab 3) c.args.line.now ≡ false = code_is c.cell_end-e.ensures (row_code mz_tab 3) c.same_bytes-3.ensures ∙ c.if-same_bytes-3.false in
    is_no_row c.args.line.now not_protein not_peptide not_psm (code_is c.cell_end-e.ensures (row_code mz_tab 4) c.same_bytes-4.ensures ∙ c.if-same_bytes-4.false)
