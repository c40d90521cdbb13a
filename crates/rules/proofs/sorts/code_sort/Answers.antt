-- `rules::sorts::code_sort` meets its contract: the tests that led to each `return` say which sort it is. Assumes nothing.
use mathlib.Core.Path.{◌≡◌, sym, ◌∙◌}
use mathlib.Core.Bool.{false}
use Rattle.text_bytes.specs.Bytes.{bytes, is}
use Rattle.rules.proofs.Laws.Sorting.{sort_row, sort_header, sort_meta, sort_silent, sort_unknown}
use Rattle.rules.proofs.sorts.code_sort.Goals as goal

pub returns-then-same_bytes : goal.returns-then-same_bytes
unfolding bytes
returns-then-same_bytes c = sort_silent _ _ (sym c.same_bytes.ensures ∙ c.if-same_bytes.true)

pub returns-then-same_bytes-2 : goal.returns-then-same_bytes-2
unfolding bytes
returns-then-same_bytes-2 c =
    let loud : is c.args.code.now "COM" ≡ false = sym c.same_bytes.ensures ∙ c.if-same_bytes.false in
    sort_meta _ _ loud (sym c.same_bytes-2.ensures ∙ c.if-same_bytes-2.true)

pub returns-then-row-gt0 : goal.returns-then-row-gt0
unfolding bytes
returns-then-row-gt0 c =
    let loud : is c.args.code.now "COM" ≡ false = sym c.same_bytes.ensures ∙ c.if-same_bytes.false in
    let other : is c.args.code.now "MTD" ≡ false = sym c.same_bytes-2.ensures ∙ c.if-same_bytes-2.false in
    sort_row _ _ loud other _ c.section_of-row.ensures c.if-row-gt0.true

pub returns-then-header-gt0 : goal.returns-then-header-gt0
unfolding bytes
returns-then-header-gt0 c =
    let loud : is c.args.code.now "COM" ≡ false = sym c.same_bytes.ensures ∙ c.if-same_bytes.false in
    let other : is c.args.code.now "MTD" ≡ false = sym c.same_bytes-2.ensures ∙ c.if-same_bytes-2.false in
    sort_header _ _ loud other _ c.section_of-row.ensures c.if-row-gt0.false _ c.section_of-header.ensures c.if-header-gt0.true

pub returns : goal.returns
unfolding bytes
returns c =
    let loud : is c.args.code.now "COM" ≡ false = sym c.same_bytes.ensures ∙ c.if-same_bytes.false in
    let other : is c.args.code.now "MTD" ≡ false = sym c.same_bytes-2.ensures ∙ c.if-same_bytes-2.false in
    sort_unknown _ _ loud other _ c.section_of-row.ensures c.if-row-gt0.false _ c.section_of-header.ensures c.if-header-gt0.false
