-- `book_text::link_tables`. The invariant: the links of the first k tables are written, and what stands in front of them is kept. Assumes nothing.
use native.Mathlib.Omega.{arith}
use mathlib.Core.Path.{◌≡◌, ap, ◌∙◌}
use Prim.Native.Nat.{◌-◌}
use lib.ListN.{length, take}
use Rattle.book.specs.Text.{FRONT, LINKS}
use Rattle.book_laid.proofs.Laws.Laying.{TableAt, table_at, midway_start, midway_turn, midway_end}
use Rattle.book_text.proofs.link_tables.Goals as goal

pub loop-k-init : goal.loop-k-init
loop-k-init c = midway_start c.args.text.now c.requires.text_len c.requires.text_value

pub rows_at-from-requires : goal.rows_at-from-requires
rows_at-from-requires c =
    let long : length c.args.front.now ≡ LINKS = ap length c.requires.front_value ∙ c.requires.text_len in
    omega (arith, long)

pub rows_at-to-requires : goal.rows_at-to-requires
rows_at-to-requires c =
    let long : length c.args.front.now ≡ LINKS = ap length c.requires.front_value ∙ c.requires.text_len in
    omega (arith, long)

pub links_at-at-requires : goal.links_at-at-requires
links_at-at-requires c =
    let long : length c.args.front.now ≡ LINKS = ap length c.requires.front_value ∙ c.requires.text_len in
    omega (arith, long)

pub slice_bounds-link-count : goal.slice_bounds-link-count
slice_bounds-link-count c =
    let at_table : TableAt c.args.front.now c.loop-k.k c.rows_at-from.result c.rows_at-to.result c.links_at-at.result = table_at _ _ _ _ _ c.loop-k-test.true (ap length c.requires.front_value ∙ c.requires.text_len) (ap (take FRONT) c.requires.front_value ∙ c.requires.text_value) c.rows_at-from.ensures c.rows_at-to.ensures c.links_at-at.ensures in
    at_table.starts

pub slice_bounds-link-start : goal.slice_bounds-link-start
slice_bounds-link-start c =
    let at_table : TableAt c.args.front.now c.loop-k.k c.rows_at-from.result c.rows_at-to.result c.links_at-at.result = table_at _ _ _ _ _ c.loop-k-test.true (ap length c.requires.front_value ∙ c.requires.text_len) (ap (take FRONT) c.requires.front_value ∙ c.requires.text_value) c.rows_at-from.ensures c.rows_at-to.ensures c.links_at-at.ensures in
    at_table.starts

pub slice_bounds-link-end : goal.slice_bounds-link-end
slice_bounds-link-end c =
    let at_table : TableAt c.args.front.now c.loop-k.k c.rows_at-from.result c.rows_at-to.result c.links_at-at.result = table_at _ _ _ _ _ c.loop-k-test.true (ap length c.requires.front_value ∙ c.requires.text_len) (ap (take FRONT) c.requires.front_value ∙ c.requires.text_value) c.rows_at-from.ensures c.rows_at-to.ensures c.links_at-at.ensures in
    at_table.ends

pub link-requires : goal.link-requires
link-requires c =
    let at_table : TableAt c.args.front.now c.loop-k.k c.rows_at-from.result c.rows_at-to.result c.links_at-at.result = table_at _ _ _ _ _ c.loop-k-test.true (ap length c.requires.front_value ∙ c.requires.text_len) (ap (take FRONT) c.requires.front_value ∙ c.requires.text_value) c.rows_at-from.ensures c.rows_at-to.ensures c.links_at-at.ensures in
    let x = at_table in
    record { table_len_bound = x.few; table_in_bounds = omega (arith, x.room, c.loop-k.invariant.long) }

pub loop-k-preserved : goal.loop-k-preserved
loop-k-preserved c =
    let at_table : TableAt c.args.front.now c.loop-k.k c.rows_at-from.result c.rows_at-to.result c.links_at-at.result = table_at _ _ _ _ _ c.loop-k-test.true (ap length c.requires.front_value ∙ c.requires.text_len) (ap (take FRONT) c.requires.front_value ∙ c.requires.text_value) c.rows_at-from.ensures c.rows_at-to.ensures c.links_at-at.ensures in
    midway_turn _ _ _ _ _ _ _ c.loop-k.invariant at_table c.link.ensures

pub returns : goal.returns
returns c = midway_end c.loop-k.text c.loop-k.k c.loop-k-test.false c.loop-k.invariant
