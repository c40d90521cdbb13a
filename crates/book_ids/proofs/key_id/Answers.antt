-- `book_ids::key_id` meets its contract: an unknown key has no id, and neither has one that begins with none. Assumes nothing.
use mathlib.Core.Path.{refl, sym, ◌∙◌}
use Rattle.book_ids.proofs.Laws.Marks.{key_none, key_unknown, key_known}
use Rattle.book_ids.proofs.key_id.Goals as goal

pub returns-in_err-id : goal.returns-in_err-id
returns-in_err-id c = c.from_residual.ensures ∙ sym (key_none _ c.args.name.now (sym c.id_of.ensures ∙ c.in_err-id.was))

pub returns-in-Err : goal.returns-in-Err
returns-in-Err c = sym (key_unknown _ c.args.name.now _ (sym c.key.ensures ∙ c.in-Err.is))

pub returns-in-Ok : goal.returns-in-Ok
returns-in-Ok c = sym c.in_ok-id.was ∙ c.id_of.ensures ∙ sym (key_known _ c.args.name.now _ (sym c.key.ensures ∙ c.in-Ok.is) refl)
