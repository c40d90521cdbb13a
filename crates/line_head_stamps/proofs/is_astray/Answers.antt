-- `line_head_stamps::is_astray` meets its contract: it compares the side of the name with that of the door. Assumes nothing.
use mathlib.Core.Path.{◌∙◌}
use native.Mathlib.Omega.{arith}
use borrow.Author.Tests.{not-true, eqb-false}
use Rattle.text_bytes.proofs.Laws.Tests.{absurd_bool}
use Rattle.line_head_stamps.proofs.is_astray.Goals as goal

pub returns-then-door-lt-BRANCHES : goal.returns-then-door-lt-BRANCHES
returns-then-door-lt-BRANCHES c = λ h. absurd_bool h

pub returns : goal.returns
returns c = λ h.
    record {
      branched = omega arith;
      other = λ e. eqb-false _ _ (not-true _ h) (c.side.ensures ∙ e);
    }
