-- `fault_steps::begin` meets its contract: past the limit it is refused, and else nothing was reported yet. Assumes nothing.
use mathlib.Core.Path.{refl, sym}
use Rattle.std.proofs.lemmas.Result.{err_from_is_err_and}
use Rattle.text_bytes.proofs.Laws.Tests.{absurd_bool}
use Rattle.book.specs.Book.{book_of}
use Rattle.book.specs.Text.{book_in}
use Rattle.fault_steps.proofs.begin.Goals as goal

pub returns-in_err-carried : goal.returns-in_err-carried
returns-in_err-carried c =
    let p = err_from_is_err_and c.from_residual.result c.from_residual.ensures.1 in
    record { number = rw (p.1, p.2) c.in_err-carried.ensures.number; between = rw p.1 tt; cap_value = rw p.1 tt }

pub returns : goal.returns
unfolding book_in book_of
returns c =
    record {
      number = c.in_ok-carried.ensures.number;
      between = record {
        limit = c.in_ok-carried.ensures.going.limit;
        counted = rw c.in_ok-carried.ensures.stand;
        going = λ q. c.in_ok-carried.ensures.going;
        done = λ q. absurd_bool (sym q);
      };
      cap_value = (refl, refl);
    }
