-- `fault_steps::next` meets its contract: the part that was judged is what comes next, cut to what the list has room for. Assumes nothing.
use mathlib.Core.Path.{◌≡◌, refl, sym, ap, ◌∙◌}
use native.Mathlib.Omega.{arith}
use lib.ListN.{length, take, drop}
use Rattle.rules.specs.Rules.{breaks_by}
use Rattle.scan.specs.Places.{Lent}
use Rattle.scan.proofs.Laws.Placing.{placed_length}
use Rattle.scan.proofs.Laws.Scanning.{breaks_bound}
use Rattle.fault_steps.specs.Steps.{PLACES}
use Rattle.judging.specs.Parts.{put_so_far}
use Rattle.fault_steps.proofs.Laws.Stepping.{found_all, step_moves, step_less}
use Rattle.book.specs.Book.{book_of}
use Rattle.book.specs.Text.{book_in}
use Rattle.book.proofs.Laws.Sized.{book_sized}
use Rattle.text.specs.Lines.{lines}
use Rattle.fault_steps.proofs.next.Goals as goal

pub next_part-carried-requires : goal.next_part-carried-requires
unfolding book_in book_of
next_part-carried-requires c = record { le_room = omega arith; book = c.requires.book; going = c.requires.between.going c.requires.more_value }

pub overflow_add-count : goal.overflow_add-count
unfolding book_in
overflow_add-count c = omega (arith, c.next_part-carried.ensures.parts.most, breaks_bound _ (book_sized c.args.file.now) c.args.file.now (c.requires.between.going c.requires.more_value).limit)

pub returns : goal.returns
unfolding book_in book_of
returns c =
    let limit = (c.requires.between.going c.requires.more_value).limit in
    let room = placed_length (take c.next_part-carried.result.stand.held (drop (put_so_far c.args.s.carried.stand) (breaks_by (book_of (lines c.args.file.now)) (lines c.args.file.now)))) c.args.places.now 0 in
    let kept : length c.next_part-carried.new.places ≡ PLACES = ap (λ (o : Lent). length o.places) c.next_part-carried.ensures.parts.puts ∙ room ∙ c.requires.places_len in
    record {
      between_2 = record { limit = limit; counted = refl; going = c.next_part-carried.ensures.going_2; done = λ q. c.next_part-carried.ensures.parts.all q ∙ ap length (sym (found_all c.args.file.now limit)) };
      moves = record {
        cap = refl;
        inside = omega (arith, c.min-from.ensures, c.min-fit.ensures);
        held = omega (arith, c.min-fit.ensures, c.next_part-carried.ensures.parts.fits, kept);
        writes = step_moves c.next_part-carried.ensures.parts (omega (arith, c.next_part-carried.ensures.parts.fits, c.requires.places_len)) limit c.requires.between.counted c.min-from.ensures c.min-fit.ensures;
        less = step_less c.args.file.now c.args.s _ c.requires.more_value (λ q. (c.next_part-carried.ensures.parts.further q, (c.next_part-carried.ensures.going_2 q).midway.scan.within));
      };
      places_len_2 = kept;
    }
