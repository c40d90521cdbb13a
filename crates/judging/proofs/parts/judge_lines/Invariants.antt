-- `judging::parts::judge_lines` meets its contract. The invariant: what is carried stands for the lines passed, and what was put are the breaks ahead of where
-- it began, up to those of the lines left. Assumes nothing.
use mathlib.Core.Path.{◌≡◌}
use Prim.Native.Nat.{◌+◌, ◌-◌, ◌≤◌, ◌<◌}
use lib.ListN.{length}
use Rattle.text.specs.Lines.{lines}
use Rattle.book.specs.Text.{book_in}
use Rattle.book_facts.specs.Asked.{AskingOf}
use Rattle.scan.specs.Machine.{FIRSTS}
use Rattle.scan.specs.Places.{LINE_MOST}
use Rattle.scan.specs.Carried.{Scan}
use Rattle.line_head_stamps.specs.Stamps.{ROOM}
use Rattle.judging.specs.Parts.{Parted, ahead}
use Rattle.judging.proofs.Laws.Parting.{Alone}
use Rattle.judging.proofs.parts.judge_lines.Given as goal

abbrev pub invariant-loop-at : goal.invariant-loop-at
invariant-loop-at l = Scan (book_in l.book) l.file l.at l.n l.state l.kinds l.slots × Parted (ahead (book_in l.book) l.file l.initial.n) 0 l.initial.places l.places l.k (ahead (book_in l.book) l.file l.n) × (l.k ≤ l.room + LINE_MOST) × (l.initial.at ≤ l.at) × (0 < l.k → l.initial.at < l.at) × (length l.places ≡ length l.initial.places) × (length l.kinds ≡ 256) × (length l.slots ≡ FIRSTS) × (length l.stamps ≡ ROOM) × AskingOf (book_in l.book) (lines l.file) l.state.asking × Alone l.initial.at l.initial.n l.last l.at l.n l.k

abbrev pub decreases-loop-at : goal.decreases-loop-at
decreases-loop-at l = length l.file - l.at
