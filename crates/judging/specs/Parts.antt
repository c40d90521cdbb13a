-- Judging a file in parts: where it stands between two of them, and what a part puts. No public contract cites this file. Assumes nothing.
use Rattle.std.specs.Prelude.{ℕ, ◌+◌, ◌≤◌, ◌<◌, ◌≡◌, true, false, List, ◌++◌, length, take, drop}
use Rattle.text_bytes.specs.Bytes.{Bytes}
use Rattle.text.specs.Lines.{lines}
use Rattle.scan.specs.Places.{LINE_MOST, END_MOST, lent, put_all}
use Rattle.rules.specs.Breaks.{Break}
use Rattle.rules.specs.Rules.{breaks_by}
use Rattle.scan.specs.Carried.{initial, Scan, from, last}
use Rattle.book_facts.specs.Asked.{AskingOf}
use Rattle.book_facts.specs.declared.Asking.{Asking}
use Rattle.judging.specs.declared.parts.Stand.{Stand}
use Rattle.book.specs.Book.{Book}

-- how many breaks were put up to here
abbrev pub put_so_far : Stand → ℕ
put_so_far s = s.before + s.held

-- before the first line
abbrev pub beginning : Asking → Stand
beginning a = record { more = true; at = 0; lines = 0; before = 0; held = 0; state = initial a }

-- in the middle of a file: what is carried stands for the lines passed, and all of their breaks were put
pub record Midway (b : Book) (file : Bytes) (s : Stand) (kinds slots : List ℕ) : Type 0 where
  pub scan : Scan b file s.at s.lines s.state kinds slots
  pub asking : AskingOf b (lines file) s.state.asking
  pub most : put_so_far s ≤ length (breaks_by b (lines file))
  pub left : drop (put_so_far s) (breaks_by b (lines file)) ≡ from b (lines file) s.lines ++ last b (lines file)

-- of the breaks bs, T were put before and k of them from the first place on; those of `rest` are still to come
pub record Parted (bs : List Break) (T : ℕ) (ys₀ ys : List ℕ) (k : ℕ) (rest : List Break) : Type 0 where
  pub most : T + k ≤ length bs
  pub puts : lent ys k ≡ put_all (lent ys₀ 0) (take k (drop T bs))
  pub left : drop (T + k) bs ≡ rest

-- the breaks of the lines after the first n, and those at the end
abbrev pub ahead : Book → Bytes → ℕ → List Break
ahead b file n = from b (lines file) n ++ last b (lines file)

-- lines judged from s to r, up to the place `end`: their breaks are put from the first place on, more than `room` of them only by a line's; it ends before that
-- place only where the room is full, and a line further; and up to the next place it is one line
pub record Lined (b : Book) (file : Bytes) (room end : ℕ) (s r : Stand) (places places' : List ℕ) : Type 0 where
  pub parted : Parted (ahead b file s.lines) 0 places places' r.held (ahead b file r.lines)
  pub fits : r.held ≤ room + LINE_MOST
  pub full : r.more ≡ true → room ≤ r.held
  pub further : r.more ≡ true → s.at < r.at
  pub done : r.more ≡ false → end ≤ r.at
  pub alone : end ≡ s.at + 1 → r.lines ≡ s.lines + 1

-- from s to r: the next breaks of the file are put from the first place on, more than `room` of them only by a line's and the end's; it ends before the last
-- break only where the room is full, and a line further
pub record Parts (b : Book) (file : Bytes) (room : ℕ) (s r : Stand) (places places' : List ℕ) : Type 0 where
  pub before : r.before ≡ put_so_far s
  pub most : put_so_far r ≤ length (breaks_by b (lines file))
  pub puts : lent places' r.held ≡ put_all (lent places 0) (take r.held (drop (put_so_far s) (breaks_by b (lines file))))
  pub fits : r.held ≤ room + (LINE_MOST + END_MOST)
  pub full : r.more ≡ true → room ≤ r.held
  pub further : r.more ≡ true → s.at < r.at
  pub all : r.more ≡ false → put_so_far r ≡ length (breaks_by b (lines file))
