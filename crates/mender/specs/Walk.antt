-- What is carried from line to line while a file is copied, and what of the copy and the changes is still to come. No public contract cites this file. Assumes
-- nothing.
use Rattle.std.specs.Prelude.{ℕ, ◌-◌, ◌≡◌, List, [], length}
use Rattle.text_bytes.specs.Bytes.{Bytes}
use Rattle.text.specs.Lines.{cells, width}
use Rattle.book.specs.Book.{Book}
use Rattle.rules.specs.Sorts.{sort_of, header}
use Rattle.rules.specs.Breaks.{Break}
use Rattle.rules.specs.Rules.{nearer, nearest}
use Rattle.rules.specs.declared.sorts.Sort.{Sort}
use Rattle.rules.specs.declared.sorts.Sort.TheVariants.{Silent, Unknown, Meta, Header, Row}
use Rattle.scan.specs.Machine.{Kinds}
use Rattle.mender_rows.specs.Rows.{row_filled, row_found}

-- the cells of a line filled, and the changes in them, by its sort: of a row alone, under a header of the section h with w cells of these kinds
abbrev pub sort_filled : Sort → ℕ → ℕ → List ℕ → List Bytes → List Bytes
sort_filled Silent h w kinds xs = xs
sort_filled Unknown h w kinds xs = xs
sort_filled Meta h w kinds xs = xs
sort_filled (Header s) h w kinds xs = xs
sort_filled (Row s) h w kinds xs = row_filled h w kinds s xs

abbrev pub sort_found : Sort → ℕ → ℕ → List ℕ → ℕ → List Bytes → List Break
sort_found Silent h w kinds n xs = []
sort_found Unknown h w kinds n xs = []
sort_found Meta h w kinds n xs = []
sort_found (Header s) h w kinds n xs = []
sort_found (Row s) h w kinds n xs = row_found h w kinds s n xs

-- the section and the number of cells of the nearest header after a line
abbrev pub section_after : Sort → ℕ → ℕ
section_after Silent h = h
section_after Unknown h = h
section_after Meta h = h
section_after (Header s) h = s
section_after (Row s) h = h

abbrev pub width_after : Sort → ℕ → ℕ → ℕ
width_after Silent w v = w
width_after Unknown w v = w
width_after Meta w v = w
width_after (Header s) w v = v
width_after (Row s) w v = w

-- what is carried of the lines above: the section, the number of cells and the kinds of the nearest header
pub record Heads (b : Book) (above : List Bytes) (section w : ℕ) (kinds : List ℕ) : Type 0 where
  pub its_section : section ≡ header b (nearest b above)
  pub width_of : w ≡ width (nearest b above)
  pub columns : Kinds b (nearest b above) kinds

-- how it changes by a line
pub record Passes (b : Book) (l : Bytes) (h w : ℕ) (kinds : List ℕ) (h' w' : ℕ) (kinds' : List ℕ) : Type 0 where
  pub section_next : h' ≡ section_after (sort_of b l) h
  pub width_next : w' ≡ width_after (sort_of b l) w (length (cells l))
  pub columns_after : (l₀ : Bytes) → Kinds b l₀ kinds → Kinds b (nearer b l l₀) kinds'
  pub kind_places : length kinds' ≡ 256
