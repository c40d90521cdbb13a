-- What is wanted at the end, as the code goes through it. No public contract cites this file. Assumes nothing.
use Rattle.std.specs.Prelude.{ℕ, ◌+◌, ◌-◌, ◌≡◌, Bool, false, not, ◌&&◌, List, [], ◌∷◌, length, get_or}
use Rattle.value_references.specs.Index.{MOST}
use Rattle.book.specs.Letters.{ASSAYS}
use Rattle.book.specs.declared.demands.Demand.{Demand as Read}
use Rattle.book_ids.specs.Ids.{Flags, is_marked}
use Rattle.rules.specs.Breaks.{Break, break_at, when}
use Rattle.scan.specs.Machine.{FIRSTS, marks, Seen}
use Rattle.scan.specs.declared.state.State.{State}
use Rattle.book_facts.specs.declared.Asking.{Asking}
use Rattle.line_end.specs.declared.End.{End}

-- what was found of the file
abbrev pub seen_by : List ℕ → List (List Bool) → State → Seen
seen_by slots flags state = record { slots = marks slots; flags = flags; mode = state.asking.mode; typed = state.asking.typed; present = state.present }

-- the same, as the end has it
abbrev pub seen : List ℕ → List (List Bool) → End → Seen
seen slots flags end = record { slots = marks slots; flags = flags; mode = end.asking.mode; typed = end.asking.typed; present = end.present }

-- the parts have their sizes, and what is asking says whether an assay is declared
pub record Whole (slots : List ℕ) (flags : List (List Bool)) (asking : Asking) : Type 0 where
  pub long : length slots ≡ FIRSTS
  pub shape : Flags flags
  pub assay : asking.assay ≡ is_marked (get_or flags ASSAYS []) 0 MOST

-- what a demand wants for the ids of a family, of which these flags are declared: the keys' slots begin at `from`
abbrev pub id_break : Read → Bool → List Bool → List Bool → ℕ → ℕ → ℕ → List Break → List Break
id_break d asked slots ids from n i rest = when ((asked && get_or ids (i - 1) false) && not (get_or slots (from + (i - 1)) false)) (break_at n (d.cell + i) d.rule) rest

unfoldable pub id_breaks : Read → Bool → List Bool → List Bool → ℕ → ℕ → List ℕ → List Break → List Break
id_breaks d asked slots ids from n [] rest = rest
id_breaks d asked slots ids from n (i ∷ is) rest = id_break d asked slots ids from n i (id_breaks d asked slots ids from n is rest)
