-- `book_ids::id_of` meets its contract. The loop's invariant: the id that the name begins with is the one that the words left find. Assumes nothing.
use mathlib.Core.Path.{◌≡◌}
use mathlib.Core.List.{map}
use Prim.Native.Nat.{◌≤◌}
use lib.ListN.{drop}
use Rattle.text_bytes.specs.Bytes.{bytes}
use Rattle.value_references.specs.References.{families}
use Rattle.book_ids.specs.Ids.{id_in, id_of}
use Rattle.book_ids.proofs.id_of.Given as goal

abbrev pub invariant-loop-f : goal.invariant-loop-f
invariant-loop-f l = (l.f ≤ 4) × (id_of l.name ≡ id_in l.f (drop l.f (map bytes families)) l.name)
