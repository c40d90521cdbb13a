-- A call that answers a tally, with its totals one to a place. Assumes nothing.
use mathlib.Core.Path.{◌≡◌, ap, ◌∙◌}
use mathlib.Core.List.{List}
use Prim.Native.Nat.{ℕ}
use Rattle.tally.specs.declared.Tally.{Tally}
use Rattle.tally.specs.Tally.{totals, Outcome, outcome, placed, in_places}

pub placed_is : {n : ℕ} {t : Tally} {ps : List ℕ} {o : Outcome} → ps ≡ totals t → outcome n t ≡ o → placed n ps ≡ in_places o
placed_is {n} e q = ap (placed n) e ∙ ap in_places q
