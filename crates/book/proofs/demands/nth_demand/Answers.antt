-- `book::demands::nth_demand` meets its contract: the demands stand behind the directory, seven bytes each. Assumes nothing.
use native.Mathlib.Omega.{arith}
use mathlib.Core.Path.{◌≡◌, ap, ◌∙◌}
use mathlib.Core.List.{List}
use Prim.Native.Nat.{ℕ, ◌+◌, ◌*◌, ◌-◌, ◌<◌}
use lib.ListN.{get_or, take, drop}
use lib.Seq.{get_or-take, get_or-drop}
use Rattle.book.specs.Text.{demand_at}
use Rattle.book.proofs.demands.nth_demand.Goals as goal

-- byte m of the seven that stand at p
byte : (t : List ℕ) (p m : ℕ) → m < 7 → get_or (take (p + 7 - p) (drop p t)) m 0 ≡ get_or t (p + m) 0
byte t p m h =
    let w : p + 7 - p ≡ 7 = omega arith in
    rw w (get_or-take 7 (drop p t) m 0 h ∙ get_or-drop p t m 0)

pub returns : goal.returns
returns c =
    let book : List ℕ = c.args.book.now in
    let place : ℕ = 14 + 12 * (c.from.result + 1) + 7 * c.args.k in
    let from : ℕ = demand_at book c.args.k in
    let at : (m i : ℕ) → m < 7 → place + m ≡ i → get_or (take (place + 7 - place) (drop place book)) m 0 ≡ get_or book i 0 = λ m i h e. byte book place m h ∙ ap (λ (j : ℕ). get_or book j 0) e in
    record {
      entry = c.from-2.ensures ∙ at 2 (from + 2) (omega arith) (omega (arith, c.from.ensures)) ∙ c.requires.book.demands.entries c.args.k c.requires.k_in_bounds;
      cell = omega (arith, c.from-4.ensures, c.from_le_bytes.ensures, at 0 from (omega arith) (omega (arith, c.from.ensures)), at 1 (from + 1) (omega arith) (omega (arith, c.from.ensures)), c.requires.book.demands.cells c.args.k c.requires.k_in_bounds);
      asked = at 3 (from + 3) (omega arith) (omega (arith, c.from.ensures)) ∙ c.requires.book.demands.asked c.args.k c.requires.k_in_bounds;
      section = c.from-5.ensures ∙ at 4 (from + 4) (omega arith) (omega (arith, c.from.ensures)) ∙ c.requires.book.demands.sections c.args.k c.requires.k_in_bounds;
      each = c.from-6.ensures ∙ at 5 (from + 5) (omega arith) (omega (arith, c.from.ensures)) ∙ c.requires.book.demands.families c.args.k c.requires.k_in_bounds;
      rule = c.from-3.ensures ∙ at 6 (from + 6) (omega arith) (omega (arith, c.from.ensures)) ∙ c.requires.book.demands.rules c.args.k c.requires.k_in_bounds;
      fits = omega (arith, c.from-4.ensures, c.from_le_bytes.type_inv);
    }
