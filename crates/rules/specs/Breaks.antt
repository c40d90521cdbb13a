-- A break is a line, a cell and a rule, and where what it repeats stands first. The list of all breaks of a file, over any list of rules. Assumes nothing.
use Rattle.std.specs.Prelude.{ℕ, zero, suc, ◌+◌, ◌-◌, ◌≤◌, ◌<◌, ◌≡◌, Bool, true, false, cond, List, [], ◌∷◌, ◌++◌, ◌⊎◌, length, get_or, take}
use Rattle.text_bytes.specs.Bytes.{Bytes}
use Rattle.text.specs.Lines.{width}
use Rattle.rules.specs.Sorts.{is_silent}

-- `first` is a line or a cell, as the rule says; 0 where the rule is not of what comes again
pub record Break : Type 0 where
  pub line : ℕ
  pub cell : ℕ
  pub rule : ℕ
  pub first : ℕ

abbrev pub break_with : ℕ → ℕ → ℕ → ℕ → Break
break_with n c r f = record { line = n; cell = c; rule = r; first = f }

abbrev pub break_at : ℕ → ℕ → ℕ → Break
break_at n c r = break_with n c r 0

-- a break comes first, where the test holds
abbrev pub when : Bool → Break → List Break → List Break
when true b bs = b ∷ bs
when false b bs = bs

-- a line of a file: the lines above it, itself, and the whole file
pub record Spot : Type 0 where
  pub above : List Bytes
  pub here : Bytes
  pub file : List Bytes

abbrev pub spot : List Bytes → Bytes → List Bytes → Spot
spot above here file = record { above = above; here = here; file = file }

-- line n, from 1; of a file of N lines, line N + 1 has all lines above it and no byte
abbrev pub spot_at : List Bytes → ℕ → Spot
spot_at file n = spot (take (n - 1) file) (get_or file (n - 1) []) file

-- a rule: its number, when it is broken at a cell of a line, and where what stands there stands first
pub record Rule : Type 0 where
  pub number : ℕ
  pub broken : Spot → ℕ → Bool
  pub first : Spot → ℕ → ℕ

-- one of what comes again, and any other
abbrev pub again : ℕ → (Spot → ℕ → Bool) → (Spot → ℕ → ℕ) → Rule
again n b f = record { number = n; broken = b; first = f }

abbrev pub rule : ℕ → (Spot → ℕ → Bool) → Rule
rule n b = again n b (λ p c. 0)

-- THE LIST OF ALL BREAKS goes through lines, cells of a line and rules, in this order

-- f of n, n + 1, .., `left` of them
unfoldable pub each : ℕ → ℕ → (ℕ → List Break) → List Break
each zero n f = []
each (suc left) n f = f n ++ each left (suc n) f

-- the rules that are broken at cell c of line n
unfoldable pub at_cell : List Rule → Spot → ℕ → ℕ → List Break
at_cell [] p n c = []
at_cell (r ∷ rs) p n c = when (r.broken p c) (break_with n c r.number (r.first p c)) (at_cell rs p n c)

-- at the cells of line n, where it is not silent
unfoldable pub at_line : List Rule → Spot → ℕ → List Break
at_line rs p n = cond (is_silent p.here) [] (each (width p.here) 1 (at_cell rs p n))

-- at all lines of the file
unfoldable pub in_lines : List Rule → List Bytes → List Break
in_lines rs file = each (length file) 1 (λ n. at_line rs (spot_at file n) n)

-- at line N + 1 of an N-line file, in the cells 1 to w
unfoldable pub at_end : List Rule → ℕ → List Bytes → List Break
at_end rs w file = each w 1 (at_cell rs (spot_at file (length file + 1)) (length file + 1))

-- WHAT THE LIST HOLDS

-- a rule with the number k is broken at cell c, and what stands there stands first at f
abbrev pub Broken : List Rule → Spot → ℕ → ℕ → ℕ → Type 0
Broken [] p c k f = ⊥
Broken (r ∷ rs) p c k f = ((k ≡ r.number) × (f ≡ r.first p c) × (r.broken p c ≡ true)) ⊎ Broken rs p c k f

-- rule k is broken at cell c of line n: one of the line's cells, and the line not silent
pub record Breaks (rs : List Rule) (file : List Bytes) (n c k f : ℕ) : Type 0 where
  pub line_low : 1 ≤ n
  pub line_high : n ≤ length file
  pub judged : is_silent (get_or file (n - 1) []) ≡ false
  pub cell_low : 1 ≤ c
  pub cell_high : c ≤ width (get_or file (n - 1) [])
  pub broken : Broken rs (spot_at file n) c k f

-- rule k is broken at cell c, of w, of line N + 1
pub record Lacks (rs : List Rule) (w : ℕ) (file : List Bytes) (n c k f : ℕ) : Type 0 where
  pub line : n ≡ length file + 1
  pub cell_low : 1 ≤ c
  pub cell_high : c ≤ w
  pub broken : Broken rs (spot_at file (length file + 1)) c k f

-- a break is in a list
abbrev pub In : Break → List Break → Type 0
In g [] = ⊥
In g (b ∷ bs) = (g ≡ b) ⊎ In g bs

-- by line, then cell, then rule; the fourth number has no part in it
abbrev pub Before : Break → Break → Type 0
Before b g = (b.line < g.line) ⊎ ((b.line ≡ g.line) × ((b.cell < g.cell) ⊎ ((b.cell ≡ g.cell) × (b.rule < g.rule))))

-- each break comes before all that stand after it
abbrev pub Sorted : List Break → Type 0
Sorted [] = Unit
Sorted (b ∷ bs) = ((g : Break) → In g bs → Before b g) × Sorted bs

-- the numbers of the rules rise, from above k on
abbrev pub Rising : ℕ → List Rule → Type 0
Rising k [] = Unit
Rising k (r ∷ rs) = (k < r.number) × Rising r.number rs
