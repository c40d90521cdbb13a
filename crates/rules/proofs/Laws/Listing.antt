-- The list of all breaks is strictly sorted by line, cell and rule, and holds a break exactly where a rule is broken: for any rules with rising
-- numbers. Assumes nothing.
use mathlib.Core.Path.{◌≡◌, refl, sym, ap, ◌∙◌}
use mathlib.Core.Bool.{Bool, true, false, cond}
use mathlib.Core.List.{List, [], ◌∷◌, ◌++◌}
use mathlib.Core.Logic.{◌⊎◌, inl, inr, ⊎_elim}
use Prim.Native.Nat.{ℕ, zero, suc, ◌+◌, ◌≤◌, ◌<◌}
use native.Mathlib.Nat.{eq-or-lt_of_le}
use native.Mathlib.Omega.{arith}
use lib.ListN.{length}
use Rattle.text_bytes.specs.Bytes.{Bytes}
use Rattle.text.specs.Lines.{width}
use Rattle.rules.specs.Sorts.{is_silent}
use Rattle.rules.specs.Breaks.{Break, break_with, when, Spot, spot_at, Rule, each, at_cell, at_line, in_lines, at_end, Broken, Breaks, Lacks, In, Before, Sorted, Rising}

-- LISTS

in_left : (g : Break) (xs ys : List Break) → In g xs → In g (xs ++ ys)
in_left g [] ys h = absurd h
in_left g (x ∷ xs) ys (inl e) = inl e
in_left g (x ∷ xs) ys (inr h) = inr (in_left g xs ys h)

in_right : (g : Break) (xs ys : List Break) → In g ys → In g (xs ++ ys)
in_right g [] ys h = h
in_right g (x ∷ xs) ys h = inr (in_right g xs ys h)

in_append : (g : Break) (xs ys : List Break) → In g (xs ++ ys) → In g xs ⊎ In g ys
in_append g [] ys h = inr h
in_append g (x ∷ xs) ys (inl e) = inl (inl e)
in_append g (x ∷ xs) ys (inr h) = ⊎_elim (λ a. inl (inr a)) (λ b. inr b) (in_append g xs ys h)

sorted_append : (xs ys : List Break) → Sorted xs → Sorted ys → ((f g : Break) → In f xs → In g ys → Before f g) → Sorted (xs ++ ys)
sorted_append [] ys a b h = b
sorted_append (x ∷ xs) ys a b h =
    ((λ g m. ⊎_elim (λ p. a.0 g p) (λ q. h x g (inl refl) q) (in_append g xs ys m)), sorted_append xs ys a.1 b (λ f g p q. h f g (inr p) q))

-- A RANGE

module _ (f : ℕ → List Break) where
  each_in : (left n : ℕ) (g : Break) → In g (each left n f) → (i : ℕ) × ((n ≤ i) × ((i < n + left) × In g (f i)))
  unfolding each
  each_in zero n g h = absurd h
  each_in (suc left) n g h = ⊎_elim
      (λ (a : In g (f n)). (n, (omega arith, (omega arith, a))))
      (λ (b : In g (each left (suc n) f)). let r = each_in left (suc n) g b in (r.0, (omega (arith, r.1.0), (omega (arith, r.1.1.0), r.1.1.1))))
      (in_append g (f n) (each left (suc n) f) h)

  in_each : (left n i : ℕ) (g : Break) → n ≤ i → i < n + left → In g (f i) → In g (each left n f)
  unfolding each
  in_each zero n i g a b h = absurd (omega arith)
  in_each (suc left) n i g a b h = ⊎_elim
      (λ (e : n ≡ i). in_left g (f n) (each left (suc n) f) (rw e h))
      (λ (l : n < i). in_right g (f n) (each left (suc n) f) (in_each left (suc n) i g l (omega arith) h))
      (eq-or-lt_of_le a)

  each_sorted : ((i : ℕ) → Sorted (f i)) → ((i j : ℕ) (x y : Break) → i < j → In x (f i) → In y (f j) → Before x y) → (left n : ℕ) → Sorted (each left n f)
  unfolding each
  each_sorted s h zero n = tt
  each_sorted s h (suc left) n = sorted_append (f n) (each left (suc n) f) (s n) (each_sorted s h left (suc n))
      (λ x y p q. let r = each_in left (suc n) y q in h n r.0 x y r.1.0 p r.1.1.1)

-- THE RULES AT A CELL

module _ (p : Spot) (n c : ℕ) where
  at_in : (rs : List Rule) (g : Break) → In g (at_cell rs p n c) → (g.line ≡ n) × ((g.cell ≡ c) × Broken rs p c g.rule g.first)
  unfolding at_cell
  at_in [] g h = absurd h
  at_in (r ∷ rs) g h = go (r.broken p c) refl (at_in rs g) h
    where
      go : (t : Bool) → r.broken p c ≡ t → (In g (at_cell rs p n c) → (g.line ≡ n) × ((g.cell ≡ c) × Broken rs p c g.rule g.first))
          → In g (when t (break_with n c r.number (r.first p c)) (at_cell rs p n c)) → (g.line ≡ n) × ((g.cell ≡ c) × Broken (r ∷ rs) p c g.rule g.first)
      go true e ih (inl q) = (ap (λ (x : Break). x.line) q, (ap (λ (x : Break). x.cell) q, inl (ap (λ (x : Break). x.rule) q, ap (λ (x : Break). x.first) q, e)))
      go true e ih (inr m) = let q = ih m in (q.0, (q.1.0, inr q.1.1))
      go false e ih m = let q = ih m in (q.0, (q.1.0, inr q.1.1))

  in_at : (rs : List Rule) (k f : ℕ) → Broken rs p c k f → In (break_with n c k f) (at_cell rs p n c)
  unfolding at_cell
  in_at [] k f h = absurd h
  in_at (r ∷ rs) k f (inl b) = rw b.2 (inl (rw (b.0, b.1)))
  in_at (r ∷ rs) k f (inr b) = go (r.broken p c) (in_at rs k f b)
    where
      go : (t : Bool) → In (break_with n c k f) (at_cell rs p n c) → In (break_with n c k f) (when t (break_with n c r.number (r.first p c)) (at_cell rs p n c))
      go true m = inr m
      go false m = m

  -- a rule that is broken has a number above what the numbers rise from
  rising_above : (rs : List Rule) (j k f : ℕ) → Rising j rs → Broken rs p c k f → j < k
  rising_above [] j k f r h = absurd h
  rising_above (q ∷ rs) j k f r (inl b) = omega (arith, r.0, b.0)
  rising_above (q ∷ rs) j k f r (inr b) = omega (arith, r.0, rising_above rs q.number k f r.1 b)

  at_sorted : (rs : List Rule) (j : ℕ) → Rising j rs → Sorted (at_cell rs p n c)
  unfolding at_cell
  at_sorted [] j r = tt
  at_sorted (q ∷ rs) j r = go (q.broken p c) (at_sorted rs q.number r.1)
    where
      first : (g : Break) → In g (at_cell rs p n c) → Before (break_with n c q.number (q.first p c)) g
      first g m = let a = at_in rs g m in inr (sym a.0, inr (sym a.1.0, rising_above rs q.number g.rule g.first r.1 a.1.1))

      go : (t : Bool) → Sorted (at_cell rs p n c) → Sorted (when t (break_with n c q.number (q.first p c)) (at_cell rs p n c))
      go true s = (first, s)
      go false s = s

-- A LINE

module _ (rs : List Rule) (p : Spot) (n : ℕ) where
  abbrev pub InLine : Break → Type 0
  InLine g = (is_silent p.here ≡ false) × ((g.line ≡ n) × ((1 ≤ g.cell) × ((g.cell ≤ width p.here) × Broken rs p g.cell g.rule g.first)))

  pub line_in : (g : Break) → In g (at_line rs p n) → InLine g
  unfolding at_line
  line_in g h = go (is_silent p.here) refl h
    where
      go : (t : Bool) → is_silent p.here ≡ t → In g (cond t [] (each (width p.here) 1 (at_cell rs p n))) → InLine g
      go true e m = absurd m
      go false e m =
          let r = each_in (at_cell rs p n) (width p.here) 1 g m in
          let a = at_in p n r.0 rs g r.1.1.1 in
          (e, (a.0, (omega (arith, r.1.0, a.1.0), (omega (arith, r.1.1.0, a.1.0), rw a.1.0 a.1.1))))

  in_line : (c k f : ℕ) → is_silent p.here ≡ false → 1 ≤ c → c ≤ width p.here → Broken rs p c k f → In (break_with n c k f) (at_line rs p n)
  unfolding at_line
  in_line c k f e a b h = rw e (in_each (at_cell rs p n) (width p.here) 1 c (break_with n c k f) a (omega arith) (in_at p n c rs k f h))

  line_sorted : (j : ℕ) → Rising j rs → Sorted (at_line rs p n)
  unfolding at_line
  line_sorted j r = go (is_silent p.here)
    where
      across : (a b : ℕ) (x y : Break) → a < b → In x (at_cell rs p n a) → In y (at_cell rs p n b) → Before x y
      across a b x y l u v =
          let s = at_in p n a rs x u in
          let t = at_in p n b rs y v in
          inr (s.0 ∙ sym t.0, inl (omega (arith, s.1.0, t.1.0)))

      go : (t : Bool) → Sorted (cond t [] (each (width p.here) 1 (at_cell rs p n)))
      go true = tt
      go false = each_sorted (at_cell rs p n) (λ i. at_sorted p n i rs j r) across (width p.here) 1

-- ALL LINES

module _ (rs : List Rule) (file : List Bytes) where
  -- a break of the list is one of the file, and the other way round
  pub listed_broken : (n c k f : ℕ) → In (break_with n c k f) (in_lines rs file) → Breaks rs file n c k f
  unfolding in_lines
  listed_broken n c k f h =
      let r = each_in (λ i. at_line rs (spot_at file i) i) (length file) 1 (break_with n c k f) h in
      let a = line_in rs (spot_at file r.0) r.0 (break_with n c k f) r.1.1.1 in
      let e : r.0 ≡ n = sym a.1.0 in
      let b : InLine rs (spot_at file n) n (break_with n c k f) = rw (← a.1.0) at a in
      record {
        line_low = omega (arith, r.1.0, e);
        line_high = omega (arith, r.1.1.0, e);
        judged = b.0;
        cell_low = b.1.1.0;
        cell_high = b.1.1.1.0;
        broken = b.1.1.1.1;
      }

  pub broken_listed : {n c k f : ℕ} → Breaks rs file n c k f → In (break_with n c k f) (in_lines rs file)
  unfolding in_lines
  broken_listed {n} {c} {k} {f} h =
      in_each (λ i. at_line rs (spot_at file i) i) (length file) 1 n (break_with n c k f) h.line_low (omega (arith, h.line_high))
      (in_line rs (spot_at file n) n c k f h.judged h.cell_low h.cell_high h.broken)

  lines_below : (g : Break) → In g (in_lines rs file) → g.line ≤ length file
  unfolding in_lines
  lines_below g h =
      let r = each_in (λ i. at_line rs (spot_at file i) i) (length file) 1 g h in
      let a = line_in rs (spot_at file r.0) r.0 g r.1.1.1 in
      omega (arith, r.1.1.0, a.1.0)

  pub sorted : (j : ℕ) → Rising j rs → Sorted (in_lines rs file)
  unfolding in_lines
  sorted j r = each_sorted (λ i. at_line rs (spot_at file i) i) (λ i. line_sorted rs (spot_at file i) i j r)
      (λ a b x y l u v. inl (omega (arith, l, (line_in rs (spot_at file a) a x u).1.0, (line_in rs (spot_at file b) b y v).1.0))) (length file) 1

-- AT THE END

module _ (rs : List Rule) (w : ℕ) (file : List Bytes) where
  -- a break of line N + 1 is listed, and the other way round
  pub listed_lacks : (n c k f : ℕ) → In (break_with n c k f) (at_end rs w file) → Lacks rs w file n c k f
  unfolding at_end
  listed_lacks n c k f h =
      let r = each_in (at_cell rs (spot_at file (length file + 1)) (length file + 1)) w 1 (break_with n c k f) h in
      let a = at_in (spot_at file (length file + 1)) (length file + 1) r.0 rs (break_with n c k f) r.1.1.1 in
      record {
        line = a.0;
        cell_low = omega (arith, r.1.0, a.1.0);
        cell_high = omega (arith, r.1.1.0, a.1.0);
        broken = rw a.1.0 a.1.1;
      }

  pub lacks_listed : {n c k f : ℕ} → Lacks rs w file n c k f → In (break_with n c k f) (at_end rs w file)
  unfolding at_end
  lacks_listed {n} {c} {k} {f} h =
      rw h.line (in_each (at_cell rs (spot_at file (length file + 1)) (length file + 1)) w 1 c (break_with (length file + 1) c k f) h.cell_low (omega (arith, h.cell_high))
      (in_at (spot_at file (length file + 1)) (length file + 1) c rs k f h.broken))

  pub end_sorted : (j : ℕ) → Rising j rs → Sorted (at_end rs w file)
  unfolding at_end
  end_sorted j r =
      let p = spot_at file (length file + 1) in
      let n = length file + 1 in
      each_sorted (at_cell rs p n) (λ i. at_sorted p n i rs j r)
      (λ a b x y l u v. inr ((at_in p n a rs x u).0 ∙ sym (at_in p n b rs y v).0, inl (omega (arith, l, (at_in p n a rs x u).1.0, (at_in p n b rs y v).1.0)))) w 1

-- THE WHOLE LIST

module _ (rs es : List Rule) (w : ℕ) (file : List Bytes) where
  -- sorted by line, cell and rule, so each break stands once
  pub all_sorted : (i j : ℕ) → Rising i rs → Rising j es → Sorted (in_lines rs file ++ at_end es w file)
  all_sorted i j r s =
      sorted_append (in_lines rs file) (at_end es w file) (sorted rs file i r) (end_sorted es w file j s)
      (λ f g u v. inl (omega (arith, lines_below rs file f u, (listed_lacks es w file g.line g.cell g.rule g.first v).line)))

  -- a break is listed exactly where a rule is broken
  pub all_broken : (n c k f : ℕ) → In (break_with n c k f) (in_lines rs file ++ at_end es w file) → Breaks rs file n c k f ⊎ Lacks es w file n c k f
  all_broken n c k f h =
      ⊎_elim (λ a. inl (listed_broken rs file n c k f a)) (λ b. inr (listed_lacks es w file n c k f b)) (in_append (break_with n c k f) (in_lines rs file) (at_end es w file) h)

  pub broken_all : {n c k f : ℕ} → Breaks rs file n c k f ⊎ Lacks es w file n c k f → In (break_with n c k f) (in_lines rs file ++ at_end es w file)
  broken_all {n} {c} {k} {f} (inl h) = in_left (break_with n c k f) (in_lines rs file) (at_end es w file) (broken_listed rs file h)
  broken_all {n} {c} {k} {f} (inr h) = in_right (break_with n c k f) (in_lines rs file) (at_end es w file) (lacks_listed es w file h)

-- NO TWO BREAKS of a sorted list have the same line, cell and rule: what has them is one break, with one fourth number
not_before : (b g : Break) → b.line ≡ g.line → b.cell ≡ g.cell → b.rule ≡ g.rule → Before b g → ⊥
not_before b g l c r (inl a) = omega (arith, l, a)
not_before b g l c r (inr (a, inl d)) = omega (arith, c, d)
not_before b g l c r (inr (a, inr (d, e))) = omega (arith, r, e)

pub place_once : (bs : List Break) → Sorted bs → (g h : Break) → In g bs → In h bs → g.line ≡ h.line → g.cell ≡ h.cell → g.rule ≡ h.rule → g ≡ h
place_once [] s g h a b l c r = absurd a
place_once (x ∷ bs) s g h (inl a) (inl b) l c r = a ∙ sym b
place_once (x ∷ bs) s g h (inl a) (inr b) l c r = absurd (not_before g h l c r (rw a (s.0 h b)))
place_once (x ∷ bs) s g h (inr a) (inl b) l c r = absurd (not_before h g (sym l) (sym c) (sym r) (rw b (s.0 g a)))
place_once (x ∷ bs) s g h (inr a) (inr b) l c r = place_once bs s.1 g h a b l c r
