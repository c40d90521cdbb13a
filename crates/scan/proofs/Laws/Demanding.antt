-- Things wanted at rising cells: what is put one by one is what stands cell by cell, demand by demand. Assumes nothing.
use mathlib.Core.Path.{◌≡◌, refl, sym, ap, subst, ◌∙◌}
use mathlib.Core.Bool.{Bool, true, false, ◌&&◌, ◌||◌, or-false, and-false}
use mathlib.Core.List.{List, [], ◌∷◌, ◌++◌, map}
use mathlib.Core.Logic.{⊎_elim}
use Prim.Native.Nat.{ℕ, zero, suc, ◌+◌, ◌-◌, ◌≤◌, ◌<◌}
use native.Mathlib.Nat.{eq-or-lt_of_le}
use native.Mathlib.Omega.{arith}
use lib.Dec.{eqb, leb, ltb}
use borrow.Author.Tests.{eq-eqb, ne_eqb, lt-ltb, le-leb, ltb-true, leb-true, eqb-true, eqb-false}
use Rattle.text_bytes.specs.Bytes.{any, all}
use Rattle.text_bytes.proofs.Laws.Tests.{absurd_bool, and_both}
use Rattle.value_references.specs.Index.{MOST}
use Rattle.book.specs.Book.{Demand, ONCE, Want, want, cell_of, up_from, wants_of, wants_in, last_cell}
use Rattle.book.proofs.Laws.Sized.{is_late, rising}
use Rattle.rules.specs.Breaks.{Break, break_at, when, each}
use Rattle.rules.specs.Rules.{has_cell}
use Rattle.scan.proofs.Laws.Rowing.{test_eq}
use Rattle.text_bytes.proofs.Laws.Each.{any_append}

-- A RANGE

pub any_up : (p : ℕ → Bool) (n k i : ℕ) → k ≤ i → i < k + n → p i ≡ true → any p (up_from n k) ≡ true
unfolding any up_from
any_up p zero k i a b h = absurd (omega arith)
any_up p (suc n) k i a b h = go (p k) refl (λ q. any_up p n (suc k) i q (omega arith) h)
  where
    go : (t : Bool) → p k ≡ t → (k < i → any p (up_from n (suc k)) ≡ true) → (t || any p (up_from n (suc k))) ≡ true
    go true e ih = refl
    go false e ih = ⊎_elim (λ (q : k ≡ i). absurd_bool (sym e ∙ subst (λ (j : ℕ). p j ≡ true) (sym q) h)) (λ (q : k < i). ih q) (eq-or-lt_of_le a)

pub up_any : (p : ℕ → Bool) (n k : ℕ) → any p (up_from n k) ≡ true → (i : ℕ) × ((k ≤ i) × ((i < k + n) × (p i ≡ true)))
unfolding any up_from
up_any p zero k h = absurd_bool h
up_any p (suc n) k h = go (p k) refl h (λ m. up_any p n (suc k) m)
  where
    go : (t : Bool) → p k ≡ t → (t || any p (up_from n (suc k))) ≡ true
        → (any p (up_from n (suc k)) ≡ true → (i : ℕ) × ((suc k ≤ i) × ((i < suc k + n) × (p i ≡ true)))) → (i : ℕ) × ((k ≤ i) × ((i < k + suc n) × (p i ≡ true)))
    go true e m ih = (k, (omega arith, (omega arith, e)))
    go false e m ih = let r = ih m in (r.0, (omega (arith, r.1.0), (omega (arith, r.1.1.0), r.1.1.1)))

any_map : {A B : Type 0} (p : B → Bool) (g : A → B) (xs : List A) → any p (map g xs) ≡ any (λ (x : A). p (g x)) xs
unfolding any
any_map p g [] = refl
any_map p g (x ∷ xs) = rw (any_map p g xs)

-- RISING CELLS

last_above : (k : ℕ) (ws : List Want) → rising k ws ≡ true → k ≤ last_cell k ws
unfolding rising last_cell
last_above k [] h = omega arith
last_above k (w ∷ ws) h =
    let q = and_both (ltb k (cell_of w)) (rising (cell_of w) ws) h in
    omega (arith, ltb-true k (cell_of w) q.0, last_above (cell_of w) ws q.1)

module _ (f : Want → Bool) where
  -- one of this cell
  abbrev at : List Want → ℕ → Bool
  at ws c = any (λ w. eqb (cell_of w) c && f w) ws

  -- none is of a cell before the first
  before_none : (ws : List Want) (k c : ℕ) → rising k ws ≡ true → c ≤ k → at ws c ≡ false
  unfolding rising any
  before_none [] k c h l = refl
  before_none (w ∷ ws) k c h l =
      let q = and_both (ltb k (cell_of w)) (rising (cell_of w) ws) h in
      let lt = ltb-true k (cell_of w) q.0 in
      rw (ne_eqb (cell_of w) c (λ e. omega arith), before_none ws (cell_of w) c q.1 (omega arith))

-- A BREAK is of the rule that the demand names
module _ (f : Want → Bool) (n : ℕ) where
  -- one by one
  unfoldable pub listed : List Want → List Break
  listed [] = []
  listed (w ∷ ws) = when (f w) (break_at n (cell_of w) w.demand.rule) (listed ws)

  abbrev of : ℕ → Want → Bool
  of r w = eqb w.demand.rule r && f w

  abbrev by_cell : List Want → ℕ → List Break
  by_cell ws c = when (at (of 21) ws c) (break_at n c 21) (when (at (of 22) ws c) (break_at n c 22) [])

  each_same : (left c : ℕ) (F G : ℕ → List Break) → ((i : ℕ) → c ≤ i → F i ≡ G i) → each left c F ≡ each left c G
  unfolding each
  each_same zero c F G h = refl
  each_same (suc left) c F G h = rw (h c (omega arith), each_same left (suc c) F G (λ i l. h i (omega arith)))

  -- the two rules at a cell, of a thing wanted there
  both_rules : (r c : ℕ) (t : Bool) (bs : List Break) → (eqb r 21 || eqb r 22) ≡ true
      → when (eqb r 21 && t) (break_at n c 21) (when (eqb r 22 && t) (break_at n c 22) []) ++ bs ≡ when t (break_at n c r) bs
  both_rules r c t bs h = go (eqb r 21) refl h
    where
      one : (k : ℕ) (t : Bool) → when t (break_at n c k) [] ++ bs ≡ when t (break_at n c k) bs
      one k true = refl
      one k false = refl

      go : (u : Bool) → eqb r 21 ≡ u → (u || eqb r 22) ≡ true → when (eqb r 21 && t) (break_at n c 21) (when (eqb r 22 && t) (break_at n c 22) []) ++ bs ≡ when t (break_at n c r) bs
      go true e q = rw (eqb-true r 21 e) (one 21 t)
      go false e q = rw (eqb-true r 22 q) (one 22 t)

  -- cell k + 1 is the first one's, or none's
  module _ (left k : ℕ) (w : Want) (ws : List Want) (low : k < cell_of w) (up : rising (cell_of w) ws ≡ true) (most : last_cell (cell_of w) ws ≤ k + suc left) where
    here : is_late w.demand ≡ true → cell_of w ≡ suc k → (rising (suc k) ws ≡ true → last_cell (suc k) ws ≤ suc k + left → each left (suc (suc k)) (by_cell ws) ≡ listed ws)
        → by_cell (w ∷ ws) (suc k) ++ each left (suc (suc k)) (by_cell (w ∷ ws)) ≡ listed (w ∷ ws)
    unfolding listed any
    here late s ih =
        let m : last_cell (suc k) ws ≤ suc k + left = rw (← s) (omega (arith, most, s)) in
        let rest : each left (suc (suc k)) (by_cell (w ∷ ws)) ≡ listed ws =
        each_same left (suc (suc k)) (by_cell (w ∷ ws)) (by_cell ws) (λ i l. rw (ne_eqb (cell_of w) i (λ z. omega arith))) ∙ ih (rw s at up) m in
        rw (eq-eqb (cell_of w) (suc k) s, before_none (of 21) ws (cell_of w) (suc k) up (omega arith), before_none (of 22) ws (cell_of w) (suc k) up (omega arith), or-false (of 21 w), or-false (of 22 w), rest)
        (both_rules w.demand.rule (suc k) (f w) (listed ws) late ∙ ap (λ (c : ℕ). when (f w) (break_at n c w.demand.rule) (listed ws)) (sym s))

    later : (cell_of w ≡ suc k → ⊥) → (rising (suc k) (w ∷ ws) ≡ true → last_cell (cell_of w) ws ≤ suc k + left → each left (suc (suc k)) (by_cell (w ∷ ws)) ≡ listed (w ∷ ws))
        → by_cell (w ∷ ws) (suc k) ++ each left (suc (suc k)) (by_cell (w ∷ ws)) ≡ listed (w ∷ ws)
    unfolding rising
    later s ih =
        let v : rising (suc k) (w ∷ ws) ≡ true = rw (lt-ltb (suc k) (cell_of w) (omega arith)) up in
        rw (before_none (of 21) (w ∷ ws) (suc k) (suc k) v (omega arith), before_none (of 22) (w ∷ ws) (suc k) (suc k) v (omega arith)) (ih v (omega (arith, most)))

  -- what is left decides, from cell k + 1 on
  pub cells_listed : (left k : ℕ) (ws : List Want) → all (λ w. is_late w.demand) ws ≡ true → rising k ws ≡ true → last_cell k ws ≤ k + left → each left (suc k) (by_cell ws) ≡ listed ws
  unfolding each rising last_cell listed any all
  cells_listed zero k [] t h l = refl
  cells_listed zero k (w ∷ ws) t h l =
      let q = and_both (ltb k (cell_of w)) (rising (cell_of w) ws) h in
      absurd (omega (arith, ltb-true k (cell_of w) q.0, last_above (cell_of w) ws q.1))
  cells_listed (suc left) k [] t h l = cells_listed left (suc k) [] refl refl (omega arith)
  cells_listed (suc left) k (w ∷ ws) t h l =
      let q = and_both (ltb k (cell_of w)) (rising (cell_of w) ws) h in
      let r = and_both (is_late w.demand) (all (λ w. is_late w.demand) ws) t in
      let low = ltb-true k (cell_of w) q.0 in
      go (eqb (cell_of w) (suc k)) refl
      (λ s. here left k w ws low q.1 l r.0 s (cells_listed left (suc k) ws r.1))
      (λ s. later left k w ws low q.1 l s (cells_listed left (suc k) (w ∷ ws) t))
    where
      go : (t : Bool) → eqb (cell_of w) (suc k) ≡ t → (cell_of w ≡ suc k → by_cell (w ∷ ws) (suc k) ++ each left (suc (suc k)) (by_cell (w ∷ ws)) ≡ listed (w ∷ ws))
          → ((cell_of w ≡ suc k → ⊥) → by_cell (w ∷ ws) (suc k) ++ each left (suc (suc k)) (by_cell (w ∷ ws)) ≡ listed (w ∷ ws))
          → by_cell (w ∷ ws) (suc k) ++ each left (suc (suc k)) (by_cell (w ∷ ws)) ≡ listed (w ∷ ws)
      go true e a b = a (eqb-true (cell_of w) (suc k) e)
      go false e a b = b (eqb-false (cell_of w) (suc k) e)

  -- THE CELLS OF A DEMAND are those of the things that it wants
  module _ (k c : ℕ) where
    abbrev here_of : Demand → Bool
    here_of d = eqb d.rule k && (has_cell d c && f (want d (c - d.cell)))

    once_cell : (d : Demand) → d.each ≡ ONCE → at (of k) (wants_of d) c ≡ here_of d
    unfolding wants_of any
    once_cell d e =
        let z : d.cell + 0 ≡ d.cell = omega arith in
        rw (eq-eqb d.each ONCE e, z, or-false (eqb d.cell c && (eqb d.rule k && f (want d 0)))) (go (eqb d.cell c) refl)
      where
        go : (t : Bool) → eqb d.cell c ≡ t → (t && (eqb d.rule k && f (want d 0))) ≡ (eqb d.rule k && (eqb c d.cell && f (want d (c - d.cell))))
        go true q =
            let s = eqb-true d.cell c q in
            let m : c - d.cell ≡ 0 = omega arith in
            rw (eq-eqb c d.cell (sym s), m)
        go false q = rw (ne_eqb c d.cell (λ s. eqb-false d.cell c q (sym s)), and-false (eqb d.rule k))

    each_cell_lem : (d : Demand) → (d.each ≡ ONCE → ⊥) → at (of k) (wants_of d) c ≡ here_of d
    unfolding wants_of
    each_cell_lem d e =
        rw (ne_eqb d.each ONCE e)
        (any_map (λ w. eqb (cell_of w) c && of k w) (want d) (up_from MOST 1)
        ∙ test_eq (any (λ i. eqb (d.cell + i) c && (eqb d.rule k && f (want d i))) (up_from MOST 1)) (eqb d.rule k && ((ltb d.cell c && leb c (d.cell + MOST)) && f (want d (c - d.cell)))) there back)
      where
        there : any (λ i. eqb (d.cell + i) c && (eqb d.rule k && f (want d i))) (up_from MOST 1) ≡ true → (eqb d.rule k && ((ltb d.cell c && leb c (d.cell + MOST)) && f (want d (c - d.cell)))) ≡ true
        there h =
            let r = up_any (λ i. eqb (d.cell + i) c && (eqb d.rule k && f (want d i))) MOST 1 h in
            let i = r.0 in
            let p = and_both (eqb (d.cell + i) c) (eqb d.rule k && f (want d i)) r.1.1.1 in
            let q = and_both (eqb d.rule k) (f (want d i)) p.1 in
            let s = eqb-true (d.cell + i) c p.0 in
            let m : c - d.cell ≡ i = omega arith in
            rw (q.0, lt-ltb d.cell c (omega (arith, r.1.0)), le-leb c (d.cell + MOST) (omega (arith, r.1.1.0)), m, q.1)

        back : (eqb d.rule k && ((ltb d.cell c && leb c (d.cell + MOST)) && f (want d (c - d.cell)))) ≡ true → any (λ i. eqb (d.cell + i) c && (eqb d.rule k && f (want d i))) (up_from MOST 1) ≡ true
        back h =
            let p = and_both (eqb d.rule k) ((ltb d.cell c && leb c (d.cell + MOST)) && f (want d (c - d.cell))) h in
            let q = and_both (ltb d.cell c && leb c (d.cell + MOST)) (f (want d (c - d.cell))) p.1 in
            let r = and_both (ltb d.cell c) (leb c (d.cell + MOST)) q.0 in
            let lo = ltb-true d.cell c r.0 in
            let hi = leb-true c (d.cell + MOST) r.1 in
            any_up (λ i. eqb (d.cell + i) c && (eqb d.rule k && f (want d i))) MOST 1 (c - d.cell) (omega arith) (omega arith)
            (rw (eq-eqb (d.cell + (c - d.cell)) c (omega arith), p.0, q.1))

    demand_cell : (d : Demand) → at (of k) (wants_of d) c ≡ here_of d
    demand_cell d = go (eqb d.each ONCE) refl
      where
        go : (t : Bool) → eqb d.each ONCE ≡ t → at (of k) (wants_of d) c ≡ here_of d
        go true q = once_cell d (eqb-true d.each ONCE q)
        go false q = each_cell_lem d (eqb-false d.each ONCE q)

    demands_cell : (ds : List Demand) → any here_of ds ≡ at (of k) (wants_in ds) c
    unfolding wants_in any
    demands_cell [] = refl
    demands_cell (d ∷ ds) = rw (any_append (λ w. eqb (cell_of w) c && of k w) (wants_of d) (wants_in ds), demand_cell d, demands_cell ds)

  pub cells_demanded : (ds : List Demand) (left c : ℕ) → each left c (λ i. when (any (here_of 21 i) ds) (break_at n i 21) (when (any (here_of 22 i) ds) (break_at n i 22) [])) ≡ each left c (by_cell (wants_in ds))
  cells_demanded ds left c = each_same left c _ (by_cell (wants_in ds)) (λ i l. rw (demands_cell 21 i ds, demands_cell 22 i ds))
