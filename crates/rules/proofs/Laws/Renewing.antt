-- A list of breaks line by line: what is kept of it, the part of one line, and that part worked out afresh. Assumes nothing.
use mathlib.Core.Path.{◌≡◌, refl, sym, ap, ◌∙◌}
use mathlib.Core.Bool.{Bool, true, false, cond, not, ◌&&◌}
use mathlib.Core.List.{List, [], ◌∷◌, ◌++◌, append_assoc, append-nil}
use mathlib.Core.Logic.{⊎_elim, inl, inr}
use Prim.Native.Nat.{ℕ, zero, suc, ◌+◌, ◌≤◌, ◌<◌}
use native.Mathlib.Nat.{eq-or-lt_of_le}
use native.Mathlib.Omega.{arith}
use lib.Dec.{ltb, eqb}
use lib.ListN.{length}
use borrow.Author.Tests.{lt-ltb, le-ltb, eq-eqb, ne_eqb}
use Rattle.text_bytes.specs.Bytes.{Bytes}
use Rattle.text_bytes.proofs.Laws.Tests.{absurd_bool}
use Rattle.rules.specs.Breaks.{Break, when, spot_at, Rule, each, at_line, in_lines, at_end, In, Sorted}
use Rattle.rules.specs.Edited.{kept, on_line}
use Rattle.rules.proofs.Laws.Listing.{line_in, listed_lacks}

-- all breaks of a list stand on line n
abbrev pub Lined : ℕ → List Break → Type 0
Lined n bs = (b : Break) → In b bs → b.line ≡ n

-- WHAT IS KEPT

module _ (t : Break → Bool) where
  pub kept_append : (xs ys : List Break) → kept t (xs ++ ys) ≡ kept t xs ++ kept t ys
  unfolding kept
  kept_append [] ys = refl
  kept_append (x ∷ xs) ys = rw (kept_append xs ys) (go (t x))
    where
      go : (u : Bool) → cond u (x ∷ (kept t xs ++ kept t ys)) (kept t xs ++ kept t ys) ≡ cond u (x ∷ kept t xs) (kept t xs) ++ kept t ys
      go true = refl
      go false = refl

  -- what is kept stood in the list, and passes the test
  pub kept_in : (bs : List Break) (g : Break) → In g (kept t bs) → (t g ≡ true) × In g bs
  unfolding kept
  kept_in [] g h = absurd h
  kept_in (b ∷ bs) g h = go (t b) refl (λ m. let r = kept_in bs g m in (r.0, inr r.1)) h
    where
      Kept : Type 0
      Kept = (t g ≡ true) × In g (b ∷ bs)

      go : (u : Bool) → t b ≡ u → (In g (kept t bs) → Kept) → In g (cond u (b ∷ kept t bs) (kept t bs)) → Kept
      go true e ih h = ⊎_elim (λ (q : g ≡ b). (ap t q ∙ e, inl q)) ih h
      go false e ih h = ih h

  pub in_kept : (bs : List Break) (g : Break) → t g ≡ true → In g bs → In g (kept t bs)
  unfolding kept
  in_kept [] g e h = absurd h
  in_kept (b ∷ bs) g e h = go (t b) refl (in_kept bs g e)
    where
      go : (u : Bool) → t b ≡ u → (In g bs → In g (kept t bs)) → In g (cond u (b ∷ kept t bs) (kept t bs))
      go true q ih = ⊎_elim (λ (p : g ≡ b). inl p) (λ (m : In g bs). inr (ih m)) h
      go false q ih = ⊎_elim (λ (p : g ≡ b). absurd_bool (sym q ∙ sym (ap t p) ∙ e)) ih h

  -- in the order that it had
  pub kept_sorted : (bs : List Break) → Sorted bs → Sorted (kept t bs)
  unfolding kept
  kept_sorted [] s = s
  kept_sorted (b ∷ bs) s = go (t b) (kept_sorted bs s.1)
    where
      go : (u : Bool) → Sorted (kept t bs) → Sorted (cond u (b ∷ kept t bs) (kept t bs))
      go true ih = ((λ g h. s.0 g (kept_in bs g h).1), ih)
      go false ih = ih

  pub kept_each : (f : ℕ → List Break) (left m : ℕ) → kept t (each left m f) ≡ each left m (λ i. kept t (f i))
  unfolding each kept
  kept_each f zero m = refl
  kept_each f (suc left) m = rw (kept_append (f m) (each left (suc m) f), kept_each f left (suc m))

  pub kept_when : (u : Bool) (b : Break) (bs : List Break) → kept t (when u b bs) ≡ when (u && t b) b (kept t bs)
  unfolding kept
  kept_when false b bs = refl
  kept_when true b bs = go (t b)
    where
      go : (v : Bool) → cond v (b ∷ kept t bs) (kept t bs) ≡ when v b (kept t bs)
      go true = refl
      go false = refl

  -- a test that all pass, or none
  pub kept_every : (bs : List Break) → ((b : Break) → In b bs → t b ≡ true) → kept t bs ≡ bs
  unfolding kept
  kept_every [] h = refl
  kept_every (b ∷ bs) h = rw (h b (inl refl), kept_every bs (λ g m. h g (inr m)))

  pub kept_none : (bs : List Break) → ((b : Break) → In b bs → t b ≡ false) → kept t bs ≡ []
  unfolding kept
  kept_none [] h = refl
  kept_none (b ∷ bs) h = rw (h b (inl refl), kept_none bs (λ g m. h g (inr m)))

  -- where none is kept, all are left
  pub kept_rest : (bs : List Break) → kept t bs ≡ [] → kept (λ g. not (t g)) bs ≡ bs
  unfolding kept
  kept_rest [] h = refl
  kept_rest (b ∷ bs) h = go (t b) h (kept_rest bs)
    where
      go : (u : Bool) → cond u (b ∷ kept t bs) (kept t bs) ≡ [] → (kept t bs ≡ [] → kept (λ g. not (t g)) bs ≡ bs)
          → cond (not u) (b ∷ kept (λ g. not (t g)) bs) (kept (λ g. not (t g)) bs) ≡ b ∷ bs
      go true e ih = absurd (omega (arith, ap length e))
      go false e ih = rw (ih e)

  -- what is left has none that passes
  pub kept_left : (bs : List Break) → kept t (kept (λ g. not (t g)) bs) ≡ []
  unfolding kept
  kept_left [] = refl
  kept_left (b ∷ bs) = go (t b) refl (kept_left bs)
    where
      go : (u : Bool) → t b ≡ u → kept t (kept (λ g. not (t g)) bs) ≡ [] → kept t (cond (not u) (b ∷ kept (λ g. not (t g)) bs) (kept (λ g. not (t g)) bs)) ≡ []
      go true e ih = ih
      go false e ih = rw e ih

-- tests that agree
pub kept_alike : (t u : Break → Bool) → ((g : Break) → t g ≡ u g) → (bs : List Break) → kept t bs ≡ kept u bs
unfolding kept
kept_alike t u h [] = refl
kept_alike t u h (b ∷ bs) = rw (h b, kept_alike t u h bs)

-- of one line all or none, by a test of the line
pub kept_line : (t : ℕ → Bool) (n : ℕ) (bs : List Break) → Lined n bs → kept (λ g. t g.line) bs ≡ cond (t n) bs []
kept_line t n bs h = go (t n) refl
  where
    go : (u : Bool) → t n ≡ u → kept (λ g. t g.line) bs ≡ cond u bs []
    go true e = kept_every (λ g. t g.line) bs (λ g m. ap t (h g m) ∙ e)
    go false e = kept_none (λ g. t g.line) bs (λ g m. ap t (h g m) ∙ e)

-- f and g agree on m, m + 1, .., `left` of them
pub each_same : (left m : ℕ) (f g : ℕ → List Break) → ((i : ℕ) → m ≤ i → i < m + left → f i ≡ g i) → each left m f ≡ each left m g
unfolding each
each_same zero m f g h = refl
each_same (suc left) m f g h = rw (h m (omega arith) (omega arith), each_same left (suc m) f g (λ i p q. h i (omega arith) (omega arith)))

pub each_none : (left m : ℕ) (f : ℕ → List Break) → ((i : ℕ) → m ≤ i → f i ≡ []) → each left m f ≡ []
unfolding each
each_none zero m f h = refl
each_none (suc left) m f h = rw (h m (omega arith), each_none left (suc m) f (λ i p. h i (omega arith)))

-- of f at each of them, with a test that only n passes, f at n is left
pub each_one : (n : ℕ) (f : ℕ → List Break) (left m : ℕ) → m ≤ n → n < m + left → each left m (λ i. cond (eqb i n) (f i) []) ≡ f n
unfolding each
each_one n f zero m a b = absurd (omega arith)
each_one n f (suc left) m a b = ⊎_elim
    (λ (e : m ≡ n).
    let l : each left (suc m) (λ i. cond (eqb i n) (f i) []) ≡ [] = each_none left (suc m) (λ i. cond (eqb i n) (f i) []) (λ i p. rw (ne_eqb i n (λ z. omega arith))) in
    rw (l, eq-eqb m n e, append-nil (f m), e))
    (λ (lt : m < n). rw (ne_eqb m n (λ z. omega arith), each_one n f left (suc m) lt (omega arith)))
    (eq-or-lt_of_le a)

-- ALL BREAKS OF A FILE, by any rules

module _ (rs es : List Rule) (w : ℕ) (file : List Bytes) where
  abbrev pub listed : List Break
  listed = in_lines rs file ++ at_end es w file

  -- what is kept of them, line by line
  pub kept_all : (t : ℕ → Bool) → kept (λ g. t g.line) listed ≡ each (length file) 1 (λ i. cond (t i) (at_line rs (spot_at file i) i) []) ++ cond (t (length file + 1)) (at_end es w file) []
  unfolding in_lines
  kept_all t =
      let u : Break → Bool = λ g. t g.line in
      let f : ℕ → List Break = λ i. at_line rs (spot_at file i) i in
      kept_append u (in_lines rs file) (at_end es w file)
      ∙ rw (
        kept_each u f (length file) 1,
        each_same (length file) 1 (λ i. kept u (f i)) (λ i. cond (t i) (f i) []) (λ i p q. kept_line t i (f i) (λ x m. (line_in rs (spot_at file i) i x m).1.0)),
        kept_line t (length file + 1) (at_end es w file) (λ x m. (listed_lacks es w file x.line x.cell x.rule x.first m).line),
      )

  -- those of line n, one of the file's, are what the rules break there
  pub line_part : (n : ℕ) → 1 ≤ n → n ≤ length file → on_line n listed ≡ at_line rs (spot_at file n) n
  line_part n low high =
      kept_all (λ i. eqb i n)
      ∙ rw (each_one n (λ i. at_line rs (spot_at file i) i) (length file) 1 low (omega arith), ne_eqb (length file + 1) n (λ e. omega arith), append-nil (at_line rs (spot_at file n) n))

-- ONE LINE ANEW

module _ (n : ℕ) (f f' : ℕ → List Break) where
  abbrev pub low : ℕ → List Break
  low i = cond (ltb i n) (f i) []

  abbrev pub high : ℕ → List Break
  high i = cond (ltb n i) (f i) []

  pub each_renewed : (left m : ℕ) → m ≤ n → n < m + left → ((i : ℕ) → m ≤ i → i < m + left → (i ≡ n → ⊥) → f' i ≡ f i)
      → each left m f' ≡ each left m low ++ (f' n ++ each left m high)
  unfolding each
  each_renewed zero m a b h = absurd (omega arith)
  each_renewed (suc left) m a b h = ⊎_elim
      (λ (e : m ≡ n).
      let l : each left (suc m) low ≡ [] = each_none left (suc m) low (λ i p. rw (le-ltb i n (omega arith))) in
      let r : each left (suc m) f' ≡ each left (suc m) high = each_same left (suc m) f' high (λ i p q. h i (omega arith) (omega arith) (λ z. omega arith) ∙ rw (lt-ltb n i (omega arith))) in
      rw (l, r, e, le-ltb n n (omega arith)))
      (λ (lt : m < n).
      let ih = each_renewed left (suc m) lt (omega arith) (λ i p q. h i (omega arith) (omega arith)) in
      rw (lt-ltb m n lt, le-ltb n m (omega arith), h m (omega arith) (omega arith) (λ z. omega arith), ih) (sym (append_assoc (f m) (each left (suc m) low) (f' n ++ each left (suc m) high))))
      (eq-or-lt_of_le a)
