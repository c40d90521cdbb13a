-- The look-up by links: the entries that a link leads past begin with another byte than the name. And how a row is linked. Assumes nothing.
use Prim.Native.Nat.{ℕ, zero, suc, ◌+◌, ◌*◌, ◌/◌, ◌≤◌, ◌<◌}
use mathlib.Core.Path.{◌≡◌, refl, ap, sym, ◌∙◌, subst, subst⁻¹}
use mathlib.Core.Bool.{Bool, true, false, cond}
use mathlib.Core.List.{List, [], ◌∷◌, map}
use native.Mathlib.Omega.{arith}
use lib.Dec.{eqb}
use lib.ListN.{length, get_or, take, drop, set, length-drop, length-take, length-set, drop_of_length-le}
use lib.Seq.{drop-drop, get_or-take, get_or-drop, get_or-set_same, get_or-set_other, drop-set-add}
use borrow.Author.Tests.{eqb-true, eqb-false}
use Rattle.std.specs.Prelude.{Err}
use Rattle.value_references.specs.declared.index.Flaw.{Flaw}
use Rattle.value_references.specs.declared.index.Flaw.TheVariants.{Form}
use Rattle.value_references.specs.Index.{sooner}
use Rattle.book_names.specs.Names.{Entry, pieces, form_of, entry_of, fits, misses, first_of, lookup_in, known_as}
use Rattle.book_names.specs.Steps.{flaw_of}
use Rattle.book_names.specs.Table.{cut, rows, entries}
use Rattle.book_names.specs.Links.{head_of, next_head, Linked}
use Rattle.book_names.specs.declared.Match.{Match}
use Rattle.book_names.specs.declared.Match.TheVariants.{Fits}
use Rattle.value_references.proofs.Laws.Firsts.{sooner_none}
use Rattle.book_names.proofs.Laws.Flaws.{misses_none, misses_again, on_miss}
use Rattle.book_names.proofs.Laws.Turns.{head_at, head_other}

-- THE ROWS of a table: row e stands at 54 e, and is entry e
entry_cut : (n e : ℕ) (t : List ℕ) → e < n → drop e (map entry_of (cut n t)) ≡ entry_of (take 54 (drop (e * 54) t)) ∷ drop (e + 1) (map entry_of (cut n t))
unfolding cut
entry_cut zero e t h = absurd (omega arith)
entry_cut (suc n) zero t h = refl
entry_cut (suc n) (suc e) t h =
    let k : 54 + e * 54 ≡ suc e * 54 = omega arith in
    let m : suc e + 1 ≡ suc (e + 1) = omega arith in
    rw (m, ← k, ← drop-drop (e * 54) 54 t) (entry_cut n e (drop 54 t) (omega arith))

module _ (t : List ℕ) where
  pub entry_count : length (entries t) ≡ length t / 54
  unfolding rows cut
  entry_count = go (length t / 54) t
    where
      go : (n : ℕ) (t : List ℕ) → length (map entry_of (cut n t)) ≡ n
      go zero t = refl
      go (suc n) t = ap suc (go n (drop 54 t))

  module _ (e : ℕ) (h : e < length t / 54) where
    pub entry_at : drop e (entries t) ≡ entry_of (take 54 (drop (e * 54) t)) ∷ drop (e + 1) (entries t)
    unfolding rows
    entry_at = entry_cut (length t / 54) e t h

    row_byte : (k : ℕ) → k < 54 → get_or (take 54 (drop (e * 54) t)) k 0 ≡ get_or t (e * 54 + k) 0
    row_byte k lt = get_or-take 54 (drop (e * 54) t) k 0 lt ∙ get_or-drop (e * 54) t k 0

    row_length : length (take 54 (drop (e * 54) t)) ≡ 54
    row_length = omega (arith, length-take 54 (drop (e * 54) t), length-drop (e * 54) t)

    pub row_head : head_of (form_of (entry_of (take 54 (drop (e * 54) t)))) ≡ get_or t (e * 54 + 3) 0
    unfolding entry_of
    row_head = head_at (take 54 (drop (e * 54) t)) 3 (omega (arith, row_length)) ∙ row_byte 3 (omega arith)

-- A LINK leads from entry r to entry q, past entries that the name does not fit
record Leads (name : List ℕ) (es : List Entry) (r q : ℕ) : Type 0 where
  past : ℕ
  sum : q ≡ r + past
  same : first_of r es name ≡ first_of q (drop past es) name
  head : (x : Entry) (xs : List Entry) → drop past es ≡ x ∷ xs → head_of (form_of x) ≡ get_or name 0 32

leads : (name : List ℕ) (es : List Entry) (r : ℕ) → Leads name es r (next_head (get_or name 0 32) es r)
unfolding next_head first_of
leads name [] r = record { past = 0; sum = omega arith; same = refl; head = λ x xs d. absurd (let z : ◌≡◌ {A = ℕ} 0 1 = cc in omega arith) }
leads name (y ∷ es) r = go (eqb (head_of (form_of y)) (get_or name 0 32)) refl (leads name es (r + 1))
  where
    go : (t : Bool) → eqb (head_of (form_of y)) (get_or name 0 32) ≡ t → Leads name es (r + 1) (next_head (get_or name 0 32) es (r + 1))
        → Leads name (y ∷ es) r (cond t r (next_head (get_or name 0 32) es (r + 1)))
    go true e l =
        let h = eqb-true (head_of (form_of y)) (get_or name 0 32) e in
        record { past = 0; sum = omega arith; same = refl; head = λ x xs d. let q : y ≡ x = cc in subst (λ (z : Entry). head_of (form_of z) ≡ get_or name 0 32) q h }
    go false e l =
        record {
          past = suc l.past;
          sum = omega (arith, l.sum);
          same = rw (head_other (form_of y) name (eqb-false (head_of (form_of y)) (get_or name 0 32) e)) l.same;
          head = l.head;
        }

-- THE LOOK-UP has reached entry e: those before it do not fit, z is the first flaw for which the name misses one of them, and it begins as the name does
pub record Reached (t name : List ℕ) (z : Flaw) (e : ℕ) : Type 0 where
  pub same : lookup_in (entries t) name ≡ misses z (first_of e (drop e (entries t)) name)
  pub head : (x : Entry) (xs : List Entry) → drop e (entries t) ≡ x ∷ xs → head_of (form_of x) ≡ get_or name 0 32

module _ (t name : List ℕ) where
  reached : (z : Flaw) (r q : ℕ) → lookup_in (entries t) name ≡ misses z (first_of r (drop r (entries t)) name) → Leads name (drop r (entries t)) r q → Reached t name z q
  reached z r q f l =
      let s : drop l.past (drop r (entries t)) ≡ drop q (entries t) = drop-drop l.past r (entries t) ∙ ap (λ (k : ℕ). drop k (entries t)) (sym l.sum) in
      record { same = f ∙ ap (misses z) (l.same ∙ ap (λ (es : List Entry). first_of q es name) s); head = λ x xs d. l.head x xs (s ∙ d) }

  module _ (links : List ℕ) (k : Linked 0 (entries t) links) where
    pub reached_first : (x : ℕ) → x < 256 → x ≡ get_or name 0 32 → Reached t name Form (get_or links x 0)
    reached_first x h e =
        let q : get_or links x 0 ≡ next_head (get_or name 0 32) (entries t) 0 = k.heads x h ∙ ap (λ (b : ℕ). next_head b (entries t) 0) e in
        subst⁻¹ (Reached t name Form) q (reached Form 0 _ (sym (misses_none (lookup_in (entries t) name))) (leads name (entries t) 0))

    module _ (z : Flaw) (e : ℕ) (a : Reached t name z e) (h : e < length t / 54) where
      next_link : get_or links (256 + e) 0 ≡ next_head (get_or name 0 32) (drop (e + 1) (entries t)) (e + 1)
      next_link =
          let d = entry_at t e h in
          k.nexts e _ _ (omega arith) d ∙ ap (λ (b : ℕ). next_head b (drop (e + 1) (entries t)) (e + 1)) (a.head _ _ d)

      pub further : e < get_or links (256 + e) 0
      further = omega (arith, next_link, (leads name (drop (e + 1) (entries t)) (e + 1)).sum)

      module _ (m : Match) (row : fits (pieces (drop 3 (take 54 (drop (e * 54) t)))) name 0 0 ≡ m) (n : (i j : ℕ) → m ≡ Fits i j → ⊥) where
        missed : lookup_in (entries t) name ≡ misses (sooner z (flaw_of m)) (first_of (e + 1) (drop (e + 1) (entries t)) name)
        unfolding first_of entry_of
        missed = a.same ∙ rw (entry_at t e h, row) (ap (misses z) (on_miss m _ _ n) ∙ misses_again z (flaw_of m) (first_of (e + 1) (drop (e + 1) (entries t)) name))

        pub reached_next : (g : Flaw) (q : ℕ) → g ≡ sooner z (flaw_of m) → q ≡ get_or links (256 + e) 0 → Reached t name g q
        reached_next g q eg eq = rw (eg, eq ∙ next_link) (reached (sooner z (flaw_of m)) (e + 1) _ missed (leads name (drop (e + 1) (entries t)) (e + 1)))

  module _ (z : Flaw) (e : ℕ) (a : Reached t name z e) where
    pub reached_none : length t / 54 ≤ e → lookup_in (entries t) name ≡ Err z
    unfolding first_of
    reached_none h = a.same ∙ rw (drop_of_length-le (entries t) {i = e} (omega (arith, entry_count t)), sooner_none z)

    pub reached_hit : (i j : ℕ) → e < length t / 54 → fits (pieces (drop 3 (take 54 (drop (e * 54) t)))) name 0 0 ≡ Fits i j
        → lookup_in (entries t) name ≡ known_as e (get_or t (e * 54) 0) (get_or t (e * 54 + 1) 0) i j
    unfolding first_of entry_of
    reached_hit i j h m =
        let o : e * 54 + 0 ≡ e * 54 = omega arith in
        a.same ∙ rw (entry_at t e h, m, row_byte t e h 0 (omega arith), row_byte t e h 1 (omega arith), o)

-- LINKING: bytes whose heads are the number past the last entry link none
pub linked_none : (es : List Entry) (links : List ℕ) (n : ℕ) → n ≡ length es → 256 + n ≤ length links → ((b : ℕ) → b < 256 → get_or links b 0 ≡ n) → Linked n es links
unfolding next_head
linked_none es links n e s f =
    record {
      size = omega arith;
      heads = λ b h. f b h ∙ none b;
      nexts = λ q x xs h d. absurd (let z : [] ≡ x ∷ xs = sym (drop_of_length-le es {i = q} (omega arith)) ∙ d in let o : ◌≡◌ {A = ℕ} 0 1 = cc in omega arith);
    }
  where
    none : (b : ℕ) → n ≡ next_head b (drop n es) n
    none b = rw (drop_of_length-le es {i = n} (omega arith))

-- one entry more: it leads to the one that its byte led to, and its byte to it
module _ (es : List Entry) (links : List ℕ) (r h : ℕ) (x : Entry) (k : Linked (r + 1) es links) (inside : r < length es) (d : drop r es ≡ x ∷ drop (r + 1) es) (begins : head_of (form_of x) ≡ h) (lh : h < 256) where
  behind : List ℕ
  behind = set links (256 + r) (get_or links h 0)

  more_head : (b : ℕ) → b < 256 → get_or (set behind h r) b 0 ≡ next_head b (drop r es) r
  unfolding behind next_head
  more_head b lb = rw d (go (eqb (head_of (form_of x)) b) refl)
    where
      go : (t : Bool) → eqb (head_of (form_of x)) b ≡ t → get_or (set behind h r) b 0 ≡ cond t r (next_head b (drop (r + 1) es) (r + 1))
      go true e =
          let q : h ≡ b = sym begins ∙ eqb-true (head_of (form_of x)) b e in
          ap (λ (i : ℕ). get_or (set behind h r) i 0) (sym q) ∙ get_or-set_same behind h r 0 (omega (arith, k.size, length-set links (256 + r) (get_or links h 0)))
      go false e =
          get_or-set_other behind h b r 0 (λ (q : b ≡ h). eqb-false (head_of (form_of x)) b e (begins ∙ sym q))
          ∙ get_or-set_other links (256 + r) b (get_or links h 0) 0 (λ (q : b ≡ 256 + r). omega arith) ∙ k.heads b lb

  more_here : (y : Entry) (ys : List Entry) → drop r es ≡ y ∷ ys → get_or behind (256 + r) 0 ≡ next_head (head_of (form_of y)) ys (r + 1)
  unfolding behind
  more_here y ys dy =
      let both : x ∷ drop (r + 1) es ≡ y ∷ ys = sym d ∙ dy in
      let head : x ≡ y = cc in
      let tail : drop (r + 1) es ≡ ys = cc in
      get_or-set_same links (256 + r) (get_or links h 0) 0 (omega (arith, k.size)) ∙ k.heads h lh
      ∙ ap (λ (b : ℕ). next_head b (drop (r + 1) es) (r + 1)) (sym begins ∙ ap (λ (z : Entry). head_of (form_of z)) head) ∙ ap (λ (zs : List Entry). next_head (head_of (form_of y)) zs (r + 1)) tail

  more_next : (q : ℕ) (y : Entry) (ys : List Entry) → r ≤ q → drop q es ≡ y ∷ ys → get_or behind (256 + q) 0 ≡ next_head (head_of (form_of y)) ys (q + 1)
  unfolding behind
  more_next q y ys l dy = go (eqb q r) refl
    where
      go : (t : Bool) → eqb q r ≡ t → get_or behind (256 + q) 0 ≡ next_head (head_of (form_of y)) ys (q + 1)
      go true e =
          let same = eqb-true q r e in
          rw same (more_here y ys (ap (λ (i : ℕ). drop i es) (sym same) ∙ dy))
      go false e =
          let other = eqb-false q r e in
          get_or-set_other links (256 + r) (256 + q) (get_or links h 0) 0 (λ (i : 256 + q ≡ 256 + r). other (omega arith)) ∙ k.nexts q y ys (beyond other) dy
        where
          beyond : (q ≡ r → ⊥) → r + 1 ≤ q
          beyond n = omega arith

  linked_more : Linked r es (set (set links (256 + r) (get_or links h 0)) h r)
  unfolding behind
  linked_more =
      record {
        size = omega (arith, k.size, length-set behind h r, length-set links (256 + r) (get_or links h 0));
        heads = λ b lb. more_head b lb;
        nexts = λ q y ys l dy. get_or-set_other behind h (256 + q) r 0 (λ (i : 256 + q ≡ h). omega arith) ∙ more_next q y ys l dy;
      }

-- the same where the links stand in a text from `at` on
pub linked_turn : (es : List Entry) (b : List ℕ) (at r h : ℕ) (x : Entry) → Linked (r + 1) es (drop at b) → r < length es → drop r es ≡ x ∷ drop (r + 1) es → head_of (form_of x) ≡ h → h < 256
    → Linked r es (drop at (set (set b (at + 256 + r) (get_or b (at + h) 0)) (at + h) r))
linked_turn es b at r h x k l d e lh =
    let i : at + 256 + r ≡ at + (256 + r) = omega arith in
    rw (i, ← get_or-drop at b h 0, drop-set-add at (set b (at + (256 + r)) (get_or (drop at b) h 0)) h r, drop-set-add at b (256 + r) (get_or (drop at b) h 0))
    (linked_more es (drop at b) r h x k l d e lh)

-- links that are cut after the last
pub linked_part : (es : List Entry) (links : List ℕ) (m : ℕ) → Linked 0 es links → 256 + length es ≤ m → Linked 0 es (take m links)
linked_part es links m k h =
    record {
      size = omega (arith, k.size, length-take m links);
      heads = λ b lb. get_or-take m links b 0 (omega arith) ∙ k.heads b lb;
      nexts = λ q x xs l d. get_or-take m links (256 + q) 0 (omega (arith, length-drop q es, ap length d)) ∙ k.nexts q x xs l d;
    }
