-- Words at the front of a name; the ids that a name begins with. Assumes nothing.
use Prim.Native.Nat.{ℕ, zero, suc, ◌+◌, ◌≤◌, ◌<◌}
use mathlib.Core.Path.{◌≡◌, refl, ap, sym, ◌∙◌, subst}
use mathlib.Core.Bool.{Bool, true, false, not, ◌&&◌, ◌||◌}
use mathlib.Core.List.{List, [], ◌∷◌, ◌++◌, map}
use native.Mathlib.Omega.{arith}
use lib.Dec.{eqb}
use lib.ListN.{length, get_or, drop}
use borrow.Author.Tests.{eq-eqb, ne_eqb, eqb-true, eqb-false}
use Rattle.text_bytes.specs.Bytes.{bytes, begins}
use Rattle.text_bytes.proofs.Laws.Begins.{begins_is, begins_self}
use Rattle.value_references.specs.Index.{index_at, written, index_in}
use Rattle.value_references.specs.declared.index.Index.{Index}
use Rattle.value_references.specs.declared.index.Index.TheVariants.{Not, Bad, Is}
use Rattle.value_references.specs.References.{families, family}
use Rattle.value_references.proofs.Laws.Indices.{index_read, index_written}
use Rattle.book_ids.specs.Ids.{index_after, id, id_in, id_of}
use Rattle.book_ids.specs.declared.Id.{Id}
use Rattle.std.specs.Prelude.{Option, Some, None}
use Rattle.text_bytes.proofs.Laws.Tests.{absurd_bool, and_both}

-- WORDS
-- two words, one after the other
pub begins_append : (w x s : List ℕ) → begins (w ++ x) s ≡ (begins w s && begins x (drop (length w) s))
unfolding begins
begins_append [] x s = refl
begins_append (y ∷ w) x [] = refl
begins_append (y ∷ w) x (z ∷ s) = go (eqb y z) (begins_append w x s)
  where
    go : (t : Bool) → begins (w ++ x) s ≡ (begins w s && begins x (drop (length w) s))
        → (t && begins (w ++ x) s) ≡ ((t && begins w s) && begins x (drop (length w) s))
    go true e = e
    go false e = refl

-- two words that part somewhere do not both stand at the front
unfoldable pub parted : List ℕ → List ℕ → Bool
parted [] v = false
parted (x ∷ w) [] = false
parted (x ∷ w) (y ∷ v) = not (eqb x y) || parted w v

pub parted_one : (w v s : List ℕ) → parted w v ≡ true → begins w s ≡ true → begins v s ≡ true → ⊥
unfolding parted begins
parted_one [] v s p h k = absurd_bool p
parted_one (x ∷ w) [] s p h k = absurd_bool p
parted_one (x ∷ w) (y ∷ v) [] p h k = absurd_bool h
parted_one (x ∷ w) (y ∷ v) (z ∷ s) p h k =
    let q = and_both (eqb x z) (begins w s) h in
    let r = and_both (eqb y z) (begins v s) k in
    let e : x ≡ y = eqb-true x z q.0 ∙ sym (eqb-true y z r.0) in
    parted_one w v s (rw (eq-eqb x y e) at p) q.1 r.1

-- AN INDEX after a word
module _ (w s : List ℕ) where
  pub after_none : begins w s ≡ false → index_after w s ≡ 0
  unfolding index_after
  after_none h = rw h

  pub after_some : begins w s ≡ true → index_after w s ≡ index_in (index_at (drop (length w) s))
  unfolding index_after
  after_some h = rw h

value_read : (x : Index) (s : List ℕ) → index_at s ≡ x → (index_in x ≡ 0 → ⊥) → index_at s ≡ Is (index_in x) (length (written (index_in x)))
value_read Not s e n = absurd (n refl)
value_read (Bad z w) s e n = absurd (n refl)
value_read (Is v w) s e n = e ∙ ap (Is v) (index_read s v w e).width

value_high : (x : Index) (s : List ℕ) → index_at s ≡ x → index_in x ≤ 64
value_high Not s e = omega arith
value_high (Bad z w) s e = omega arith
value_high (Is v w) s e = (index_read s v w e).high

pub after_high : (w s : List ℕ) → index_after w s ≤ 64
after_high w s = go (begins w s) refl
  where
    go : (t : Bool) → begins w s ≡ t → index_after w s ≤ 64
    go true e = omega (arith, after_some w s e, value_high (index_at (drop (length w) s)) (drop (length w) s) refl)
    go false e = omega (arith, after_none w s e)

-- an index as it is written stands at the front where it is read there
written_read : (i : ℕ) (s : List ℕ) → 1 ≤ i → i ≤ 64 → begins (written i) s ≡ eqb (index_in (index_at s)) i
written_read i s lo hi = go (begins (written i) s) refl
  where
    go : (t : Bool) → begins (written i) s ≡ t → t ≡ eqb (index_in (index_at s)) i
    go true e =
        let r = drop (length (written i)) s in
        let q : index_at s ≡ Is i (length (written i)) = ap index_at (begins_is (written i) s e) ∙ index_written i r lo hi in
        sym (eq-eqb (index_in (index_at s)) i (ap index_in q))
    go false e =
        sym (ne_eqb (index_in (index_at s)) i (λ (x : index_in (index_at s) ≡ i).
        let q = value_read (index_at s) s refl (λ (z : index_in (index_at s) ≡ 0). omega arith) in
        let t = (index_read s (index_in (index_at s)) (length (written (index_in (index_at s)))) q).text in
        let b : begins (written (index_in (index_at s))) s ≡ true = ap (begins (written (index_in (index_at s)))) t ∙ begins_self (written (index_in (index_at s))) _ in
        absurd_bool (sym e ∙ subst (λ (v : ℕ). begins (written v) s ≡ true) x b)))

pub id_begins : (w s : List ℕ) (i : ℕ) → 1 ≤ i → i ≤ 64 → begins (w ++ written i) s ≡ eqb (index_after w s) i
id_begins w s i lo hi = begins_append w (written i) s ∙ go (begins w s) refl
  where
    go : (t : Bool) → begins w s ≡ t → (t && begins (written i) (drop (length w) s)) ≡ eqb (index_after w s) i
    go true e = written_read i (drop (length w) s) lo hi ∙ ap (λ (v : ℕ). eqb v i) (sym (after_some w s e))
    go false e = sym (ne_eqb (index_after w s) i (λ (x : index_after w s ≡ i). omega (arith, after_none w s e)))

-- THE ID that a name begins with
unfoldable pub is_id : Option Id → ℕ → ℕ → Bool
is_id None f i = false
is_id (Some d) f i = eqb d.family f && eqb d.index i

module _ (w : List ℕ) (ws : List (List ℕ)) (f : ℕ) (s : List ℕ) where
  pub id_here : (v : ℕ) → v ≡ index_after w s → (v ≡ 0 → ⊥) → id_in f (w ∷ ws) s ≡ Some (id f v)
  unfolding id_in
  id_here v e h = rw (← e, ne_eqb v 0 h)

  pub id_later : (v : ℕ) → v ≡ index_after w s → v ≡ 0 → id_in f (w ∷ ws) s ≡ id_in (f + 1) ws s
  unfolding id_in
  id_later v e h = rw (← e, eq-eqb v 0 h)

pub id_nowhere : (f : ℕ) (s : List ℕ) → id_in f [] s ≡ None
unfolding id_in
id_nowhere f s = refl

unfoldable parted_from : List ℕ → List (List ℕ) → Bool
parted_from w [] = true
parted_from w (v ∷ vs) = parted w v && parted_from w vs

unfoldable all_parted : List (List ℕ) → Bool
all_parted [] = true
all_parted (w ∷ ws) = parted_from w ws && all_parted ws

parted_at : (w : List ℕ) (ws : List (List ℕ)) (n : ℕ) → parted_from w ws ≡ true → n < length ws → parted w (get_or ws n []) ≡ true
unfolding parted_from
parted_at w [] n h k = absurd (omega arith)
parted_at w (v ∷ vs) zero h k = (and_both (parted w v) (parted_from w vs) h).0
parted_at w (v ∷ vs) (suc n) h k = parted_at w vs n (and_both (parted w v) (parted_from w vs) h).1 (omega arith)

-- a word after which no index stands, where another's does
after_other : (w v s : List ℕ) → parted w v ≡ true → (index_after w s ≡ 0 → ⊥) → index_after v s ≡ 0
after_other w v s p n = go (begins w s) (begins v s) refl refl
  where
    go : (t u : Bool) → begins w s ≡ t → begins v s ≡ u → index_after v s ≡ 0
    go false u e k = absurd (n (after_none w s e))
    go true false e k = after_none v s k
    go true true e k = absurd (parted_one w v s p e k)

module _ (s : List ℕ) (i : ℕ) (lo : 1 ≤ i) where
  none_is : (v : ℕ) → v ≡ 0 → eqb v i ≡ false
  none_is v e = ne_eqb v i (λ (x : v ≡ i). omega arith)

  low_is : (ws : List (List ℕ)) (g f : ℕ) → f < g → is_id (id_in g ws s) f i ≡ false
  unfolding is_id
  low_is [] g f h = ap (λ (d : Option Id). is_id d f i) (id_nowhere g s)
  low_is (w ∷ ws) g f h = go (eqb (index_after w s) 0) refl (low_is ws (g + 1) f (omega arith))
    where
      go : (t : Bool) → eqb (index_after w s) 0 ≡ t → is_id (id_in (g + 1) ws s) f i ≡ false → is_id (id_in g (w ∷ ws) s) f i ≡ false
      go true e ih = ap (λ (d : Option Id). is_id d f i) (id_later w ws g s (index_after w s) refl (eqb-true (index_after w s) 0 e)) ∙ ih
      go false e ih =
          ap (λ (d : Option Id). is_id d f i) (id_here w ws g s (index_after w s) refl (eqb-false (index_after w s) 0 e))
          ∙ ap (λ (b : Bool). b && eqb (index_after w s) i) (ne_eqb g f (λ (x : g ≡ f). omega arith))

  -- the id of one of the words, the n-th
  nth_is : (ws : List (List ℕ)) (g n : ℕ) → all_parted ws ≡ true → n < length ws → eqb (index_after (get_or ws n []) s) i ≡ is_id (id_in g ws s) (g + n) i
  unfolding is_id all_parted
  nth_is [] g n p h = absurd (omega arith)
  nth_is (w ∷ ws) g zero p h = go (eqb (index_after w s) 0) refl
    where
      a : ℕ
      a = index_after w s

      same : g ≡ g + 0
      same = omega arith

      go : (t : Bool) → eqb a 0 ≡ t → eqb a i ≡ is_id (id_in g (w ∷ ws) s) (g + 0) i
      go true e =
          none_is a (eqb-true a 0 e) ∙ sym (low_is ws (g + 1) (g + 0) (omega arith))
          ∙ ap (λ (d : Option Id). is_id d (g + 0) i) (sym (id_later w ws g s a refl (eqb-true a 0 e)))
      go false e =
          ap (λ (b : Bool). b && eqb a i) (sym (eq-eqb g (g + 0) same))
          ∙ ap (λ (d : Option Id). is_id d (g + 0) i) (sym (id_here w ws g s a refl (eqb-false a 0 e)))
  nth_is (w ∷ ws) g (suc n) p h = go (eqb (index_after w s) 0) refl (nth_is ws (g + 1) n (and_both (parted_from w ws) (all_parted ws) p).1 (omega arith))
    where
      a : ℕ
      a = index_after w s

      v : List ℕ
      v = get_or ws n []

      same : g + 1 + n ≡ g + suc n
      same = omega arith

      go : (t : Bool) → eqb a 0 ≡ t → eqb (index_after v s) i ≡ is_id (id_in (g + 1) ws s) (g + 1 + n) i
          → eqb (index_after v s) i ≡ is_id (id_in g (w ∷ ws) s) (g + suc n) i
      go true e ih =
          ih ∙ ap (λ (m : ℕ). is_id (id_in (g + 1) ws s) m i) same
          ∙ ap (λ (d : Option Id). is_id d (g + suc n) i) (sym (id_later w ws g s a refl (eqb-true a 0 e)))
      go false e ih =
          none_is (index_after v s) (after_other w v s (parted_at w ws n (and_both (parted_from w ws) (all_parted ws) p).0 (omega arith)) (eqb-false a 0 e))
          ∙ ap (λ (b : Bool). b && eqb a i) (sym (ne_eqb g (g + suc n) (λ (x : g ≡ g + suc n). omega arith)))
          ∙ ap (λ (d : Option Id). is_id d (g + suc n) i) (sym (id_here w ws g s a refl (eqb-false a 0 e)))

-- the four families part
word_of : (f : ℕ) → family f ≡ get_or (map bytes families) f []
unfolding bytes
word_of zero = refl
word_of (suc zero) = refl
word_of (suc (suc zero)) = refl
word_of (suc (suc (suc zero))) = refl
word_of (suc (suc (suc (suc f)))) = refl

-- the words that are left, from family f on
pub words_from : (f : ℕ) → f < 4 → drop f (map bytes families) ≡ family f ∷ drop (f + 1) (map bytes families)
unfolding bytes
words_from zero h = refl
words_from (suc zero) h = refl
words_from (suc (suc zero)) h = refl
words_from (suc (suc (suc zero))) h = refl
words_from (suc (suc (suc (suc f)))) h = absurd (omega arith)

families_parted : (all_parted (map bytes families) ≡ true) × (length (map bytes families) ≡ 4)
unfolding all_parted parted_from parted bytes
families_parted = (refl, refl)

-- THE LAW: a name begins with an id just where that is the id it is found to begin with
pub id_is : (name : List ℕ) (f i : ℕ) → f < 4 → 1 ≤ i → i ≤ 64 → begins (family f ++ written i) name ≡ is_id (id_of name) f i
unfolding id_of
id_is name f i hf lo hi =
    let z : 0 + f ≡ f = omega arith in
    ap (λ (w : List ℕ). begins (w ++ written i) name) (word_of f)
    ∙ id_begins (get_or (map bytes families) f []) name i lo hi
    ∙ nth_is name i lo (map bytes families) 0 f families_parted.0 (omega (arith, families_parted.1))
    ∙ ap (λ (m : ℕ). is_id (id_in 0 (map bytes families) name) m i) z

-- a found id is one of the 256
in_range : (ws : List (List ℕ)) (g : ℕ) (s : List ℕ) (d : Id) → id_in g ws s ≡ Some d → (d.family < g + length ws) × (1 ≤ d.index) × (d.index ≤ 64)
in_range [] g s d h = absurd (let e = id_nowhere g s in let z : ◌≡◌ {A = ℕ} 0 1 = cc in omega arith)
in_range (w ∷ ws) g s d h = go (eqb (index_after w s) 0) refl (in_range ws (g + 1) s d)
  where
    a : ℕ
    a = index_after w s

    some : (m : ℕ) → (m ≡ 0 → ⊥) → 1 ≤ m
    some m n = omega arith

    go : (t : Bool) → eqb a 0 ≡ t → (id_in (g + 1) ws s ≡ Some d → (d.family < g + 1 + length ws) × (1 ≤ d.index) × (d.index ≤ 64)) → (d.family < g + length (w ∷ ws)) × (1 ≤ d.index) × (d.index ≤ 64)
    go true e ih =
        let r = ih (sym (id_later w ws g s a refl (eqb-true a 0 e)) ∙ h) in
        (omega (arith, r.0), r.1, r.2)
    go false e ih =
        let q : ◌≡◌ {A = Option Id} (Some (id g a)) (Some d) = sym (id_here w ws g s a refl (eqb-false a 0 e)) ∙ h in
        let p : id g a ≡ d = cc in
        let eg : g ≡ d.family = ap (λ (x : Id). x.family) p in
        let ea : a ≡ d.index = ap (λ (x : Id). x.index) p in
        (omega arith, omega (arith, some a (eqb-false a 0 e), ea), omega (arith, after_high w s, ea))

pub id_range : (name : List ℕ) (d : Id) → id_of name ≡ Some d → (d.family < 4) × (1 ≤ d.index) × (d.index ≤ 64)
unfolding id_of
id_range name d h =
    let r = in_range (map bytes families) 0 name d h in
    (omega (arith, r.0, families_parted.1), r.1, r.2)
