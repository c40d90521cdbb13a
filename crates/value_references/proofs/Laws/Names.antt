-- References, and the indices that a list of them names. Assumes nothing.
use Prim.Native.Nat.{ℕ, ◌+◌, ◌-◌, ◌≤◌, ◌<◌}
use mathlib.Core.Path.{◌≡◌, refl, ap, sym, ◌∙◌}
use mathlib.Core.Bool.{Bool, true, false, cond, not, ◌&&◌, ◌||◌, and_assoc, and-false, and-true, or-false, or-true, or_assoc}
use mathlib.Core.List.{List, [], ◌∷◌, ◌++◌, map, append-nil}
use native.Mathlib.Omega.{arith}
use borrow.Author.Tests.{eq-eqb, ne_eqb, eqb-true, eqb-false}
use lib.Dec.{eqb}
use lib.ListN.{length, take, drop, get_or, set, replicate, length-set, drop_of_length-le, get_or-replicate}
use lib.Seq.{drop-append_seam, get_or-set_same, get_or-set_other}
use Rattle.text_bytes.specs.Bytes.{begins, any, all, on_first, split_on, is_space}
use Rattle.text_bytes.specs.Places.{part, Ends}
use Rattle.text_bytes.proofs.Laws.Begins.{begins_is, begins_self}
use Rattle.text_bytes.proofs.Laws.Tests.{absurd_bool, and_both, and_right}
use Rattle.text_bytes.proofs.Laws.Pieces.{drop_step, piece_cut, piece_last}
use Rattle.value_references.specs.Index.{written, index_at, is_read, index_in, flaw_in, is_form, sooner}
use Rattle.value_references.specs.References.{alone, ref_in, ref_to, ref_flaw, trimmed, spaced, ref_parts, refs_to, is_index, is_references, is_like, flaw_among, refs_flaw, refers_to, Tells}
use Rattle.value_references.specs.declared.index.Index.{Index}
use Rattle.value_references.specs.declared.index.Flaw.{Flaw}
use Rattle.value_references.specs.declared.index.Flaw.TheVariants.{Form, Zero, Over}
use Rattle.value_references.specs.declared.index.Index.TheVariants.{Not, Bad, Is}
use Rattle.text_bytes.proofs.Laws.Each.{to_end, split_some}
use Rattle.value_references.proofs.Laws.Indices.{Holds, index_holds, index_read, index_written}
use Rattle.value_references.proofs.Laws.Firsts.{sooner_none, sooner_again}

-- ONE REFERENCE

module _ (w b : List ℕ) where
  pub ref_none : begins w b ≡ false → ref_in w b ≡ Not
  unfolding ref_in
  ref_none h = rw h

  module _ (h : begins w b ≡ true) (o : Index) (e : o ≡ index_at (take (length b - length w) (drop (length w) b))) where
    rest_is : ref_in w b ≡ alone o (length (take (length b - length w) (drop (length w) b)))
    unfolding ref_in
    rest_is = rw (h, e, to_end b (length w))

    pub ref_not : o ≡ Not → ref_in w b ≡ Not
    ref_not n = rest_is ∙ rw n

    -- an index of v bytes, good or bad: it is all that follows, or more does
    module _ (x : Index) (v : ℕ) (width : (n : ℕ) → alone x n ≡ cond (eqb v n) x Not) (n : o ≡ x) where
      pub ref_all : v ≡ length (take (length b - length w) (drop (length w) b)) → ref_in w b ≡ x
      ref_all q = rest_is ∙ rw (n, width _, eq-eqb v _ q)

      pub ref_more : (v ≡ length (take (length b - length w) (drop (length w) b)) → ⊥) → ref_in w b ≡ Not
      ref_more q = rest_is ∙ rw (n, width _, ne_eqb v _ q)

alone_le : (s : List ℕ) (n : ℕ) (o : Index) → index_at s ≡ o → index_in (alone o n) ≤ 64
alone_le s n Not e = omega arith
alone_le s n (Bad z w) e = go (eqb w n)
  where
    go : (t : Bool) → index_in (cond t (Bad z w) Not) ≤ 64
    go true = omega arith
    go false = omega arith
alone_le s n (Is i v) e = go (eqb v n)
  where
    go : (t : Bool) → index_in (cond t (Is i v) Not) ≤ 64
    go true = (index_read s i v e).high
    go false = omega arith

pub ref_le : (w b : List ℕ) → ref_to w b ≤ 64
unfolding ref_to ref_in
ref_le w b = go (begins w b)
  where
    go : (t : Bool) → index_in (cond t (alone (index_at (drop (length w) b)) (length (drop (length w) b))) Not) ≤ 64
    go true = alone_le (drop (length w) b) (length (drop (length w) b)) (index_at (drop (length w) b)) refl
    go false = omega arith

-- A REFERENCE IS THE WORD AND THE INDEX AS IT IS WRITTEN, and the other way round

alone_read : (r : List ℕ) (i : ℕ) (o : Index) → index_at r ≡ o → index_in (alone o (length r)) ≡ i → 1 ≤ i → r ≡ written i
alone_read r i Not e a h = absurd (omega arith)
alone_read r i (Bad z w) e a h = go (eqb w (length r)) a
  where
    go : (t : Bool) → index_in (cond t (Bad z w) Not) ≡ i → r ≡ written i
    go true q = absurd (omega arith)
    go false q = absurd (omega arith)
alone_read r i (Is v u) e a h = go (eqb u (length r)) refl a
  where
    go : (t : Bool) → eqb u (length r) ≡ t → index_in (cond t (Is v u) Not) ≡ i → r ≡ written i
    go true q z =
        let n : drop u r ≡ [] = drop_of_length-le r {i = u} (omega (arith, eqb-true u (length r) q)) in
        (index_read r v u e).text ∙ rw (n, z) (append-nil (written i))
    go false q z = absurd (omega arith)

pub ref_read : (w b : List ℕ) (i : ℕ) → ref_to w b ≡ i → 1 ≤ i → b ≡ w ++ written i
unfolding ref_to ref_in
ref_read w b i e h = go (begins w b) refl e
  where
    rest : List ℕ
    rest = drop (length w) b

    go : (t : Bool) → begins w b ≡ t → index_in (cond t (alone (index_at rest) (length rest)) Not) ≡ i → b ≡ w ++ written i
    go true q z = begins_is w b q ∙ ap (λ (x : List ℕ). w ++ x) (alone_read rest i (index_at rest) refl z h)
    go false q z = absurd (omega arith)

pub ref_written : (w : List ℕ) (i : ℕ) → 1 ≤ i → i ≤ 64 → ref_to w (w ++ written i) ≡ i
unfolding ref_to ref_in
ref_written w i lo hi =
    let n : index_at (written i) ≡ Is i (length (written i)) = ap index_at (sym (append-nil (written i))) ∙ index_written i [] lo hi in
    rw (begins_self w (written i), drop-append_seam w (written i), n, eq-eqb (length (written i)) (length (written i)) refl)

-- GOOD ONES are those that are like references and have no flaw

alone_good : (s : List ℕ) (n : ℕ) (o : Index) → index_at s ≡ o → is_index (index_in (alone o n)) ≡ (is_read (alone o n) && is_form (flaw_in (alone o n)))
unfolding Holds
alone_good s n Not e = refl
alone_good s n (Bad z w) e = go (eqb w n) (index_holds s (Bad z w) e).1
  where
    bad : (y : Flaw) → (y ≡ Form → ⊥) → false ≡ is_form y
    bad Form h = absurd (h refl)
    bad Zero h = refl
    bad Over h = refl

    go : (t : Bool) → (z ≡ Form → ⊥) → is_index (index_in (cond t (Bad z w) Not)) ≡ (is_read (cond t (Bad z w) Not) && is_form (flaw_in (cond t (Bad z w) Not)))
    go true h = bad z h
    go false h = refl
alone_good s n (Is i v) e = go (eqb v n)
  where
    go : (t : Bool) → is_index (index_in (cond t (Is i v) Not)) ≡ (is_read (cond t (Is i v) Not) && is_form (flaw_in (cond t (Is i v) Not)))
    go true = ap not (ne_eqb i 0 (λ (q : i ≡ 0). omega (arith, (index_read s i v e).low)))
    go false = refl

pub ref_good : (w b : List ℕ) → is_index (ref_to w b) ≡ (is_like w b && is_form (ref_flaw w b))
unfolding ref_to ref_in ref_flaw
ref_good w b = go (begins w b)
  where
    rest : List ℕ
    rest = drop (length w) b

    go : (t : Bool) → is_index (index_in (cond t (alone (index_at rest) (length rest)) Not))
        ≡ (is_read (cond t (alone (index_at rest) (length rest)) Not) && is_form (flaw_in (cond t (alone (index_at rest) (length rest)) Not)))
    go true = alone_good rest (length rest) (index_at rest) refl
    go false = refl

-- one part in front of others
good_both : (a b : Bool) (z y : Flaw) → ((a && is_form z) && (b && is_form y)) ≡ ((a && b) && is_form (sooner z y))
good_both true b Form y = refl
good_both true b Zero y = sym (and-false b)
good_both true b Over y = sym (and-false b)
good_both false b z y = refl

parts_good : (w : List ℕ) (ps : List (List ℕ)) → all is_index (map (ref_to w) ps) ≡ (all (is_like w) ps && is_form (flaw_among w ps))
unfolding all flaw_among
parts_good w [] = refl
parts_good w (p ∷ ps) = rw (ref_good w p, parts_good w ps) (good_both (is_like w p) (all (is_like w) ps) (ref_flaw w p) (flaw_among w ps))

pub refs_good : (w b : List ℕ) → is_references w b ≡ (all (is_like w) (ref_parts b) && is_form (flaw_among w (ref_parts b)))
unfolding is_references refs_to
refs_good w b = parts_good w (ref_parts b)

-- so good ones have no flaw
form_is : (z : Flaw) → is_form z ≡ true → z ≡ Form
form_is Form h = refl
form_is Zero h = absurd_bool h
form_is Over h = absurd_bool h

pub ref_flawless : (w b : List ℕ) → is_index (ref_to w b) ≡ true → ref_flaw w b ≡ Form
ref_flawless w b h = form_is (ref_flaw w b) (and_right (is_like w b) (is_form (ref_flaw w b)) (sym (ref_good w b) ∙ h))

pub refs_flawless : (w b : List ℕ) → is_references w b ≡ true → refs_flaw w b ≡ Form
unfolding refs_flaw
refs_flawless w b h =
    let q = and_both (all (is_like w) (ref_parts b)) (is_form (flaw_among w (ref_parts b))) (sym (refs_good w b) ∙ h) in
    rw q.0 (form_is (flaw_among w (ref_parts b)) q.1)

-- SPACES IN FRONT

module _ (l : List ℕ) (i : ℕ) where
  pub trim_next : i < length l → get_or l i 0 ≡ 32 → trimmed (drop i l) ≡ trimmed (drop (i + 1) l)
  unfolding trimmed is_space
  trim_next h e = rw (drop_step l i h, eq-eqb (get_or l i 0) 32 e)

  pub trim_stop : i < length l → (get_or l i 0 ≡ 32 → ⊥) → trimmed (drop i l) ≡ drop i l
  unfolding trimmed is_space
  trim_stop h e = rw (drop_step l i h, ne_eqb (get_or l i 0) 32 e)

  pub trim_end : length l ≤ i → trimmed (drop i l) ≡ drop i l
  unfolding trimmed
  trim_end h = rw (drop_of_length-le l h)

-- THE PIECES OF A LIST

-- a space in front goes, and any other byte stays
front_space : (x : ℕ) (ps : List (List ℕ)) → eqb x 32 ≡ true → (length ps ≡ 0 → ⊥) → map trimmed ps ≡ map trimmed (on_first x ps)
unfolding trimmed is_space on_first
front_space x [] e h = absurd (h refl)
front_space x (p ∷ ps) e h = rw e

front_other : (x : ℕ) (ps : List (List ℕ)) → eqb x 32 ≡ false → spaced (on_first x ps) ≡ map trimmed (on_first x ps)
unfolding trimmed is_space on_first
front_other x [] e = rw e
front_other x (p ∷ ps) e = rw e

-- spaces in front of a text are those in front of its first piece
trim_split : (l : List ℕ) → spaced (split_on 44 (trimmed l)) ≡ map trimmed (split_on 44 l)
unfolding trimmed is_space split_on
trim_split [] = refl
trim_split (x ∷ xs) = go (eqb x 32) refl (trim_split xs)
  where
    ps : List (List ℕ)
    ps = split_on 44 xs

    other : (t : Bool) → eqb x 32 ≡ false → spaced (cond t ([] ∷ ps) (on_first x ps)) ≡ map trimmed (cond t ([] ∷ ps) (on_first x ps))
    other true e = refl
    other false e = front_other x ps e

    go : (t : Bool) → eqb x 32 ≡ t → spaced (split_on 44 (trimmed xs)) ≡ map trimmed ps
        → spaced (split_on 44 (cond t (trimmed xs) (x ∷ xs))) ≡ map trimmed (cond (eqb x 44) ([] ∷ ps) (on_first x ps))
    go true e ih = ih ∙ rw (ne_eqb x 44 (λ z. omega (arith, eqb-true x 32 e))) (front_space x ps e (split_some 44 xs))
    go false e ih = other (eqb x 44) e

module _ {s : List ℕ} {at e : ℕ} (h : Ends 44 s at e) where
  parts_next : (k : ℕ) → e < length s → drop k s ≡ trimmed (drop (e + 1) s) → ref_parts (drop at s) ≡ part at e s ∷ ref_parts (drop k s)
  parts_next k lt q = rw (piece_cut h lt, q) (ap (λ (ps : List (List ℕ)). part at e s ∷ ps) (sym (trim_split (drop (e + 1) s))))

  parts_last : e ≡ length s → ref_parts (drop at s) ≡ part at e s ∷ []
  parts_last q = rw (piece_last h q)

-- WHAT IS TOLD SO FAR

-- the flags with the index i among them; 0 is none
abbrev pub marked : List Bool → ℕ → List Bool
marked t i = cond (eqb i 0) t (set t (i - 1) true)

marked_length : (t : List Bool) (i : ℕ) → length (marked t i) ≡ length t
marked_length t i = go (eqb i 0)
  where
    go : (z : Bool) → length (cond z t (set t (i - 1) true)) ≡ length t
    go true = refl
    go false = length-set t (i - 1) true

marked_at : (t : List Bool) (i j : ℕ) → i ≤ length t → 1 ≤ j → get_or (marked t i) (j - 1) false ≡ (get_or t (j - 1) false || eqb j i)
marked_at t i j h k = go (eqb i 0) refl (eqb j i) refl
  where
    go : (z : Bool) → eqb i 0 ≡ z → (y : Bool) → eqb j i ≡ y → get_or (cond z t (set t (i - 1) true)) (j - 1) false ≡ (get_or t (j - 1) false || y)
    go true e true d = absurd (omega (arith, eqb-true i 0 e, eqb-true j i d))
    go true e false d = sym (or-false (get_or t (j - 1) false))
    go false e true d =
        let p = eqb-false i 0 e in
        let z : j - 1 ≡ i - 1 = omega (arith, eqb-true j i d) in
        rw z (get_or-set_same t (i - 1) true false (omega arith) ∙ sym (or-true (get_or t (i - 1) false)))
    go false e false d =
        let p = eqb-false i 0 e in
        get_or-set_other t (i - 1) (j - 1) true false (λ z. eqb-false j i d (omega arith)) ∙ sym (or-false (get_or t (j - 1) false))

pub record SoFar (w s : List ℕ) (at : ℕ) (y : Bool) (z : Flaw) (t : List Bool) : Type 0 where
  pub width : length t ≡ 64
  pub like : all (is_like w) (ref_parts s) ≡ (y && all (is_like w) (ref_parts (drop at s)))
  pub flaw : flaw_among w (ref_parts s) ≡ sooner z (flaw_among w (ref_parts (drop at s)))
  pub named : (j : ℕ) → 1 ≤ j → j ≤ 64 → refers_to j w s ≡ (get_or t (j - 1) false || refers_to j w (drop at s))

pub told_start : (w s : List ℕ) → SoFar w s 0 true Form (replicate 64 false)
told_start w s = record {
  width = refl;
  like = refl;
  flaw = refl;
  named = λ j a b. rw (get_or-replicate 64 (j - 1) false false (omega arith));
}

-- one part more: the index x is read there, and i is its number
module _ {w s : List ℕ} {at : ℕ} {y : Bool} {z : Flaw} {t : List Bool} (f : SoFar w s at y z t) {e : ℕ} (h : Ends 44 s at e) (x : Index) (r : x ≡ ref_in w (part at e s)) (i : ℕ) (n : i ≡ index_in x) where
  index : i ≡ ref_to w (part at e s)
  unfolding ref_to
  index = n ∙ ap index_in r

  fits : i ≤ length t
  fits = omega (arith, ref_le w (part at e s), f.width, index)

  -- what is said with it
  module _ (y' : Bool) (z' : Flaw) (t' : List Bool) (ey : y' ≡ (y && is_read x)) (ez : z' ≡ sooner z (flaw_in x)) (et : t' ≡ marked t i) where
    pub told_next : (k : ℕ) → e < length s → drop k s ≡ trimmed (drop (e + 1) s) → SoFar w s k y' z' t'
    unfolding is_references refs_to ref_flaw flaw_among any all
    told_next k lt q =
        let n = parts_next h k lt q in
        record {
          width = ap length et ∙ marked_length t i ∙ f.width;
          like = f.like ∙ rw (n, ey, r) (sym (and_assoc y (is_like w (part at e s)) (all (is_like w) (ref_parts (drop k s)))));
          flaw = f.flaw ∙ rw (n, ez, r) (sooner_again z (ref_flaw w (part at e s)) (flaw_among w (ref_parts (drop k s))));
          named = λ j a b. f.named j a b ∙ rw (n, et, marked_at t i j fits a, index) (sym (or_assoc (get_or t (j - 1) false) (eqb j (ref_to w (part at e s))) (any (eqb j) (refs_to w (drop k s)))));
        }

    pub told_last : e ≡ length s → (g : Bool) (z'' : Flaw) → g ≡ (y' && is_form z') → z'' ≡ cond y' z' Form → Tells w s (record { good = g; flaw = z''; named = t' })
    unfolding is_references refs_to ref_flaw flaw_among refs_flaw any all
    told_last q g z'' eg e'' =
        let n = parts_last h q in
        let like : all (is_like w) (ref_parts s) ≡ y' = f.like ∙ rw (n, ey, r, and-true (is_like w (part at e s))) in
        let flaw : flaw_among w (ref_parts s) ≡ z' = f.flaw ∙ rw (n, ez, r, sooner_none (ref_flaw w (part at e s))) in
        record {
          width = ap length et ∙ marked_length t i ∙ f.width;
          good = eg ∙ sym (refs_good w s ∙ rw (like, flaw));
          flaw = e'' ∙ rw (← like, ← flaw);
          named = λ j a b. sym (f.named j a b ∙ rw (n, et, marked_at t i j fits a, index, or-false (eqb j (ref_to w (part at e s)))));
        }
