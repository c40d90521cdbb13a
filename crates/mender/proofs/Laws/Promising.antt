-- The promises of the mending call, from what it ensures: what is refused, what stands in the buffer and the list, and that the copy, mended again, stays the
-- same. Assumes nothing.
use mathlib.Core.Path.{◌≡◌, refl, sym, ap, subst, ◌∙◌}
use mathlib.Core.Bool.{true, ◌||◌, or-true}
use mathlib.Core.List.{List, [], ◌∷◌, ◌++◌}
use mathlib.Core.Logic.{◌⊎◌, inl, inr, ⊎_elim}
use Prim.Native.Nat.{ℕ, zero, suc, ◌+◌, ◌-◌, ◌*◌, ◌≤◌, ◌<◌}
use native.Mathlib.Nat.{lt_of_not-le}
use native.Mathlib.Omega.{arith}
use lib.Dec.{ltb}
use lib.ListN.{length, get_or, take, drop, length-append, length-drop}
use lib.Seq.{take-append_seam, get_or-append-add, get_or-drop}
use borrow.Author.Tests.{le-ltb, lt-ltb}
use Rattle.numbers.specs.Numbers.{TOO_LONG, NO_ROOM}
use Rattle.text_bytes.specs.Bytes.{Bytes}
use Rattle.text.specs.Lines.{LIMIT}
use Rattle.rules.specs.Breaks.{Break, break_at}
use Rattle.rules.specs.Mended.{changes_of, copy_of}
use Rattle.rules.proofs.Laws.Mending.{copy_same, copy_count, copy_ends, copy_breaks, copy_changes, copy_twice, copy_width, copy_cell, copy_length}
use Rattle.mender.specs.Mended.{Outcome, outcome, with_bytes, with_changes, mended}
use Rattle.mender.specs.Promised.{Refused, HasPlaces, Lists, Copies, Promised}

-- BYTES IN THE BUFFER, where they have room

bytes_front : (xs ys : Bytes) → length xs ≤ length ys → with_bytes xs ys ≡ xs ++ drop (length xs) ys
unfolding with_bytes
bytes_front [] ys h = refl
bytes_front (x ∷ xs) [] h = absurd (omega arith)
bytes_front (x ∷ xs) (y ∷ ys) h = ap (λ (l : Bytes). x ∷ l) (bytes_front xs ys (omega arith))

module _ (xs ys : Bytes) (room : length xs ≤ length ys) where
  bytes_taken : take (length xs) (with_bytes xs ys) ≡ xs
  bytes_taken = rw (bytes_front xs ys room) (take-append_seam xs (drop (length xs) ys))

  bytes_length : length (with_bytes xs ys) ≡ length ys
  bytes_length = rw (bytes_front xs ys room) (omega (arith, length-append xs (drop (length xs) ys), length-drop (length xs) ys))

  bytes_behind : (j : ℕ) → length xs ≤ j → get_or (with_bytes xs ys) j 0 ≡ get_or ys j 0
  bytes_behind j h =
      let e : length xs + (j - length xs) ≡ j = omega arith in
      rw (bytes_front xs ys room) (rw e at (get_or-append-add xs (drop (length xs) ys) (j - length xs) 0 ∙ get_or-drop (length xs) ys (j - length xs) 0))

-- CHANGES IN THE LIST

changes_length : (gs : List Break) (zs : List ℕ) → length (with_changes gs zs) ≡ length zs
unfolding with_changes
changes_length [] zs = refl
changes_length (g ∷ gs) [] = refl
changes_length (g ∷ gs) (y ∷ []) = refl
changes_length (g ∷ gs) (y ∷ (z ∷ zs)) = ap (λ (k : ℕ). suc (suc k)) (changes_length gs zs)

-- line and cell of change i
changes_at : (gs : List Break) (zs : List ℕ) (i : ℕ) → HasPlaces (length gs) zs i
    → (get_or (with_changes gs zs) (2 * i) 0 ≡ (get_or gs i (break_at 0 0 0)).line) × (get_or (with_changes gs zs) (2 * i + 1) 0 ≡ (get_or gs i (break_at 0 0 0)).cell)
unfolding with_changes
changes_at [] zs i h = absurd (omega (arith, h.0))
changes_at (g ∷ gs) [] i h = absurd (omega (arith, h.1))
changes_at (g ∷ gs) (y ∷ []) i h = absurd (omega (arith, h.1))
changes_at (g ∷ gs) (y ∷ (z ∷ zs)) zero h = (refl, refl)
changes_at (g ∷ gs) (y ∷ (z ∷ zs)) (suc i) h =
    let e : 2 * suc i ≡ suc (suc (2 * i)) = omega arith in
    let f : 2 * suc i + 1 ≡ suc (suc (2 * i + 1)) = omega arith in
    rw (f, e) (changes_at gs zs i (omega (arith, h.0), omega (arith, h.1)))

-- a place that is none of a written change's
changes_other : (gs : List Break) (zs : List ℕ) (j : ℕ) → ((i : ℕ) → HasPlaces (length gs) zs i → (j < 2 * i) ⊎ (2 * i + 2 ≤ j)) → get_or (with_changes gs zs) j 0 ≡ get_or zs j 0
unfolding with_changes
changes_other [] zs j out = refl
changes_other (g ∷ gs) [] j out = refl
changes_other (g ∷ gs) (y ∷ []) j out = refl
changes_other (g ∷ gs) (y ∷ (z ∷ zs)) zero out = ⊎_elim (λ (q : 0 < 2 * 0). absurd (omega arith)) (λ (q : 2 * 0 + 2 ≤ 0). absurd (omega arith)) (out 0 (omega arith, omega arith))
changes_other (g ∷ gs) (y ∷ (z ∷ zs)) (suc zero) out = ⊎_elim (λ (q : 1 < 2 * 0). absurd (omega arith)) (λ (q : 2 * 0 + 2 ≤ 1). absurd (omega arith)) (out 0 (omega arith, omega arith))
changes_other (g ∷ gs) (y ∷ (z ∷ zs)) (suc (suc j)) out =
    changes_other gs zs j
    (λ i h. ⊎_elim (λ (q : suc (suc j) < 2 * suc i). inl (omega arith)) (λ (q : 2 * suc i + 2 ≤ suc (suc j)). inr (omega arith)) (out (suc i) (omega (arith, h.0), omega (arith, h.1))))

changes_lists : (gs : List Break) (zs : List ℕ) → Lists gs zs (length gs) (with_changes gs zs)
changes_lists gs zs = record {
  count = refl;
  long = changes_length gs zs;
  line = λ i h. (changes_at gs zs i h).0;
  cell_of = λ i h. (changes_at gs zs i h).1;
  untouched = changes_other gs zs;
}

-- THE COPY
copy_copies : (file : Bytes) → Copies file (copy_of file)
copy_copies file = record {
  size = copy_length file;
  count = copy_count file;
  ends = copy_ends file;
  widths = λ l low high. copy_width file l low high;
  cells = λ l c low high cl ch. copy_cell file l low high c cl ch;
  left = copy_breaks file;
  settled = copy_changes file;
  same = copy_same file;
}

-- THE CALL

-- three ways through it
module _ (file ys : Bytes) (zs : List ℕ) where
  too_long : LIMIT < length file → mended file ys zs ≡ outcome TOO_LONG 0 0 ys zs
  unfolding mended
  too_long h = rw (lt-ltb LIMIT (length file) h)

  no_room : length file ≤ LIMIT → (LIMIT < length (copy_of file)) ⊎ (length ys < length (copy_of file)) → mended file ys zs ≡ outcome NO_ROOM 0 0 ys zs
  unfolding mended
  no_room limit h = rw (le-ltb LIMIT (length file) limit, ⊎_elim long short h)
    where
      long : LIMIT < length (copy_of file) → (ltb LIMIT (length (copy_of file)) || ltb (length ys) (length (copy_of file))) ≡ true
      long q = rw (lt-ltb LIMIT (length (copy_of file)) q)

      short : length ys < length (copy_of file) → (ltb LIMIT (length (copy_of file)) || ltb (length ys) (length (copy_of file))) ≡ true
      short q = rw (lt-ltb (length ys) (length (copy_of file)) q) (or-true (ltb LIMIT (length (copy_of file))))

  written : length file ≤ LIMIT → length (copy_of file) ≤ LIMIT → length (copy_of file) ≤ length ys
      → mended file ys zs ≡ outcome 0 (length (copy_of file)) (length (changes_of file)) (with_bytes (copy_of file) ys) (with_changes (changes_of file) zs)
  unfolding mended
  written limit fits room = rw (le-ltb LIMIT (length file) limit, le-ltb LIMIT (length (copy_of file)) fits, le-ltb (length ys) (length (copy_of file)) room)

-- a copy, mended once more
settled : (file ys : Bytes) (zs : List ℕ) → length (copy_of file) ≤ LIMIT → length (copy_of file) ≤ length ys
    → mended (copy_of file) ys zs ≡ outcome 0 (length (copy_of file)) 0 (with_bytes (copy_of file) ys) zs
unfolding with_changes
settled file ys zs fits room = let e = copy_twice file in written (copy_of file) ys zs fits (rw e fits) (rw e room) ∙ rw (e, copy_changes file)

-- WHAT IT PROMISES

refused : {w n m k : ℕ} {ys xs : Bytes} {zs cs : List ℕ} → outcome n m k xs cs ≡ outcome w 0 0 ys zs → Refused w ys zs n m k xs cs
refused e = record {
  number = ap (λ (x : Outcome). x.number) e;
  none_laid = ap (λ (x : Outcome). x.length) e;
  count = ap (λ (x : Outcome). x.count) e;
  untouched = ap (λ (x : Outcome). x.copy) e;
  unlisted = ap (λ (x : Outcome). x.changes) e;
}

module _ (file ys : Bytes) (zs : List ℕ) {n m k : ℕ} {xs : Bytes} {cs : List ℕ} where
  -- a file over the limit
  pub mend_refused : LIMIT < length file → outcome n m k xs cs ≡ mended file ys zs → Refused TOO_LONG ys zs n m k xs cs
  mend_refused h call = refused (call ∙ too_long file ys zs h)

  -- one whose copy is over it, or has no room in the buffer
  pub mend_no_room : length file ≤ LIMIT → (LIMIT < length (copy_of file)) ⊎ (length ys < length (copy_of file)) → outcome n m k xs cs ≡ mended file ys zs → Refused NO_ROOM ys zs n m k xs cs
  mend_no_room limit h call = refused (call ∙ no_room file ys zs limit h)

  -- any other
  pub mend_promised : length file ≤ LIMIT → length (copy_of file) ≤ LIMIT → length (copy_of file) ≤ length ys → outcome n m k xs cs ≡ mended file ys zs → Promised file ys zs n m k xs cs
  mend_promised limit fits room call = subst (λ (o : Outcome). Promised file ys zs o.number o.length o.count o.copy o.changes) (sym (call ∙ written file ys zs limit fits room)) (record {
    number = refl;
    fits = room;
    long = bytes_length (copy_of file) ys room;
    copies = rw (bytes_taken (copy_of file) ys room) (copy_copies file);
    behind = bytes_behind (copy_of file) ys room;
    lists = changes_lists (changes_of file) zs;
  })

  -- the copy, mended again by the call: the same bytes, no change, and a list untouched
  pub mend_again : length file ≤ LIMIT → length (copy_of file) ≤ LIMIT → length (copy_of file) ≤ length ys → outcome n m k xs cs ≡ mended file ys zs
      → (ys₂ : Bytes) (zs₂ : List ℕ) {n₂ m₂ k₂ : ℕ} {xs₂ : Bytes} {cs₂ : List ℕ} → m ≤ length ys₂ → outcome n₂ m₂ k₂ xs₂ cs₂ ≡ mended (take m xs) ys₂ zs₂
      → (n₂ ≡ 0) × (m₂ ≡ m) × (k₂ ≡ 0) × (take m₂ xs₂ ≡ take m xs) × (cs₂ ≡ zs₂)
  mend_again limit fits room call ys₂ zs₂ room₂ call₂ =
      let e = call ∙ written file ys zs limit fits room in
      let long : m ≡ length (copy_of file) = ap (λ (x : Outcome). x.length) e in
      let copied : take m xs ≡ copy_of file = ap (λ (x : Outcome). take x.length x.copy) e ∙ bytes_taken (copy_of file) ys room in
      let fit : length (copy_of file) ≤ length ys₂ = rw long at room₂ in
      let e₂ = call₂ ∙ ap (λ (f : Bytes). mended f ys₂ zs₂) copied ∙ settled file ys₂ zs₂ fits fit in (
        ap (λ (x : Outcome). x.number) e₂,
        ap (λ (x : Outcome). x.length) e₂ ∙ sym long,
        ap (λ (x : Outcome). x.count) e₂,
        ap (λ (x : Outcome). take x.length x.copy) e₂ ∙ bytes_taken (copy_of file) ys₂ fit ∙ sym copied,
        ap (λ (x : Outcome). x.changes) e₂,
      )

  -- number 0 is given there alone
  pub mend_granted : outcome n m k xs cs ≡ mended file ys zs → n ≡ 0 → (length file ≤ LIMIT) × (length (copy_of file) ≤ LIMIT) × (length (copy_of file) ≤ length ys)
  mend_granted call z =
      let limit : length file ≤ LIMIT = within LIMIT (length file) (λ h. omega (arith, z, (mend_refused h call).number)) in (
        limit,
        within LIMIT (length (copy_of file)) (λ h. omega (arith, z, (mend_no_room limit (inl h) call).number)),
        within (length ys) (length (copy_of file)) (λ h. omega (arith, z, (mend_no_room limit (inr h) call).number)),
      )
    where
      within : (a b : ℕ) → (a < b → ⊥) → b ≤ a
      within a b h = omega (arith, lt_of_not-le h)
