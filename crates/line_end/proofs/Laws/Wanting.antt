-- What a demand wants, as it is read from the book: one thing, or one for each id of a family. Assumes nothing.
use mathlib.Core.Path.{◌≡◌, refl, sym, ap, ◌∙◌}
use mathlib.Core.Bool.{Bool, true, false, not, ◌&&◌, ◌||◌, and-true, or-false}
use mathlib.Core.List.{List, [], ◌∷◌, ◌++◌, map}
use mathlib.Core.Logic.{inl, inr}
use Prim.Native.Nat.{ℕ, zero, suc, ◌+◌, ◌-◌, ◌≤◌, ◌<◌}
use native.Mathlib.Numerals.{add-one}
use native.Mathlib.Omega.{arith}
use lib.Dec.{eqb}
use lib.ListN.{length, take, drop, get_or, get_or-map}
use borrow.Author.Tests.{eq-eqb, ne_eqb}
use Rattle.std.specs.List.{list_any}
use Rattle.text_bytes.specs.Bytes.{any}
use Rattle.text_bytes.proofs.Laws.Each.{all_at}
use Rattle.text_bytes.proofs.Laws.Pieces.{drop_step}
use Rattle.value_references.specs.Index.{MOST}
use Rattle.book_names.specs.Names.{start_of}
use Rattle.book.specs.Book.{SECTIONS, SLOTS, Demand, ONCE, no_demand, Want, want, cell_of, up_from, wants_of, Book, key_entries}
use Rattle.book.specs.Text.{entry_for, Demanded}
use Rattle.book.specs.declared.demands.Demand.{Demand as Read}
use Rattle.book.proofs.Laws.Sized.{is_each, is_sound, sound_each, sound_section, each_family, Sized}
use Rattle.book_ids.specs.Ids.{is_marked}
use Rattle.book_facts.specs.Asked.{asks}
use Rattle.rules.specs.Breaks.{Break, break_at, when}
use Rattle.scan.specs.Places.{Lent, put_all, Puts}
use Rattle.scan.specs.Machine.{marks, Seen, is_asked_in, is_lacking, want_breaks}
use Rattle.scan.proofs.Laws.Ending.{inside, slots_below}
use Rattle.line_end.specs.Ends.{seen, Whole, id_breaks}
use Rattle.line_end.specs.declared.End.{End}

-- the same breaks, put by another name
alike : {f g : List Break → List Break} {m m' : ℕ} {o o' : Lent} → ((rest : List Break) → f rest ≡ g rest) → m ≡ m' → Puts f m o o' → Puts g m' o o'
alike {f} {g} {m} {m'} {o} {o'} e s p = record { does = λ rest. p.does rest ∙ ap (put_all o) (e rest); most = omega (arith, p.most) }

-- ONE BY ONE, of two lists
pub wants_append : (b : Book) (x : Seen) (n : ℕ) (us ws : List Want) (rest : List Break) → want_breaks b x n (us ++ ws) rest ≡ want_breaks b x n us (want_breaks b x n ws rest)
unfolding want_breaks
wants_append b x n [] ws rest = refl
wants_append b x n (u ∷ us) ws rest = ap (when (is_lacking b x u) (break_at n (cell_of u) u.demand.rule)) (wants_append b x n us ws rest)

-- A SLOT has a line or not
pub came_at : (slots : List ℕ) (k : ℕ) → get_or (marks slots) k false ≡ not (eqb (get_or slots k 0) 0)
came_at slots k = get_or-map (λ n. not (eqb n 0)) slots k 0

pub absent_at : (slots : List ℕ) (k : ℕ) → eqb (get_or slots k 0) 0 ≡ not (get_or (marks slots) k false)
absent_at slots k = rw (came_at slots k) (go (eqb (get_or slots k 0) 0))
  where
    go : (t : Bool) → t ≡ not (not t)
    go true = refl
    go false = refl

-- some of these slots has a line
abbrev came : ℕ → Bool
came n = not (eqb n 0)

pub came_any : (slots : List ℕ) (n from : ℕ) → from + n ≤ length slots → list_any came (take n (drop from slots)) ≡ any (λ i. get_or (marks slots) i false) (up_from n from)
unfolding any up_from
came_any slots zero from h = refl
came_any slots (suc n) from h =
    ap (λ (l : List ℕ). list_any came (take (suc n) l)) (drop_step slots from (omega arith))
    ∙ ap (λ (t : Bool). came (get_or slots from 0) || t) (ap (λ (i : ℕ). list_any came (take n (drop i slots))) (add-one from) ∙ came_any slots n (suc from) (omega arith))
    ∙ ap (λ (t : Bool). t || any (λ i. get_or (marks slots) i false) (up_from n (suc from))) (sym (came_at slots from))

-- THE IDS of a family: the next one, and none
module _ (d : Read) (asked : Bool) (slots ids : List Bool) (from n i : ℕ) (rest : List Break) where
  pub ids_next : i < 64 → id_breaks d asked slots ids from n (up_from (64 - i) (i + 1)) rest
      ≡ when ((asked && get_or ids i false) && not (get_or slots (from + i) false)) (break_at n (d.cell + i + 1) d.rule) (id_breaks d asked slots ids from n (up_from (64 - (i + 1)) (i + 1 + 1)) rest)
  unfolding up_from id_breaks
  ids_next h =
      let e : 64 - i ≡ suc (64 - (i + 1)) = omega arith in
      let z : i + 1 - 1 ≡ i = omega arith in
      let c : d.cell + (i + 1) ≡ d.cell + i + 1 = omega arith in
      rw (e, add-one (i + 1), z, c)

  pub ids_done : 64 ≤ i → id_breaks d asked slots ids from n (up_from (64 - i) (i + 1)) rest ≡ rest
  unfolding up_from id_breaks
  ids_done h = let e : 64 - i ≡ 0 = omega arith in rw e

-- the break of the next one is put
module _ (d : Read) (asked : Bool) (slots ids : List Bool) (from n i : ℕ) where
  abbrev after : ℕ → List Break → List Break
  after k rest = id_breaks d asked slots ids from n (up_from (64 - k) (k + 1)) rest

  pub ids_turn : (o₀ : Lent) {o o' : Lent} {t u : Bool} {c : ℕ} → i < 64 → u ≡ (asked && get_or ids i false) → t ≡ (u && not (get_or slots (from + i) false)) → c ≡ d.cell + i + 1
      → Puts (when t (break_at n c d.rule)) 1 o o' → ((rest : List Break) → put_all o (after i rest) ≡ put_all o₀ (id_breaks d asked slots ids from n (up_from 64 1) rest))
      → (rest : List Break) → put_all o' (after (i + 1) rest) ≡ put_all o₀ (id_breaks d asked slots ids from n (up_from 64 1) rest)
  ids_turn o₀ {o} {o'} {t} {u} {c} h e f g p inv rest = p.does (after (i + 1) rest) ∙ ap (put_all o) (here ∙ sym (ids_next d asked slots ids from n i rest h)) ∙ inv rest
    where
      here : when t (break_at n c d.rule) (after (i + 1) rest) ≡ when ((asked && get_or ids i false) && not (get_or slots (from + i) false)) (break_at n (d.cell + i + 1) d.rule) (after (i + 1) rest)
      here = rw (f, e, g)

-- A DEMAND as it was read
module _ (b : Book) (sized : Sized b) (k : ℕ) (l : k < length b.demands) where
  abbrev D : Demand
  D = get_or b.demands k no_demand

  sound : is_sound b.keys D ≡ true
  sound = all_at (is_sound b.keys) b.demands no_demand k sized.sound l

  module _ (r : Read) (d : Demanded b k r) where
    pub entry_in : r.entry < length (key_entries b)
    entry_in = rw d.entry (inside b sized (want D 0) sound)

    pub section_in : r.section < SECTIONS
    section_in = rw d.section (sound_section b.keys D sound)

    -- its letter and its section say whether it is asked
    module _ (slots : List ℕ) (flags : List (List Bool)) (end : End) (whole : Whole slots flags end.asking) where
      abbrev x : Seen
      x = seen slots flags end

      pub asked_is : {a u v : Bool} → a ≡ (u && v) → u ≡ asks r.asked end.asking.mode end.asking.typed end.asking.assay → v ≡ get_or end.present r.section false → a ≡ is_asked_in x D
      unfolding is_asked_in
      asked_is p q t = p ∙ rw (q, t, whole.assay, d.asked, d.section)

      -- once
      module _ (once : r.each ≡ ONCE) where
        once_wants : wants_of D ≡ want D 0 ∷ []
        unfolding wants_of
        once_wants = rw (eq-eqb D.each ONCE (sym d.each ∙ once))

        pub once_many : length (wants_of D) ≡ 1
        once_many = ap length once_wants

        pub once_slots : (start_of (key_entries b) r.entry ≤ start_of (key_entries b) (r.entry + 1)) × (start_of (key_entries b) (r.entry + 1) ≤ SLOTS)
        once_slots =
            let s = slots_below b sized (want D 0) sound (inl refl) in
            rw d.entry (omega (arith, s.0), s.1)

        pub once_puts : {a m t : Bool} {from to : ℕ} (n : ℕ) {o o' : Lent} → a ≡ is_asked_in x D → m ≡ is_marked (marks slots) from to → from ≡ start_of (key_entries b) r.entry
            → to ≡ start_of (key_entries b) (r.entry + 1) → t ≡ (a && not m) → Puts (when t (break_at n r.cell r.rule)) 1 o o' → Puts (want_breaks b x n (wants_of D)) (length (wants_of D)) o o'
        unfolding want_breaks is_lacking
        once_puts {a} {m} {t} {from} {to} n {o} {o'} p q f e s h = alike same (sym once_many) h
          where
            begin : start_of (key_entries b) (entry_for b.keys D.form) + (0 - 1) ≡ from
            begin = omega (arith, f, ap (start_of (key_entries b)) d.entry)

            stop : start_of (key_entries b) (entry_for b.keys D.form + 1) ≡ to
            stop = sym (e ∙ ap (λ (i : ℕ). start_of (key_entries b) (i + 1)) d.entry)

            cell : D.cell + 0 ≡ r.cell
            cell = omega (arith, d.cell)

            same : (rest : List Break) → when t (break_at n r.cell r.rule) rest ≡ want_breaks b x n (wants_of D) rest
            same rest = rw (once_wants, begin, stop, cell, d.rule, and-true (is_asked_in x D), s, p, q)

      -- for each id
      module _ (each : r.each ≡ ONCE → ⊥) where
        its : is_each D ≡ true
        its = sound_each b.keys D sound (ne_eqb D.each ONCE (λ e. each (d.each ∙ e)))

        pub family_in : r.each < 4
        family_in = rw d.each (each_family D its)

        pub ids_slots : start_of (key_entries b) r.entry + 64 ≤ SLOTS
        ids_slots =
            let s = slots_below b sized (want D 64) sound (inr (its, omega arith, omega arith)) in
            rw d.entry (omega (arith, s.1))

        ids_wants : wants_of D ≡ map (want D) (up_from MOST 1)
        unfolding wants_of
        ids_wants = rw (ne_eqb D.each ONCE (λ e. each (d.each ∙ e)))

        pub ids_many : length (wants_of D) ≡ 64
        unfolding up_from
        ids_many = ap length ids_wants

        -- its break is that of the id
        id_lacks : {a : Bool} {from : ℕ} (i : ℕ) → 1 ≤ i → a ≡ is_asked_in x D → from ≡ start_of (key_entries b) r.entry
            → ((a && get_or (get_or flags r.each []) (i - 1) false) && not (get_or (marks slots) (from + (i - 1)) false)) ≡ is_lacking b x (want D i)
        unfolding is_lacking is_marked any up_from
        id_lacks {a} {from} i low p f =
            let z : i ≡ 0 → ⊥ = λ (e : i ≡ 0). omega arith in
            let begin : start_of (key_entries b) (entry_for b.keys D.form) + (i - 1) ≡ from + (i - 1) = omega (arith, f, ap (start_of (key_entries b)) d.entry) in
            let one : from + (i - 1) + 1 - (from + (i - 1)) ≡ 1 = omega arith in
            rw (ne_eqb i 0 z, begin, one, or-false (get_or (marks slots) (from + (i - 1)) false), p, d.each)

        ids_same : {a : Bool} {from : ℕ} (n m i : ℕ) → 1 ≤ i → a ≡ is_asked_in x D → from ≡ start_of (key_entries b) r.entry → (rest : List Break)
            → id_breaks r a (marks slots) (get_or flags r.each []) from n (up_from m i) rest ≡ want_breaks b x n (map (want D) (up_from m i)) rest
        unfolding id_breaks want_breaks up_from
        ids_same n zero i low p f rest = refl
        ids_same n (suc m) i low p f rest = rw (ids_same n m (suc i) (omega arith) p f rest, id_lacks i low p f, d.cell, d.rule)

        pub ids_puts : {a : Bool} {from : ℕ} (n : ℕ) {o o' : Lent} → a ≡ is_asked_in x D → from ≡ start_of (key_entries b) r.entry
            → Puts (id_breaks r a (marks slots) (get_or flags r.each []) from n (up_from 64 1)) 64 o o' → Puts (want_breaks b x n (wants_of D)) (length (wants_of D)) o o'
        ids_puts {a} {from} n p f h = alike (λ rest. ids_same n 64 1 (omega arith) p f rest ∙ ap (λ (ws : List Want). want_breaks b x n ws rest) (sym ids_wants)) (sym ids_many) h
