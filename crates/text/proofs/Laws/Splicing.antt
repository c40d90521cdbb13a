-- Other bytes in place of a cell of a line, and of a line of a file: what the cells and the lines are then. Assumes nothing.
use mathlib.Core.Path.{◌≡◌, refl, sym, ap, ◌∙◌}
use mathlib.Core.Bool.{Bool, true, false, cond, ◌&&◌, and-false, and-true}
use mathlib.Core.List.{List, [], ◌∷◌, ◌++◌, append_assoc, append-nil}
use Prim.Native.Nat.{ℕ, zero, suc, ◌+◌, ◌-◌, ◌≤◌, ◌<◌}
use native.Mathlib.Omega.{arith}
use lib.Dec.{eqb}
use borrow.Author.Tests.{eqb-true}
use lib.ListN.{length, take, drop, get_or, set, length-set, take-append-drop}
use lib.Seq.{drop-cons, drop-drop, drop-nil, take-add, take-take, drop-append-le}
use Rattle.text_bytes.specs.Bytes.{Bytes, any, is_empty, on_first, split_on}
use Rattle.text_bytes.specs.Places.{after}
use Rattle.text_bytes.proofs.Laws.Tests.{absurd_bool, and_both, or_none}
use Rattle.text_bytes.proofs.Laws.Each.{split_some}
use Rattle.text.specs.Lines.{TAB, LF, CR, starts_lf, lines, cells}
use Rattle.text.specs.Edits.{splice, has, Edit, edited_line, edited_file}

-- A PIECE

pub has_none : (b x : ℕ) (xs : Bytes) → has b (x ∷ xs) ≡ false → (eqb x b ≡ false) × (has b xs ≡ false)
unfolding any
has_none b x xs h = or_none (eqb x b) (has b xs) h

module _ (b : ℕ) where
  -- bytes before the first piece, where that is empty
  pub front : (new rest : Bytes) (ps : List Bytes) → has b new ≡ false → split_on b rest ≡ [] ∷ ps → split_on b (new ++ rest) ≡ new ∷ ps
  unfolding split_on on_first
  front [] rest ps h e = e
  front (x ∷ xs) rest ps h e = rw ((has_none b x xs h).0, front xs rest ps (has_none b x xs h).1 e)

  pub pieces : (l : Bytes) → (ps : List Bytes) → split_on b l ≡ ps → (p : Bytes) × ((qs : List Bytes) × (split_on b l ≡ p ∷ qs))
  pieces l [] e = absurd (split_some b l (rw e))
  pieces l (p ∷ ps) e = (p, (ps, e))

  -- what is left after the first piece
  first_rest : (l : Bytes) → split_on b (drop (length (get_or (split_on b l) 0 [])) l) ≡ set (split_on b l) 0 []
  unfolding split_on on_first
  first_rest [] = refl
  first_rest (x ∷ xs) = go (eqb x b) refl (pieces xs (split_on b xs) refl) (first_rest xs)
    where
      go : (t : Bool) → eqb x b ≡ t → ((p : Bytes) × ((qs : List Bytes) × (split_on b xs ≡ p ∷ qs))) → split_on b (drop (length (get_or (split_on b xs) 0 [])) xs) ≡ set (split_on b xs) 0 []
          → split_on b (drop (length (get_or (split_on b (x ∷ xs)) 0 [])) (x ∷ xs)) ≡ set (split_on b (x ∷ xs)) 0 []
      go true e q ih = rw (e, e)
      go false e q ih = rw (e, q.1.1) (rw q.1.1 at ih)

  pub piece_spliced : (new : Bytes) → has b new ≡ false → (l : Bytes) (k : ℕ) → k < length (split_on b l)
      → split_on b (splice (after b k l) (get_or (split_on b l) k []) new l) ≡ set (split_on b l) k new
  unfolding split_on on_first after
  piece_spliced new h l zero lt = go (pieces l (split_on b l) refl)
    where
      go : ((p : Bytes) × ((qs : List Bytes) × (split_on b l ≡ p ∷ qs))) → split_on b (new ++ drop (length (get_or (split_on b l) 0 [])) l) ≡ set (split_on b l) 0 new
      go q = front new (drop (length (get_or (split_on b l) 0 [])) l) q.1.0 h (first_rest l ∙ rw q.1.1) ∙ rw q.1.1
  piece_spliced new h [] (suc k) lt = absurd (omega arith)
  piece_spliced new h (x ∷ xs) (suc k) lt = go (eqb x b) refl (pieces xs (split_on b xs) refl) (piece_spliced new h xs k) (piece_spliced new h xs (suc k))
    where
      go : (t : Bool) → eqb x b ≡ t → ((p : Bytes) × ((qs : List Bytes) × (split_on b xs ≡ p ∷ qs)))
          → (k < length (split_on b xs) → split_on b (splice (after b k xs) (get_or (split_on b xs) k []) new xs) ≡ set (split_on b xs) k new)
          → (suc k < length (split_on b xs) → split_on b (splice (after b (suc k) xs) (get_or (split_on b xs) (suc k) []) new xs) ≡ set (split_on b xs) (suc k) new)
          → split_on b (splice (after b (suc k) (x ∷ xs)) (get_or (split_on b (x ∷ xs)) (suc k) []) new (x ∷ xs)) ≡ set (split_on b (x ∷ xs)) (suc k) new
      go true e q i j = let a : k < length (split_on b xs) = omega (arith, rw e at lt) in rw (e, i a)
      go false e q i j = let a : suc k < length (split_on b xs) = rw q.1.1 (rw (e, q.1.1) at lt) in rw (e, q.1.1) (ap (on_first x) (rw q.1.1 at (j a)))

-- A LINE

-- whether the last byte is CR
unfoldable pub ends_cr : Bytes → Bool
ends_cr [] = false
ends_cr (x ∷ xs) = cond (is_empty xs) (eqb x CR) (ends_cr xs)

-- what may stand after a line, and the lines that follow: nothing, LF (then the line does not end in CR), CR LF
pub data Tail (t : Bool) : Bytes → List Bytes → Type 0 where
  nothing : Tail t [] []
  lf : (rest : Bytes) → t ≡ false → Tail t (LF ∷ rest) (lines rest)
  crlf : (rest : Bytes) → Tail t (CR ∷ (LF ∷ rest)) (lines rest)

-- a byte that is no LF, and no CR before one, stands in front of a line
pub lines_on : (x : ℕ) (xs : Bytes) → eqb x LF ≡ false → (eqb x CR && starts_lf xs) ≡ false → lines (x ∷ xs) ≡ on_first x (lines xs)
unfolding lines
lines_on x xs e f = rw (e, f)

lines_lf : (x : ℕ) (xs : Bytes) → eqb x LF ≡ true → lines (x ∷ xs) ≡ [] ∷ lines xs
unfolding lines
lines_lf x xs e = rw e

lines_cr : (x : ℕ) (xs : Bytes) → eqb x LF ≡ false → (eqb x CR && starts_lf xs) ≡ true → lines (x ∷ xs) ≡ lines xs
unfolding lines
lines_cr x xs e f = rw (e, f)

lines_none : length (lines []) ≡ 0
unfolding lines
lines_none = refl

lines_few : (x : ℕ) → length (lines (x ∷ [])) ≤ 1
unfolding lines on_first starts_lf
lines_few x = rw (and-false (eqb x CR)) (go (eqb x LF))
  where
    go : (t : Bool) → length (cond t ([] ∷ []) ((x ∷ []) ∷ [])) ≤ 1
    go true = omega arith
    go false = omega arith

after_none : (s : Bytes) → after LF 0 s ≡ 0
unfolding after
after_none s = refl

after_lf : (k x : ℕ) (xs : Bytes) → eqb x LF ≡ true → after LF (suc k) (x ∷ xs) ≡ suc (after LF k xs)
unfolding after
after_lf k x xs e = rw e

after_on : (k x : ℕ) (xs : Bytes) → eqb x LF ≡ false → after LF (suc k) (x ∷ xs) ≡ suc (after LF (suc k) xs)
unfolding after
after_on k x xs e = rw e

-- the first byte stays where a later line is another
starts_spliced : (k y : ℕ) (ys old m : Bytes) → starts_lf (splice (after LF (suc k) (y ∷ ys)) old m (y ∷ ys)) ≡ starts_lf (y ∷ ys)
unfolding after starts_lf
starts_spliced k y ys old m = refl

-- a line, and what stands after it, are a line and those that follow
pub lines_front : (m : Bytes) {rest : Bytes} {ls : List Bytes} → has LF m ≡ false → is_empty m ≡ false → Tail (ends_cr m) rest ls → lines (m ++ rest) ≡ m ∷ ls
unfolding lines on_first starts_lf ends_cr is_empty
lines_front [] h s t = absurd_bool (sym s)
lines_front (x ∷ []) h s nothing = rw ((has_none LF x [] h).0, and-false (eqb x CR))
lines_front (x ∷ []) h s (lf rest e) = rw ((has_none LF x [] h).0, e)
lines_front (x ∷ []) h s (crlf rest) = rw ((has_none LF x [] h).0, and-false (eqb x CR))
lines_front (x ∷ (y ∷ ys)) {rest} h s t =
    let q = has_none LF x (y ∷ ys) h in
    lines_on x ((y ∷ ys) ++ rest) q.0 (rw (has_none LF y ys q.1).0 (and-false (eqb x CR))) ∙ ap (on_first x) (lines_front (y ∷ ys) q.1 refl t)

-- the first line of a text: what stands after it, and the lines that follow
record FirstLine (f : Bytes) : Type 0 where
  first : Bytes
  follow : List Bytes
  cut : lines f ≡ first ∷ follow
  tail : Tail (ends_cr first) (drop (length first) f) follow
  bytes : take (length first) f ≡ first
  free : has LF first ≡ false

tail_on : (x : ℕ) (l : Bytes) {rest : Bytes} {ls : List Bytes} → (l ≡ [] → (eqb x CR && starts_lf rest) ≡ false) → Tail (ends_cr l) rest ls → Tail (ends_cr (x ∷ l)) rest ls
unfolding ends_cr is_empty starts_lf
tail_on x [] h nothing = nothing
tail_on x [] h (lf rest e) = lf rest (sym (and-true (eqb x CR)) ∙ h refl)
tail_on x [] h (crlf rest) = crlf rest
tail_on x (y ∷ ys) h t = t

-- a line that ends in CR only where another does may stand in its place
pub tail_for : (t u : Bool) {rest : Bytes} {ls : List Bytes} → (u ≡ true → t ≡ true) → Tail t rest ls → Tail u rest ls
tail_for t u h nothing = nothing
tail_for t true h (lf rest e) = absurd_bool (sym e ∙ h refl)
tail_for t false h (lf rest e) = lf rest refl
tail_for t u h (crlf rest) = crlf rest

first_line : (x : ℕ) (xs : Bytes) → FirstLine (x ∷ xs)
unfolding lines on_first starts_lf ends_cr is_empty any
first_line x [] = go (eqb x LF) refl
  where
    go : (t : Bool) → eqb x LF ≡ t → FirstLine (x ∷ [])
    go true e = record { first = []; follow = []; cut = rw e; tail = rw (eqb-true x LF e) (lf [] refl); bytes = refl; free = refl }
    go false e = record { first = x ∷ []; follow = []; cut = rw (e, and-false (eqb x CR)); tail = nothing; bytes = refl; free = rw e }
first_line x (y ∷ ys) = go (eqb x LF) (eqb x CR && eqb y LF) refl refl (first_line y ys)
  where
    go : (t u : Bool) → eqb x LF ≡ t → (eqb x CR && eqb y LF) ≡ u → FirstLine (y ∷ ys) → FirstLine (x ∷ (y ∷ ys))
    go true u e d r = record { first = []; follow = lines (y ∷ ys); cut = rw e; tail = rw (eqb-true x LF e) (lf (y ∷ ys) refl); bytes = refl; free = refl }
    go false true e d r =
        let a = and_both (eqb x CR) (eqb y LF) d in
        record { first = []; follow = lines ys; cut = rw (e, d, a.1); tail = rw (eqb-true x CR a.0, eqb-true y LF a.1) (crlf ys); bytes = refl; free = refl }
    go false false e d r = record {
      first = x ∷ r.first;
      follow = r.follow;
      cut = lines_on x (y ∷ ys) e d ∙ rw r.cut;
      tail = tail_on x r.first (λ z. rw z d) r.tail;
      bytes = ap (λ (l : Bytes). x ∷ l) r.bytes;
      free = rw (e, r.free);
    }

module _ (m : Bytes) (free : has LF m ≡ false) (some : is_empty m ≡ false) where
  pub line_spliced : (f : Bytes) (k : ℕ) → k < length (lines f) → (ends_cr m ≡ true → ends_cr (get_or (lines f) k []) ≡ true)
      → lines (splice (after LF k f) (get_or (lines f) k []) m f) ≡ set (lines f) k m
  unfolding on_first
  line_spliced [] k lt h = absurd (omega (arith, lines_none))
  line_spliced (x ∷ xs) zero lt h =
      let r = first_line x xs in
      rw (after_none (x ∷ xs), r.cut) (lines_front m free some (tail_for (ends_cr r.first) (ends_cr m) (rw r.cut at h) r.tail))
  line_spliced (x ∷ []) (suc k) lt h = absurd (omega (arith, lines_few x))
  line_spliced (x ∷ (y ∷ ys)) (suc k) lt h = go (eqb x LF) (eqb x CR && starts_lf (y ∷ ys)) refl refl (line_spliced (y ∷ ys) k) (line_spliced (y ∷ ys) (suc k))
    where
      xs : Bytes
      xs = y ∷ ys

      Spliced : ℕ → Type 0
      Spliced i = i < length (lines xs) → (ends_cr m ≡ true → ends_cr (get_or (lines xs) i []) ≡ true) → lines (splice (after LF i xs) (get_or (lines xs) i []) m xs) ≡ set (lines xs) i m

      go : (t u : Bool) → eqb x LF ≡ t → (eqb x CR && starts_lf xs) ≡ u → Spliced k → Spliced (suc k)
          → lines (splice (after LF (suc k) (x ∷ xs)) (get_or (lines (x ∷ xs)) (suc k) []) m (x ∷ xs)) ≡ set (lines (x ∷ xs)) (suc k) m
      go true u e d i j =
          rw (lines_lf x xs e, after_lf k x xs e)
          (lines_lf x (splice (after LF k xs) (get_or (lines xs) k []) m xs) e ∙ ap (λ (l : List Bytes). [] ∷ l) (i (omega (arith, rw (lines_lf x xs e) at lt)) (rw (lines_lf x xs e) at h)))
      go false true e d i j =
          rw (lines_cr x xs e d, after_on k x xs e)
          (lines_cr x (splice (after LF (suc k) xs) (get_or (lines xs) (suc k) []) m xs) e (rw (starts_spliced k y ys (get_or (lines xs) (suc k) []) m) d)
          ∙ j (rw (lines_cr x xs e d) at lt) (rw (lines_cr x xs e d) at h))
      go false false e d i j =
          let r = first_line y ys in
          let T = splice (after LF (suc k) xs) (get_or (lines xs) (suc k) []) m xs in
          let b : suc k < length (lines xs) = rw r.cut (rw (lines_on x xs e d, r.cut) at lt) in
          let g : ends_cr m ≡ true → ends_cr (get_or (lines xs) (suc k) []) ≡ true = rw r.cut (rw (lines_on x xs e d, r.cut) at h) in
          let q : lines (x ∷ T) ≡ on_first x (set (lines xs) (suc k) m) = lines_on x T e (rw (starts_spliced k y ys (get_or (lines xs) (suc k) []) m) d) ∙ ap (on_first x) (j b g) in
          rw (lines_on x xs e d, after_on k x xs e, r.cut) (rw r.cut at q)

-- WHERE LINES AND CELLS STAND

-- a piece ends within the text
pub piece_fits : (b : ℕ) (l : Bytes) (k : ℕ) → k < length (split_on b l) → after b k l + length (get_or (split_on b l) k []) ≤ length l
unfolding split_on on_first after
piece_fits b [] zero lt = omega arith
piece_fits b [] (suc k) lt = absurd (omega arith)
piece_fits b (x ∷ xs) k lt = go k lt (eqb x b) refl (pieces b xs (split_on b xs) refl) (piece_fits b xs)
  where
    go : (k : ℕ) → k < length (split_on b (x ∷ xs)) → (t : Bool) → eqb x b ≡ t → ((p : Bytes) × ((qs : List Bytes) × (split_on b xs ≡ p ∷ qs)))
        → ((j : ℕ) → j < length (split_on b xs) → after b j xs + length (get_or (split_on b xs) j []) ≤ length xs)
        → after b k (x ∷ xs) + length (get_or (split_on b (x ∷ xs)) k []) ≤ suc (length xs)
    go zero a true e q ih = rw e (omega arith)
    go zero a false e q ih = rw (e, q.1.1) (omega (arith, rw q.1.1 at (ih 0 (rw q.1.1 (omega arith)))))
    go (suc k) a true e q ih = rw e (omega (arith, ih k (omega (arith, rw e at a))))
    go (suc k) a false e q ih =
        let lt : suc k < length (split_on b xs) = rw q.1.1 (rw (e, q.1.1) at a) in
        rw (e, q.1.1) (omega (arith, rw q.1.1 at (ih (suc k) lt)))

-- the lines from line k on
lines_drop : (f : Bytes) (k : ℕ) → k < length (lines f) → lines (drop (after LF k f) f) ≡ drop k (lines f)
unfolding on_first
lines_drop f zero lt = rw (after_none f)
lines_drop [] (suc k) lt = absurd (omega (arith, lines_none))
lines_drop (x ∷ xs) (suc k) lt = go (eqb x LF) (eqb x CR && starts_lf xs) refl refl (lines xs) refl (lines_drop xs k) (lines_drop xs (suc k))
  where
    Drops : ℕ → Type 0
    Drops i = i < length (lines xs) → lines (drop (after LF i xs) xs) ≡ drop i (lines xs)

    go : (t u : Bool) → eqb x LF ≡ t → (eqb x CR && starts_lf xs) ≡ u → (ls : List Bytes) → lines xs ≡ ls → Drops k → Drops (suc k)
        → lines (drop (after LF (suc k) (x ∷ xs)) (x ∷ xs)) ≡ drop (suc k) (lines (x ∷ xs))
    go true u e d ls q i j = rw (lines_lf x xs e, after_lf k x xs e) (i (omega (arith, rw (lines_lf x xs e) at lt)))
    go false true e d ls q i j = rw (lines_cr x xs e d, after_on k x xs e) (j (rw (lines_cr x xs e d) at lt))
    go false false e d [] q i j = absurd (omega (arith, rw (lines_on x xs e d, q) at lt))
    go false false e d (l ∷ ls) q i j =
        let b : suc k < length (lines xs) = rw q (rw (lines_on x xs e d, q) at lt) in
        rw (lines_on x xs e d, after_on k x xs e, q) (rw q at (j b))

-- a line stands where it begins, and has no LF
pub record At (f line : Bytes) (k : ℕ) : Type 0 where
  pub bytes : take (length line) (drop (after LF k f) f) ≡ line
  pub free : has LF line ≡ false

pub line_at : (f : Bytes) (k : ℕ) → k < length (lines f) → At f (get_or (lines f) k []) k
line_at f k lt = go (drop (after LF k f) f) refl
  where
    all : lines (drop (after LF k f) f) ≡ get_or (lines f) k [] ∷ drop (suc k) (lines f)
    all = lines_drop f k lt ∙ drop-cons (lines f) k [] lt

    go : (g : Bytes) → drop (after LF k f) f ≡ g → At f (get_or (lines f) k []) k
    go [] e = absurd (omega (arith, lines_none, ap length (rw e at all)))
    go (x ∷ xs) e =
        let r = first_line x xs in
        let q : r.first ≡ get_or (lines f) k [] = ap (λ (ls : List Bytes). get_or ls 0 []) (sym r.cut ∙ rw e at all) in
        record { bytes = rw (e, ← q) r.bytes; free = rw (← q) r.free }

-- A BYTE THAT A TEXT HAS NOT

module _ (b : ℕ) where
  pub has_append : (xs ys : Bytes) → has b xs ≡ false → has b ys ≡ false → has b (xs ++ ys) ≡ false
  unfolding any
  has_append [] ys h g = g
  has_append (x ∷ xs) ys h g = rw ((has_none b x xs h).0, has_append xs ys (has_none b x xs h).1 g)

  has_take : (n : ℕ) (xs : Bytes) → has b xs ≡ false → has b (take n xs) ≡ false
  unfolding any
  has_take zero xs h = refl
  has_take (suc n) [] h = refl
  has_take (suc n) (x ∷ xs) h = rw ((has_none b x xs h).0, has_take n xs (has_none b x xs h).1)

  has_drop : (n : ℕ) (xs : Bytes) → has b xs ≡ false → has b (drop n xs) ≡ false
  has_drop zero xs h = h
  has_drop (suc n) [] h = h
  has_drop (suc n) (x ∷ xs) h = has_drop n xs (has_none b x xs h).1

-- THE LAST BYTE

pub ends_free : (xs : Bytes) → has CR xs ≡ false → ends_cr xs ≡ false
unfolding ends_cr is_empty
ends_free [] h = refl
ends_free (x ∷ []) h = (has_none CR x [] h).0
ends_free (x ∷ (y ∷ ys)) h = ends_free (y ∷ ys) (has_none CR x (y ∷ ys) h).1

pub ends_append : (xs ys : Bytes) → ends_cr (xs ++ ys) ≡ cond (is_empty ys) (ends_cr xs) (ends_cr ys)
unfolding ends_cr is_empty
ends_append [] [] = refl
ends_append [] (y ∷ ys) = refl
ends_append (x ∷ []) [] = refl
ends_append (x ∷ []) (y ∷ ys) = refl
ends_append (x ∷ (z ∷ zs)) ys = ends_append (z ∷ zs) ys

ends_drop : (n : ℕ) (l : Bytes) → is_empty (drop n l) ≡ false → ends_cr (drop n l) ≡ ends_cr l
unfolding ends_cr is_empty
ends_drop zero l h = refl
ends_drop (suc n) [] h = refl
ends_drop (suc n) (x ∷ []) h = absurd_bool (sym h ∙ rw (drop-nil n))
ends_drop (suc n) (x ∷ (y ∷ ys)) h = ends_drop n (y ∷ ys) h

count_on : (b x : ℕ) (xs : Bytes) → eqb x b ≡ false → length (split_on b (x ∷ xs)) ≡ length (split_on b xs)
unfolding split_on on_first
count_on b x xs e = let q = pieces b xs (split_on b xs) refl in rw (e, q.1.1)

-- what stands before a cell after the first ends in a tab
ends_tab : (l : Bytes) (k : ℕ) → suc k < length (cells l) → ends_cr (take (after TAB (suc k) l) l) ≡ false
unfolding split_on on_first after is_empty ends_cr
ends_tab [] k lt = absurd (omega arith)
ends_tab (x ∷ []) k lt = go (eqb x TAB) refl k lt
  where
    go : (t : Bool) → eqb x TAB ≡ t → (k : ℕ) → suc k < length (cells (x ∷ [])) → ends_cr (take (after TAB (suc k) (x ∷ [])) (x ∷ [])) ≡ false
    go true e zero a = rw (eqb-true x TAB e)
    go true e (suc k) a = absurd (omega (arith, rw e at a))
    go false e k a = absurd (omega (arith, rw e at a))
ends_tab (x ∷ (y ∷ ys)) k lt = go (eqb x TAB) refl k lt (ends_tab (y ∷ ys))
  where
    go : (t : Bool) → eqb x TAB ≡ t → (k : ℕ) → suc k < length (cells (x ∷ (y ∷ ys)))
        → ((j : ℕ) → suc j < length (cells (y ∷ ys)) → ends_cr (take (after TAB (suc j) (y ∷ ys)) (y ∷ ys)) ≡ false)
        → ends_cr (take (after TAB (suc k) (x ∷ (y ∷ ys))) (x ∷ (y ∷ ys))) ≡ false
    go true e zero a ih = rw (eqb-true x TAB e)
    go true e (suc k) a ih = rw e (ih k (omega (arith, rw e at a)))
    go false e k a ih = rw e (ih k (omega (arith, count_on TAB x (y ∷ ys) e)))

-- other bytes without CR after a tab: where the line then ends in CR, it did before
ends_spliced : (a : ℕ) (old new l : Bytes) → ends_cr (take a l) ≡ false → has CR new ≡ false → ends_cr (splice a old new l) ≡ true → ends_cr l ≡ true
unfolding is_empty
ends_spliced a old new l h free e = go (drop (length old) (drop a l)) refl
  where
    neither : (t : Bool) → cond t false false ≡ false
    neither true = refl
    neither false = refl

    go : (s : Bytes) → drop (length old) (drop a l) ≡ s → ends_cr l ≡ true
    go [] q = absurd_bool (sym (neither (is_empty new)) ∙ rw (q, append-nil new, ends_append (take a l) new, h, ends_free new free) at e)
    go (x ∷ xs) q =
        let d : drop (a + length old) l ≡ x ∷ xs = sym (drop-drop (length old) a l) ∙ q in
        let f : ends_cr (x ∷ xs) ≡ ends_cr l = rw d at (ends_drop (a + length old) l (rw d)) in
        sym f ∙ rw (q, ← append_assoc (take a l) new (x ∷ xs), ends_append (take a l ++ new) (x ∷ xs)) at e

-- A CELL OF A LINE OF A FILE

-- the cell's bytes in the line, and the line's in the file
pub splice_splice : (s a : ℕ) (line old new f : Bytes) → take (length line) (drop s f) ≡ line → a + length old ≤ length line
    → splice (s + a) old new f ≡ splice s line (splice a old new line) f
splice_splice s a line old new f e h =
    let g = drop s f in
    let all : line ++ drop (length line) g ≡ g = rw e at (take-append-drop (length line) g) in
    let t : take a line ≡ take a g = rw (← e) (take-take a (length line) g (omega arith)) in
    let d : drop (length old) (drop a line) ++ drop (length line) g ≡ drop (length old) (drop a g) =
    rw (drop-drop (length old) a line, drop-drop (length old) a g) (sym (drop-append-le (a + length old) line (drop (length line) g) h) ∙ ap (drop (a + length old)) all) in
    rw (take-add s a f, ← drop-drop a s f, t) (simp (append_assoc, d))

cells_some : (l : Bytes) → 1 < length (cells l) → is_empty l ≡ false
unfolding split_on is_empty
cells_some [] h = absurd (omega arith)
cells_some (x ∷ xs) h = refl

module _ {file : Bytes} {n c : ℕ} {new : Bytes} (e : Edit file n c new) where
  abbrev line : Bytes
  line = get_or (lines file) (n - 1) []

  abbrev line' : Bytes
  line' = edited_line c new line

  -- the line has the same cells but cell c
  pub edited_cells : cells line' ≡ set (cells line) (c - 1) new
  edited_cells = piece_spliced TAB new e.no_tab line (c - 1) (omega (arith, e.cell_low, e.cell_high))

  pub edited_some : is_empty line' ≡ false
  edited_some = cells_some line' (omega (arith, ap length edited_cells, length-set (cells line) (c - 1) new, e.cell_low, e.cell_high))

  -- the file has the same lines but line n
  pub edited_lines : lines (edited_file n c new file) ≡ set (lines file) (n - 1) line'
  edited_lines =
      let at = line_at file (n - 1) (omega (arith, e.line_low, e.line_high)) in
      let lt : c - 1 < length (cells line) = omega (arith, e.cell_low, e.cell_high) in
      let a = after TAB (c - 1) line in
      let old = get_or (cells line) (c - 1) [] in
      let j : c - 1 ≡ suc (c - 2) = omega (arith, e.cell_low) in
      let tab : ends_cr (take a line) ≡ false = rw j (ends_tab line (c - 2) (omega (arith, e.cell_low, e.cell_high))) in
      rw (splice_splice (after LF (n - 1) file) a line old new file at.bytes (piece_fits TAB line (c - 1) lt))
      (line_spliced line' (has_append LF (take a line) (new ++ drop (length old) (drop a line)) (has_take LF a line at.free) (has_append LF new (drop (length old) (drop a line)) e.no_lf (has_drop LF (length old) (drop a line) (has_drop LF a line at.free)))) edited_some
      file (n - 1) (omega (arith, e.line_low, e.line_high)) (ends_spliced a old new line tab e.no_cr))
