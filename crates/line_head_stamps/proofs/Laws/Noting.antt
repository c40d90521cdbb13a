-- The first names are noted, and one more with them: it is the first of its stamp, or came before, or gets a fork of its own. Assumes nothing.
use mathlib.Core.Path.{◌≡◌, refl, sym, ◌∙◌}
use mathlib.Core.List.{List}
use mathlib.Core.Logic.{◌⊎◌, ⊎_elim}
use Prim.Native.Nat.{ℕ, ◌+◌, ◌≤◌, ◌<◌}
use native.Mathlib.Nat.{not-suc-le-zero, eq-or-lt_of_le}
use native.Mathlib.Omega.{arith}
use lib.ListN.{length, get_or}
use Rattle.text_bytes.specs.Bytes.{Bytes}
use Rattle.text_bytes.specs.Places.{part}
use Rattle.line_head_stamps.specs.Stamps.{DOORS, ASKS, STARTS, ENDS, ROOM, IsDoor, branch, name_at, hash_of, side_of, entered}
use Rattle.line_head_stamps.specs.Ways.{Way, Known, Noted}
use Rattle.line_head_stamps.proofs.Laws.Asking.{hash_below}
use Rattle.line_head_stamps.proofs.Laws.Passing.{way_last, way_on, way_stays}
use Rattle.line_head_stamps.proofs.Laws.Writing.{entered_other, entered_start, entered_end}

-- no name is noted, whatever the list holds
pub noted_none : (t : List ℕ) (n : ℕ) (line : Bytes) → length t ≡ ROOM → Noted t n line 0
noted_none t n line room =
    record {
      places = room;
      starts = λ j l. absurd (not-suc-le-zero l);
      ends = λ j l. absurd (not-suc-le-zero l);
      doors = record { holds = λ f s l. absurd (not-suc-le-zero l); rises = λ f s l. absurd (not-suc-le-zero l) };
      known = λ j l. absurd (not-suc-le-zero l);
    }

-- a door that held a name leads to fork m, and that name is on its side there
pub record Split (t t' : List ℕ) (line : Bytes) (m i : ℕ) : Type 0 where
  pub was : get_or t i 0 < 256
  pub fork : get_or t' i 0 ≡ 256 + m
  pub side : get_or t' (branch m (side_of (get_or t' (ASKS + m) 0) (name_at t line (get_or t i 0)))) 0 ≡ get_or t i 0

-- a door at which no known name's way ends holds name m
pub record Taken (t t' : List ℕ) (n : ℕ) (line : Bytes) (m i : ℕ) : Type 0 where
  pub was : get_or t i 0 < 256
  pub now : get_or t' i 0 ≡ m
  pub free : {z : Bytes} (k : Known t n line m z) → k.door ≡ i → ⊥

-- a door holds what it held, leads to fork m, or holds name m
abbrev pub Turned : List ℕ → List ℕ → ℕ → Bytes → ℕ → ℕ → Type 0
Turned t t' n line m i = (get_or t' i 0 ≡ get_or t i 0) ⊎ (Split t t' line m i ⊎ Taken t t' n line m i)

-- name number m is entered, and of the first m no more is changed than doors that lead to fork m or hold name m
pub record Grows (t t' : List ℕ) (n : ℕ) (line : Bytes) (m start end : ℕ) : Type 0 where
  pub places : length t' ≡ ROOM
  pub rest : (i : ℕ) → ASKS ≤ i → (i ≡ ASKS + m → ⊥) → get_or t' i 0 ≡ get_or (entered t m start end) i 0
  pub own : (s : ℕ) → s < 16 → get_or t' (branch m s) 0 ≤ m
  pub stamps : (h : ℕ) → h < DOORS → get_or t h 0 ≡ n → get_or t' h 0 ≡ n
  pub doors : (f s : ℕ) → f < m → s < 16 → Turned t t' n line m (branch f s)

module _ {t t' : List ℕ} {n : ℕ} {line : Bytes} {m start end : ℕ} (noted : Noted t n line m) (few : m ≤ 254) (grows : Grows t t' n line m start end) where
  starts_stay : (j : ℕ) → j < m → get_or t' (STARTS + j) 0 ≡ get_or t (STARTS + j) 0
  starts_stay j l = grows.rest (STARTS + j) (omega arith) (omega arith) ∙ entered_other t m start end (STARTS + j) (omega arith) (omega arith) (λ k. omega arith)

  ends_stay : (j : ℕ) → j < m → get_or t' (ENDS + j) 0 ≡ get_or t (ENDS + j) 0
  ends_stay j l = grows.rest (ENDS + j) (omega arith) (omega arith) ∙ entered_other t m start end (ENDS + j) (omega arith) (omega arith) (λ k. omega arith)

  asks_stay : (f : ℕ) → f < m → get_or t' (ASKS + f) 0 ≡ get_or t (ASKS + f) 0
  asks_stay f l = grows.rest (ASKS + f) (omega arith) (omega arith) ∙ entered_other t m start end (ASKS + f) (omega arith) (omega arith) (λ k. omega arith)

  pub names_stay : (j : ℕ) → j < m → name_at t' line j ≡ name_at t line j
  unfolding name_at
  names_stay j l = rw (starts_stay j l, ends_stay j l)

  start_new : get_or t' (STARTS + m) 0 ≡ start
  start_new = grows.rest (STARTS + m) (omega arith) (omega arith) ∙ entered_start t m start end noted.places few

  end_new : get_or t' (ENDS + m) 0 ≡ end
  end_new = grows.rest (ENDS + m) (omega arith) (omega arith) ∙ entered_end t m start end noted.places few

  pub name_new : name_at t' line m ≡ part start end line
  unfolding name_at
  name_new = rw (start_new, end_new)

  -- the doors of the first m forks, and of fork m
  doors_old : (f s : ℕ) → f < m → s < 16 → IsDoor (m + 1) (get_or t' (branch f s) 0) × (256 ≤ get_or t' (branch f s) 0 → 256 + f < get_or t' (branch f s) 0)
  doors_old f s l k = ⊎_elim same (⊎_elim split taken) (grows.doors f s l k)
    where
      same : get_or t' (branch f s) 0 ≡ get_or t (branch f s) 0 → IsDoor (m + 1) (get_or t' (branch f s) 0) × (256 ≤ get_or t' (branch f s) 0 → 256 + f < get_or t' (branch f s) 0)
      same q = rw q ((omega (arith, noted.doors.holds f s l k), omega (arith, noted.doors.holds f s l k)), noted.doors.rises f s l k)

      split : Split t t' line m (branch f s) → IsDoor (m + 1) (get_or t' (branch f s) 0) × (256 ≤ get_or t' (branch f s) 0 → 256 + f < get_or t' (branch f s) 0)
      split q = rw q.fork ((omega arith, omega arith), λ h. omega arith)

      taken : Taken t t' n line m (branch f s) → IsDoor (m + 1) (get_or t' (branch f s) 0) × (256 ≤ get_or t' (branch f s) 0 → 256 + f < get_or t' (branch f s) 0)
      taken q = rw q.now ((omega arith, omega arith), λ h. omega arith)

  doors_new : (f s : ℕ) → f < m + 1 → s < 16 → IsDoor (m + 1) (get_or t' (branch f s) 0) × (256 ≤ get_or t' (branch f s) 0 → 256 + f < get_or t' (branch f s) 0)
  doors_new f s l k =
      ⊎_elim (λ (q : f ≡ m). rw q ((omega (arith, grows.own s k), omega (arith, grows.own s k)), λ h. omega (arith, h, grows.own s k)))
      (λ (q : f < m). doors_old f s q k)
      (eq-or-lt_of_le (omega arith))

  -- a way of the first m
  pub way_grown : {z : Bytes} {e d : ℕ} → Way t m z e d → Turned t t' n line m d → Way t' (m + 1) z e d
  way_grown {z} {e} {d} w q = way_stays t t' m (m + 1) (omega arith) (λ f s l k. kept (branch f s) (grows.doors f s l k)) asks_stay w (kept d q)
    where
      kept : (i : ℕ) → Turned t t' n line m i → 256 ≤ get_or t i 0 → get_or t' i 0 ≡ get_or t i 0
      kept i q h = ⊎_elim (λ (e : get_or t' i 0 ≡ get_or t i 0). e) (⊎_elim (λ (s : Split t t' line m i). absurd (omega (arith, s.was, h))) (λ (s : Taken t t' n line m i). absurd (omega (arith, s.was, h)))) q

  -- a known name stays known
  pub known_stays : {z : Bytes} → Known t n line m z → Turned t t' n line m (DOORS + hash_of z) → Known t' n line (m + 1) z
  known_stays {z} k q = ⊎_elim same (⊎_elim split (λ (s : Taken t t' n line m k.door). absurd (s.free k refl))) (way_last (Turned t t' n line m) k.way q grows.doors)
    where
      way : Way t' (m + 1) z k.door (DOORS + hash_of z)
      way = way_grown k.way q

      stamped : get_or t' (hash_of z) 0 ≡ n
      stamped = grows.stamps (hash_of z) (hash_below z) k.stamped

      -- what stands before it is as it was
      earlier : (j : ℕ) → j < get_or t k.door 0 → name_at t' line j ≡ z → ⊥
      earlier j l q = k.first j l (sym (names_stay j (omega (arith, l, k.ends))) ∙ q)

      same : get_or t' k.door 0 ≡ get_or t k.door 0 → Known t' n line (m + 1) z
      same e =
          record {
            stamped = stamped;
            door = k.door;
            way = way;
            ends = omega (arith, e, k.ends);
            equal = rw e (names_stay (get_or t k.door 0) k.ends ∙ k.equal);
            first = λ j l q. earlier j (omega (arith, l, e)) q;
          }

      split : Split t t' line m k.door → Known t' n line (m + 1) z
      split s =
          let b = branch m (side_of (get_or t' (ASKS + m) 0) z) in
          let e : get_or t' b 0 ≡ get_or t k.door 0 = rw k.equal at s.side in
          record {
            stamped = stamped;
            door = b;
            way = way_on m way s.fork (omega arith);
            ends = omega (arith, e, k.ends);
            equal = rw e (names_stay (get_or t k.door 0) k.ends ∙ k.equal);
            first = λ j l q. earlier j (omega (arith, l, e)) q;
          }

  -- one more is noted
  pub noted_more : {x : Bytes} → start ≤ end → end ≤ length line → name_at t' line m ≡ x → ((j : ℕ) → j < m → Turned t t' n line m (DOORS + hash_of (name_at t line j))) → Known t' n line (m + 1) x → Noted t' n line (m + 1)
  noted_more s e named roots new =
      record {
        places = grows.places;
        starts = λ j l. ⊎_elim (λ (q : j ≡ m). rw q (omega (arith, start_new, end_new))) (λ (q : j < m). omega (arith, starts_stay j q, ends_stay j q, noted.starts j q)) (eq-or-lt_of_le (omega arith));
        ends = λ j l. ⊎_elim (λ (q : j ≡ m). rw q (omega (arith, end_new))) (λ (q : j < m). omega (arith, ends_stay j q, noted.ends j q)) (eq-or-lt_of_le (omega arith));
        doors = record { holds = λ f s l k. (doors_new f s l k).0; rises = λ f s l k. (doors_new f s l k).1 };
        known = λ j l. ⊎_elim (λ (q : j ≡ m). rw (q, named) new) (λ (q : j < m). rw (names_stay j q) (known_stays (noted.known j q) (roots j q))) (eq-or-lt_of_le (omega arith));
      }
