-- What holds of a list holds of one with other guesses. Assumes nothing.
use mathlib.Core.Path.{◌≡◌, refl, sym, ap, subst⁻¹, ◌∙◌}
use mathlib.Core.List.{List}
use Prim.Native.Nat.{ℕ, zero, suc, ◌+◌, ◌≤◌, ◌<◌}
use native.Mathlib.Omega.{arith}
use lib.Seq.{get_or-set_other}
use lib.ListN.{get_or, set, length-set}
use Rattle.text_bytes.specs.Bytes.{Bytes, same, first_kept}
use Rattle.line_head_stamps.specs.Stamps.{DOORS, ASKS, STARTS, ENDS, GUESSES, branch, name_at, hash_of, forked}
use Rattle.line_head_stamps.specs.Ways.{Guessed, Way, Doors, Goes, Known, Noted, first_named, Adds}
use Rattle.line_head_stamps.proofs.Laws.Asking.{hash_below}
use Rattle.line_head_stamps.proofs.Laws.Passing.{way_range, way_stays}

pub guessed_none : (t : List ℕ) → Guessed t t
guessed_none t = record { places = refl; kept = λ i l. refl }

pub guessed_one : (t : List ℕ) (i x : ℕ) → GUESSES ≤ i → Guessed t (set t i x)
guessed_one t i x l = record { places = length-set t i x; kept = λ j m. get_or-set_other t i j x 0 (omega arith) }

pub guessed_both : {t u v : List ℕ} → Guessed t u → Guessed u v → Guessed t v
guessed_both g h = record { places = h.places ∙ g.places; kept = λ i l. h.kept i l ∙ g.kept i l }

back : {t t' : List ℕ} → Guessed t t' → Guessed t' t
back g = record { places = sym g.places; kept = λ i l. sym (g.kept i l) }

way_kept : {t t' : List ℕ} {m : ℕ} {z : Bytes} {e d : ℕ} → Guessed t t' → m ≤ 254 → d < GUESSES → Way t m z e d → Way t' m z e d
way_kept {t} {t'} {m} g few l w = way_stays t t' m m (omega arith) (λ f s a b c. g.kept (branch f s) (omega arith)) (λ f a. g.kept (ASKS + f) (omega arith)) w (λ c. g.kept _ l)

module _ {t t' : List ℕ} {m : ℕ} (g : Guessed t t') (few : m ≤ 254) where
  pub ways_kept : {z : Bytes} (at from : ℕ) → at < GUESSES → from < GUESSES → ((e : ℕ) → Way t m z e at → Way t m z e from) → (e : ℕ) → Way t' m z e at → Way t' m z e from
  ways_kept at from l k h e w = way_kept g few k (h e (way_kept (back g) few l w))

  pub doors_kept : Doors t m → Doors t' m
  doors_kept d =
      record {
        holds = λ f s l k. rw (g.kept (branch f s) (omega arith)) (d.holds f s l k);
        rises = λ f s l k. rw (g.kept (branch f s) (omega arith)) (d.rises f s l k);
      }

  pub goes_kept : {name : Bytes} {from door : ℕ} → from < GUESSES → Goes t m name from door → Goes t' m name from door
  goes_kept {name} {from} {door} l w =
      record {
        low = w.low;
        high = w.high;
        holds = rw (g.kept door (omega (arith, w.high))) w.holds;
        rises = rw (g.kept door (omega (arith, w.high)), g.kept from l) w.rises;
        way = ways_kept door from (omega (arith, w.high)) l w.way;
      }

  module _ (n : ℕ) (line : Bytes) where
    name_kept : (j : ℕ) → j < m → name_at t' line j ≡ name_at t line j
    unfolding name_at
    name_kept j l = rw (g.kept (STARTS + j) (omega arith), g.kept (ENDS + j) (omega arith))

    known_kept : {z : Bytes} → Known t n line m z → Known t' n line m z
    known_kept {z} k =
        let h = hash_below z in
        let d = (way_range k.way (omega arith) (omega (arith, h))).1 in
        let same : get_or t' k.door 0 ≡ get_or t k.door 0 = g.kept k.door (omega (arith, d)) in
        record {
          stamped = g.kept (hash_of z) (omega (arith, h)) ∙ k.stamped;
          door = k.door;
          way = way_kept g few (omega (arith, h)) k.way;
          ends = omega (arith, same, k.ends);
          equal = ap (name_at t' line) same ∙ name_kept (get_or t k.door 0) k.ends ∙ k.equal;
          first = λ j l q. k.first j (omega (arith, l, same)) (sym (name_kept j (omega (arith, l, same, k.ends))) ∙ q);
        }

    pub noted_kept : Noted t n line m → Noted t' n line m
    noted_kept d =
        record {
          places = g.places ∙ d.places;
          starts = λ j l. rw (g.kept (STARTS + j) (omega arith), g.kept (ENDS + j) (omega arith)) (d.starts j l);
          ends = λ j l. rw (g.kept (ENDS + j) (omega arith)) (d.ends j l);
          doors = doors_kept d.doors;
          known = λ j l. rw (name_kept j l) (known_kept (d.known j l));
        }

    named_kept : (z : Bytes) (k : ℕ) → k ≤ m → first_named t' line z k ≡ first_named t line z k
    unfolding first_named
    named_kept z zero l = refl
    named_kept z (suc k) l = rw (named_kept z k (omega arith), name_kept k (omega arith))

    -- what is added to the list with other guesses is added to the first
    pub adds_kept : {u v : List ℕ} {x : Bytes} {first : ℕ} → u ≡ v → Adds t' v n line m x first → Adds t u n line m x first
    adds_kept {u} {v} {x} {first} e added =
        let a = subst⁻¹ (λ (w : List ℕ). Adds t' w n line m x first) e added in
        record {
          answer = a.answer ∙ named_kept x m (omega arith);
          noted = a.noted;
          names = λ z. a.names z ∙ ap (λ (f : ℕ). first_kept f (same z x) (m + 2)) (named_kept z m (omega arith));
        }

-- what is written, with the same said in other words
pub stamp_written : {t u : List ℕ} {h k : ℕ} (n m : ℕ) → t ≡ u → h ≡ k → set (set t h n) (DOORS + h) m ≡ set (set u k n) (DOORS + k) m
stamp_written n m e f = rw (e, f)

pub fork_written : {t u : List ℕ} {s r : ℕ} (d m ask : ℕ) → t ≡ u → s ≡ r → forked t d m ask s ≡ forked u d m ask r
fork_written d m ask e f = rw (e, f)
