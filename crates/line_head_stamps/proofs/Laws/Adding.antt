-- A name is added to the first ones: as the first of its stamp, as one that came before, at a door that is free, or behind a fork of its own. Assumes nothing.
use mathlib.Core.Path.{◌≡◌, refl, sym, ap, subst, ◌∙◌}
use mathlib.Core.Bool.{Bool, true, false}
use mathlib.Core.List.{List}
use mathlib.Core.Logic.{inl, inr}
use Prim.Native.Nat.{ℕ, ◌+◌, ◌-◌, ◌/◌, ◌≤◌, ◌<◌}
use native.Mathlib.Omega.{arith}
use lib.Dec.{eqb}
use lib.Seq.{get_or-set_same, get_or-set_other}
use lib.ListN.{length, get_or, set, length-set}
use borrow.Author.Tests.{eqb-true, eqb-false}
use Rattle.text_bytes.specs.Bytes.{Bytes}
use Rattle.text_bytes.specs.Places.{part}
use Rattle.line_head_stamps.specs.Stamps.{DOORS, BRANCHES, ASKS, ROOM, IsDoor, branch, name_at, hash_of, side_of, entered, forked}
use Rattle.line_head_stamps.specs.Ways.{Way, here, Astray, Known, Noted, Adds}
use Rattle.line_head_stamps.proofs.Laws.Asking.{hash_below, side_below}
use Rattle.line_head_stamps.proofs.Laws.Passing.{way_first, way_one, way_range, way_side, way_on}
use Rattle.line_head_stamps.proofs.Laws.Naming.{named_one, named_none, named_more}
use Rattle.line_head_stamps.proofs.Laws.Writing.{entered_length, entered_other, entered_own, forked_length, forked_other, forked_ask, forked_their, forked_door}
use Rattle.line_head_stamps.proofs.Laws.Noting.{Turned, Grows, names_stay, name_new, way_grown, known_stays, noted_more}

module _ {t : List ℕ} {n : ℕ} {line : Bytes} {m : ℕ} (noted : Noted t n line m) (few : m ≤ 254) (start end : ℕ) (up : start ≤ end) (within : end ≤ length line) where
  -- a place of the first m, below the questions, is as it was
  entered_old : (i : ℕ) → i < branch m 0 → get_or (entered t m start end) i 0 ≡ get_or t i 0
  entered_old i l = entered_other t m start end i (omega arith) (omega arith) (λ k. omega (arith, k))

  root_below : (z : Bytes) → DOORS + hash_of z < branch m 0
  root_below z = omega (arith, hash_below z)

  -- THE FIRST OF ITS STAMP
  module _ (x : Bytes) (named : part start end line ≡ x) (none : get_or t (hash_of x) 0 ≡ n → IsDoor m (get_or t (DOORS + hash_of x) 0) → ⊥) where
    fresh : List ℕ
    fresh = set (set (entered t m start end) (hash_of x) n) (DOORS + hash_of x) m

    fresh_other : (i : ℕ) → (i ≡ hash_of x → ⊥) → (i ≡ DOORS + hash_of x → ⊥) → get_or fresh i 0 ≡ get_or (entered t m start end) i 0
    unfolding fresh
    fresh_other i a b = get_or-set_other (set (entered t m start end) (hash_of x) n) (DOORS + hash_of x) i m 0 b ∙ get_or-set_other (entered t m start end) (hash_of x) i n 0 a

    fresh_stamp : get_or fresh (hash_of x) 0 ≡ n
    unfolding fresh
    fresh_stamp =
        get_or-set_other (set (entered t m start end) (hash_of x) n) (DOORS + hash_of x) (hash_of x) m 0 (omega arith)
        ∙ get_or-set_same (entered t m start end) (hash_of x) n 0 (omega (arith, hash_below x, entered_length t m start end, noted.places))

    fresh_length : length fresh ≡ ROOM
    unfolding fresh
    fresh_length = length-set (set (entered t m start end) (hash_of x) n) (DOORS + hash_of x) m ∙ length-set (entered t m start end) (hash_of x) n ∙ entered_length t m start end ∙ noted.places

    fresh_door : get_or fresh (DOORS + hash_of x) 0 ≡ m
    unfolding fresh
    fresh_door = get_or-set_same (set (entered t m start end) (hash_of x) n) (DOORS + hash_of x) m 0 (omega (arith, hash_below x, length-set (entered t m start end) (hash_of x) n, entered_length t m start end, noted.places))

    fresh_grows : Grows t fresh n line m start end
    fresh_grows =
        record {
          places = fresh_length;
          rest = λ i l ne. fresh_other i (omega (arith, hash_below x)) (omega (arith, hash_below x));
          own = λ s l. omega (arith, fresh_other (branch m s) (omega (arith, hash_below x)) (omega (arith, hash_below x)), entered_own t m start end noted.places few s l);
          stamps = λ h l q. stamps h l q (eqb h (hash_of x)) refl;
          doors = λ f s l k. inl (fresh_other (branch f s) (omega (arith, hash_below x)) (omega (arith, hash_below x)) ∙ entered_old (branch f s) (omega arith));
        }
      where
        stamps : (h : ℕ) → h < DOORS → get_or t h 0 ≡ n → (b : Bool) → eqb h (hash_of x) ≡ b → get_or fresh h 0 ≡ n
        stamps h l q true e = rw (eqb-true h (hash_of x) e) fresh_stamp
        stamps h l q false e = fresh_other h (eqb-false h (hash_of x) e) (omega arith) ∙ entered_old h (omega arith) ∙ q

    -- no name before it has its stamp
    apart : (j : ℕ) → j < m → hash_of (name_at t line j) ≡ hash_of x → ⊥
    apart j l e =
        let k = noted.known j l in
        none (rw e at k.stamped) (rw e at (way_first k.way k.ends few))

    fresh_known : Known fresh n line (m + 1) x
    fresh_known =
        record {
          stamped = fresh_stamp;
          door = DOORS + hash_of x;
          way = here;
          ends = omega (arith, fresh_door);
          equal = ap (λ (j : ℕ). name_at fresh line j) fresh_door ∙ name_new noted few fresh_grows ∙ named;
          first = λ j l q. let k : j < m = omega (arith, l, fresh_door) in apart j k (ap hash_of (sym (names_stay noted few fresh_grows j k) ∙ q));
        }

    pub adds_first : Adds t (set (set (entered t m start end) (hash_of x) n) (DOORS + hash_of x) m) n line m x 0
    unfolding fresh
    adds_first =
        record {
          answer = sym (named_none t line x m (λ j l e. apart j l (ap hash_of e)));
          noted = noted_more noted few fresh_grows up within (name_new noted few fresh_grows ∙ named) (λ j l. inl (fresh_other (DOORS + hash_of (name_at t line j)) (omega (arith, hash_below x)) (λ e. apart j l (omega (arith, e))) ∙ entered_old (DOORS + hash_of (name_at t line j)) (root_below (name_at t line j)))) fresh_known;
          names = named_more t fresh line x m (names_stay noted few fresh_grows) (name_new noted few fresh_grows ∙ named);
        }

  -- A WAY ENDS at a door, and the name behind it is equal or not
  module _ (x : Bytes) (named : part start end line ≡ x) (stamped : get_or t (hash_of x) 0 ≡ n) (d : ℕ) (way : Way t m x d (DOORS + hash_of x)) (ends : get_or t d 0 < m) where
    -- it came before
    entered_grows : Grows t (entered t m start end) n line m start end
    entered_grows =
        record {
          places = entered_length t m start end ∙ noted.places;
          rest = λ i l ne. refl;
          own = λ s l. omega (arith, entered_own t m start end noted.places few s l);
          stamps = λ h l q. entered_old h (omega arith) ∙ q;
          doors = λ f s l k. inl (entered_old (branch f s) (omega arith));
        }

    pub adds_again : name_at t line (get_or t d 0) ≡ x → Adds t (entered t m start end) n line m x (get_or t d 0 + 2)
    adds_again equal =
        let before : Known t n line m x = rw equal at (noted.known (get_or t d 0) ends) in
        let door : before.door ≡ d = way_one before.way (omega (arith, before.ends)) way (omega (arith, ends)) in
        record {
          answer = named_one t line x m (get_or t d 0) ends equal (rw door at before.first);
          noted = noted_more noted few entered_grows up within (name_new noted few entered_grows ∙ named) (λ j l. inl (entered_old (DOORS + hash_of (name_at t line j)) (root_below (name_at t line j)))) (known_stays noted few entered_grows before (inl (entered_old (DOORS + hash_of x) (root_below x))));
          names = named_more t (entered t m start end) line x m (names_stay noted few entered_grows) (name_new noted few entered_grows ∙ named);
        }

    -- an equal name before it would have led to the same door
    meet : Known t n line m x → name_at t line (get_or t d 0) ≡ x
    meet k = subst (λ (i : ℕ). name_at t line (get_or t i 0) ≡ x) (way_one k.way (omega (arith, k.ends)) way (omega (arith, ends))) k.equal

    door_range : (DOORS ≤ d) × (d < branch m 0)
    door_range = way_range way (omega arith) (root_below x)

    long : length (entered t m start end) ≡ ROOM
    long = entered_length t m start end ∙ noted.places

    -- it is new, and takes a door at which no way of an earlier name ends
    module _ (differ : name_at t line (get_or t d 0) ≡ x → ⊥) (astray : Astray t d (name_at t line (get_or t d 0))) where
      over : List ℕ
      over = set (entered t m start end) d m

      over_other : (i : ℕ) → (i ≡ d → ⊥) → get_or over i 0 ≡ get_or (entered t m start end) i 0
      unfolding over
      over_other i ne = get_or-set_other (entered t m start end) d i m 0 ne

      over_door : get_or over d 0 ≡ m
      unfolding over
      over_door = get_or-set_same (entered t m start end) d m 0 (omega (arith, long, door_range.1))

      over_length : length over ≡ ROOM
      unfolding over
      over_length = length-set (entered t m start end) d m ∙ long

      -- a name whose way ends there would be that behind it, and on its side
      free : {z : Bytes} (k : Known t n line m z) → k.door ≡ d → ⊥
      free {z} k e =
          let equal : name_at t line (get_or t d 0) ≡ z = rw e at k.equal in
          let side = way_side k.way (λ (h : BRANCHES ≤ DOORS + hash_of z). absurd (omega (arith, hash_below z, h))) (omega (arith, e, astray.branched)) in
          astray.other (ap (side_of (get_or t (ASKS + (d - BRANCHES) / 16) 0)) equal ∙ rw e at side)

      over_turned : (i : ℕ) → i < branch m 0 → Turned t over n line m i
      over_turned i l = go (eqb i d) refl
        where
          go : (b : Bool) → eqb i d ≡ b → Turned t over n line m i
          go true e = rw (eqb-true i d e) (inr (inr (record { was = omega (arith, ends); now = over_door; free = free })))
          go false e = inl (over_other i (eqb-false i d e) ∙ entered_old i l)

      over_grows : Grows t over n line m start end
      over_grows =
          record {
            places = over_length;
            rest = λ i l ne. over_other i (omega (arith, door_range.1));
            own = λ s l. omega (arith, over_other (branch m s) (omega (arith, door_range.1)), entered_own t m start end noted.places few s l);
            stamps = λ h l q. over_other h (omega (arith, door_range.0)) ∙ entered_old h (omega arith) ∙ q;
            doors = λ f s l k. over_turned (branch f s) (omega arith);
          }

      fresh_name : (j : ℕ) → j < m → name_at t line j ≡ x → ⊥
      fresh_name j l e = differ (meet (rw e at (noted.known j l)))

      over_known : Known over n line (m + 1) x
      over_known =
          record {
            stamped = over_grows.stamps (hash_of x) (hash_below x) stamped;
            door = d;
            way = way_grown noted few over_grows way (over_turned (DOORS + hash_of x) (root_below x));
            ends = omega (arith, over_door);
            equal = ap (λ (j : ℕ). name_at over line j) over_door ∙ name_new noted few over_grows ∙ named;
            first = λ j l q. let k : j < m = omega (arith, l, over_door) in fresh_name j k (sym (names_stay noted few over_grows j k) ∙ q);
          }

      pub adds_over : Adds t (set (entered t m start end) d m) n line m x 0
      unfolding over
      adds_over =
          record {
            answer = sym (named_none t line x m fresh_name);
            noted = noted_more noted few over_grows up within (name_new noted few over_grows ∙ named) (λ j l. over_turned (DOORS + hash_of (name_at t line j)) (root_below (name_at t line j))) over_known;
            names = named_more t over line x m (names_stay noted few over_grows) (name_new noted few over_grows ∙ named);
          }

    -- it is new, and gets a fork
    module _ (ask : ℕ) (differ : side_of ask x ≡ side_of ask (name_at t line (get_or t d 0)) → ⊥) where
      their : ℕ
      their = side_of ask (name_at t line (get_or t d 0))

      their_below : their < 16
      unfolding their
      their_below = side_below ask (name_at t line (get_or t d 0))

      grown : List ℕ
      grown = forked (entered t m start end) d m ask their

      grown_old : (i : ℕ) → i < branch m 0 → (i ≡ d → ⊥) → get_or grown i 0 ≡ get_or t i 0
      unfolding grown
      grown_old i l ne = forked_other (entered t m start end) d m ask their i (omega arith) (omega arith) ne ∙ entered_old i l

      grown_ask : get_or grown (ASKS + m) 0 ≡ ask
      unfolding grown
      grown_ask = forked_ask (entered t m start end) d m ask their long few door_range.1 their_below

      grown_door : get_or grown d 0 ≡ 256 + m
      unfolding grown
      grown_door = forked_door (entered t m start end) d m ask their long few door_range.1 their_below

      -- one side holds what the door held, all others the name
      grown_their : get_or grown (branch m their) 0 ≡ get_or t d 0
      unfolding grown
      grown_their = forked_their (entered t m start end) d m ask their long few door_range.1 their_below ∙ entered_old d door_range.1

      grown_side : (s : ℕ) → s < 16 → (s ≡ their → ⊥) → get_or grown (branch m s) 0 ≡ m
      unfolding grown
      grown_side s l ne =
          forked_other (entered t m start end) d m ask their (branch m s) (omega arith) (λ e. ne (omega (arith, e))) (omega (arith, door_range.1))
          ∙ entered_own t m start end noted.places few s l

      grown_own : get_or grown (branch m (side_of ask x)) 0 ≡ m
      unfolding their
      grown_own = grown_side (side_of ask x) (side_below ask x) differ

      grown_turned : (i : ℕ) → i < branch m 0 → Turned t grown n line m i
      unfolding their
      grown_turned i l = go (eqb i d) refl
        where
          go : (b : Bool) → eqb i d ≡ b → Turned t grown n line m i
          go true e = rw (eqb-true i d e) (inr (inl (record { was = omega (arith, ends); fork = grown_door; side = rw grown_ask grown_their })))
          go false e = inl (grown_old i l (eqb-false i d e))

      grown_grows : Grows t grown n line m start end
      unfolding grown
      grown_grows =
          record {
            places = places;
            rest = rest;
            own = λ s l. side s l (eqb s their) refl;
            stamps = λ h l q. grown_old h (omega arith) (omega (arith, door_range.0)) ∙ q;
            doors = λ f s l k. grown_turned (branch f s) (omega arith);
          }
        where
          places : length grown ≡ ROOM
          places = forked_length (entered t m start end) d m ask their ∙ long

          rest : (i : ℕ) → ASKS ≤ i → (i ≡ ASKS + m → ⊥) → get_or grown i 0 ≡ get_or (entered t m start end) i 0
          rest i l ne = forked_other (entered t m start end) d m ask their i ne (omega (arith, their_below)) (omega (arith, door_range.1))

          side : (s : ℕ) → s < 16 → (b : Bool) → eqb s their ≡ b → get_or grown (branch m s) 0 ≤ m
          side s l true e = rw (eqb-true s their e) (omega (arith, grown_their, ends))
          side s l false e = omega (arith, grown_side s l (eqb-false s their e))

      new : (j : ℕ) → j < m → name_at t line j ≡ x → ⊥
      new j l e = differ (ap (side_of ask) (sym (meet (rw e at (noted.known j l)))))

      grown_known : Known grown n line (m + 1) x
      grown_known =
          record {
            stamped = grown_grows.stamps (hash_of x) (hash_below x) stamped;
            door = branch m (side_of ask x);
            way = rw grown_ask at (way_on m (way_grown noted few grown_grows way (grown_turned (DOORS + hash_of x) (root_below x))) grown_door (omega arith));
            ends = omega (arith, grown_own);
            equal = ap (λ (j : ℕ). name_at grown line j) grown_own ∙ name_new noted few grown_grows ∙ named;
            first = λ j l q. let k : j < m = omega (arith, l, grown_own) in new j k (sym (names_stay noted few grown_grows j k) ∙ q);
          }

      pub adds_fork : Adds t (forked (entered t m start end) d m ask (side_of ask (name_at t line (get_or t d 0)))) n line m x 0
      unfolding grown their
      adds_fork =
          record {
            answer = sym (named_none t line x m new);
            noted = noted_more noted few grown_grows up within (name_new noted few grown_grows ∙ named) (λ j l. grown_turned (DOORS + hash_of (name_at t line j)) (root_below (name_at t line j))) grown_known;
            names = named_more t grown line x m (names_stay noted few grown_grows) (name_new noted few grown_grows ∙ named);
          }
