-- The way of a name through forks. Assumes nothing.
use mathlib.Core.Path.{◌≡◌, refl, sym, ap, subst, ◌∙◌}
use mathlib.Core.Bool.{Bool, true, false, cond}
use mathlib.Core.List.{List}
use Prim.Native.Nat.{ℕ, ◌+◌, ◌-◌, ◌/◌, ◌%◌, ◌≤◌, ◌<◌}
use native.Mathlib.Omega.{arith}
use lib.Dec.{ltb}
use lib.ListN.{get_or}
use borrow.Author.Tests.{le-ltb, ltb-false}
use Rattle.text_bytes.specs.Bytes.{Bytes}
use Rattle.line_head_stamps.specs.Stamps.{DOORS, BRANCHES, ASKS, IsDoor, branch, side_of}
use Rattle.line_head_stamps.specs.Ways.{Way, here, on, Doors, Goes}
use Rattle.line_head_stamps.proofs.Laws.Asking.{side_below}

-- how far a way can go on from a door that holds this: forks rise, and a name ends it
pub rank : ℕ → ℕ
rank held = cond (ltb held 256) 0 (512 - held)

pub rank_falls : (held next : ℕ) → 256 ≤ held → held < 512 → (256 ≤ next → held < next) → rank next < rank held
unfolding rank
rank_falls held next l h rises = rw (le-ltb held 256 l) (go (ltb next 256) refl)
  where
    go : (b : Bool) → ltb next 256 ≡ b → cond b 0 (512 - next) < 512 - held
    go true e = omega arith
    go false e = omega (arith, rises (ltb-false next 256 e))

-- a door of a fork is on the side of the name
abbrev Aside : List ℕ → Bytes → ℕ → Type 0
Aside t z i = side_of (get_or t (ASKS + (i - BRANCHES) / 16) 0) z ≡ (i - BRANCHES) % 16

-- a way that ends at a name begins at a door
pub way_first : {t : List ℕ} {m : ℕ} {z : Bytes} {e d : ℕ} → Way t m z e d → get_or t e 0 < m → m ≤ 254 → IsDoor m (get_or t d 0)
way_first here l k = (omega arith, omega arith)
way_first (on f q g w) l k = (omega arith, omega arith)

-- it ends at one door only
pub way_one : {t : List ℕ} {m : ℕ} {z : Bytes} {e e' d : ℕ} → Way t m z e d → get_or t e 0 < 256 → Way t m z e' d → get_or t e' 0 < 256 → e ≡ e'
way_one here l here l' = refl
way_one here l (on f q g w) l' = absurd (omega arith)
way_one (on f q g w) l here l' = absurd (omega arith)
way_one {t} {m} {z} {e} {e'} (on f q g w) l (on f' q' g' w') l' =
    let same : f' ≡ f = omega arith in
    way_one w l (subst (λ (k : ℕ). Way t m z e' (branch k (side_of (get_or t (ASKS + k) 0) z))) same w') l'

-- what holds of its first door and of those of all forks holds of its last
pub way_last : {t : List ℕ} {m : ℕ} {z : Bytes} {e d : ℕ} (P : ℕ → Type 0) → Way t m z e d → P d → ((f s : ℕ) → f < m → s < 16 → P (branch f s)) → P e
way_last P here p q = p
way_last {t} {m} {z} P (on f e l w) p q = way_last P w (q f (side_of (get_or t (ASKS + f) 0) z) l (side_below (get_or t (ASKS + f) 0) z)) q

-- its last door is that of a stamp, or of one of the forks
pub way_range : {t : List ℕ} {m : ℕ} {z : Bytes} {e d : ℕ} → Way t m z e d → DOORS ≤ d → d < branch m 0 → (DOORS ≤ e) × (e < branch m 0)
way_range {t} {m} w low high = way_last (λ (i : ℕ). (DOORS ≤ i) × (i < branch m 0)) w (low, high) (λ f s l k. (omega arith, omega arith))

-- behind a fork it goes by the door of the name's own side
pub way_side : {t : List ℕ} {m : ℕ} {z : Bytes} {e d : ℕ} → Way t m z e d → (BRANCHES ≤ d → Aside t z d) → BRANCHES ≤ e → Aside t z e
way_side here p = p
way_side {t} {m} {z} (on f q l w) p = way_side w (λ (h : BRANCHES ≤ branch f (side_of (get_or t (ASKS + f) 0) z)). turned)
  where
    below : side_of (get_or t (ASKS + f) 0) z < 16
    below = side_below (get_or t (ASKS + f) 0) z

    turned : Aside t z (branch f (side_of (get_or t (ASKS + f) 0) z))
    turned =
        let a : (branch f (side_of (get_or t (ASKS + f) 0) z) - BRANCHES) / 16 ≡ f = omega (arith, below) in
        let b : (branch f (side_of (get_or t (ASKS + f) 0) z) - BRANCHES) % 16 ≡ side_of (get_or t (ASKS + f) 0) z = omega (arith, below) in
        ap (λ (k : ℕ). side_of (get_or t (ASKS + k) 0) z) a ∙ sym b

-- a fork more
pub way_on : {t : List ℕ} {m : ℕ} {z : Bytes} {e d : ℕ} (f : ℕ) → Way t m z e d → get_or t e 0 ≡ 256 + f → f < m → Way t m z (branch f (side_of (get_or t (ASKS + f) 0) z)) d
way_on f here q l = on f q l here
way_on f (on g p k w) q l = on g p k (way_on f w q l)

-- it stays where the forks that it passes stay
module _ (t t' : List ℕ) (m m' : ℕ) (more : m ≤ m')
    (forks : (f s : ℕ) → f < m → s < 16 → 256 ≤ get_or t (branch f s) 0 → get_or t' (branch f s) 0 ≡ get_or t (branch f s) 0)
    (asks : (f : ℕ) → f < m → get_or t' (ASKS + f) 0 ≡ get_or t (ASKS + f) 0) where
  pub way_stays : {z : Bytes} {e d : ℕ} → Way t m z e d → (256 ≤ get_or t d 0 → get_or t' d 0 ≡ get_or t d 0) → Way t' m' z e d
  way_stays here s = here
  way_stays {z} (on f q l w) s =
      let ask = get_or t (ASKS + f) 0 in
      on f (s (omega arith) ∙ q) (omega arith) (rw (asks f l) (way_stays w (forks f (side_of ask z) l (side_below ask z))))

-- A FORK IS HELD that a way from `from` leads to: the name's door there
abbrev pub onward : List ℕ → Bytes → ℕ → ℕ
onward t name held = branch (held - 256) (side_of (get_or t (ASKS + (held - 256)) 0) name)

abbrev pub Leads : List ℕ → ℕ → Bytes → ℕ → ℕ → Type 0
Leads t m name from held = (256 ≤ held) × IsDoor m held × (get_or t from 0 ≤ held) × ((e : ℕ) → Way t m name e (onward t name held) → Way t m name e from)

-- it does from a door that holds it, and from one whence a way goes to such a door
module _ {t : List ℕ} {m held : ℕ} {name : Bytes} (at : ℕ) (low : 256 ≤ held) (door : IsDoor m held) (holds : get_or t at 0 ≡ held) where
  through : (e : ℕ) → Way t m name e (onward t name held) → Way t m name e at
  through e w = on {door = at} (held - 256) (omega (arith, holds)) (omega (arith, door)) w

  pub leads_first : Leads t m name at held
  leads_first = (low, door, omega (arith, holds), through)

  pub leads_on : {from : ℕ} → Goes t m name from at → Leads t m name from held
  leads_on g = (low, door, omega (arith, g.rises (omega (arith, holds)), holds), λ e w. g.way e (through e w))

module _ {t : List ℕ} {m from held : ℕ} {name : Bytes} (fork side : ℕ) (doors : Doors t m) (few : m ≤ 254) (leads : Leads t m name from held) (f : fork ≡ held - 256) (s : side ≡ side_of (get_or t (ASKS + fork) 0) name) where
  sixteen : side < 16
  sixteen = rw s (side_below (get_or t (ASKS + fork) 0) name)

  came : fork < m
  came = omega (arith, f, leads.1, leads.0)

  -- what the name's door there holds has a higher number
  pub door_rises : 256 ≤ get_or t (branch fork side) 0 → held < get_or t (branch fork side) 0
  door_rises h = omega (arith, doors.rises fork side came sixteen h, f, leads.0)

  pub goes_door : Goes t m name from (branch fork side)
  goes_door =
      record {
        low = omega arith;
        high = omega (arith, sixteen, came, few);
        holds = doors.holds fork side came sixteen;
        rises = λ h. omega (arith, door_rises h, leads.2);
        way = λ e w. leads.3 e (rw (s, f) at w);
      }

-- SOME FORKS are passed from a door on
abbrev pub Near : List ℕ → ℕ → Bytes → ℕ → ℕ → ℕ → Type 0
Near t m name from door passed =
    (DOORS ≤ door) × (door < ASKS) × IsDoor m (get_or t door 0) × ((e : ℕ) → Way t m name e door → Way t m name e from) × (256 ≤ get_or t door 0 → get_or t from 0 ≤ get_or t door 0) × (0 < passed → 256 ≤ get_or t door 0 → get_or t from 0 < get_or t door 0)

module _ {t : List ℕ} {m from : ℕ} {name : Bytes} where
  pub near_first : DOORS ≤ from → from < ASKS → IsDoor m (get_or t from 0) → Near t m name from from 0
  near_first l h d = (l, h, d, λ e w. w, λ f. omega arith, λ z f. absurd (omega (arith, z)))

  pub near_next : {door next passed : ℕ} → Near t m name from door passed → 256 ≤ get_or t door 0 → Goes t m name door next → Near t m name from next (passed + 1)
  near_next n f g = (g.low, g.high, g.holds, λ e w. n.3 e (g.way e w), λ h. omega (arith, g.rises h, n.4 f), λ z h. omega (arith, g.rises h, n.4 f))

  pub near_goes : {door passed : ℕ} → Near t m name from door passed → (256 ≤ get_or t door 0 → 0 < passed) → Goes t m name from door
  near_goes n f = record { low = n.0; high = n.1; holds = n.2; rises = λ h. n.5 (f h) h; way = n.3 }
