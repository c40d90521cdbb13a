-- What `fill` leaves for `Cents::split`. No public contract cites this file. Assumes nothing.
use Rattle.std.specs.Prelude.{ℕ, ◌≤◌, ◌<◌, ◌≡◌, List, length, get_or, Result, Ok, Err}
use Rattle.numbers.specs.declared.Refusal.{Refusal}
use Rattle.numbers.specs.Refusals.{number_of}
use Rattle.fee.specs.declared.Cents.{Cents}
use Rattle.fee_shares.specs.Sums.{at}
use Rattle.fee_shares.specs.Refusals.{MOST_WEIGHTS}
use Rattle.fee.specs.Places.{cents}
use Rattle.fee.specs.Split.{outcome, split_of}

-- a refused call leaves every list of so many places
abbrev pub Leaves : ℕ → List ℕ → ℕ → ℕ → Type 0
Leaves fee ws places n = (ys : List Cents) → length ys ≡ places → outcome n ys ≡ split_of cents fee ws ys

-- a granted one has each share in its place, so a list of so many places that holds them is what the call is to leave
pub record Holds (fee : ℕ) (ws : List ℕ) (places : ℕ) (ps : List ℕ) : Type 0 where
  pub few : places ≤ MOST_WEIGHTS
  pub lays : (ys zs : List Cents) → length ys ≡ places → length zs ≡ places
      → ((i : ℕ) → i < places → get_or zs i (cents.held 0) ≡ cents.held (at ps i)) → outcome 0 zs ≡ split_of cents fee ws ys

-- what goes into a list of so many places
abbrev pub Fills : ℕ → List ℕ → ℕ → Result (List ℕ) Refusal → Type 0
Fills fee ws places (Ok ps) = Holds fee ws places ps
Fills fee ws places (Err e) = Leaves fee ws places (number_of e)
