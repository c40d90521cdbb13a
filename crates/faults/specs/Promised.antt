-- What `judge`, and `mztab_faults`, promise of a file: n is the number, k the count, ys the lent records before and zs after. Assumes nothing.
use Rattle.std.specs.Prelude.{◌≡◌, List, ℕ, ◌≤◌, ◌<◌, length, get_or}
use Rattle.numbers.specs.Numbers.{TOO_LONG}
use Rattle.text_bytes.specs.Bytes.{Bytes}
use Rattle.rules.specs.Breaks.{Break, break_at}
use Rattle.rules.specs.Promised.{IsBroken, Reports}
use Rattle.fault_steps.specs.declared.Fault.{Fault}
use Rattle.fault_steps.specs.Records.{fault_of}

-- of one over the limit
pub record Refused (ys : List Fault) (n k : ℕ) (zs : List Fault) : Type 0 where
  pub number : n ≡ TOO_LONG
  pub count : k ≡ 0
  pub untouched : zs ≡ ys

-- of one within the limit, whose breaks are bs
pub record Promised (file : Bytes) (bs : List Break) (ys : List Fault) (n k : ℕ) (zs : List Fault) : Type 0 where
  pub reports : Reports file bs
  pub number : n ≡ 0
  pub count : k ≡ length bs
  pub none_broken : k ≡ 0 → (l c r f : ℕ) → IsBroken file l c r f → ⊥
  pub accepted : ((l c r f : ℕ) → IsBroken file l c r f → ⊥) → k ≡ 0
  pub long : length zs ≡ length ys
  pub stands : (i : ℕ) → i < k → i < length ys → get_or zs i (fault_of (break_at 0 0 0)) ≡ fault_of (get_or bs i (break_at 0 0 0))
  pub untouched : (d : Fault) (i : ℕ) → k ≤ i → get_or zs i d ≡ get_or ys i d
