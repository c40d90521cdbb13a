-- The locals of a function in the context of a walk, computed from the function's own list of them.
--     Held             a local's address, and what lies in it: room, or a value. What lies in a local that is `away` stands elsewhere in the context, as of one that is lent
--     env-of           the environment: each local's type and address
--     here             the context's part for the locals, in the order in which `alloc1` leaves them: the last local first, each one's cell followed by what frees it. So with n locals local i stands at 2 · (n − 1 − i), less one for each local after it that is away
-- Assumes nothing.
use Prim.Native.Nat.{ℕ}
use mathlib.Core.List.{List, [], ◌∷◌}
use seplogic.Ra.Ura.{Ura}
use base.Fraction.{full_share}
use mir.Syntax.{Ty, Local, local}
use mir.Val.{Val}
use base.Fml.{fat, froom, fdies}
use prog.Wp.{Heap, Env}
use types.Kit.{Item, ‵}

pub data Held : Type 0 where
  room : ℕ → Held
  full : ℕ → Val → Held
  away : ℕ → Held

abbrev address : Held → ℕ
address (room b) = b
address (full b v) = b
address (away b) = b

abbrev cell : {M : Type 1} (𝓤 : Ura M) → Ty → Held → List (Item 𝓤) → List (Item 𝓤)
cell 𝓤 τ (room b) Γ = ‵ (froom τ b 0) ∷ Γ
cell 𝓤 τ (full b v) Γ = ‵ (fat full_share τ b 0 v) ∷ Γ
cell 𝓤 τ (away b) Γ = Γ

abbrev pub env_of : {M : Type 1} (𝓤 : Ura M) (H : Heap 𝓤) → List Local → List Held → Env 𝓤 H
env_of 𝓤 H [] hs = []
env_of 𝓤 H (l ∷ ls) [] = []
env_of 𝓤 H (local τ h ∷ ls) (x ∷ hs) = (τ, address x) ∷ env_of 𝓤 H ls hs

abbrev onto : {M : Type 1} (𝓤 : Ura M) → List Local → List Held → List (Item 𝓤) → List (Item 𝓤)
onto 𝓤 [] hs Γ = Γ
onto 𝓤 (l ∷ ls) [] Γ = Γ
onto 𝓤 (local τ h ∷ ls) (x ∷ hs) Γ = onto 𝓤 ls hs (cell 𝓤 τ x (‵ (fdies τ (address x)) ∷ Γ))

abbrev pub here : {M : Type 1} (𝓤 : Ura M) → List Local → List Held → List (Item 𝓤)
here 𝓤 ls hs = onto 𝓤 ls hs []
