-- Steps of a walk in which local arrays are filled and lent whole.
--     says_all         a goal P ∗ R, where R is had for nothing: P is left.        facts2, facts3       two facts, or three, are had for nothing
--     big-lit          a constant whose bound a proof shows
--     init-times       a local is made to hold n times one value
--     times-in         such a local is an array in memory.        array-room   an array in memory is room again
--     lends-all        an array in memory is lent as a `&κ [T]`, with tokens whose lifetimes' meet is within κ and which come back at once.        all_back     and the array comes back when κ is over
--     lends-mut        an array in memory is lent as a `&κ mut [T]`.        mut_back     and comes back when κ is over, at its last value
-- In all of them n is a variable, so no list of n elements is computed.
-- Assumes `Logic`.
use mathlib.Core.Path.{◌≡◌, refl}
use Prim.Native.Nat.{ℕ, zero, suc}
use mathlib.Core.List.{List, [], ◌∷◌}
use lib.ListN.{length, replicate, length-replicate}
use seplogic.Ra.Ura.{Ura}
use base.Fraction.{full_share}
use mir.Syntax.{Lifetime, Width, ty_array, int_big}
use mir.Val.{Val, vint, Fits}
use base.Logic.{SProp, ent, sep, ex, emp, via, comm∗, mono∗, mono_l, emp∗, guard_i}
use base.Fml.{Lft, GName, Incl, fat, froom, fdead, flent}
use ghost.Rules.{Toks, span}
use prog.Wp.{Env}
use types.Logic.{Logic, sem, lfts}
use contract.Monad.{fact, fact_i}
use types.Kit.{Item, prop, Step, step, ‵, raw, ◌⊛◌, some, later, nth, put, ◌$◌, ◌∵◌, !, qed, by, move, drop, use1, use3, split, pick, fsplit, fjoin, feq_i, await, updating, now as at_once, done}
use types.Run.{Opd, Writes, init, forget}
use types.SemTy.{cells, Arr}
use types.Share.{arr_parts}
use types.Tokens.{lent_back}
use denote.RattleType.{RattleType}
use denote.Shadow.{shadow}
use denote.Shares.{SharesAsFrom}
use denote.Laws.{Is, Makes, Lawful, Copy}
use denote.Memory.{lone, mem, part_at, shares, shared_of}
use denote.Array.{each, Array, array_val, Array-repeat, Array-Lawful}
use denote.ArrayMemory.{Single, Array-apart, Array-whole}
use denote.Slice.{slice_val, MutSlice, Room, finally}
use denote.Lend.{Held, LentShrs, lends_slice, slice_back, lends_shr_slice}
use denote.Index.{row, whole_in, whole_out}
use denote.Steps.{owned}
use borrow.Table.OneValue.{part_in, part_out}

pub facts2 : {M : Type 1} (𝓤 : Ura M) {φ ψ : Type 0} → φ → ψ → ent 𝓤 (emp 𝓤) (sep 𝓤 (fact 𝓤 φ) (fact 𝓤 ψ))
facts2 𝓤 {φ} {ψ} x y = via 𝓤 (sep 𝓤 (emp 𝓤) (emp 𝓤)) (emp∗ 𝓤 (emp 𝓤)) (mono∗ 𝓤 (fact_i 𝓤 φ (emp 𝓤) x) (fact_i 𝓤 ψ (emp 𝓤) y))

pub facts3 : {M : Type 1} (𝓤 : Ura M) {φ ψ χ : Type 0} → φ → ψ → χ → ent 𝓤 (emp 𝓤) (sep 𝓤 (fact 𝓤 φ) (sep 𝓤 (fact 𝓤 ψ) (fact 𝓤 χ)))
facts3 𝓤 {φ} x y z = via 𝓤 (sep 𝓤 (emp 𝓤) (emp 𝓤)) (emp∗ 𝓤 (emp 𝓤)) (mono∗ 𝓤 (fact_i 𝓤 φ (emp 𝓤) x) (facts2 𝓤 y z))

pub facts4 : {M : Type 1} (𝓤 : Ura M) {φ ψ χ ω : Type 0} → φ → ψ → χ → ω → ent 𝓤 (emp 𝓤) (sep 𝓤 (fact 𝓤 φ) (sep 𝓤 (fact 𝓤 ψ) (sep 𝓤 (fact 𝓤 χ) (fact 𝓤 ω))))
facts4 𝓤 {φ} w x y z = via 𝓤 (sep 𝓤 (emp 𝓤) (emp 𝓤)) (emp∗ 𝓤 (emp 𝓤)) (mono∗ 𝓤 (fact_i 𝓤 φ (emp 𝓤) w) (facts3 𝓤 x y z))

-- n times one value are n times its machine value
times_is : (R : RattleType) (n : ℕ) (x : R.Denot) (u : Val) → Is R x (u ∷ []) → shadow (each R.Denot R.own_val (replicate n x) (replicate n u))
times_is R zero x u is = tt
times_is R (suc n) x u is = (is, times_is R n x u is)

module _ {M : Type 1} {𝓤 : Ura M} {𝓛 : Logic 𝓤} {K : Type 0} {Γ : List (Item 𝓤)} where
  open 𝓛 use {H}

  pub says_all : K → {P R : SProp 𝓤} → ent 𝓤 (emp 𝓤) R → Step K 𝓛 Γ (prop P) Γ (prop (sep 𝓤 P R))
  says_all t {P} {R} h = step (λ s. record { prf = via 𝓤 P s.prf (via 𝓤 (sep 𝓤 (emp 𝓤) P) (emp∗ 𝓤 P) (via 𝓤 (sep 𝓤 R P) (mono_l 𝓤 P h) (comm∗ 𝓤 R P))) })

  pub big_lit : K → {E : Env 𝓤 H} {w : Width} {n : ℕ} → Fits w n → Opd K 𝓛 Γ E (int_big w n) (vint w n)
  big_lit t {E} {w} {n} z = record { go = λ Kt h. via 𝓤 (Kt (vint w n)) h (guard_i 𝓤 (Fits w n) (Kt (vint w n)) z) }

  pub init_times : K → (i : ℕ) (R : RattleType) → Lawful 𝓛 R → (n : ℕ) (x : R.Denot) (u : Val) {b : ℕ} → Is R x (u ∷ []) → nth 𝓛 i Γ ≡ ‵ (froom (ty_array (lone R.mir) n) b 0)
      → Writes K 𝓛 Γ (ty_array (lone R.mir) n) b 0 (array_val (replicate n u)) (put 𝓛 i (‵ (fat full_share (ty_array (lone R.mir) n) b 0 (array_val (replicate n u)))) Γ)
  init_times t i R lf n x u is e = init t i e ((Array-Lawful 𝓛 R lf n).typed (replicate n x) (array_val (replicate n u) ∷ []) (replicate n u, ((refl, length-replicate n x), times_is R n x u is))).0

module _ {M : Type 1} {𝓤 : Ura M} (𝓛 : Logic 𝓤) (R : RattleType) (n : ℕ) (b : ℕ) where
  open 𝓛 use {H, A}

  pub times_in : Makes 𝓛 R (Is R) → Copy 𝓛 R → (x : R.Denot) (u : Val) → Is R x (u ∷ [])
      → ent 𝓤 (H.at full_share (ty_array (lone R.mir) n) b 0 (array_val (replicate n u))) (sem 𝓛 (part_at (Array R n) full_share (replicate n x) b 0))
  times_in mk cp x u is =
      qed 𝓛 (‵ (fat full_share (ty_array (lone R.mir) n) b 0 (array_val (replicate n u))) ∷ []) ∵ owned ! R (Is R) mk x (u ∷ []) is $
      use1 𝓛 (‵ ((Array R n).own_val (replicate n x) (array_val (replicate n u) ∷ []))) (Array-repeat 𝓛 R cp n x u) $ move ! (1 ∷ 0 ∷ []) $
      by ! (part_in 𝓛 (Array R n) refl full_share (replicate n x) b 0 (array_val (replicate n u)))

  pub array_room : (xs : List R.Denot) → ent 𝓤 (sem 𝓛 (part_at (Array R n) full_share xs b 0)) (H.room (ty_array (lone R.mir) n) b 0)
  array_room xs =
      qed 𝓛 (‵ (part_at (Array R n) full_share xs b 0) ∷ []) ∵
      use1 𝓛 (some (λ (v : Val). ‵ (fat full_share (ty_array (lone R.mir) n) b 0 v) ⊛ ‵ ((Array R n).own_val xs (v ∷ [])))) (part_out 𝓛 (Array R n) refl full_share xs b 0) $ pick ! (λ v. split ! $ move ! (1 ∷ []) $ drop ! $ forget ! 0 refl $ done !)

  pub lends_all : Single R.mir → (ℓ : Lifetime) (κ : Lft) (xs : List R.Denot) → Room R (length xs) → (l : Lft) → SharesAsFrom 𝓛 full_share R (shared_of R) l → (ts : Toks) → Incl (span ts) l → Incl (span ts) κ
      → ent 𝓤 (sep 𝓤 (sem 𝓛 (part_at (Array R n) full_share xs b 0)) (lfts 𝓛 ts)) (H.⇛ (sep 𝓤 (LentShrs 𝓛 R ℓ κ full_share xs b 0) (lfts 𝓛 ts)))
  lends_all one ℓ κ xs room l s ts inc sp =
      qed 𝓛 (‵ (part_at (Array R n) full_share xs b 0) ∷ raw (lfts 𝓛 ts) ∷ []) ∵ use1 𝓛 (‵ ((arr_parts (shares R) n).part full_share xs b 0)) (Array-apart 𝓛 R full_share one n xs b 0) $
      fsplit ! $ drop ! $ feq_i ! ℕ (length xs) (length xs) refl $ fjoin ! $ by ! (lends_shr_slice 𝓛 R ℓ κ full_share xs b 0 room l s ts inc sp)

  pub all_back : (κ : Lft) (xs : List R.Denot) → length xs ≡ n → ent 𝓤 (sep 𝓤 (A.dead κ) (A.lent κ ((arr_parts (shares R) (length xs)).part full_share xs b 0))) (H.⇛ (sem 𝓛 (part_at (Array R n) full_share xs b 0)))
  all_back κ xs l =
      qed 𝓛 (‵ (fdead κ) ∷ ‵ (flent κ ((arr_parts (shares R) (length xs)).part full_share xs b 0)) ∷ []) ∵ updating ! $ lent_back ! tt $ fsplit ! $ drop ! $ feq_i ! ℕ (length xs) n l $ fjoin ! $
      use1 𝓛 (‵ (part_at (Array R n) full_share xs b 0)) (Array-whole 𝓛 R full_share n xs b 0) $ at_once ! $ done !

  pub lends_mut : Single R.mir → (ℓ : Lifetime) (κ : Lft) (xs : List R.Denot) → Room R (length xs)
      → ent 𝓤 (sem 𝓛 (part_at (Array R n) full_share xs b 0)) (H.⇛ (ex 𝓤 (λ (γ : GName). sep 𝓤 (sem 𝓛 ((MutSlice ℓ κ R).own_val (record { ref_ptr = (b, 0); ghost_name = γ; now = xs }) (slice_val (b, 0) (length xs) ∷ []))) (A.lent κ (Held R (length xs) b 0 γ)))))
  lends_mut one ℓ κ xs room =
      qed 𝓛 (‵ (part_at (Array R n) full_share xs b 0) ∷ []) ∵ use1 𝓛 (‵ ((arr_parts (shares R) n).part full_share xs b 0)) (Array-apart 𝓛 R full_share one n xs b 0) $
      fsplit ! $ drop ! $ use1 𝓛 (‵ (cells (mem R) xs b 0)) (whole_in 𝓛 R xs b 0) $ by ! (lends_slice 𝓛 R ℓ κ xs b 0 room)

  pub mut_back : (κ : Lft) (γ : GName) (m : ℕ) (xs : List R.Denot) → length xs ≡ n
      → ent 𝓤 (sep 𝓤 (A.dead κ) (sep 𝓤 (A.lent κ (Held R m b 0 γ)) (sem 𝓛 (finally R γ xs)))) (H.⇛ (sem 𝓛 (part_at (Array R n) full_share xs b 0)))
  mut_back κ γ m xs l =
      qed 𝓛 (‵ (fdead κ) ∷ ‵ (flent κ (Held R m b 0 γ)) ∷ ‵ (finally R γ xs) ∷ []) ∵ updating ! $ use3 𝓛 (later (‵ ((Arr (mem R) m).own_at xs b 0))) (slice_back 𝓛 R κ γ xs m b 0) $ await ! tt $
      fsplit ! $ drop ! $ use1 𝓛 (‵ (row R full_share xs b 0)) (whole_out 𝓛 R xs b 0) $ feq_i ! ℕ (length xs) n l $ fjoin ! $
      use1 𝓛 (‵ (part_at (Array R n) full_share xs b 0)) (Array-whole 𝓛 R full_share n xs b 0) $ at_once ! $ done !
