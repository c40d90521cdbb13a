-- How the walk begins and ends of a function that is passed a shared slice, a lent one and two numbers, `fn f(p: &[S], x: &mut [R], i: usize, n: usize)`, and that still owns all four at exit.
--     signature, ended, stayed     its signature, with each parameter's `Kept` and `Stay`
--     Passed           what is known of the parameters on entry: the shared slice and the numbers fit the machine, and there is room for the lent one
--     exits            from what is had at exit, the lent slice at its last list zs, to what `walk_of` asks: zs is as long as the list that was passed, and the `ensures` holds of it
--     meets            a walk from the parameters' machine values, with `Passed` in hand, shows that the function meets its contract
-- Assumes `Logic`.
use mathlib.Core.Path.{◌≡◌, refl}
use Prim.Native.Nat.{ℕ, ◌<◌, ◌^◌}
use mathlib.Core.List.{List, [], ◌∷◌}
use lib.ListN.{length}
use seplogic.Ra.Ura.{Ura}
use mir.Syntax.{named, w64}
use mir.Val.{Val, vunit, vint}
use base.Logic.{SProp, ent, sep, emp}
use base.Fml.{Lft, GName, Share, Fml, flft}
use types.Logic.{Logic}
use contract.Lifetimes.{Lfts}
use contract.Monad.{Fun, Mono}
use types.Kit.{‵, ⋆, ◌$◌, ◌∵◌, !, qed, move, join, fjoin, feq_i, suffices, frame, done}
use denote.RattleType.{RattleType}
use denote.Laws.{Is}
use denote.Plain.{uint_Makes, uint_vals, uint_Tells}
use denote.Builtin.{usize, unit}
use denote.Ref.{Bor, MutBor}
use denote.Signature.{Signature, plain, shr_slice_of, mut_slice_of}
use denote.Slice.{slice_val, MutSlice, ShrSlice, Room, shr_slice_vals, mut_slice_vals, mut_slice_Tells, shr_slice_Tells}
use denote.Steps.{owned, nothing}
use denote.Triple.Clauses.{Clauses, Ended, at_exit, closing}
use denote.Triple.Entry.{on_entry}
use denote.Triple.Spec.{Meets}
use denote.Triple.Walked.{Stays, stay_none, stay_none_slice, stay_slice, walk_of, Goes-none, Goes-none_slice, Goes-slice, ends_at, walked, walk_Meets}
use denote.Exit.{yes}
use Rattle.walks.proofs.Lent.{says_all}

module _ (S R : RattleType) where
  abbrev pub signature : Signature
  signature = record { lifetimes = 2; outlives = []; params = shr_slice_of (0 ∷ []) tt (plain (λ _. S)) ∷ mut_slice_of (1 ∷ []) tt (plain (λ _. R)) ∷ plain (λ _. usize) ∷ plain (λ _. usize) ∷ []; result = plain (λ _. unit) }

  abbrev pub ended : Ended
  ended = record { signature = signature; kept = (yes, (yes, (yes, (yes, tt)))) }

  abbrev pub stayed : Stays ended.signature.params ended.kept
  stayed = (stay_none_slice (0 ∷ []) tt (plain (λ _. S)) yes, (stay_slice (1 ∷ []) tt (plain (λ _. R)), (stay_none (λ _. usize) yes, (stay_none (λ _. usize) yes, tt))))

  module _ (κ κ' : Lft) (p : Bor (List S.Denot)) (b o : ℕ) (γ : GName) (ys : List R.Denot) (i n : ℕ) where
    -- the borrow of the lent slice, at the list l
    abbrev pub lent_at : List R.Denot → MutBor (List R.Denot)
    lent_at l = record { ref_ptr = (b, o); ghost_name = γ; now = l }

    abbrev pub lfts : Lfts 2
    lfts = (κ, (κ', tt))

    abbrev Arg : Type 0
    Arg = Bor (List S.Denot) × (MutBor (List R.Denot) × (ℕ × (ℕ × Unit {0})))

    abbrev pub args : Arg
    args = (p, (lent_at ys, (i, (n, tt))))

    -- the machine values
    abbrev pub shared_val : Val
    shared_val = slice_val p.ref_ptr (length p.now)

    abbrev pub lent_val : Val
    lent_val = slice_val (b, o) (length ys)

    abbrev pub vals : List Val × (List Val × (List Val × (List Val × Unit {0})))
    vals = (shared_val ∷ [], (lent_val ∷ [], (vint w64 i ∷ [], (vint w64 n ∷ [], tt))))

    abbrev pub Shared : Fml
    Shared = (ShrSlice (named 0) κ S).own_val p (shared_val ∷ [])

    -- the lent slice at the list l, where its machine value counts m elements
    abbrev pub Lent : List R.Denot → ℕ → Fml
    Lent l m = (MutSlice (named 1) κ' R).own_val (lent_at l) (slice_val (b, o) m ∷ [])

    pub record Passed : Type 0 where
      pub is_p : Is (ShrSlice (named 0) κ S) p (shared_val ∷ [])
      pub rooms : Room R (length ys)
      pub i_fits : i < 2 ^ 64
      pub n_fits : n < 2 ^ 64

    module _ {M : Type 1} {𝓤 : Ura M} (𝓛 : Logic 𝓤) (q q' : Share) (c : Clauses 𝓤 ended) (g : (c lfts args).ghost) where
      abbrev pub Post : Val → SProp 𝓤
      Post = (walk_of 𝓛 ended stayed c).post ((lfts, (q, (q', tt)), tt, args, vals), g)

      pub exits : Passed → (zs : List R.Denot) → length zs ≡ length ys → ent 𝓤 (emp 𝓤) ((c lfts args).ensures g tt (at_exit ended lfts args (tt, (zs, (tt, (tt, tt))))))
          → ent 𝓤 (⋆ 𝓛 (‵ (Lent zs (length ys)) ∷ ‵ (flft κ' q') ∷ ‵ (flft κ q) ∷ ‵ Shared ∷ [])) (Post vunit)
      exits F zs l e =
          qed 𝓛 (‵ (Lent zs (length ys)) ∷ ‵ (flft κ' q') ∷ ‵ (flft κ q) ∷ ‵ Shared ∷ []) ∵
          suffices ! _ (ends_at 𝓛 ended stayed c ((lfts, (q, (q', tt)), tt, args, vals), g) vunit tt (tt, (zs, (tt, (tt, tt)))) (tt, (l, (tt, (tt, tt))))) $ says_all ! e $
          nothing ! $ move ! (2 ∷ 0 ∷ []) $ join ! $ move ! (2 ∷ 0 ∷ []) $ join ! $ frame ! $
          -- [the lent slice; the shared one]
          nothing ! $ owned ! usize (Is usize) (uint_Makes 𝓛 w64) n _ (refl, F.n_fits) $ fjoin ! $ owned ! usize (Is usize) (uint_Makes 𝓛 w64) i _ (refl, F.i_fits) $ fjoin ! $
          move ! (1 ∷ 0 ∷ []) $ fjoin ! $ move ! (1 ∷ 0 ∷ []) $ fjoin ! $
          feq_i ! (List Val) (vunit ∷ []) (vunit ∷ []) refl $ move ! (1 ∷ 0 ∷ []) $ done !

  module _ {M : Type 1} {𝓤 : Ura M} (𝓛 : Logic 𝓤) (c : Clauses 𝓤 ended) (run : Fun 𝓤) where
    pub meets : ((vs : List Val) → Mono 𝓤 (run vs))
        → ((κ κ' : Lft) (q q' : Share) (p : Bor (List S.Denot)) (b o : ℕ) (γ : GName) (ys : List R.Denot) (i n : ℕ) (g : (c (κ, (κ', tt)) (args κ κ' p b o γ ys i n)).ghost) → Passed κ κ' p b o γ ys i n
        → ent 𝓤 (sep 𝓤 (on_entry 𝓛 signature (κ, (κ', tt)) (q, (q', tt)) (args κ κ' p b o γ ys i n) (vals κ κ' p b o γ ys i n)) ((c (κ, (κ', tt)) (args κ κ' p b o γ ys i n)).requires g))
        (run (shared_val κ κ' p b o γ ys i n ∷ lent_val κ κ' p b o γ ys i n ∷ vint w64 i ∷ vint w64 n ∷ []) (Post κ κ' p b o γ ys i n 𝓛 q q' c g)))
        → Meets 𝓛 signature run (closing 𝓛 ended c)
    meets mono walk =
        walk_Meets 𝓛 ended stayed (Goes-none_slice 𝓛 2 (0 ∷ []) tt (plain (λ _. S)) yes, (Goes-slice 𝓛 2 1 tt (plain (λ _. R)), (Goes-none 𝓛 2 (λ _. usize) yes (λ κs x f. refl), (Goes-none 𝓛 2 (λ _. usize) yes (λ κs x f. refl), tt)))) c run mono
        (walked 𝓛 ended stayed c run (λ κs. (shr_slice_vals, (mut_slice_vals, (uint_vals w64, (uint_vals w64, tt)))))
        (λ κs. (shr_slice_Tells (named 0) κs.0 S, (mut_slice_Tells (named 1) κs.1.0 R, (uint_Tells w64, (uint_Tells w64, tt)))))
        (λ κs qs bounds a g are. walk κs.0 κs.1.0 qs.0 qs.1.0 a.0 a.1.0.ref_ptr.0 a.1.0.ref_ptr.1 a.1.0.ghost_name a.1.0.now a.1.1.0 a.1.1.1.0 g
        (record { is_p = are.0; rooms = are.1.0.0.1; i_fits = are.1.1.0.1; n_fits = are.1.1.1.0.1 })))
