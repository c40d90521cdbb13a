-- A part of a file's breaks, put from the first place on. Assumes nothing.
use mathlib.Core.Path.{◌≡◌, refl, sym, ap, ◌∙◌}
use mathlib.Core.Bool.{Bool, true, false}
use mathlib.Core.List.{List, [], ◌++◌}
use mathlib.Core.Logic.{◌⊎◌, inr, ⊎_elim}
use Prim.Native.Nat.{ℕ, zero, suc, ◌+◌, ◌≤◌, ◌<◌}
use native.Mathlib.Omega.{arith}
use lib.Seq.{drop-drop, take_all, take-add, take-append_seam, drop-append_seam}
use lib.ListN.{length, get_or, replicate, take, drop, length-append, length-drop}
use Rattle.text_bytes.specs.Bytes.{Bytes}
use Rattle.text.specs.Lines.{LIMIT, lines}
use Rattle.book_facts.specs.Asked.{AskingOf}
use Rattle.book_facts.specs.declared.Asking.{Asking}
use Rattle.rules.specs.Breaks.{Break}
use Rattle.rules.specs.Rules.{breaks_by}
use Rattle.scan.specs.Places.{FILE_MOST, Lent, lent, put_all, Puts}
use Rattle.scan.proofs.Laws.Putting.{put_append, put_count}
use Rattle.scan.proofs.Laws.Following.{stands_start}
use Rattle.scan.proofs.Laws.Scanning.{scan_start, breaks_left, breaks_bound}
use Rattle.judging.specs.Parts.{put_so_far, beginning, Midway, Parted, Parts}
use Rattle.judging.specs.declared.parts.Stand.{Stand}
use Rattle.book.specs.Book.{Book}
use Rattle.book.proofs.Laws.Sized.{Sized}

pub parted_start : {bs rest : List Break} {T : ℕ} (ys : List ℕ) → T ≤ length bs → drop T bs ≡ rest → Parted bs T ys ys 0 rest
unfolding put_all
parted_start {bs} {T = T} ys h e = record { most = omega arith; puts = refl; left = let z : T + 0 ≡ T = omega arith in rw z e }

module _ {bs : List Break} {T : ℕ} {ys₀ ys ys' : List ℕ} {k k' m : ℕ} {rest : List Break} {f : List Break → List Break} (rest' : List Break)
    (h : Parted bs T ys₀ ys k rest) (p : Puts f m (lent ys k) (lent ys' k')) (e : rest ≡ f [] ++ rest') where
  put_here : lent ys' k' ≡ put_all (lent ys k) (f [])
  unfolding put_all
  put_here = p.does []

  counted : k' ≡ k + length (f [])
  counted = ap (λ (o : Lent). o.count) put_here ∙ put_count (f []) (lent ys k)

  ahead : drop k (drop T bs) ≡ f [] ++ rest'
  ahead = drop-drop k T bs ∙ h.left ∙ e

  -- what a call puts comes next
  pub parted_next : Parted bs T ys₀ ys' k' rest'
  parted_next = record {
    most = omega (arith, length-append (f []) rest', length-drop k (drop T bs), length-drop T bs, ap length ahead, counted, h.most);
    puts = put_here ∙ ap (λ (o : Lent). put_all o (f [])) h.puts ∙ sym (put_append (take k (drop T bs)) (f []) (lent ys₀ 0))
        ∙ ap (put_all (lent ys₀ 0)) (sym (ap (λ (n : ℕ). take n (drop T bs)) counted ∙ take-add k (length (f [])) (drop T bs)
        ∙ ap (λ (xs : List Break). take k (drop T bs) ++ take (length (f [])) xs) ahead ∙ ap (λ (xs : List Break). take k (drop T bs) ++ xs) (take-append_seam (f []) rest')));
    left = let z : T + k' ≡ (T + k) + length (f []) = omega (arith, counted) in
        ap (λ (n : ℕ). drop n bs) z ∙ sym (drop-drop (length (f [])) (T + k) bs) ∙ ap (drop (length (f []))) (h.left ∙ e) ∙ drop-append_seam (f []) rest';
  }

  -- and where it is the last, all were put
  pub parted_all : rest' ≡ [] → T + k' ≡ length bs
  parted_all z = omega (arith, length-drop (T + k') bs, ap length (parted_next.left ∙ z), parted_next.most)

-- what is put of the breaks that are left is put of all
pub parted_within : {bs cs rest : List Break} {T k : ℕ} {ys₀ ys : List ℕ} → T ≤ length bs → drop T bs ≡ cs → Parted cs 0 ys₀ ys k rest → Parted bs T ys₀ ys k rest
parted_within {bs} {cs} {T = T} {k = k} {ys₀ = ys₀} low e p =
    let z : 0 + k ≡ k = omega arith in
    record {
      most = omega (arith, p.most, length-drop T bs, ap length e, low);
      puts = p.puts ∙ ap (λ (xs : List Break). put_all (lent ys₀ 0) (take k xs)) (sym e);
      left = sym (drop-drop k T bs) ∙ ap (drop k) e ∙ ap (λ (n : ℕ). drop n cs) (sym z) ∙ p.left;
    }

-- where what is left begins with `here` and goes on with the rest, `here` was put
pub parted_front : (here : List Break) {cs rest : List Break} {k : ℕ} {ys₀ ys : List ℕ} → cs ≡ here ++ rest → Parted cs 0 ys₀ ys k rest → lent ys k ≡ put_all (lent ys₀ 0) here
parted_front here {cs} {rest} {k} {ys₀} e p =
    let z : 0 + k ≡ k = omega arith in
    let n : k ≡ length here = omega (arith, p.most, length-drop (0 + k) cs, ap length p.left, ap length e, length-append here rest) in
    p.puts ∙ ap (λ (xs : List Break). put_all (lent ys₀ 0) (take k xs)) e ∙ ap (λ (i : ℕ). put_all (lent ys₀ 0) (take i (here ++ rest))) n ∙ ap (put_all (lent ys₀ 0)) (take-append_seam here rest)

-- ONE LINE ALONE, up to the place after the one where it begins: it is still to be judged, or it is judged and no other
abbrev pub Alone : ℕ → ℕ → ℕ → ℕ → ℕ → ℕ → Type 0
Alone at₀ n₀ last at n k = last ≡ at₀ + 1 → ((at ≡ at₀) × (n ≡ n₀) × (k ≡ 0)) ⊎ ((last ≤ at) × (n ≡ n₀ + 1))

module _ {at₀ n₀ last at n k : ℕ} (h : Alone at₀ n₀ last at n k) where
  pub alone_next : {next k' : ℕ} → at < last → at < next → Alone at₀ n₀ last next (n + 1) k'
  alone_next lt on e =
      ⊎_elim
      (λ (q : (at ≡ at₀) × (n ≡ n₀) × (k ≡ 0)). inr (omega (arith, q.0, on, e), ap (λ (i : ℕ). i + 1) q.1))
      (λ (q : (last ≤ at) × (n ≡ n₀ + 1)). absurd (omega (arith, q.0, lt)))
      (h e)

  -- its breaks do not fill the room before it is judged
  pub alone_full : {room : ℕ} → 1 ≤ room → room ≤ k → last ≡ at₀ + 1 → n ≡ n₀ + 1
  alone_full low most e = ⊎_elim (λ (q : (at ≡ at₀) × (n ≡ n₀) × (k ≡ 0)). absurd (omega (arith, q.2, low, most))) (λ (q : (last ≤ at) × (n ≡ n₀ + 1)). q.1) (h e)

  pub alone_done : last ≤ at → last ≡ at₀ + 1 → n ≡ n₀ + 1
  alone_done far e = ⊎_elim (λ (q : (at ≡ at₀) × (n ≡ n₀) × (k ≡ 0)). absurd (omega (arith, q.0, far, e))) (λ (q : (last ≤ at) × (n ≡ n₀ + 1)). q.1) (h e)

-- a list of one value has it everywhere, also past the end
pub same_everywhere : {A : Type 0} (n i : ℕ) (a : A) → get_or (replicate n a) i a ≡ a
same_everywhere zero i a = refl
same_everywhere (suc n) zero a = refl
same_everywhere (suc n) (suc i) a = same_everywhere n i a

-- before the first line, where no key has come
pub midway_start : (b : Book) {s : Stand} {x : Asking} {file : Bytes} {kinds slots : List ℕ} → s ≡ beginning x → AskingOf b (lines file) x → ((i : ℕ) → get_or slots i 0 ≡ 0)
    → Midway b file s kinds slots
midway_start b {x = x} {file = file} {kinds = kinds} {slots = slots} e f h = rw e (record { scan = scan_start b file (stands_start b x kinds slots h); asking = f; most = omega arith; left = breaks_left b file })

-- a part with room for more breaks than a file can have is the whole
pub part_whole : {b : Book} → Sized b → {file : Bytes} {room : ℕ} {s r : Stand} {x : Asking} {ys ys' : List ℕ} → s ≡ beginning x → Parts b file room s r ys ys' → length file ≤ LIMIT → FILE_MOST < room
    → lent ys' r.held ≡ put_all (lent ys 0) (breaks_by b (lines file))
part_whole {b} sized {file} {s = s} {r = r} {ys = ys} e p limit far =
    let bs = breaks_by b (lines file) in
    p.puts ∙ ap (λ (n : ℕ). put_all (lent ys 0) (take r.held (drop n bs))) none ∙ ap (put_all (lent ys 0)) (take_all r.held bs (all r.more refl))
  where
    none : put_so_far s ≡ 0
    none = rw e

    all : (t : Bool) → r.more ≡ t → length (breaks_by b (lines file)) ≤ r.held
    all true q = omega (arith, p.full q, p.most, breaks_bound b sized file limit, far)
    all false q = omega (arith, p.all q, p.before, none)
