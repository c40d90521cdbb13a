-- One line of a file: where it is there, and that what is put of it alone are its breaks. Assumes nothing.
use mathlib.Core.Path.{◌≡◌, refl, sym, ap, subst, ◌∙◌}
use mathlib.Core.Bool.{Bool, true, false, ◌&&◌}
use mathlib.Core.List.{List, [], ◌++◌, append_assoc}
use Prim.Native.Nat.{ℕ, suc, ◌+◌, ◌-◌, ◌≤◌, ◌<◌}
use native.Mathlib.Omega.{arith}
use borrow.Author.Tests.{le-leb, lt-leb, leb-true, le-ltb}
use Rattle.std.specs.Bool.{then_some}
use Rattle.std.specs.Option.{MatchOption, ok_or}
use Rattle.std.specs.Prelude.{Option, Some, None}
use lib.Dec.{leb}
use lib.Seq.{drop-cons}
use lib.ListN.{length, take, get_or}
use Rattle.text_bytes.specs.Bytes.{Bytes}
use Rattle.text.specs.Lines.{LIMIT, lines}
use Rattle.book.specs.Book.{Book}
use Rattle.book_facts.specs.declared.Asking.{Asking}
use Rattle.rules.specs.Breaks.{Break, spot, at_line}
use Rattle.rules.specs.Rules.{rules}
use Rattle.rules.specs.Edited.{line_of, of_line}
use Rattle.scan.specs.Places.{lent, put_all}
use Rattle.scan.specs.Carried.{Scan, from, last}
use Rattle.scan.proofs.Laws.Scanning.{from_next}
use Rattle.judging.specs.Parts.{beginning, ahead, Lined}
use Rattle.judging.specs.declared.parts.Stand.{Stand}
use Rattle.judging.proofs.Laws.Parting.{parted_front}
use Rattle.numbers.specs.Numbers.{NO_ROW}
use Rattle.numbers.specs.Refusals.{number_in, answer_or}
use Rattle.numbers.specs.declared.Refusal.TheVariants.{NoRow}
use Rattle.judged.specs.Judged.{outcome, ended}
use Rattle.judged_line.specs.Judged.{is_line, judged_line}

-- what may be told where a test says so
pub told_when : {A : Type 0} (P : Type 0) (Q : A → Type 0) (t : Bool) (x : A) → (t ≡ false → P) → (t ≡ true → Q x) → MatchOption (then_some t x) P Q
told_when P Q true x f g = g refl
told_when P Q false x f g = f refl

-- the answer of the call, where the limit lets it judge: what was put of the line, or that there is none
pub answered : (file : Bytes) (n : ℕ) (ys zs : List ℕ) → length file ≤ LIMIT → (r : Option ℕ)
    → MatchOption r ((is_line file n ≡ false) × (zs ≡ ys)) (λ k. (is_line file n ≡ true) × (lent zs k ≡ put_all (lent ys 0) (of_line file n)))
    → outcome (number_in (ok_or r NoRow)) (answer_or 0 (ok_or r NoRow)) zs ≡ judged_line file n ys
unfolding judged_line
answered file n ys zs limit None h = rw (le-ltb LIMIT (length file) limit, h.0) (ap (outcome NO_ROW 0) h.1)
answered file n ys zs limit (Some k) h = rw (le-ltb LIMIT (length file) limit, h.0) (ap ended h.1)

-- before the first line no line is passed
pub scan_first : {b : Book} {file : Bytes} {stand : Stand} {a : Asking} {kinds slots : List ℕ} → stand ≡ beginning a → Scan b file stand.at stand.lines stand.state kinds slots
    → Scan b file 0 0 stand.state kinds slots
scan_first {b} {file} {stand} {a} {kinds} {slots} e h =
    subst (λ (n : ℕ). Scan b file 0 n stand.state kinds slots) (ap (λ (x : Stand). x.lines) e)
    (subst (λ (i : ℕ). Scan b file i stand.lines stand.state kinds slots) (ap (λ (x : Stand). x.at) e) h)

pub is_line_lem : (file : Bytes) (n : ℕ) → 1 ≤ n → n ≤ length (lines file) → is_line file n ≡ true
is_line_lem file n a c = rw (le-leb 1 n a, le-leb n (length (lines file)) c)

pub no_line : (file : Bytes) (n : ℕ) → (1 ≤ n → length (lines file) < n) → is_line file n ≡ false
no_line file n h = go (leb 1 n) refl
  where
    go : (t : Bool) → leb 1 n ≡ t → (t && leb n (length (lines file))) ≡ false
    go true e = lt-leb n (length (lines file)) (h (leb-true 1 n e))
    go false e = refl

module _ (b : Book) (file : Bytes) (n : ℕ) (low : 1 ≤ n) where
  F : List Bytes
  F = lines file

  -- of a line of the file, its breaks come first of those that are left
  its_own : n ≤ length (lines file) → ahead b file (n - 1) ≡ line_of b (lines file) n ++ ahead b file n
  unfolding F
  its_own high =
      let z : suc (n - 1) ≡ n = omega (arith, low) in
      let next : from b F (n - 1) ≡ line_of b F n ++ from b F n =
      from_next b F (n - 1) (drop-cons F (n - 1) [] (omega (arith, low, high)))
      ∙ ap (λ (i : ℕ). at_line (rules b) (spot (take (n - 1) F) (get_or F (n - 1) []) F) i ++ from b F i) z in
      ap (λ (xs : List Break). xs ++ last b F) next ∙ append_assoc (line_of b F n) (from b F n) (last b F)

  -- a run of one line, from where the lines above are passed: the line is one of the file's, and it is its breaks that are put
  module _ {st r : Stand} {room end : ℕ} {places places' kinds slots : List ℕ} (above : st.lines ≡ n - 1) (one : end ≡ st.at + 1) (l : Lined b file room end st r places places')
      (h : Scan b file r.at r.lines r.state kinds slots) where
    alone : r.lines ≡ n
    alone = omega (arith, l.alone one, above, low)

    pub within : n ≤ length (lines file)
    within = omega (arith, h.passed, alone)

    pub line_alone : lent places' r.held ≡ put_all (lent places 0) (line_of b (lines file) n)
    line_alone = parted_front (line_of b (lines file) n) (ap (ahead b file) above ∙ its_own within ∙ ap (λ (i : ℕ). line_of b (lines file) n ++ ahead b file i) (sym alone)) l.parted
