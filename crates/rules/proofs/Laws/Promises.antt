-- Promise 3 of the definition: each break of a file is listed once, in order of line, then cell, then rule, and nothing else is. And the first half of promise
-- 2: the list is empty exactly when no rule is broken. Assumes nothing.
use mathlib.Core.Path.{◌≡◌, refl, subst}
use mathlib.Core.List.{List, [], ◌∷◌}
use mathlib.Core.Logic.{inl}
use Prim.Native.Nat.{ℕ}
use native.Mathlib.Omega.{arith}
use borrow.Author.Rules.{rules as tactics}
use lib.ListN.{length}
use Rattle.text_bytes.specs.Bytes.{Bytes}
use Rattle.text.specs.Lines.{lines}
use Rattle.rules.specs.Breaks.{Break, break_with, In, Sorted, Rising}
use Rattle.book.specs.Book.{Book, book_of}
use Rattle.rules.specs.Rules.{rules, end_rules, ends, breaks_by, breaks}
use Rattle.rules.specs.Promised.{IsBrokenBy, IsBroken, Reports}
use Rattle.rules.proofs.Laws.Listing.{all_sorted, all_broken, broken_all}
use Rattle.rules.proofs.Laws.Firsts.{first_of}

-- BY ANY BOOK
module _ (b : Book) where
  -- the numbers of the rules rise
  rising : Rising 0 (rules b)
  unfolding rules
  rising = search tactics

  end_rising : Rising 0 (end_rules b)
  unfolding end_rules
  end_rising = search tactics

  -- each break comes before all that stand after it, so none stands twice
  pub by_sorted : (file : List Bytes) → Sorted (breaks_by b file)
  unfolding breaks_by
  by_sorted file = all_sorted (rules b) (end_rules b) (ends b) file 0 0 rising end_rising

  -- a break is listed exactly where that rule is broken at that cell of that line
  pub by_broken : (file : List Bytes) (n c k f : ℕ) → In (break_with n c k f) (breaks_by b file) → IsBrokenBy b file n c k f
  unfolding breaks_by
  by_broken file n c k f h = all_broken (rules b) (end_rules b) (ends b) file n c k f h

  pub by_listed : (file : List Bytes) {n c k f : ℕ} → IsBrokenBy b file n c k f → In (break_with n c k f) (breaks_by b file)
  unfolding breaks_by
  by_listed file h = broken_all (rules b) (end_rules b) (ends b) file h

-- BY THE BOOK OF THE FILE
pub breaks_sorted : (file : Bytes) → Sorted (breaks file)
unfolding breaks
breaks_sorted file = by_sorted (book_of (lines file)) (lines file)

pub listed_broken : (file : Bytes) (n c k f : ℕ) → In (break_with n c k f) (breaks file) → IsBroken file n c k f
unfolding breaks
listed_broken file n c k f h = by_broken (book_of (lines file)) (lines file) n c k f h

pub broken_listed : (file : Bytes) {n c k f : ℕ} → IsBroken file n c k f → In (break_with n c k f) (breaks file)
unfolding breaks
broken_listed file h = by_listed (book_of (lines file)) (lines file) h

-- and its fourth number is the first place
pub breaks_reported : (file : Bytes) → Reports file (breaks file)
breaks_reported file = record { sorted = breaks_sorted file; broken = listed_broken file; listed = λ n c k f h. broken_listed file h; first = λ n c k f h. first_of (book_of (lines file)) (lines file) (listed_broken file n c k f h) }

pub length_none : (bs : List Break) → length bs ≡ 0 → bs ≡ []
length_none [] e = refl
length_none (b ∷ bs) e = absurd (omega (arith, e))

-- so a file is accepted exactly when no rule is broken
pub accepted_whole : (file : Bytes) {n c k f : ℕ} → breaks file ≡ [] → IsBroken file n c k f → ⊥
accepted_whole file {n} {c} {k} {f} e h = subst (In (break_with n c k f)) e (broken_listed file h)

pub whole_accepted : (file : Bytes) → ((n c k f : ℕ) → IsBroken file n c k f → ⊥) → breaks file ≡ []
whole_accepted file h = none (breaks file) (λ b i. h b.line b.cell b.rule b.first (listed_broken file b.line b.cell b.rule b.first i))
  where
    none : (bs : List Break) → ((b : Break) → In b bs → ⊥) → bs ≡ []
    none [] f = refl
    none (b ∷ bs) f = absurd (f b (inl refl))
