-- Where the slots of the keys begin, as the text has it: numbers of two bytes, one after the other, each as many more than the one before as that entry has
-- names. Assumes nothing.
use Prim.Native.Nat.{ℕ, zero, suc, ◌+◌, ◌*◌, ◌%◌, ◌/◌, ◌≤◌, ◌<◌}
use mathlib.Core.Path.{◌≡◌, refl, ap, sym, ◌∙◌}
use mathlib.Core.List.{List, [], ◌∷◌, ◌++◌}
use native.Mathlib.Omega.{arith}
use lib.ListN.{length, get_or}
use lib.Seq.{get_or-append-add}
use Rattle.text_bytes.specs.Bytes.{Bytes}
use Rattle.book_names.specs.Names.{Entry, form_of, spread, start_of}
use Rattle.book.specs.Text.{number_at, two, starts_from}

number_two : (n : ℕ) (t : Bytes) → number_at (two n ++ t) 0 ≡ n
number_two n t = omega arith

number_next : (n : ℕ) (t : Bytes) (i : ℕ) → number_at (two n ++ t) (suc (suc i)) ≡ number_at t i
number_next n t i =
    let e : suc (suc i) + 1 ≡ suc (suc (i + 1)) = omega arith in
    rw e

pub number_behind : (s t : Bytes) (i : ℕ) → number_at (s ++ t) (length s + i) ≡ number_at t i
number_behind s t i =
    let e : length s + i + 1 ≡ length s + (i + 1) = omega arith in
    rw (e, get_or-append-add s t i 0, get_or-append-add s t (i + 1) 0)

-- number e of them is where entry e begins
pub starts_read : (es : List Entry) (n e : ℕ) → e ≤ length es → number_at (starts_from n es) (2 * e) ≡ n + start_of es e
unfolding starts_from start_of
starts_read [] n zero h = omega (arith, number_two n [])
starts_read [] n (suc e) h = absurd (omega arith)
starts_read (x ∷ es) n zero h = omega (arith, number_two n (starts_from (n + spread (form_of x)) es))
starts_read (x ∷ es) n (suc e) h =
    let d : 2 * suc e ≡ suc (suc (2 * e)) = omega arith in
    let r = starts_read es (n + spread (form_of x)) e (omega arith) in
    ap (number_at (starts_from n (x ∷ es))) d ∙ number_next n (starts_from (n + spread (form_of x)) es) (2 * e) ∙ r ∙ omega arith

pub starts_length : (es : List Entry) (n : ℕ) → length (starts_from n es) ≡ 2 * (length es + 1)
unfolding starts_from
starts_length [] n = refl
starts_length (x ∷ es) n = omega (arith, starts_length es (n + spread (form_of x)))
