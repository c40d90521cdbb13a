-- A file as its lines and what ends them, a line as its cells with tabs between, and both with other bytes in some cells. Assumes nothing.
use mathlib.Core.Path.{◌≡◌, refl, sym, ap, ◌∙◌}
use mathlib.Core.Bool.{Bool, true, false, cond, ◌&&◌, and-false, and-true}
use mathlib.Core.List.{List, [], ◌∷◌, ◌++◌, append-nil}
use Prim.Native.Nat.{ℕ, zero, suc, ◌+◌, ◌-◌, ◌≤◌, ◌<◌}
use native.Mathlib.Omega.{arith}
use lib.Dec.{eqb}
use borrow.Author.Tests.{eqb-true}
use lib.ListN.{length, drop, get_or, length-append, length-drop}
use lib.Seq.{drop-drop, length-take-le, take-append_seam, drop-append_seam}
use Rattle.text_bytes.specs.Bytes.{Bytes, any, is_empty, on_first, split_on}
use Rattle.text_bytes.specs.Places.{part, after}
use Rattle.text_bytes.proofs.Laws.Tests.{absurd_bool, and_both, or_none}
use Rattle.text.specs.Lines.{TAB, LF, CR, starts_lf, lines, cells}
use Rattle.text.specs.Edits.{has}
use Rattle.text.specs.Joined.{line_ends, joined, tabbed}
use Rattle.text.specs.Places.{LineAt}
use Rattle.text.proofs.Laws.Splicing.{has_none, pieces, front, ends_cr, Tail, nothing, lf, crlf, lines_on, lines_front, tail_for, has_append, ends_free, ends_append}

-- THE FIRST LINE, WHAT ENDS IT AND WHAT IS LEFT

-- what ends a line, and what may be left after it: nothing (then the line is some), LF (then it does not end in CR), CR LF
data Ended (l : Bytes) : Bytes → Bytes → Type 0 where
  last : is_empty l ≡ false → Ended l [] []
  by_lf : (rest : Bytes) → ends_cr l ≡ false → Ended l (LF ∷ []) rest
  by_crlf : (rest : Bytes) → Ended l (CR ∷ (LF ∷ [])) rest

-- a text, cut after its first line and what ends that
record Cut (f : Bytes) : Type 0 where
  line : Bytes
  end : Bytes
  rest : Bytes
  whole : f ≡ line ++ (end ++ rest)
  lines_cut : lines f ≡ line ∷ lines rest
  ends_cut : line_ends f ≡ end ∷ line_ends rest
  free : has LF line ≡ false
  ended : Ended line end rest

-- a byte in front of the line, where it is no CR of the end
ended_on : (x : ℕ) (l : Bytes) {end rest : Bytes} → (l ≡ [] → (eqb x CR && starts_lf (end ++ rest)) ≡ false) → Ended l end rest → Ended (x ∷ l) end rest
unfolding ends_cr is_empty starts_lf
ended_on x l h (last s) = last refl
ended_on x [] h (by_lf rest e) = by_lf rest (sym (and-true (eqb x CR)) ∙ h refl)
ended_on x (y ∷ ys) h (by_lf rest e) = by_lf rest e
ended_on x l h (by_crlf rest) = by_crlf rest

cut_first : (x : ℕ) (xs : Bytes) → Cut (x ∷ xs)
unfolding lines line_ends on_first starts_lf ends_cr is_empty any
cut_first x [] = go (eqb x LF) refl
  where
    go : (t : Bool) → eqb x LF ≡ t → Cut (x ∷ [])
    go true e = record { line = []; end = LF ∷ []; rest = []; whole = rw (eqb-true x LF e); lines_cut = rw e; ends_cut = rw (e, eqb-true x LF e); free = refl; ended = by_lf [] refl }
    go false e = record { line = x ∷ []; end = []; rest = []; whole = refl; lines_cut = rw (e, and-false (eqb x CR)); ends_cut = rw (e, and-false (eqb x CR)); free = rw e; ended = last refl }
cut_first x (y ∷ ys) = go (eqb x LF) (eqb x CR && eqb y LF) refl refl (cut_first y ys)
  where
    go : (t u : Bool) → eqb x LF ≡ t → (eqb x CR && eqb y LF) ≡ u → Cut (y ∷ ys) → Cut (x ∷ (y ∷ ys))
    go true u e d r = record {
      line = [];
      end = LF ∷ [];
      rest = y ∷ ys;
      whole = rw (eqb-true x LF e);
      lines_cut = rw e;
      ends_cut = rw (e, eqb-true x LF e);
      free = refl;
      ended = by_lf (y ∷ ys) refl;
    }
    go false true e d r =
        let a = and_both (eqb x CR) (eqb y LF) d in
        record {
          line = [];
          end = CR ∷ (LF ∷ []);
          rest = ys;
          whole = rw (eqb-true x CR a.0, eqb-true y LF a.1);
          lines_cut = rw (e, d, a.1);
          ends_cut = rw (e, d, a.1, eqb-true x CR a.0, eqb-true y LF a.1);
          free = refl;
          ended = by_crlf ys;
        }
    go false false e d r = record {
      line = x ∷ r.line;
      end = r.end;
      rest = r.rest;
      whole = ap (λ (l : Bytes). x ∷ l) r.whole;
      lines_cut = lines_on x (y ∷ ys) e d ∙ rw r.lines_cut;
      ends_cut = rw (e, d) r.ends_cut;
      free = rw (e, r.free);
      ended = ended_on x r.line (λ z. rw (← ap (λ (l : Bytes). l ++ (r.end ++ r.rest)) z, ← r.whole) d) r.ended;
    }

-- what is left is less
cut_less : {f : Bytes} (r : Cut f) → length r.rest < length f
unfolding is_empty
cut_less {f} r = go r.line r.ended (ap length r.whole)
  where
    go : (l : Bytes) {end rest : Bytes} → Ended l end rest → length f ≡ length (l ++ (end ++ rest)) → length rest < length f
    go [] (last s) e = absurd_bool (sym s)
    go (x ∷ xs) (last s) e = omega (arith, e)
    go l (by_lf rest c) e = omega (arith, e, length-append l (LF ∷ rest))
    go l (by_crlf rest) e = omega (arith, e, length-append l (CR ∷ (LF ∷ rest)))

-- LINES AND THEIR ENDS

-- a byte in front of the first line is the first of all
joined_on : (x : ℕ) (l : Bytes) (ls es : List Bytes) → joined ((x ∷ l) ∷ ls) es ≡ x ∷ joined (l ∷ ls) es
unfolding joined
joined_on x l ls [] = refl
joined_on x l ls (e ∷ es) = refl

-- a file is its lines and their ends
pub lines_joined : (f : Bytes) → joined (lines f) (line_ends f) ≡ f
unfolding lines line_ends joined on_first starts_lf is_empty
lines_joined [] = refl
lines_joined (x ∷ []) = go (eqb x LF)
  where
    go : (t : Bool) → joined (cond t ([] ∷ []) (cond (eqb x CR && false) [] ((x ∷ []) ∷ []))) (cond t ((x ∷ []) ∷ []) (cond (eqb x CR && false) ((x ∷ []) ∷ []) ([] ∷ []))) ≡ x ∷ []
    go true = refl
    go false = rw (and-false (eqb x CR))
lines_joined (x ∷ (y ∷ ys)) = go (eqb x LF) (eqb x CR && eqb y LF) refl refl (lines_joined (y ∷ ys))
  where
    go : (t u : Bool) → eqb x LF ≡ t → (eqb x CR && eqb y LF) ≡ u → joined (lines (y ∷ ys)) (line_ends (y ∷ ys)) ≡ y ∷ ys
        → joined (lines (x ∷ (y ∷ ys))) (line_ends (x ∷ (y ∷ ys))) ≡ x ∷ (y ∷ ys)
    go true u e d ih = rw (e, ih)
    go false true e d ih =
        let a = (and_both (eqb x CR) (eqb y LF) d).1 in
        rw (e, d, a) (ap (λ (l : Bytes). x ∷ l) (rw a at ih))
    go false false e d ih =
        let r = cut_first y ys in
        rw (e, d, r.lines_cut) (joined_on x r.line (lines r.rest) (line_ends (y ∷ ys)) ∙ ap (λ (l : Bytes). x ∷ l) (rw r.lines_cut at ih))

-- no line has an LF
pub lines_free : (f : Bytes) → any (has LF) (lines f) ≡ false
unfolding lines on_first any
lines_free [] = refl
lines_free (x ∷ xs) = go (eqb x LF) (eqb x CR && starts_lf xs) refl (lines xs) (lines_free xs)
  where
    go : (t u : Bool) → eqb x LF ≡ t → (ls : List Bytes) → any (has LF) ls ≡ false → any (has LF) (cond t ([] ∷ ls) (cond u ls (on_first x ls))) ≡ false
    go true u e ls ih = ih
    go false true e ls ih = ih
    go false false e [] ih = rw e
    go false false e (l ∷ ls) ih = rw e ih

-- the next line begins after the line and its end
after_ended : (m : Bytes) {l end rest : Bytes} → has LF m ≡ false → Ended l end rest → after LF 1 (m ++ (end ++ rest)) ≡ length m + length end
unfolding after
after_ended [] h (last s) = refl
after_ended [] h (by_lf rest e) = refl
after_ended [] h (by_crlf rest) = refl
after_ended (x ∷ xs) h t = rw (has_none LF x xs h).0 (omega (arith, after_ended xs (has_none LF x xs h).1 t))

-- the end of the line that begins at `at`, and the ends of the lines after it
end_here : {f : Bytes} {at end next : ℕ} → LineAt f at end next → (end ≤ next) × (line_ends (drop at f) ≡ part end next f ∷ line_ends (drop next f))
end_here {f} {at} {end} {next} p = go (drop at f) refl
  where
    go : (g : Bytes) → drop at f ≡ g → (end ≤ next) × (line_ends (drop at f) ≡ part end next f ∷ line_ends (drop next f))
    go [] e = absurd (omega (arith, p.on, p.within, length-drop at f, ap length e))
    go (x ∷ xs) e =
        let r = cut_first x xs in
        let w : drop at f ≡ r.line ++ (r.end ++ r.rest) = e ∙ r.whole in
        let c : lines (drop at f) ≡ r.line ∷ lines r.rest = rw e r.lines_cut in
        let q : part at end f ≡ r.line = ap (λ (ls : List Bytes). get_or ls 0 []) (sym p.cut ∙ c) in
        let t : length (part at end f) ≡ end - at = length-take-le (end - at) (drop at f) (omega (arith, p.starts, p.ends, length-drop at f)) in
        let n : at + length r.line ≡ end = omega (arith, p.starts, t, ap length q) in
        let a : after LF 1 (drop at f) ≡ length r.line + length r.end = rw w (after_ended r.line r.free r.ended) in
        let m : end + length r.end ≡ next = omega (arith, p.passes, a, n) in
        let k : next - end ≡ length r.end = omega (arith, m) in
        let d : drop end f ≡ r.end ++ r.rest = rw (← n, ← drop-drop (length r.line) at f, w) (drop-append_seam r.line (r.end ++ r.rest)) in
        let o : drop next f ≡ r.rest = rw (← m, ← drop-drop (length r.end) end f, d) (drop-append_seam r.end r.rest) in
        (omega (arith, m), rw (e, r.ends_cut, k, d, o, take-append_seam r.end r.rest))

pub ends_next : {f : Bytes} {at end next : ℕ} → LineAt f at end next → line_ends (drop at f) ≡ part end next f ∷ line_ends (drop next f)
ends_next p = (end_here p).1

pub end_before : {f : Bytes} {at end next : ℕ} → LineAt f at end next → end ≤ next
end_before p = (end_here p).0

-- CELLS AND TABS

-- a byte in front of the first cell is the first of all
tabbed_on : (x : ℕ) (p : Bytes) (ps : List Bytes) → tabbed ((x ∷ p) ∷ ps) ≡ x ∷ tabbed (p ∷ ps)
unfolding tabbed
tabbed_on x p [] = refl
tabbed_on x p (q ∷ qs) = refl

-- a line is its cells with tabs between
pub cells_tabbed : (l : Bytes) → tabbed (cells l) ≡ l
unfolding split_on on_first tabbed
cells_tabbed [] = refl
cells_tabbed (x ∷ xs) = go (eqb x TAB) refl (pieces TAB xs (cells xs) refl) (cells_tabbed xs)
  where
    go : (t : Bool) → eqb x TAB ≡ t → ((p : Bytes) × ((qs : List Bytes) × (cells xs ≡ p ∷ qs))) → tabbed (cells xs) ≡ xs → tabbed (cells (x ∷ xs)) ≡ x ∷ xs
    go true e q ih = rw (e, q.1.1, eqb-true x TAB e) (ap (λ (l : Bytes). TAB ∷ l) (rw q.1.1 at ih))
    go false e q ih = rw (e, q.1.1) (tabbed_on x q.0 q.1.0 ∙ ap (λ (l : Bytes). x ∷ l) (rw q.1.1 at ih))

-- no cell has a tab
pub cells_free : (l : Bytes) → any (has TAB) (cells l) ≡ false
unfolding split_on on_first any
cells_free [] = refl
cells_free (x ∷ xs) = go (eqb x TAB) refl (cells xs) (cells_free xs)
  where
    go : (t : Bool) → eqb x TAB ≡ t → (ps : List Bytes) → any (has TAB) ps ≡ false → any (has TAB) (cond t ([] ∷ ps) (on_first x ps)) ≡ false
    go true e ps ih = ih
    go false e [] ih = rw e
    go false e (p ∷ ps) ih = rw e ih

-- cells with tabs between are cut into these cells again
pub tabbed_cells : (xs : List Bytes) → 1 ≤ length xs → any (has TAB) xs ≡ false → cells (tabbed xs) ≡ xs
unfolding split_on any tabbed
tabbed_cells [] h free = absurd (omega arith)
tabbed_cells (x ∷ []) h free = rw (append-nil x) at (front TAB x [] [] (or_none (has TAB x) false free).0 refl)
tabbed_cells (x ∷ (y ∷ ys)) h free =
    let q = or_none (has TAB x) (any (has TAB) (y ∷ ys)) free in
    front TAB x (TAB ∷ tabbed (y ∷ ys)) (y ∷ ys) q.0 (ap (λ (ps : List Bytes). [] ∷ ps) (tabbed_cells (y ∷ ys) (omega arith) q.1))

-- OTHER BYTES IN SOME CELLS

-- cells, some of which hold other bytes, which are some and cut nothing
pub data Filled : List Bytes → List Bytes → Type 0 where
  none : Filled [] []
  same : {xs ys : List Bytes} (x : Bytes) → Filled xs ys → Filled (x ∷ xs) (x ∷ ys)
  new : {xs ys : List Bytes} (x y : Bytes) → is_empty y ≡ false → has TAB y ≡ false → has LF y ≡ false → has CR y ≡ false → Filled xs ys → Filled (x ∷ xs) (y ∷ ys)

filled_length : {xs ys : List Bytes} → Filled xs ys → length xs ≡ length ys
filled_length none = refl
filled_length (same x f) = omega (arith, filled_length f)
filled_length (new x y s t l c f) = omega (arith, filled_length f)

filled_tabs : {xs ys : List Bytes} → Filled xs ys → any (has TAB) xs ≡ false → any (has TAB) ys ≡ false
unfolding any
filled_tabs none h = refl
filled_tabs (same {xs} x f) h = let q = or_none (has TAB x) (any (has TAB) xs) h in rw q.0 (filled_tabs f q.1)
filled_tabs (new {xs} x y s t l c f) h = rw t (filled_tabs f (or_none (has TAB x) (any (has TAB) xs) h).1)

-- a line with such cells is cut into them
pub filled_cells : (l : Bytes) {ys : List Bytes} → Filled (cells l) ys → cells (tabbed ys) ≡ ys
filled_cells l {ys} f = tabbed_cells ys (some (cells l) (pieces TAB l (cells l) refl).1.1 (filled_length f)) (filled_tabs f (cells_free l))
  where
    some : (ps : List Bytes) {p : Bytes} {qs : List Bytes} → ps ≡ p ∷ qs → length ps ≡ length ys → 1 ≤ length ys
    some ps e h = omega (arith, ap length e)

-- OTHER BYTES IN SOME CELLS OF LINES

-- the cells after the first, each with the tab before it
tabs : List Bytes → Bytes
tabs [] = []
tabs (x ∷ xs) = TAB ∷ (x ++ tabs xs)

tabbed_tabs : (x : Bytes) (xs : List Bytes) → tabbed (x ∷ xs) ≡ x ++ tabs xs
unfolding tabbed tabs
tabbed_tabs x [] = sym (append-nil x)
tabbed_tabs x (y ∷ ys) = ap (λ (l : Bytes). x ++ (TAB ∷ l)) (tabbed_tabs y ys)

-- what has no b has none in its parts
has_parts : (b : ℕ) (xs ys : Bytes) → has b (xs ++ ys) ≡ false → (has b xs ≡ false) × (has b ys ≡ false)
unfolding any
has_parts b [] ys h = (refl, h)
has_parts b (x ∷ xs) ys h = let q = has_none b x (xs ++ ys) h in let r = has_parts b xs ys q.1 in (rw (q.0, r.0), r.1)

some_append : (xs ys : Bytes) → is_empty (xs ++ ys) ≡ (is_empty xs && is_empty ys)
unfolding is_empty
some_append [] ys = refl
some_append (x ∷ xs) ys = refl

-- what a line with such cells has in common with the one that stood there: it has no LF where that has none, ends in CR only where that does, and is some where that is
record Akin (l m : Bytes) : Type 0 where
  free : has LF l ≡ false → has LF m ≡ false
  ends : ends_cr m ≡ true → ends_cr l ≡ true
  some : is_empty l ≡ false → is_empty m ≡ false

module _ (x : Bytes) {l m : Bytes} (a : Akin l m) (e : is_empty l ≡ is_empty m) where
  -- the same in front of both
  akin_same : Akin (x ++ l) (x ++ m)
  akin_same = record {
    free = λ h. let q = has_parts LF x l h in has_append LF x m q.0 (a.free q.1);
    ends = rw (ends_append x l, ends_append x m, e) (last_of (is_empty m) (ends_cr x));
    some = rw (some_append x l, some_append x m, e) (λ h. h);
  }
    where
      last_of : (t u : Bool) → cond t u (ends_cr m) ≡ true → cond t u (ends_cr l) ≡ true
      last_of true u h = h
      last_of false u h = a.ends h

  -- other bytes in front
  akin_new : (y : Bytes) → is_empty y ≡ false → has LF y ≡ false → has CR y ≡ false → Akin (x ++ l) (y ++ m)
  akin_new y s f c = record {
    free = λ h. has_append LF y m f (a.free (has_parts LF x l h).1);
    ends = rw (ends_append x l, ends_append y m, e, ends_free y c) (last_of (is_empty m));
    some = λ h. rw (some_append y m, s);
  }
    where
      last_of : (t : Bool) → cond t false (ends_cr m) ≡ true → cond t (ends_cr x) (ends_cr l) ≡ true
      last_of true h = absurd_bool h
      last_of false h = a.ends h

akin_tab : {l m : Bytes} → Akin l m → Akin (TAB ∷ l) (TAB ∷ m)
unfolding any ends_cr is_empty
akin_tab {l} {m} a = record { free = a.free; ends = rw (tab l, tab m) a.ends; some = λ h. refl }
  where
    tab : (s : Bytes) → ends_cr (TAB ∷ s) ≡ ends_cr s
    tab [] = refl
    tab (x ∷ xs) = refl

filled_empty : {xs ys : List Bytes} → Filled xs ys → is_empty (tabs xs) ≡ is_empty (tabs ys)
unfolding tabs is_empty
filled_empty none = refl
filled_empty (same x f) = refl
filled_empty (new x y s t l c f) = refl

akin_tabs : {xs ys : List Bytes} → Filled xs ys → Akin (tabs xs) (tabs ys)
unfolding tabs
akin_tabs none = record { free = λ h. h; ends = λ h. h; some = λ h. h }
akin_tabs (same x f) = akin_tab (akin_same x (akin_tabs f) (filled_empty f))
akin_tabs (new x y s t l c f) = akin_tab (akin_new x (akin_tabs f) (filled_empty f) y s l c)

akin_filled : {xs ys : List Bytes} → Filled xs ys → Akin (tabbed xs) (tabbed ys)
unfolding tabbed
akin_filled none = record { free = λ h. h; ends = λ h. h; some = λ h. h }
akin_filled (same {xs} {ys} x f) = rw (tabbed_tabs x xs, tabbed_tabs x ys) (akin_same x (akin_tabs f) (filled_empty f))
akin_filled (new {xs} {ys} x y s t l c f) = rw (tabbed_tabs x xs, tabbed_tabs y ys) (akin_new x (akin_tabs f) (filled_empty f) y s l c)

pub filled_some : (l : Bytes) {ys : List Bytes} → Filled (cells l) ys → is_empty l ≡ false → is_empty (tabbed ys) ≡ false
filled_some l f h = (akin_filled f).some (rw (cells_tabbed l) h)

-- the lines of a text, and what ends them
abbrev Split : Bytes → List Bytes → List Bytes → Type 0
Split f ls es = (lines f ≡ ls) × (line_ends f ≡ es)

-- a line, and what ends it, or nothing
ends_front : (m : Bytes) {rest : Bytes} {ls : List Bytes} → has LF m ≡ false → is_empty m ≡ false → Tail (ends_cr m) rest ls → line_ends (m ++ rest) ≡ cond (is_empty rest) ([] ∷ []) (line_ends rest)
unfolding line_ends starts_lf ends_cr is_empty
ends_front [] h s t = absurd_bool (sym s)
ends_front (x ∷ []) h s nothing = rw ((has_none LF x [] h).0, and-false (eqb x CR))
ends_front (x ∷ []) h s (lf rest e) = rw ((has_none LF x [] h).0, e)
ends_front (x ∷ []) h s (crlf rest) = rw ((has_none LF x [] h).0, and-false (eqb x CR))
ends_front (x ∷ (y ∷ ys)) h s t =
    let q = has_none LF x (y ∷ ys) h in
    let d : (eqb x CR && eqb y LF) ≡ false = rw (has_none LF y ys q.1).0 (and-false (eqb x CR)) in
    rw (q.0, d) (ends_front (y ∷ ys) q.1 refl t)

split_front : (m : Bytes) {rest : Bytes} {ls : List Bytes} → has LF m ≡ false → is_empty m ≡ false → Tail (ends_cr m) rest ls → Split (m ++ rest) (m ∷ ls) (cond (is_empty rest) ([] ∷ []) (line_ends rest))
split_front m h s t = (lines_front m h s t, ends_front m h s t)

-- such a line in the place of one, before what ends that, is a line with this end, and what is left is cut as it is
split_akin : (m : Bytes) {l end rest : Bytes} → Akin l m → has LF l ≡ false → Ended l end rest → (other : Bytes) → (end ≡ [] → other ≡ [])
    → Split (m ++ (end ++ other)) (m ∷ lines other) (end ∷ line_ends other)
unfolding lines line_ends on_first starts_lf is_empty
split_akin m a h (last s) other z = rw (z refl) (split_front m (a.free h) (a.some s) nothing)
split_akin [] a h (by_lf rest e) other z = (refl, refl)
split_akin (x ∷ xs) {l} a h (by_lf rest e) other z = split_front (x ∷ xs) (a.free h) refl (tail_for (ends_cr l) (ends_cr (x ∷ xs)) a.ends (lf other e))
split_akin [] a h (by_crlf rest) other z = (refl, refl)
split_akin (x ∷ xs) a h (by_crlf rest) other z = split_front (x ∷ xs) (a.free h) refl (crlf other)

-- lines, each with such cells
pub data AllFilled : List Bytes → List Bytes → Type 0 where
  done : AllFilled [] []
  next : {l : Bytes} {ls ys ms : List Bytes} → Filled (cells l) ys → AllFilled ls ms → AllFilled (l ∷ ls) (tabbed ys ∷ ms)

all_none : {ls ms : List Bytes} → ls ≡ [] → AllFilled ls ms → ms ≡ []
all_none e done = refl
all_none e (next p q) = absurd (omega (arith, ap length e))

-- nothing is left after a line that has no end
ended_none : {l end rest : Bytes} {ms : List Bytes} → Ended l end rest → AllFilled (lines rest) ms → end ≡ [] → ms ≡ []
unfolding lines
ended_none (last s) q e = all_none refl q
ended_none (by_lf rest c) q e = absurd (omega (arith, ap length e))
ended_none (by_crlf rest) q e = absurd (omega (arith, ap length e))

-- the first line and those after it
joined_next : {f : Bytes} (r : Cut f) {ls ms : List Bytes} → ls ≡ r.line ∷ lines r.rest → AllFilled ls ms
    → ((ns : List Bytes) → AllFilled (lines r.rest) ns → Split (joined ns (line_ends r.rest)) ns (line_ends r.rest))
    → Split (joined ms (r.end ∷ line_ends r.rest)) ms (r.end ∷ line_ends r.rest)
unfolding joined
joined_next r e done ih = absurd (omega (arith, ap length e))
joined_next r e (next {l} {ls} {ys} {ms} p q) ih =
    let h : l ≡ r.line = ap (λ (zs : List Bytes). get_or zs 0 []) e in
    let t : ls ≡ lines r.rest = ap (λ (zs : List Bytes). drop 1 zs) e in
    let a : Akin r.line (tabbed ys) = rw (← h) (rw (cells_tabbed l) at (akin_filled p)) in
    let o : AllFilled (lines r.rest) ms = rw (← t) q in
    let z : r.end ≡ [] → joined ms (line_ends r.rest) ≡ [] = λ n. rw (ended_none r.ended o n) in
    rw ((ih ms o).0, (ih ms o).1) at (split_akin (tabbed ys) a r.free r.ended (joined ms (line_ends r.rest)) z)

-- by the length of the text
joined_step : (f : Bytes) → ((g : Bytes) → length g < length f → (ms : List Bytes) → AllFilled (lines g) ms → Split (joined ms (line_ends g)) ms (line_ends g))
    → (ms : List Bytes) → AllFilled (lines f) ms → Split (joined ms (line_ends f)) ms (line_ends f)
unfolding lines line_ends joined
joined_step [] ih ms a = rw (all_none refl a) (refl, refl)
joined_step (x ∷ xs) ih ms a = let r = cut_first x xs in rw r.ends_cut (joined_next r r.lines_cut a (ih r.rest (cut_less r)))

joined_below : (k : ℕ) (f : Bytes) → length f < k → (ms : List Bytes) → AllFilled (lines f) ms → Split (joined ms (line_ends f)) ms (line_ends f)
joined_below zero f h = absurd (omega arith)
joined_below (suc k) f h = joined_step f (λ g l. joined_below k g (omega arith))

module _ (f : Bytes) {ms : List Bytes} (a : AllFilled (lines f) ms) where
  -- a file with such lines, and the ends that stood there, is cut into them
  pub joined_filled : lines (joined ms (line_ends f)) ≡ ms
  joined_filled = (joined_below (suc (length f)) f (omega arith) ms a).0

  -- and has these ends
  pub ends_filled : line_ends (joined ms (line_ends f)) ≡ line_ends f
  ends_filled = (joined_below (suc (length f)) f (omega arith) ms a).1
