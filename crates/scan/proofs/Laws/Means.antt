-- What a scan carries along means: the breaks that it puts of a line are those that the rules give. Assumes nothing.
use mathlib.Core.Path.{◌≡◌, refl, sym, ap, ◌∙◌}
use mathlib.Core.Bool.{Bool, true, false, cond, not, ◌&&◌, and-false}
use mathlib.Core.List.{List, [], ◌∷◌, ◌++◌}
use Prim.Native.Nat.{ℕ, suc, ◌+◌, ◌-◌, ◌≤◌, ◌<◌}
use native.Mathlib.Omega.{arith}
use lib.Dec.{eqb, ltb, leb}
use lib.Seq.{get_or-drop}
use lib.ListN.{length, take, drop, get_or, length-drop}
use borrow.Author.Tests.{ne_eqb, le-leb, lt-ltb, le-ltb, leb-true, leb-false, eqb-true}
use Rattle.std.specs.Prelude.{Ok, Err}
use Rattle.text_bytes.specs.Bytes.{Bytes, same, any, first_from}
use Rattle.text.specs.Lines.{cells, cell, width, is_three, is_field}
use Rattle.text_bytes.proofs.Laws.Tests.{and_both}
use Rattle.text_bytes.proofs.Laws.Firsts.{first_any}
use Rattle.book.specs.Keys.{is_colunit}
use Rattle.value_references.specs.Index.{is_form, is_zero, is_over}
use Rattle.value_references.specs.declared.index.Flaw.{Flaw}
use Rattle.value_references.specs.declared.index.Flaw.TheVariants.{Form, Zero, Over}
use Rattle.book_names.specs.Names.{is_known, is_strange, why_not, Found}
use Rattle.book_kinds.specs.Kinds.{family_number, of_kind, kind_flaw}
use Rattle.book_kinds.proofs.Laws.Letters.{good_none}
use Rattle.book_facts.specs.Asked.{asked_of}
use Rattle.rules.specs.Sorts.{sort_of, header, is_table, control_cell}
use Rattle.rules.specs.Breaks.{Break, break_with, break_at, when, Spot, spot, Rule, at_cell, at_line}
use Rattle.rules.specs.Rules.{key_found, same_key, value_flaw, is_wrong, named_in, names_undeclared, of_section, of_later, is_wide, names, column_undeclared, lacks_column, nearest, kind_in, flaw_at, rules}
use Rattle.scan.specs.Machine.{control_at, again_at, rule_at, flaw_rule, Ids, Asked, first_in, undeclared_in, key_rule, value_rule, field_rule, field_first, meta_cell, meta_breaks, column_in, name_rule, head_cell, head_breaks, Kinds, row_cell, row_breaks, unknown_breaks}
use Rattle.rules.specs.declared.sorts.Sort.TheVariants.{Silent, Unknown, Meta, Header, Row}
use Rattle.rules.proofs.Laws.Sorting.{silent_sort, meta_sort, header_section, row_section_lem}
use Rattle.scan.proofs.Laws.Keeping.{Repeats}
use Rattle.scan.proofs.Laws.Rowing.{Says, line_cells, plain_cell, plain_rest_lem}
use Rattle.book.specs.Book.{Book, key_of, column_of}
use Rattle.book.proofs.Laws.Sized.{Sized}

module _ (book : Book) (sized : Sized book) where
  -- THE RULES, WITH WHAT COMES AFTER

  when_append : (t : Bool) (b : Break) (bs rest : List Break) → when t b bs ++ rest ≡ when t b (bs ++ rest)
  when_append true b bs rest = refl
  when_append false b bs rest = refl

  at_rest : List Rule → Spot → ℕ → ℕ → List Break → List Break
  at_rest [] p n c rest = rest
  at_rest (r ∷ rs) p n c rest = when (r.broken p c) (break_with n c r.number (r.first p c)) (at_rest rs p n c rest)

  at_rest_lem : (rs : List Rule) (p : Spot) (n c : ℕ) (rest : List Break) → at_cell rs p n c ++ rest ≡ at_rest rs p n c rest
  unfolding at_cell at_rest
  at_rest_lem [] p n c rest = refl
  at_rest_lem (r ∷ rs) p n c rest = when_append (r.broken p c) (break_with n c r.number (r.first p c)) (at_cell rs p n c) rest ∙ rw (at_rest_lem rs p n c rest)

  -- SMALL LAWS

  pub not_over : (w : ℕ) → not (ltb 256 w) ≡ leb w 256
  not_over w = go (leb w 256) refl
    where
      go : (t : Bool) → leb w 256 ≡ t → not (ltb 256 w) ≡ t
      go true h = rw (le-ltb 256 w (leb-true w 256 h))
      go false h = rw (lt-ltb 256 w (leb-false w 256 h))

  pub cell_suc : (j : ℕ) (l : Bytes) → cell (suc j) l ≡ get_or (cells l) j []
  unfolding cell
  cell_suc j l = let e : suc j - 1 ≡ j = omega arith in rw e

  -- the kind kept for a column
  pub kind_at : (l₀ : Bytes) (kinds : List ℕ) (j : ℕ) → 1 ≤ j → j < length (cells l₀) → length (cells l₀) ≤ 256 → Kinds book l₀ kinds
      → kind_in (column_of book (header book l₀) (get_or (cells l₀) j [])) ≡ get_or kinds (suc j - 1) 0
  kind_at l₀ kinds j a b w k =
      let p : j - 1 + 1 ≡ suc j - 1 = omega arith in
      let q : 1 + (j - 1) ≡ j = omega arith in
      let got = k w (j - 1) (omega (arith, length-drop 1 (cells l₀))) in
      ap (λ (x : Bytes). kind_in (column_of book (header book l₀) x)) (ap (λ (i : ℕ). get_or (cells l₀) i []) (sym q) ∙ sym (get_or-drop 1 (cells l₀) (j - 1) [])) ∙ sym got ∙ ap (λ (i : ℕ). get_or kinds i 0) p

  -- ONE RULE AT MOST of those that stop each other

  -- a rule k where a test holds
  rule_when : (k n c f : ℕ) (rest : List Break) → eqb k 0 ≡ false → (t : Bool) → when t (break_with n c k f) rest ≡ rule_at (cond t k 0) n c f rest
  rule_when k n c f rest e true = rw e
  rule_when k n c f rest e false = refl

  -- rule 6 by the slots: they say whether the key came, and where first
  again_first : {above : List Bytes} {slots : List ℕ} {l : Bytes} → Repeats book above slots l → (n c : ℕ) (u : Bool) (bs : List Break)
      → when (u && (is_known (key_found book l) && (not (is_colunit (cell 2 l)) && any (same_key l) above))) (break_with n c 6 (first_from 1 (same_key l) above)) bs
      ≡ when (u && not (eqb (first_in book slots (cell 2 l) (key_found book l)) 0)) (break_with n c 6 (first_in book slots (cell 2 l) (key_found book l))) bs
  again_first ag n c false bs = refl
  again_first {above} {slots} {l} ag n c true bs = rw (sym ag.comes) (go (is_known (key_found book l) && (not (is_colunit (cell 2 l)) && any (same_key l) above)) refl)
    where
      go : (t : Bool) → (is_known (key_found book l) && (not (is_colunit (cell 2 l)) && any (same_key l) above)) ≡ t
          → when t (break_with n c 6 (first_from 1 (same_key l) above)) bs ≡ when t (break_with n c 6 (first_in book slots (cell 2 l) (key_found book l))) bs
      go true e = rw (ag.first e)
      go false e = refl

  -- the rules of a bad index
  abbrev bad : ℕ → ℕ → List Break → Flaw → List Break
  bad n c rest z = when (is_zero z) (break_at n c 23) (when (is_over z) (break_at n c 24) rest)

  -- of a key and its value: 5 to 8, 23 and 24
  module _ (slots : List ℕ) (ids : Ids) (key value : Bytes) (n c : ℕ) (rest : List Break) where
    -- the value, by whether it is of its kind, names an undeclared id, and has a flaw
    of_value : (good undeclared : Bool) (z : Flaw) → (good ≡ true → z ≡ Form)
        → when (not good && is_form z) (break_at n c 7) (when (good && undeclared) (break_at n c 8) (bad n c rest z)) ≡ rule_at (cond good (cond undeclared 8 0) (flaw_rule z 7)) n c 0 rest
    of_value true undeclared z h = rw (h refl) (rule_when 8 n c 0 rest refl undeclared)
    of_value false undeclared Form h = refl
    of_value false undeclared Zero h = refl
    of_value false undeclared Over h = refl

    of_key : (found : Found) → when (is_strange found) (break_at n c 5) (again_at 6 n c (first_in book slots key found) (bad n c rest (why_not found))) ≡ rule_at (key_rule (first_in book slots key found) found) n c (first_in book slots key found) rest
    of_key (Err Form) = refl
    of_key (Err Zero) = refl
    of_key (Err Over) = refl
    of_key (Ok k) = rule_when 6 n c (first_in book slots key (Ok k)) rest refl (not (eqb (first_in book slots key (Ok k)) 0))

    at_value : (found : Found) → when (is_wrong found value) (break_at n c 7) (when (undeclared_in ids found value) (break_at n c 8) (bad n c rest (value_flaw found value))) ≡ rule_at (value_rule ids found value) n c 0 rest
    at_value (Err w) = refl
    at_value (Ok k) = of_value (of_kind k.kind k.family value) (any (λ a. not (ids (family_number k.family) a)) (named_in k.kind k.family value)) (kind_flaw k.kind k.family value) (good_none k.kind k.family value)

    abbrev found : Found
    found = key_of book key

    field_rules :
        when (eqb c 2 && is_strange found) (break_at n c 5)
        (when (eqb c 2 && not (eqb (first_in book slots key found) 0)) (break_with n c 6 (first_in book slots key found))
        (when (eqb c 3 && is_wrong found value) (break_at n c 7)
        (when (eqb c 3 && undeclared_in ids found value) (break_at n c 8)
        (bad n c rest (cond (eqb c 2) (why_not found) (cond (eqb c 3) (value_flaw found value) Form))))))
        ≡ rule_at (field_rule book slots ids key value c) n c (field_first book slots key c) rest
    field_rules = go (eqb c 2) (eqb c 3) refl refl
      where
        go : (u v : Bool) → eqb c 2 ≡ u → eqb c 3 ≡ v →
            when (u && is_strange found) (break_at n c 5)
            (when (u && not (eqb (first_in book slots key found) 0)) (break_with n c 6 (first_in book slots key found))
            (when (v && is_wrong found value) (break_at n c 7)
            (when (v && undeclared_in ids found value) (break_at n c 8)
            (bad n c rest (cond u (why_not found) (cond v (value_flaw found value) Form))))))
            ≡ rule_at (cond u (key_rule (first_in book slots key found) found) (cond v (value_rule ids found value) 0)) n c (cond u (first_in book slots key found) 0) rest
        go true true a b = absurd (omega (arith, eqb-true c 2 a, eqb-true c 3 b))
        go true false a b = of_key found
        go false true a b = at_value found
        go false false a b = refl

  -- of a column name: 15, 23 and 24
  name_rules : (ids : Ids) (found : Found) (n c : ℕ) (rest : List Break)
      → when (column_in ids found) (break_at n c 15) (bad n c rest (why_not found)) ≡ rule_at (name_rule ids found) n c 0 rest
  name_rules ids (Err Form) n c rest = refl
  name_rules ids (Err Zero) n c rest = refl
  name_rules ids (Err Over) n c rest = refl
  name_rules ids (Ok k) n c rest = rule_when 15 n c 0 rest refl (column_in ids (Ok k))

  -- THE CELLS OF A LINE, BY ITS SORT

  module _ (above file : List Bytes) (l : Bytes) (n : ℕ) where
    abbrev p : Spot
    p = spot above l file

    abbrev cc : ℕ
    cc = control_cell l

    -- what is known of a cell after the first
    later : (j : ℕ) → 1 ≤ j → (eqb (suc j) 1 ≡ false) × (leb 2 (suc j) ≡ true)
    later j h = (ne_eqb (suc j) 1 (λ q. omega arith), le-leb 2 (suc j) (omega arith))

    -- an unknown code: rule 1, and at cell 1 rule 2
    unknown_first : sort_of book l ≡ Unknown → (rest : List Break) → at_cell (rules book) p n 1 ++ rest ≡ control_at cc n 1 (when true (break_at n 1 2) rest)
    unfolding rules at_rest flaw_at is_field
    unknown_first e rest = at_rest_lem (rules book) p n 1 rest ∙ rw (meta_sort book l, e)

    unknown_later : sort_of book l ≡ Unknown → Says (at_cell (rules book) p n) (plain_cell cc n) (cells l) 1
    unfolding rules at_rest flaw_at is_field plain_cell
    unknown_later e j a b rest = at_rest_lem (rules book) p n (suc j) rest ∙ rw (meta_sort book l, e, (later j a).0, (later j a).1)

    -- a metadata line
    module _ (e : sort_of book l ≡ Meta) where
      meta_first : (table : Bool) → table ≡ any (is_table book) above → (rest : List Break) → at_cell (rules book) p n 1 ++ rest ≡ control_at cc n 1 (when (not (eqb (width l) 3)) (break_at n 1 3) (when table (break_at n 1 4) rest))
      unfolding rules at_rest flaw_at is_field
      meta_first table ta rest = at_rest_lem (rules book) p n 1 rest ∙ rw (meta_sort book l, e, ta, and-false (is_three l))

      meta_plain : is_three l ≡ false → Says (at_cell (rules book) p n) (plain_cell cc n) (cells l) 1
      unfolding rules at_rest flaw_at is_field plain_cell
      meta_plain t j a b rest = at_rest_lem (rules book) p n (suc j) rest ∙ rw (meta_sort book l, e, (later j a).0, (later j a).1, t) (go (eqb (suc j) 2) (eqb (suc j) 3))
        where
          go : (u v : Bool) → control_at cc n (suc j) (when (u && false) (break_at n (suc j) 5) (when (u && false) (break_with n (suc j) 6 (first_from 1 (same_key l) above)) (when (v && false) (break_at n (suc j) 7) (when (v && false) (break_at n (suc j) 8) rest)))) ≡ control_at cc n (suc j) rest
          go true true = refl
          go true false = refl
          go false true = refl
          go false false = refl

      meta_cells : is_three l ≡ true → (slots : List ℕ) (ids : Ids) → Repeats book above slots l
          → names_undeclared book file (key_found book l) (cell 3 l) ≡ undeclared_in ids (key_found book l) (cell 3 l)
          → Says (at_cell (rules book) p n) (meta_cell book slots ids (get_or (cells l) 1 []) (get_or (cells l) 2 []) cc n) (cells l) 1
      unfolding rules at_rest flaw_at is_field
      meta_cells t slots ids ag un j a b rest =
          at_rest_lem (rules book) p n (suc j) rest
          ∙ rw (meta_sort book l, e, (later j a).0, (later j a).1, t, again_first ag n (suc j) (eqb (suc j) 2), un, cell_suc 1 l, cell_suc 2 l) (ap (control_at cc n (suc j)) (field_rules slots ids (get_or (cells l) 1 []) (get_or (cells l) 2 []) n (suc j) rest))

    -- a header
    module _ (h : ℕ) (e : sort_of book l ≡ Header h) where
      header_first : (asked : Asked) (first : ℕ) (after : Bool) → lacks_column book asked h (names l) ≡ lacks_column book (asked_of book file) h (names l) → first ≡ first_from 1 (of_section book h) above → after ≡ any (of_later book h) above
          → (rest : List Break) → at_cell (rules book) p n 1 ++ rest
          ≡ control_at cc n 1 (again_at 9 n 1 first (when after (break_at n 1 10) (when (is_wide l) (break_at n 1 11) (when (not (is_wide l) && lacks_column book asked h (names l)) (break_at n 1 16) rest))))
      unfolding rules at_rest flaw_at is_field
      header_first asked first after q a b rest =
          at_rest_lem (rules book) p n 1 rest ∙ rw (meta_sort book l, e, lt-ltb 0 h (header_section book sized l h e).0, a, b, q, first_any (of_section book h) 1 above (omega arith))

      header_wide : is_wide l ≡ true → Says (at_cell (rules book) p n) (plain_cell cc n) (cells l) 1
      unfolding rules at_rest flaw_at is_field plain_cell
      header_wide w j a b rest = at_rest_lem (rules book) p n (suc j) rest ∙ rw (meta_sort book l, e, (later j a).0, (later j a).1, lt-ltb 0 h (header_section book sized l h e).0, w)

      header_later : (ids : Ids) → ((x : Bytes) → column_undeclared book file (column_of book h x) ≡ column_in ids (column_of book h x)) → is_wide l ≡ false
          → Says (at_cell (rules book) p n) (head_cell book h (drop 1 (cells l)) ids cc n) (cells l) 1
      unfolding rules at_rest flaw_at is_field
      header_later ids d w j a b rest =
          at_rest_lem (rules book) p n (suc j) rest
          ∙ rw (meta_sort book l, e, (later j a).0, (later j a).1, lt-ltb 0 h (header_section book sized l h e).0, w, cell_suc j l, d (get_or (cells l) j []), name_rules ids (column_of book h (get_or (cells l) j [])) n (suc j) rest, first_any (same (get_or (cells l) j [])) 2 (take (suc j - 2) (drop 1 (cells l))) (omega arith))

    -- a row; the nearest header is of the section hs and has w cells
    module _ (r : ℕ) (e : sort_of book l ≡ Row r) (hs w : ℕ) (kinds : List ℕ) (eh : hs ≡ header book (nearest book above)) (ew : w ≡ width (nearest book above)) (ek : Kinds book (nearest book above) kinds) where
      row_first : (rest : List Break) → at_cell (rules book) p n 1 ++ rest
          ≡ control_at cc n 1 (when (not (eqb hs r)) (break_at n 1 17) (when ((eqb hs r && leb w 256) && not (eqb (width l) w)) (break_at n 1 18) rest))
      unfolding rules at_rest flaw_at is_field
      row_first rest = at_rest_lem (rules book) p n 1 rest ∙ rw (meta_sort book l, e, lt-ltb 0 r (row_section_lem book sized l r e).0, eh, ew, ← not_over (length (cells (nearest book above))))

      row_plain : ((eqb hs r && leb w 256) && eqb (width l) w) ≡ false → Says (at_cell (rules book) p n) (plain_cell cc n) (cells l) 1
      unfolding rules at_rest flaw_at is_field plain_cell
      row_plain f j a b rest =
          at_rest_lem (rules book) p n (suc j) rest
          ∙ rw (meta_sort book l, e, (later j a).0, (later j a).1, lt-ltb 0 r (row_section_lem book sized l r e).0, not_over (length (cells (nearest book above))), ← eh, ← ew, f)

      row_even : ((eqb hs r && leb w 256) && eqb (width l) w) ≡ true → width l ≡ w
      row_even f = eqb-true (width l) w (and_both (eqb hs r && leb w 256) (eqb (width l) w) f).1

      row_low : ((eqb hs r && leb w 256) && eqb (width l) w) ≡ true → w ≤ 256
      row_low f = leb-true w 256 (and_both (eqb hs r) (leb w 256) (and_both (eqb hs r && leb w 256) (eqb (width l) w) f).0).1

      row_section_of : ((eqb hs r && leb w 256) && eqb (width l) w) ≡ true → r ≡ header book (nearest book above)
      row_section_of f = sym (eqb-true hs r (and_both (eqb hs r) (leb w 256) (and_both (eqb hs r && leb w 256) (eqb (width l) w) f).0).0) ∙ eh

      row_kind : ((eqb hs r && leb w 256) && eqb (width l) w) ≡ true → (j : ℕ) → 1 ≤ j → j < length (cells l)
          → kind_in (column_of book r (get_or (cells (nearest book above)) j [])) ≡ get_or kinds (suc j - 1) 0
      row_kind f j a b =
          ap (λ (s : ℕ). kind_in (column_of book s (get_or (cells (nearest book above)) j []))) (row_section_of f)
          ∙ kind_at (nearest book above) kinds j a (omega (arith, row_even f, ew)) (omega (arith, row_low f, ew)) ek

      row_under : ((eqb hs r && leb w 256) && eqb (width l) w) ≡ true → Says (at_cell (rules book) p n) (row_cell kinds cc n) (cells l) 1
      unfolding rules at_rest flaw_at is_field
      row_under f j a b rest =
          at_rest_lem (rules book) p n (suc j) rest
          ∙ rw (
            meta_sort book l,
            e,
            (later j a).0,
            (later j a).1,
            lt-ltb 0 r (row_section_lem book sized l r e).0,
            not_over (length (cells (nearest book above))),
            ← eh,
            ← ew,
            f,
            cell_suc j l,
            cell_suc j (nearest book above),
            row_kind f j a b,
          )

  -- WHAT IS PUT OF A LINE IS WHAT THE RULES GIVE

  module _ (above file : List Bytes) (l : Bytes) (n : ℕ) (rest : List Break) where
    pub means_silent : sort_of book l ≡ Silent → rest ≡ at_line (rules book) (spot above l file) n ++ rest
    unfolding at_line
    means_silent e = rw (silent_sort book l, e)

    pub means_unknown : sort_of book l ≡ Unknown → unknown_breaks (control_cell l) n rest ≡ at_line (rules book) (spot above l file) n ++ rest
    unfolding at_line unknown_breaks
    means_unknown e = rw (← plain_rest_lem n l rest, silent_sort book l, e)
        (sym (line_cells (at_cell (rules book) (spot above l file) n) (λ bs. control_at (control_cell l) n 1 (when true (break_at n 1 2) bs)) (plain_cell (control_cell l) n) l (unknown_first above file l n e) (unknown_later above file l n e) rest))

    pub means_meta : sort_of book l ≡ Meta → (table : Bool) (slots : List ℕ) (ids : Ids) → table ≡ any (is_table book) above → Repeats book above slots l
        → names_undeclared book file (key_found book l) (cell 3 l) ≡ undeclared_in ids (key_found book l) (cell 3 l)
        → meta_breaks book table slots ids (control_cell l) n (cells l) rest ≡ at_line (rules book) (spot above l file) n ++ rest
    unfolding at_line meta_breaks
    means_meta e table slots ids ta ag un = go (is_three l) refl
      where
        first : List Break → List Break
        first bs = control_at (control_cell l) n 1 (when (not (is_three l)) (break_at n 1 3) (when table (break_at n 1 4) bs))

        go : (t : Bool) → is_three l ≡ t → meta_breaks book table slots ids (control_cell l) n (cells l) rest ≡ at_line (rules book) (spot above l file) n ++ rest
        go true w = rw (w, silent_sort book l, e)
            (rw w at (sym (line_cells (at_cell (rules book) (spot above l file) n) first (meta_cell book slots ids (get_or (cells l) 1 []) (get_or (cells l) 2 []) (control_cell l) n) l (meta_first above file l n e table ta) (meta_cells above file l n e w slots ids ag un) rest)))
        go false w = rw (w, ← plain_rest_lem n l rest, silent_sort book l, e)
            (rw w at (sym (line_cells (at_cell (rules book) (spot above l file) n) first (plain_cell (control_cell l) n) l (meta_first above file l n e table ta) (meta_plain above file l n e w) rest)))

    pub means_header : (h : ℕ) → sort_of book l ≡ Header h → (asked : Asked) (first : ℕ) (later : Bool) (ids : Ids)
        → lacks_column book asked h (names l) ≡ lacks_column book (asked_of book file) h (names l) → first ≡ first_from 1 (of_section book h) above → later ≡ any (of_later book h) above
        → ((x : Bytes) → column_undeclared book file (column_of book h x) ≡ column_in ids (column_of book h x))
        → head_breaks book asked h first later ids (control_cell l) n (cells l) rest ≡ at_line (rules book) (spot above l file) n ++ rest
    unfolding at_line head_breaks
    means_header h e asked first later ids q a b d = go (is_wide l) refl
      where
        front : List Break → List Break
        front bs = control_at (control_cell l) n 1 (again_at 9 n 1 first (when later (break_at n 1 10) (when (is_wide l) (break_at n 1 11) (when (not (is_wide l) && lacks_column book asked h (names l)) (break_at n 1 16) bs))))

        go : (t : Bool) → is_wide l ≡ t → head_breaks book asked h first later ids (control_cell l) n (cells l) rest ≡ at_line (rules book) (spot above l file) n ++ rest
        go true w = rw (w, ← plain_rest_lem n l rest, silent_sort book l, e)
            (rw w at (sym (line_cells (at_cell (rules book) (spot above l file) n) front (plain_cell (control_cell l) n) l (header_first above file l n h e asked first later q a b) (header_wide above file l n h e w) rest)))
        go false w = rw (w, silent_sort book l, e)
            (rw w at (sym (line_cells (at_cell (rules book) (spot above l file) n) front (head_cell book h (drop 1 (cells l)) ids (control_cell l) n) l (header_first above file l n h e asked first later q a b) (header_later above file l n h e ids d w) rest)))

    pub means_row : (r : ℕ) → sort_of book l ≡ Row r → (hs w : ℕ) (kinds : List ℕ) → hs ≡ header book (nearest book above) → w ≡ width (nearest book above) → Kinds book (nearest book above) kinds
        → row_breaks hs w kinds r (control_cell l) n (cells l) rest ≡ at_line (rules book) (spot above l file) n ++ rest
    unfolding at_line row_breaks
    means_row r e hs w kinds eh ew ek = go ((eqb hs r && leb w 256) && eqb (width l) w) refl
      where
        first : List Break → List Break
        first bs = control_at (control_cell l) n 1 (when (not (eqb hs r)) (break_at n 1 17) (when ((eqb hs r && leb w 256) && not (eqb (width l) w)) (break_at n 1 18) bs))

        go : (t : Bool) → ((eqb hs r && leb w 256) && eqb (width l) w) ≡ t → row_breaks hs w kinds r (control_cell l) n (cells l) rest ≡ at_line (rules book) (spot above l file) n ++ rest
        go true f = rw (f, silent_sort book l, e)
            (sym (line_cells (at_cell (rules book) (spot above l file) n) first (row_cell kinds (control_cell l) n) l (row_first above file l n r e hs w kinds eh ew ek) (row_under above file l n r e hs w kinds eh ew ek f) rest))
        go false f = rw (f, ← plain_rest_lem n l rest, silent_sort book l, e)
            (sym (line_cells (at_cell (rules book) (spot above l file) n) first (plain_cell (control_cell l) n) l (row_first above file l n r e hs w kinds eh ew ek) (row_plain above file l n r e hs w kinds eh ew ek f) rest))
