-- What the flags of a file's ids say of it, and what its slots say at its end. Assumes nothing.
use mathlib.Core.Path.{◌≡◌, sym, ap, subst, ◌∙◌}
use mathlib.Core.Bool.{Bool}
use mathlib.Core.List.{List, [], ◌++◌, append-nil}
use Prim.Native.Nat.{ℕ, ◌+◌, ◌≤◌}
use native.Mathlib.Omega.{arith}
use lib.Seq.{take_all}
use lib.ListN.{length, get_or, take}
use Rattle.text_bytes.specs.Bytes.{Bytes}
use Rattle.text.specs.Lines.{lines}
use Rattle.value_references.specs.Index.{MOST}
use Rattle.book.specs.Letters.{ASSAYS}
use Rattle.book_ids.specs.Ids.{Declared, is_marked}
use Rattle.book_facts.specs.Facts.{FactsOf}
use Rattle.book_facts.specs.Asked.{asking_by, AskingOf, asked_by}
use Rattle.book_facts.specs.declared.Facts.{Facts}
use Rattle.book_facts.specs.declared.Asking.{Asking}
use Rattle.rules.specs.Rules.{is_present}
use Rattle.scan.specs.Machine.{Slots, ids_of, SeenOf, end_breaks}
use Rattle.line_end.specs.Ends.{seen_by}
use Rattle.scan.specs.Carried.{Scan, from, last}
use Rattle.scan.specs.declared.state.State.{State}
use Rattle.scan.proofs.Laws.Keeping.{slots_marked}
use Rattle.scan.proofs.Laws.Lining.{Knows}
use Rattle.scan.proofs.Laws.Ending.{assays_are, end_means}
use Rattle.scan.proofs.Laws.Scanning.{scan_all, scan_last}
use Rattle.scan.proofs.Laws.Families.{column_ids}
use Rattle.line_meta_values.proofs.Laws.Ids.{value_ids, declares_flags}
use Rattle.book.specs.Text.{book_in}
use Rattle.book.proofs.Laws.Sized.{book_sized}

-- what the first pass found says what is asked of the file
pub asking_means : (t : Bytes) {facts : Facts} {flags : List (List Bool)} {file : Bytes} {a : Asking} → a ≡ asking_by facts flags → FactsOf (lines file) facts → Declared (book_in t) flags file
    → AskingOf (book_in t) (lines file) a
asking_means t {facts} {flags} {file} {a} e x h =
    record {
      mode = ap (λ (z : Asking). z.mode) e ∙ x.mode;
      typed = ap (λ (z : Asking). z.typed) e ∙ x.typed;
      assay = ap (λ (z : Asking). z.assay) e ∙ assays_are (book_in t) (lines file) flags (declares_flags t flags file h);
    }

-- the flags say which ids the file declares
pub flags_know : (t : Bytes) (flags : List (List Bool)) (file : Bytes) {a : Asking} → AskingOf (book_in t) (lines file) a → Declared (book_in t) flags file
    → Knows (book_in t) (lines file) (asked_by a) (ids_of flags)
flags_know t flags file x h =
    let d = declares_flags t flags file h in
    record {
      values = value_ids t (lines file) (ids_of flags) d;
      columns = column_ids t (lines file) (ids_of flags) d;
      letters = λ letter. rw (x.mode, x.typed, x.assay);
    }

pub flags_assay : (t : Bytes) (flags : List (List Bool)) (file : Bytes) {a : Asking} → AskingOf (book_in t) (lines file) a → Declared (book_in t) flags file
    → a.assay ≡ is_marked (get_or flags ASSAYS []) 0 MOST
flags_assay t flags file x h = x.assay ∙ sym (assays_are (book_in t) (lines file) flags (declares_flags t flags file h))

-- after the last line, the slots, the ids, what is asked and the sections present say what is left
pub end_left : (t : Bytes) {file : Bytes} {at n : ℕ} {s : State} {kinds slots : List ℕ} {flags : List (List Bool)}
    → Scan (book_in t) file at n s kinds slots → Declared (book_in t) flags file → AskingOf (book_in t) (lines file) s.asking → length file ≤ at
    → from (book_in t) (lines file) n ++ last (book_in t) (lines file) ≡ end_breaks (book_in t) (seen_by slots flags s) (n + 1) [] ++ []
end_left t {file} {n = n} {s = s} {slots = slots} {flags = flags} h d x e =
    let F = lines file in
    let b = book_in t in
    let y = seen_by slots flags s in
    let all : n ≡ length F = scan_all (book_sized t) h e in
    let whole : take n F ≡ F = take_all n F (omega arith) in
    let keys : Slots b F slots = subst (λ (ls : List Bytes). Slots b ls slots) whole h.stands.keys in
    let tells : SeenOf b F y = record { slots = slots_marked b F slots keys; ids = declares_flags t flags file d; mode = x.mode; typed = x.typed; present = λ i l. h.stands.present i l ∙ ap (λ (ls : List Bytes). is_present b ls i) whole } in
    scan_last (book_sized t) h e ∙ sym (append-nil (last b F)) ∙ sym (ap (λ (k : ℕ). end_breaks b y (k + 1) []) all ∙ end_means b (book_sized t) F y tells []) ∙ sym (append-nil (end_breaks b y (n + 1) []))
