-- `book_facts::is_asked` meets its contract: the letters are tried one after the other. Assumes nothing.
use native.Mathlib.Omega.{arith}
use mathlib.Core.Path.{◌≡◌}
use Prim.Native.Nat.{ℕ}
use Rattle.book_facts.specs.Asked.{asks}
use Rattle.book_facts.proofs.Laws.Lettered.{ask_always, ask_no_mode, ask_no_type, by, ask_key, ask_rest}
use Rattle.book_facts.proofs.is_asked.Goals as goal
use Rattle.book_facts.proofs.is_asked.Goals.{then-mode-eq0-via-then-mode-eq0, then-mode-eq0-via-else-mode-eq0+then-typed-eq0}

pub returns-then-asked-eq42 : goal.returns-then-asked-eq42
returns-then-asked-eq42 c = ask_always c.args.asked c.args.asking.mode c.args.asking.typed c.args.asking.assay c.if-asked-eq42.true

pub returns-then-mode-eq0 : goal.returns-then-mode-eq0
returns-then-mode-eq0 c =
    elim c.then-mode-eq0.branch [
      | then-mode-eq0-via-then-mode-eq0 w ↦ ask_no_mode c.args.asked c.args.asking.mode c.args.asking.typed c.args.asking.assay c.if-asked-eq42.false w.if-mode-eq0.true
      | then-mode-eq0-via-else-mode-eq0+then-typed-eq0 w ↦ ask_no_type c.args.asked c.args.asking.mode c.args.asking.typed c.args.asking.assay c.if-asked-eq42.false w.if-typed-eq0.true
    ]

pub returns-in-43 : goal.returns-in-43
returns-in-43 c =
    let keyed : (k : ℕ) → c.args.asked ≡ k → by c.args.asked c.args.asking.mode c.args.asking.typed c.args.asking.assay c.if-asked-eq42.false c.if-mode-eq0.false c.if-typed-eq0.false k ≡ asks c.args.asked c.args.asking.mode c.args.asking.typed c.args.asking.assay = λ k e. ask_key c.args.asked c.args.asking.mode c.args.asking.typed c.args.asking.assay c.if-asked-eq42.false c.if-mode-eq0.false c.if-typed-eq0.false k e in
    keyed 43 c.in-43.is

pub returns-in-67 : goal.returns-in-67
returns-in-67 c =
    let keyed : (k : ℕ) → c.args.asked ≡ k → by c.args.asked c.args.asking.mode c.args.asking.typed c.args.asking.assay c.if-asked-eq42.false c.if-mode-eq0.false c.if-typed-eq0.false k ≡ asks c.args.asked c.args.asking.mode c.args.asking.typed c.args.asking.assay = λ k e. ask_key c.args.asked c.args.asking.mode c.args.asking.typed c.args.asking.assay c.if-asked-eq42.false c.if-mode-eq0.false c.if-typed-eq0.false k e in
    keyed 67 c.in-67.is

pub returns-in-113 : goal.returns-in-113
returns-in-113 c =
    let keyed : (k : ℕ) → c.args.asked ≡ k → by c.args.asked c.args.asking.mode c.args.asking.typed c.args.asking.assay c.if-asked-eq42.false c.if-mode-eq0.false c.if-typed-eq0.false k ≡ asks c.args.asked c.args.asking.mode c.args.asking.typed c.args.asking.assay = λ k e. ask_key c.args.asked c.args.asking.mode c.args.asking.typed c.args.asking.assay c.if-asked-eq42.false c.if-mode-eq0.false c.if-typed-eq0.false k e in
    keyed 113 c.in-113.is

pub returns-in-81 : goal.returns-in-81
returns-in-81 c =
    let keyed : (k : ℕ) → c.args.asked ≡ k → by c.args.asked c.args.asking.mode c.args.asking.typed c.args.asking.assay c.if-asked-eq42.false c.if-mode-eq0.false c.if-typed-eq0.false k ≡ asks c.args.asked c.args.asking.mode c.args.asking.typed c.args.asking.assay = λ k e. ask_key c.args.asked c.args.asking.mode c.args.asking.typed c.args.asking.assay c.if-asked-eq42.false c.if-mode-eq0.false c.if-typed-eq0.false k e in
    keyed 81 c.in-81.is

pub returns-in-65 : goal.returns-in-65
returns-in-65 c =
    let keyed : (k : ℕ) → c.args.asked ≡ k → by c.args.asked c.args.asking.mode c.args.asking.typed c.args.asking.assay c.if-asked-eq42.false c.if-mode-eq0.false c.if-typed-eq0.false k ≡ asks c.args.asked c.args.asking.mode c.args.asking.typed c.args.asking.assay = λ k e. ask_key c.args.asked c.args.asking.mode c.args.asking.typed c.args.asking.assay c.if-asked-eq42.false c.if-mode-eq0.false c.if-typed-eq0.false k e in
    keyed 65 c.in-65.is

pub returns-in_default : goal.returns-in_default
returns-in_default c = ask_rest c.args.asked c.args.asking.mode c.args.asking.typed c.args.asking.assay c.if-asked-eq42.false c.if-mode-eq0.false c.if-typed-eq0.false (λ e. omega arith) (λ e. omega arith) (λ e. omega arith) (λ e. omega arith) (λ e. omega arith)
