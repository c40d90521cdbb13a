-- That no second outcome fits: what `judge` ensures leaves one number, one count and one list. Assumes nothing.
use Rattle.std.specs.Prelude.{ℕ, ◌≡◌, List}
use Rattle.std.proofs.Common.{sym, ap, ◌∙◌}
use Rattle.text_bytes.specs.Bytes.{Bytes}
use Rattle.fault_steps.specs.declared.Fault.{Fault}
use Rattle.faults.specs.Records.{Outcome, outcome, judged}

-- `judge`: every record of the list
pub judge_once : (file : Bytes) (ys : List Fault) {n m k l : ℕ} {zs ws : List Fault} → outcome n k zs ≡ judged file ys → outcome m l ws ≡ judged file ys → (n ≡ m) × (k ≡ l) × (zs ≡ ws)
judge_once file ys p q = (ap (λ (x : Outcome). x.number) (p ∙ sym q), ap (λ (x : Outcome). x.count) (p ∙ sym q), ap (λ (x : Outcome). x.faults) (p ∙ sym q))
