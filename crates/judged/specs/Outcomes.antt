-- That no second outcome fits: what `judge_places` ensures leaves one number, one count and one list. Assumes nothing.
use Rattle.std.specs.Prelude.{ℕ, ◌≡◌, List}
use Rattle.std.proofs.Common.{sym, ap, ◌∙◌}
use Rattle.text_bytes.specs.Bytes.{Bytes}
use Rattle.judged.specs.Judged.{Outcome, outcome, judged}

-- `judge_places` and `mztab_judge`: one number, one count, and every place of the list
pub judge_places_once : (file : Bytes) (ys : List ℕ) {n m k l : ℕ} {zs ws : List ℕ} → outcome n k zs ≡ judged file ys → outcome m l ws ≡ judged file ys → (n ≡ m) × (k ≡ l) × (zs ≡ ws)
judge_places_once file ys p q =
    (ap (λ (x : Outcome). x.number) (p ∙ sym q), ap (λ (x : Outcome). x.count) (p ∙ sym q), ap (λ (x : Outcome). x.places) (p ∙ sym q))
