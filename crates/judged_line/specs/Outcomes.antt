-- That no second outcome fits: what `judge_line_places` ensures leaves one number, one count and one list. Assumes nothing.
use Rattle.std.specs.Prelude.{ℕ, ◌≡◌, List}
use Rattle.std.proofs.Common.{sym, ap, ◌∙◌}
use Rattle.text_bytes.specs.Bytes.{Bytes}
use Rattle.judged.specs.Judged.{Outcome, outcome}
use Rattle.judged_line.specs.Judged.{judged_line}

-- `judge_line_places` and `mztab_judge_line`: one number, one count, and every place of the list
pub judge_line_places_once : (file : Bytes) (i : ℕ) (ys : List ℕ) {n m k l : ℕ} {zs ws : List ℕ} → outcome n k zs ≡ judged_line file i ys → outcome m l ws ≡ judged_line file i ys
    → (n ≡ m) × (k ≡ l) × (zs ≡ ws)
judge_line_places_once file i ys p q =
    (ap (λ (x : Outcome). x.number) (p ∙ sym q), ap (λ (x : Outcome). x.count) (p ∙ sym q), ap (λ (x : Outcome). x.places) (p ∙ sym q))
