-- That no second outcome fits: what `mend` ensures leaves one number, one length, one count, and every byte of the buffer and place of the list. Assumes nothing.
use Rattle.std.specs.Prelude.{ℕ, ◌≡◌, List}
use Rattle.std.proofs.Common.{sym, ap, ◌∙◌}
use Rattle.text_bytes.specs.Bytes.{Bytes}
use Rattle.mender.specs.Mended.{Outcome, outcome, mended}

-- `mend` and `mztab_mend`
pub mend_once : (file ys : Bytes) (zs : List ℕ) {n n' m m' k k' : ℕ} {xs xs' : Bytes} {cs cs' : List ℕ} → outcome n m k xs cs ≡ mended file ys zs → outcome n' m' k' xs' cs' ≡ mended file ys zs
    → (n ≡ n') × (m ≡ m') × (k ≡ k') × (xs ≡ xs') × (cs ≡ cs')
mend_once file ys zs p q =
    let e = p ∙ sym q in
    (ap (λ (x : Outcome). x.number) e, ap (λ (x : Outcome). x.length) e, ap (λ (x : Outcome). x.count) e, ap (λ (x : Outcome). x.copy) e, ap (λ (x : Outcome). x.changes) e)
