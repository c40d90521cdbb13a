-- The kinds by number, for hosts: 0 text, 1 whole, 2 decimal, 3 decimal list, 4 window, 5 parameter, 6 parameter list. Assumes nothing.
use Rattle.std.specs.Prelude.{ℕ, Bool, false, cond, eqb}
use Rattle.text_bytes.specs.Bytes.{Bytes}
use Rattle.values.specs.Values.{is_text, is_whole, is_decimal, is_decimals, is_window}
use Rattle.value_parameters.specs.Parameters.{is_parameter, is_parameters}

-- whether b is of the kind with this number; of no other number is anything a kind
unfoldable pub is_kind : ℕ → Bytes → Bool
is_kind k b =
    cond (eqb k 0) (is_text b)
    (cond (eqb k 1) (is_whole b)
    (cond (eqb k 2) (is_decimal b)
    (cond (eqb k 3) (is_decimals b)
    (cond (eqb k 4) (is_window b)
    (cond (eqb k 5) (is_parameter b)
    (cond (eqb k 6) (is_parameters b)
    false))))))

-- yes is 1, no is 0
abbrev pub said : Bool → ℕ
said t = cond t 1 0
