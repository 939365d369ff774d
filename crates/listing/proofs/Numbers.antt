-- A number as the kit's formatter writes it.
-- Assumes nothing.
use mathlib.Core.Path.{◌≡◌, sym, ap, ◌∙◌}
use mathlib.Core.List.{[], ◌∷◌, ◌++◌}
use Prim.Native.Nat.{ℕ, ◌%◌, ◌^◌, ◌<◌}
use Rattle.std.specs.Fmt.{decimal as written}
use Rattle.std.proofs.lemmas.Fmt.{decimal_by_steps}
use Rattle.grammar.specs.Bytes.{Bytes}
use Rattle.solving.specs.Listing.{figure, decimal}
use Rattle.solving.proofs.Decimal.{decimal_one, decimal_more}

-- is its figures in base ten
pub written_decimal : (n : ℕ) → n < 2 ^ 64 → written n ≡ decimal n
written_decimal =
    decimal_by_steps (λ m s. s ≡ decimal m) (λ m l. sym (decimal_one m l))
    (λ m s l e. ap (λ (t : Bytes). t ++ (figure (m % 10) ∷ [])) e ∙ sym (decimal_more m l))
