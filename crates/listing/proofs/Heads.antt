-- The head line, put field by field.
-- Assumes nothing.
use mathlib.Core.Path.{◌≡◌, refl, subst}
use mathlib.Core.List.{[], ◌∷◌, ◌++◌, append_assoc}
use Prim.Native.Nat.{ℕ, ◌+◌}
use native.Mathlib.Omega.{arith}
use lib.ListN.{length, length-append}
use Rattle.grammar.specs.Bytes.{Bytes, bytes, line_end}
use Rattle.solving.specs.Listing.{decimal, head_line}
use Rattle.copying.specs.Text.{Puts}
use Rattle.copying.specs.declared.text.Text.{Text}
use Rattle.copying.proofs.Texts.{puts_on}

-- four fields and an end
fields : (a n b h c f d r e : Bytes)
    → ((((a ++ n) ++ (b ++ h)) ++ (c ++ f)) ++ (d ++ r)) ++ e ≡ (a ++ (n ++ (b ++ (h ++ (c ++ (f ++ (d ++ r))))))) ++ e
fields a n b h c f d r e = simp append_assoc refl

fields_length : (a n b h c f d r e : Bytes)
    → length ((a ++ (n ++ (b ++ (h ++ (c ++ (f ++ (d ++ r))))))) ++ e)
    ≡ (length a + length n) + (length b + length h) + (length c + length f) + (length d + length r) + length e
fields_length a n b h c f d r e = simp length-append (omega arith)

module _ (n held folds rounds : ℕ) where
  -- those of the head line
  pub head_length : length (head_line n held folds rounds ++ (line_end ∷ []))
      ≡ (15 + length (decimal n)) + (6 + length (decimal held)) + (7 + length (decimal folds)) + (8 + length (decimal rounds)) + 1
  head_length =
      unfold head_line in
      fields_length (bytes "DPL 0001 names=") (decimal n) (bytes " held=") (decimal held) (bytes " folds=") (decimal folds)
      (bytes " rounds=") (decimal rounds) (line_end ∷ [])

  -- are put one after the other
  pub puts_head : {x x₁ x₂ x₃ x₄ y : Text}
      → Puts x (bytes "DPL 0001 names=" ++ decimal n) x₁ → Puts x₁ (bytes " held=" ++ decimal held) x₂
      → Puts x₂ (bytes " folds=" ++ decimal folds) x₃ → Puts x₃ (bytes " rounds=" ++ decimal rounds) x₄ → Puts x₄ (line_end ∷ []) y
      → Puts x (head_line n held folds rounds ++ (line_end ∷ [])) y
  puts_head {x} {x₁} {x₂} {x₃} {x₄} {y} p q r s t =
      unfold head_line in
      subst (λ (w : Bytes). Puts x w y)
      (fields (bytes "DPL 0001 names=") (decimal n) (bytes " held=") (decimal held) (bytes " folds=") (decimal folds)
      (bytes " rounds=") (decimal rounds) (line_end ∷ []))
      (puts_on (puts_on (puts_on (puts_on p q) r) s) t)
