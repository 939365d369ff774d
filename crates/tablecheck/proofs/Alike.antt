-- Two names a byte at a time: the first byte that differs or is zero settles whether they are the same.
-- Assumes nothing.
use mathlib.Core.Path.{◌≡◌, sym, ap, ap₂, ◌∙◌}
use mathlib.Core.List.{◌∷◌}
use mathlib.Core.Bool.{Bool, true, false, not}
use Prim.Native.Nat.{ℕ, ◌+◌, ◌*◌, ◌<◌}
use lib.Dec.{eqb}
use lib.ListN.{length, get_or, drop}
use borrow.Author.Tests.{eq-eqb, ne_eqb, eqb-true, not-false}
use Rattle.std.proofs.lemmas.List.{at_drop_more}
use Rattle.limits.specs.Book.{name_bytes}
use Rattle.sets.proofs.Logic.{either}
use Rattle.areas.specs.Area.{part}
use Rattle.grammar.specs.Bytes.{Bytes}
use Rattle.grammar.specs.Lines.{run}
use Rattle.grammar.proofs.Spans.{run_yes, run_no}
use Rattle.tables.specs.Numbering.{same_bytes}
use Rattle.tables.specs.Areas.{nonzero, name_at}

-- a byte that ends a name is zero
is_zero : (c : ℕ) → nonzero c ≡ false → c ≡ 0
unfolding nonzero
is_zero c e = eqb-true c 0 (not-false (eqb c 0) e)

-- names a byte at a time
module _ (c d : ℕ) (xs ys : Bytes) where
  -- the same byte, not zero
  same_on : c ≡ d → (c ≡ 0 → ⊥) → same_bytes (run nonzero (c ∷ xs)) (run nonzero (d ∷ ys)) ≡ same_bytes (run nonzero xs) (run nonzero ys)
  unfolding same_bytes nonzero
  same_on e z =
      ap₂ same_bytes (run_yes nonzero c xs (ap not (ne_eqb c 0 z))) (run_yes nonzero d ys (ap not (ne_eqb d 0 (λ (q : d ≡ 0). z (e ∙ q)))))
      ∙ rw (eq-eqb c d e)

  -- zero in both
  same_zero : c ≡ d → c ≡ 0 → same_bytes (run nonzero (c ∷ xs)) (run nonzero (d ∷ ys)) ≡ true
  unfolding same_bytes nonzero
  same_zero e z =
      ap₂ same_bytes (run_no nonzero c xs (ap not (eq-eqb c 0 z))) (run_no nonzero d ys (ap not (eq-eqb d 0 (sym e ∙ z))))

  -- two bytes that differ
  same_off : (c ≡ d → ⊥) → same_bytes (run nonzero (c ∷ xs)) (run nonzero (d ∷ ys)) ≡ false
  unfolding same_bytes
  same_off n =
      either (nonzero c)
      (λ t. either (nonzero d)
      (λ u. ap₂ same_bytes (run_yes nonzero c xs t) (run_yes nonzero d ys u) ∙ rw (ne_eqb c d n))
      (λ u. ap₂ same_bytes (run_yes nonzero c xs t) (run_no nonzero d ys u)))
      (λ t. either (nonzero d)
      (λ u. ap₂ same_bytes (run_no nonzero c xs t) (run_yes nonzero d ys u))
      (λ u. absurd (n (is_zero c t ∙ sym (is_zero d u)))))

-- whether the names in two rows go on alike from byte k
unfoldable pub alike : ℕ → Bytes → Bytes → Bool
alike k x y = same_bytes (run nonzero (drop k x)) (run nonzero (drop k y))

-- from the first byte, that is whether the names are the same
pub alike_start : (a b : ℕ) (area x y : Bytes) → x ≡ part (a * name_bytes) name_bytes area → y ≡ part (b * name_bytes) name_bytes area
    → alike 0 x y ≡ same_bytes (name_at area a) (name_at area b)
unfolding alike name_at
alike_start a b area x y e f = ap₂ (λ (s t : Bytes). same_bytes (run nonzero s) (run nonzero t)) e f

module _ (k : ℕ) (x y : Bytes) where
  -- byte k of the rows, and the bytes after it
  alike_at : k < length x → k < length y
      → alike k x y ≡ same_bytes (run nonzero (get_or x k 0 ∷ drop (k + 1) x)) (run nonzero (get_or y k 0 ∷ drop (k + 1) y))
  unfolding alike
  alike_at l m =
      ap₂ (λ (s t : Bytes). same_bytes (run nonzero s) (run nonzero t)) (at_drop_more (λ s. s) x k 0 l) (at_drop_more (λ s. s) y k 0 m)

  -- the same byte, not zero
  pub alike_on : k < length x → k < length y → get_or x k 0 ≡ get_or y k 0 → (get_or x k 0 ≡ 0 → ⊥) → alike (k + 1) x y ≡ alike k x y
  unfolding alike
  alike_on l m e z = sym (alike_at l m ∙ same_on _ _ _ _ e z)

  -- zero in both
  pub alike_zero : k < length x → k < length y → get_or x k 0 ≡ get_or y k 0 → get_or x k 0 ≡ 0 → true ≡ alike k x y
  alike_zero l m e z = sym (alike_at l m ∙ same_zero _ _ _ _ e z)

  -- two bytes that differ
  pub alike_off : k < length x → k < length y → (get_or x k 0 ≡ get_or y k 0 → ⊥) → false ≡ alike k x y
  alike_off l m e = sym (alike_at l m ∙ same_off _ _ _ _ e)
