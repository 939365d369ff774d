-- The bytes of a listing: no line end within a line, and no zero.
-- Assumes nothing.
use mathlib.Core.Path.{◌≡◌, refl}
use mathlib.Core.Bool.{Bool, true}
use mathlib.Core.List.{List, [], ◌∷◌, map}
use Prim.Native.Nat.{ℕ, zero, suc, ◌≤◌, ◌<◌}
use native.Mathlib.Omega.{arith}
use lib.Dec.{eqb, leb}
use lib.ListN.{length, get_or}
use borrow.Author.Tests.{ne_eqb, leb-true}
use Rattle.sets.specs.Set.{Set, count, members}
use Rattle.sets.proofs.Logic.{and_left, and_right, not_of_false}
use Rattle.sets.proofs.Walk.{walked}
use Rattle.grammar.specs.Bytes.{Bytes, line_end, not_end, from_to, all_of, bytes}
use Rattle.grammar.specs.Grammar.{joined}
use Rattle.grammar.proofs.Spans.{all_nil, all_cons, all_both, all_wider}
use Rattle.tables.specs.Areas.{nonzero}
use Rattle.tables.proofs.Encoding.{AllFine}
use Rattle.solving.specs.Listing.{decimal, head_line, held_names, listing_lines}
use Rattle.solving.proofs.Decimal.{decimals}

-- every byte by its place
all_make : (p : ℕ → Bool) (s : Bytes) → ((i : ℕ) → i < length s → p (get_or s i 0) ≡ true) → all_of p s ≡ true
all_make p [] h = all_nil p
all_make p (b ∷ s) h = all_cons p b s (h zero (omega arith)) (all_make p s (λ i l. h (suc i) (omega arith)))

-- A test that every printable byte passes, as that for no line end and that for a byte that is not zero.
abbrev pub Printable : (ℕ → Bool) → Type 0
Printable p = (b : ℕ) → 32 ≤ b → b ≤ 126 → p b ≡ true

module _ (p : ℕ → Bool) (prints : Printable p) where
  -- figures pass it
  pub decimal_all : (n : ℕ) → all_of p (decimal n) ≡ true
  decimal_all n =
      all_make p (decimal n)
      (λ i l.
      let r = (decimals n).figures i l in
      prints (get_or (decimal n) i 0) (omega (arith, r.0)) (omega (arith, r.1)))

  -- and so does a text whose bytes lie in that range
  pub quoted_all : (s : Bytes) → all_of (from_to 32 126) s ≡ true → all_of p s ≡ true
  quoted_all s e =
      all_wider (from_to 32 126) p
      (λ b q. prints b (leb-true 32 b (and_left (leb 32 b) (leb b 126) q)) (leb-true b 126 (and_right (leb 32 b) (leb b 126) q))) s e

  -- the head line passes it
  pub head_all : (n held k rounds : ℕ) → all_of p (head_line n held k rounds) ≡ true
  unfolding head_line
  head_all n held k rounds =
      all_both p (bytes "DPL 0001 names=") _ (quoted_all _ (unfold all_of in refl))
      (all_both p (decimal n) _ (decimal_all n)
      (all_both p (bytes " held=") _ (quoted_all _ (unfold all_of in refl))
      (all_both p (decimal held) _ (decimal_all held)
      (all_both p (bytes " folds=") _ (quoted_all _ (unfold all_of in refl))
      (all_both p (decimal k) _ (decimal_all k)
      (all_both p (bytes " rounds=") (decimal rounds) (quoted_all _ (unfold all_of in refl)) (decimal_all rounds)))))))

-- a printable byte ends no line
pub not_ends : Printable not_end
unfolding not_end
not_ends b l m = not_of_false (eqb b line_end) (ne_eqb b line_end (λ e. omega arith))

-- nor is it zero
pub not_zero : Printable nonzero
unfolding nonzero
not_zero b l m = not_of_false (eqb b 0) (ne_eqb b 0 (λ e. omega arith))

-- lines of which no byte is zero
joined_nonzero : (g : ℕ → Bytes) (xs : List ℕ) → ((i : ℕ) → i < length xs → all_of nonzero (g (get_or xs i 0)) ≡ true)
    → all_of nonzero (joined (map g xs)) ≡ true
unfolding joined
joined_nonzero g [] h = all_nil nonzero
joined_nonzero g (a ∷ xs) h =
    all_both nonzero (g a) (line_end ∷ joined (map g xs)) (h zero (omega arith))
    (all_cons nonzero line_end (joined (map g xs)) (unfold nonzero in refl) (joined_nonzero g xs (λ i l. h (suc i) (omega arith))))

-- a listing of names without a zero byte has none
pub listing_nonzero : (ns : List Bytes) → AllFine ns → (f : Set) (k rounds : ℕ) → all_of nonzero (joined (listing_lines ns f k rounds)) ≡ true
unfolding listing_lines held_names joined
listing_nonzero ns fine f k rounds =
    let xs : List ℕ = members (length ns) f 0 in
    let lines : Bytes = joined (map (λ a. get_or ns a []) xs) in
    all_both nonzero (head_line (length ns) (count (length ns) f) k rounds) (line_end ∷ lines)
    (head_all nonzero not_zero (length ns) (count (length ns) f) k rounds)
    (all_cons nonzero line_end lines (unfold nonzero in refl)
    (joined_nonzero (λ a. get_or ns a []) xs (λ i l. (fine (get_or xs i 0) ((walked (length ns) f 0 (length ns) (omega arith)).stop i l).1).1)))
