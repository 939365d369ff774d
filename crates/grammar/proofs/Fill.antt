-- Our letters in a lent area: each number exactly where it is due, and the area byte by byte.
-- Assumes nothing.
use mathlib.Core.Path.{◌≡◌, refl, sym, ap, subst, ◌∙◌}
use mathlib.Core.Logic.{inl, inr}
use mathlib.Core.List.{List}
use Prim.Native.Nat.{ℕ, ◌≤◌, ◌<◌}
use native.Mathlib.Omega.{arith}
use lib.Dec.{ltb}
use lib.ListN.{length, get_or, take}
use borrow.Author.Tests.{ltb-true, ltb-false, lt-ltb, le-ltb}
use Rattle.limits.specs.Book.{letter_bytes}
use Rattle.limits.specs.Cause.{fill_causes}
use Rattle.limits.proofs.Causes.{without, one_found}
use Rattle.sets.proofs.Logic.{either, holds, fails, pick_true, pick_false}
use Rattle.areas.specs.Area.{begun}
use Rattle.areas.proofs.Begun.{length_begun, drop_begun, used, begun_whole}
use Rattle.grammar.specs.Bytes.{Folding, letters, our_letters}
use Rattle.grammar.specs.Letters.{our_table}
use Rattle.grammar.specs.Fill.{FillOutcome, Fills, fill_call}
use Rattle.grammar.proofs.Folding.{folding}
use Rattle.grammar.proofs.Letters.{letters_first, our_letters_lem, length_ours}

module _ (old : List ℕ) where
  abbrev refused : FillOutcome
  refused = record { number = 1; area = old }

  abbrev laid : FillOutcome
  laid = record { number = 0; area = begun our_table old }

  -- an area too short, and one that is not
  pub fill_short : length old < letter_bytes → fill_call old ≡ refused
  unfolding fill_call
  fill_short l = pick_true refused laid (lt-ltb (length old) letter_bytes l)

  pub fill_long : letter_bytes ≤ length old → fill_call old ≡ laid
  unfolding fill_call
  fill_long l = pick_false refused laid (le-ltb (length old) letter_bytes l)

  -- one of 256 bytes is our table then
  pub fill_whole : length old ≡ letter_bytes → (r : FillOutcome) → r ≡ fill_call old → r.area ≡ our_table
  fill_whole l r e =
      ap (λ (o : FillOutcome). o.area) (e ∙ fill_long (omega arith)) ∙ begun_whole our_table old (omega (arith, length_ours))

  -- our table lies at its front
  begun_ours : take letter_bytes (begun our_table old) ≡ our_table
  begun_ours = ap (λ (k : ℕ). take k (begun our_table old)) (sym length_ours) ∙ used our_table old

  -- so its letters are ours
  begun_letters : letters (begun our_table old) ≡ our_letters
  begun_letters = letters_first (begun our_table old) ∙ ap letters begun_ours ∙ our_letters_lem

  fills_short : length old < letter_bytes → Fills old refused
  unfolding without
  fills_short l =
      record {
        accepts = fails (λ e. omega (arith, e)) (λ m. omega arith);
        short = holds refl l;
        no_other = inr (one_found 1 1 fill_causes refl refl);
        kept = λ some. refl;
        size = refl;
        entries = λ e. absurd (omega (arith, e));
        past = λ e. refl;
        passes = λ e. absurd (omega (arith, e));
      }

  fills_long : letter_bytes ≤ length old → Fills old laid
  unfolding letters
  fills_long l =
      record {
        accepts = holds refl l;
        short = fails (λ e. omega (arith, e)) (λ m. omega arith);
        no_other = inl refl;
        kept = λ some. absurd (some refl);
        size = length_begun our_table old (omega (arith, length_ours));
        entries = λ e b m. sym (pick_true (get_or (begun our_table old) b 0) 0 (lt-ltb b letter_bytes m)) ∙ ap (λ (f : ℕ → ℕ). f b) begun_letters;
        past = λ e. drop_begun letter_bytes our_table old (omega (arith, length_ours));
        passes = λ e. (
          (omega (arith, length_begun our_table old (omega (arith, length_ours))), subst Folding (sym begun_letters) folding),
          begun_letters,
        );
      }

  pub letters_filled : Fills old (fill_call old)
  letters_filled =
      either (ltb (length old) letter_bytes)
      (λ e. let l : length old < letter_bytes = ltb-true (length old) letter_bytes e in subst (Fills old) (sym (fill_short l)) (fills_short l))
      (λ e. let l : letter_bytes ≤ length old = ltb-false (length old) letter_bytes e in subst (Fills old) (sym (fill_long l)) (fills_long l))
