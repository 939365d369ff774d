-- The number of a fault by the byte at a place of the text, and by the run of name bytes there.
-- Assumes nothing.
use mathlib.Core.Path.{◌≡◌, refl, sym, ap, ◌∙◌}
use mathlib.Core.Bool.{true, false}
use mathlib.Core.List.{[], ◌∷◌}
use Prim.Native.Nat.{ℕ, suc, ◌-◌, ◌≤◌, ◌<◌}
use native.Mathlib.Omega.{arith}
use lib.Dec.{eqb}
use lib.ListN.{length, get_or, drop}
use lib.Seq.{drop-cons}
use borrow.Author.Tests.{lt-ltb, eq-eqb, ne_eqb}
use Rattle.limits.specs.Book.{name_bytes}
use Rattle.sets.proofs.Logic.{either, or_left, or_right}
use Rattle.grammar.specs.Bytes.{Bytes, Folding, space, colon, line_end, blank, not_end, name_byte}
use Rattle.grammar.specs.Lines.{span, run, barred, byte_fault, word_fault}
use Rattle.grammar.proofs.Spans.{run_yes, run_no, run_size}
use Rattle.grammar.proofs.Words.{name_end}
use Rattle.grammar.proofs.Sorts.{blank_free, byte_nil, byte_barred, byte_free, word_long, word_byte}
use Rattle.scan.specs.Places.{past_at}
use Rattle.scan.proofs.Steps.{at_end, in_line, no_name, of_name}
use Rattle.clause.specs.Line.{LineEnds, line_at}
use Rattle.clause.proofs.Places.{line_past, run_line, in_text}

module _ (fold : ℕ → ℕ) (b : ℕ) where
  -- bytes that are not barred: `:`, blanks, name bytes
  pub colon_free : eqb b colon ≡ true → barred fold b ≡ false
  unfolding barred
  colon_free e = either (name_byte fold b) (λ q. rw q) (λ q. either (blank b) (λ p. rw (q, p)) (λ p. rw (q, p, e)))

  pub space_free : eqb b space ≡ true → barred fold b ≡ false
  unfolding blank
  space_free e = blank_free fold b (or_left (eqb b 9) e)

  pub tab_free : eqb b 9 ≡ true → barred fold b ≡ false
  unfolding blank
  tab_free e = blank_free fold b (or_right (eqb b space) e)

  pub name_free : name_byte fold b ≡ true → barred fold b ≡ false
  unfolding barred
  name_free e = rw e

  -- and any other
  pub other_barred : name_byte fold b ≡ false → eqb b colon ≡ false → eqb b space ≡ false → eqb b 9 ≡ false → barred fold b ≡ true
  unfolding barred blank
  other_barred n c s t = rw (n, c, s, t)

  -- the line from a byte on: nothing at its end, else the byte and more
  module _ (t : Bytes) (i : ℕ) (l : i < length t) (e : b ≡ get_or t i 0) where
    byte_at : drop i t ≡ b ∷ drop (suc i) t
    byte_at = drop-cons t i 0 l ∙ ap (λ (x : ℕ). x ∷ drop (suc i) t) (sym e)

    line_end_lem : not_end b ≡ false → line_at t i ≡ []
    line_end_lem n = ap (run not_end) byte_at ∙ run_no not_end b (drop (suc i) t) n

    line_byte : not_end b ≡ true → line_at t i ≡ b ∷ line_at t (suc i)
    line_byte n = ap (run not_end) byte_at ∙ run_yes not_end b (drop (suc i) t) n

    -- 5 at the line's end, and at a byte that is not barred
    pub end_fault : not_end b ≡ false → 5 ≡ byte_fault fold (line_at t i)
    end_fault n = sym (ap (byte_fault fold) (line_end_lem n) ∙ byte_nil fold)

    pub free_fault : barred fold b ≡ false → 5 ≡ byte_fault fold (line_at t i)
    free_fault f =
        either (not_end b) (λ n. sym (ap (byte_fault fold) (line_byte n) ∙ byte_free fold b (line_at t (suc i)) f)) end_fault

    -- 14 at a barred one
    pub barred_fault : not_end b ≡ true → barred fold b ≡ true → 14 ≡ byte_fault fold (line_at t i)
    barred_fault n f = sym (ap (byte_fault fold) (line_byte n) ∙ byte_barred fold b (line_at t (suc i)) f)

-- by the byte there
module _ (fold : ℕ → ℕ) (t : Bytes) (i : ℕ) (l : i < length t) where
  pub fault_end : get_or t i 0 ≡ line_end → 5 ≡ byte_fault fold (line_at t i)
  fault_end e = end_fault fold (get_or t i 0) t i l refl (at_end _ e)

  pub fault_colon : get_or t i 0 ≡ colon → 5 ≡ byte_fault fold (line_at t i)
  fault_colon e = free_fault fold (get_or t i 0) t i l refl (colon_free fold (get_or t i 0) (eq-eqb (get_or t i 0) colon e))

  pub fault_space : get_or t i 0 ≡ space → 5 ≡ byte_fault fold (line_at t i)
  fault_space e = free_fault fold (get_or t i 0) t i l refl (space_free fold (get_or t i 0) (eq-eqb (get_or t i 0) space e))

  pub fault_tab : get_or t i 0 ≡ 9 → 5 ≡ byte_fault fold (line_at t i)
  fault_tab e = free_fault fold (get_or t i 0) t i l refl (tab_free fold (get_or t i 0) (eq-eqb (get_or t i 0) 9 e))

  -- by what it folds to
  module _ (x : ℕ) (q : x ≡ fold (get_or t i 0)) where
    pub fault_name : (x ≡ 0 → ⊥) → 5 ≡ byte_fault fold (line_at t i)
    fault_name n = free_fault fold (get_or t i 0) t i l refl (name_free fold (get_or t i 0) (of_name fold (get_or t i 0) x q n))

    pub fault_other : x ≡ 0 → (get_or t i 0 ≡ line_end → ⊥) → (get_or t i 0 ≡ colon → ⊥) → (get_or t i 0 ≡ space → ⊥) → (get_or t i 0 ≡ 9 → ⊥)
        → 14 ≡ byte_fault fold (line_at t i)
    fault_other n e c s b =
        barred_fault fold (get_or t i 0) t i l refl (in_line _ e)
        (other_barred fold (get_or t i 0) (no_name fold (get_or t i 0) x q n) (ne_eqb _ colon c) (ne_eqb _ space s) (ne_eqb _ 9 b))

-- what proves the fault at a byte
pub ruleset bytes = (fault_end, fault_colon, fault_space, fault_tab, fault_name, fault_other)

-- the run of name bytes at a place in a line
module _ (fold : ℕ → ℕ) (law : Folding fold) (t : Bytes) (i end : ℕ) (k : LineEnds t i) (e : end ≡ past_at (name_byte fold) t i) where
  run_is : end - i ≡ span (name_byte fold) (line_at t i)
  run_is =
      let n = ap length (run_line t i k (name_byte fold) (name_end fold law)) in
      omega (arith, e, n, run_size (name_byte fold) (drop i t), run_size (name_byte fold) (line_at t i))

  -- an overlong one
  pub long_fault : name_bytes < end - i → 13 ≡ word_fault fold (line_at t i)
  long_fault l =
      sym (word_long fold (line_at t i) (lt-ltb name_bytes (span (name_byte fold) (line_at t i)) (omega (arith, l, run_is))))

  -- one that is not: by the byte behind it
  pub short_fault : end - i ≤ name_bytes → byte_fault fold (line_at t end) ≡ word_fault fold (line_at t i)
  short_fault l =
      ap (λ (j : ℕ). byte_fault fold (line_at t j)) e ∙ ap (byte_fault fold) (line_past t i k (name_byte fold) (name_end fold law))
      ∙ sym (word_byte fold (line_at t i) (omega (arith, l, run_is)))

  -- which is in the text
  pub behind_run : end < length t
  behind_run = omega (arith, e, in_text t i k (name_byte fold) (name_end fold law))

-- what proves the fault at a run
pub ruleset runs = (long_fault, short_fault, behind_run)
