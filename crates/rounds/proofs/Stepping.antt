-- One round: whether an atom joins, and the set after another built atom by atom.
-- Assumes nothing.
use mathlib.Core.Path.{◌≡◌, refl, sym, ap, ◌∙◌}
use mathlib.Core.Bool.{Bool, true, false, not, ◌&&◌, ◌||◌, or-true, or-false, and-false}
use mathlib.Core.List.{List}
use Prim.Native.Nat.{ℕ, ◌+◌, ◌*◌, ◌≤◌, ◌<◌}
use native.Mathlib.Omega.{arith}
use lib.Dec.{eqb, ltb}
use lib.ListN.{length, replicate}
use borrow.Author.Tests.{not-false, lt-ltb, le-ltb, ltb-true, ltb-false, eqb-true, eqb-false}
use Rattle.limits.specs.Book.{atoms, word_bits, row_words, row_area}
use Rattle.sets.specs.Set.{Set, exists, within, meets, only, union, empty_set}
use Rattle.sets.proofs.Logic.{either, of_not, pick_true, pick_false}
use Rattle.areas.specs.Area.{part}
use Rattle.areas.proofs.Parts.{length_part}
use Rattle.words.specs.Row.{row, pack}
use Rattle.words.proofs.Rows.{length_pack, row_pack, pack_same, pack_empty}
use Rattle.program.specs.System.{any_head, all_step, round}
use Rattle.systems.specs.Rows.{below}
use Rattle.rounds.specs.Step.{set_after}

-- atom i, whose rows lie in areas of their stated size
module _ (all any : List ℕ) (v : Set) (i : ℕ) (l : i < atoms) where
  row_long : (area : List ℕ) → row_area ≤ length area → length (part (i * row_words) row_words area) ≡ row_words
  row_long area h = length_part (i * row_words) row_words area (omega arith)

  abbrev all_row : List ℕ
  all_row = part (i * row_words) row_words all

  abbrev any_row : List ℕ
  any_row = part (i * row_words) row_words any

  -- where its "any" row is empty, the "all" row decides
  pub joins_all : row_area ≤ length all → row_area ≤ length any → not (exists (length any_row * word_bits) (row any_row)) ≡ true
      → set_after all any v i ≡ within (length all_row * word_bits) (row all_row) v
  unfolding set_after round any_head all_step
  joins_all p q g =
      pick_false _ _ (ap (λ (k : ℕ). exists (k * word_bits) (row any_row)) (sym (row_long any q)) ∙ of_not _ g)
      ∙ ap (λ (k : ℕ). within (k * word_bits) (row all_row) v) (sym (row_long all p))

  -- else the "any" row does
  pub joins_any : row_area ≤ length any → not (exists (length any_row * word_bits) (row any_row)) ≡ false
      → set_after all any v i ≡ meets (length any_row * word_bits) (row any_row) v
  unfolding set_after round any_head
  joins_any q g =
      pick_true _ _ (ap (λ (k : ℕ). exists (k * word_bits) (row any_row)) (sym (row_long any q)) ∙ not-false _ g)
      ∙ ap (λ (k : ℕ). meets (k * word_bits) (row any_row) v) (sym (row_long any q))

-- the laws of `joins`
pub ruleset joining = (joins_all, joins_any)

-- numbers below i + 1 but for i are those below i
one_more : (i k : ℕ) → (k ≡ i → ⊥) → ltb k i ≡ ltb k (i + 1)
one_more i k n =
    either (ltb k i) (λ t. let l : k < i = ltb-true k i t in t ∙ sym (lt-ltb k (i + 1) (omega arith)))
    (λ t. let l : i ≤ k = ltb-false k i t in t ∙ sym (le-ltb k (i + 1) (omega (arith, past l))))
  where
    past : i ≤ k → i + 1 ≤ k
    past l = either (ltb i k) (λ t. omega (arith, ltb-true i k t)) (λ t. absurd (n (omega (arith, ltb-false i k t))))

-- the words of the set after v, with the atoms below i in
pub gathered : List ℕ → List ℕ → Set → ℕ → List ℕ
gathered all any v i = pack row_words (below i (set_after all any v))

module _ (all any : List ℕ) (v : Set) where
  abbrev f : Set
  f = set_after all any v

  -- no atom yet
  pub gathered_none : gathered all any v 0 ≡ replicate row_words 0
  unfolding gathered
  gathered_none = pack_same row_words (below 0 f) empty_set (λ k l. nothing k) ∙ pack_empty row_words
    where
      nothing : (k : ℕ) → below 0 f k ≡ false
      nothing k = ap (λ (b : Bool). b && f k) (le-ltb k 0 (omega arith))

  -- an atom that does not join
  pub gathered_out : (i : ℕ) → f i ≡ false → gathered all any v (i + 1) ≡ gathered all any v i
  unfolding gathered
  gathered_out i z = pack_same row_words (below (i + 1) f) (below i f) (λ k l. sym (on k))
    where
      on : (k : ℕ) → below i f k ≡ below (i + 1) f k
      on k =
          either (eqb k i)
          (λ t.
          let y : f k ≡ false = ap f (eqb-true k i t) ∙ z in
          ap (λ (b : Bool). ltb k i && b) y ∙ and-false (ltb k i) ∙ sym (ap (λ (b : Bool). ltb k (i + 1) && b) y ∙ and-false (ltb k (i + 1))))
          (λ t. ap (λ (b : Bool). b && f k) (one_more i k (eqb-false k i t)))

  -- an atom that joins
  pub gathered_in : (i : ℕ) → f i ≡ true
      → gathered all any v (i + 1) ≡ pack (length (gathered all any v i)) (union (row (gathered all any v i)) (only i))
  unfolding gathered
  gathered_in i z =
      pack_same row_words (below (i + 1) f) (union (row (pack row_words (below i f))) (only i))
      (λ k l. sym (ap (λ (b : Bool). b || only i k) (row_pack row_words (below i f) k l) ∙ on k))
      ∙ ap (λ (w : ℕ). pack w (union (row (pack row_words (below i f))) (only i))) (sym (length_pack row_words (below i f)))
    where
      on : (k : ℕ) → union (below i f) (only i) k ≡ below (i + 1) f k
      on k =
          either (eqb i k)
          (λ t.
          let q : i ≡ k = eqb-true i k t in
          ap (λ (b : Bool). below i f k || b) t ∙ or-true (below i f k)
          ∙ sym (ap (λ (b : Bool). b && f k) (lt-ltb k (i + 1) (omega arith)) ∙ ap f (sym q) ∙ z))
          (λ t.
          ap (λ (b : Bool). below i f k || b) t ∙ or-false (below i f k)
          ∙ ap (λ (b : Bool). b && f k) (one_more i k (λ q. eqb-false i k t (sym q))))

  -- all of them
  pub gathered_all : (m : ℕ) → gathered all any v m ≡ pack row_words (below m f)
  unfolding gathered
  gathered_all m = refl

-- the laws of `step`
pub ruleset stepping_on = (gathered_none, gathered_out, gathered_in, gathered_all)
