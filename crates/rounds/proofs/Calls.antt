-- The tests of the call, and its outcomes.
-- Assumes nothing.
use mathlib.Core.Path.{◌≡◌, refl, sym, ap, ap₂, ◌∙◌}
use mathlib.Core.Bool.{Bool, true, false, ◌&&◌}
use mathlib.Core.List.{List}
use Prim.Native.Nat.{ℕ, ◌*◌, ◌≤◌}
use lib.Dec.{leb, ltb}
use lib.ListN.{length, take}
use Rattle.limits.specs.Book.{atoms, word_bits, row_words, row_area}
use Rattle.sets.specs.Set.{pick, within}
use Rattle.sets.proofs.Logic.{pick_true, pick_false}
use Rattle.areas.proofs.Parts.{length_part}
use Rattle.words.specs.Row.{row}
use Rattle.program.specs.System.{System, rounds_of, held_by}
use Rattle.systems.specs.Rows.{RowAreas, below, formed_rows}
use Rattle.systems.specs.Fold.{formed_all}
use Rattle.systems.specs.Rounds.{model_in, with_model, system_in, short_system, formed_system, start_kept, rounds_refusal, rounds_made, rounds_call}
use Rattle.systems.specs.Claims.{RoundsLong}
use Rattle.systems.proofs.Running.{long_at, long_make, order_make, runs}
use Rattle.rowcheck.specs.Short.{short_rows}
use Rattle.rowcheck.proofs.Counted.{keeps}
use Rattle.rounds.proofs.Rising.{few}

-- the start set has nothing at or past the count
pub start_in : List ℕ → ℕ → Bool
start_in model m = within (row_words * word_bits) (model_in model) (λ k. ltb k m)

-- it is tested at the front of the model area
pub start_decides : (model : List ℕ) (m : ℕ) → row_words ≤ length model
    → start_in model m ≡ within (length (take row_words model) * word_bits) (row (take row_words model)) (λ k. ltb k m)
unfolding start_in
start_decides model m l = ap (λ (k : ℕ). within (k * word_bits) (model_in model) (λ i. ltb i m)) (sym (length_part 0 row_words model l))

module _ (o : RowAreas) (m : ℕ) where
  -- `low` is whether an area of rows is too short
  module _ (low : Bool) (short : low ≡ short_rows (length o.all) (length o.any) (length o.model)) where
    -- then it is refused: 1
    pub call_short : low ≡ true → rounds_call o m ≡ rounds_refusal 1 o.model
    unfolding rounds_call short_system
    call_short e = pick_true _ _ (sym short ∙ e)

    -- else the areas are long enough
    pub long_rows : low ≡ false → RoundsLong o
    unfolding short_system
    long_rows e = long_at o (sym short ∙ e)

  -- the count and both kinds of rows, each tested with the count, and the start set
  pub in_turn : formed_system o m ≡ formed_all o.all m && (formed_all o.any m && start_in o.model m)
  unfolding formed_all formed_system start_in
  in_turn = sym (each (leb m atoms) (formed_rows row_words atoms m o.all) (formed_rows row_words atoms m o.any) (start_in o.model m))
    where
      each : (a b c d : Bool) → a && b && (a && c && d) ≡ a && (b && (c && d))
      each true b c d = refl
      each false b c d = refl

  -- rows in order have a count within its limit; the first part says nothing: it shows `grind` what to match
  pub system_few : formed_system o m ≡ true → (formed_system o m ≡ formed_system o m) × (m ≤ atoms)
  system_few e = (refl, few o m e)

  -- ill formed: 10
  pub call_ill : row_area ≤ length o.all → row_area ≤ length o.any → row_words ≤ length o.model → formed_system o m ≡ false
      → rounds_call o m ≡ rounds_refusal 10 o.model
  unfolding rounds_call
  call_ill la ly lm e = pick_false _ _ (long_make o (la, ly, lm)) ∙ pick_false _ _ e

-- the laws of `judge`
pub ruleset judging = (call_short, long_rows, in_turn, start_decides, keeps, call_ill)

module _ (o : RowAreas) (m : ℕ) where
  abbrev s : System
  s = system_in o m

  -- rows that are not refused are long enough and in order
  pub accepted : (rounds_call o m).number ≡ 0 → RoundsLong o × (formed_system o m ≡ true)
  accepted z = let a = (runs o m).accepts.0 z in (a.0, order_make o m a.1)

  -- the areas are long enough, rows and start set in order: no start atom lost decides
  module _ (l : RoundsLong o) (formed : formed_system o m ≡ true) where
    past_tests : rounds_call o m ≡ pick (start_kept s) (rounds_made s o.model) (rounds_refusal 11 o.model)
    unfolding rounds_call
    past_tests = pick_false _ _ (long_make o l) ∙ pick_true _ _ formed

    -- a start atom is lost: 11
    pub call_lost : start_kept s ≡ false → record { number = 11; rounds = 0; model = o.model } ≡ rounds_call o m
    call_lost k = sym (past_tests ∙ pick_false _ _ k)

    -- the rounds: 0
    pub call_done : start_kept s ≡ true → (t : ℕ) (out : List ℕ) → t ≡ rounds_of s → out ≡ with_model (below m (held_by s)) o.model
        → record { number = 0; rounds = t; model = out } ≡ rounds_call o m
    unfolding rounds_made
    call_done k t out u v =
        ap₂ (λ (a : ℕ) (b : List ℕ). record { number = 0; rounds = a; model = b }) u v ∙ sym (past_tests ∙ pick_true _ _ k)
