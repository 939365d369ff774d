-- The rounds over rows in order rise from the start set, so they may go on from round one.
-- Assumes nothing.
use mathlib.Core.Path.{◌≡◌, sym, ap, ap₂, subst, ◌∙◌}
use mathlib.Core.Bool.{Bool, true}
use mathlib.Core.List.{List, ◌++◌}
use Prim.Native.Nat.{ℕ, ◌*◌, ◌≤◌}
use native.Mathlib.Omega.{arith}
use lib.ListN.{length, take, drop}
use Rattle.limits.specs.Book.{atoms, word_bits, row_words}
use Rattle.sets.specs.Set.{Set, Same, within, empty_set}
use Rattle.sets.specs.Steps.{rounds, reached}
use Rattle.sets.proofs.Logic.{either}
use Rattle.sets.proofs.Running.{step_sees}
use Rattle.sets.proofs.Rounds.{rounds_agree, reached_agree}
use Rattle.areas.specs.Area.{begun}
use Rattle.areas.proofs.Parts.{length_part}
use Rattle.words.specs.Row.{Words, row, pack}
use Rattle.words.proofs.Areas.{words_part}
use Rattle.words.proofs.Rows.{row_pack, pack_row, length_pack}
use Rattle.rows.proofs.Reading.{Known, in_range}
use Rattle.program.specs.System.{System, round, any_head, all_step, rounds_of, held_by}
use Rattle.systems.specs.Rows.{RowAreas, row_in, below}
use Rattle.systems.specs.Rounds.{model_in, with_model, system_in, formed_system, start_kept}
use Rattle.systems.specs.Claims.{RoundsLong, RoundsFormed}
use Rattle.systems.proofs.Formed.{round_fewer}
use Rattle.systems.proofs.Running.{Ends, in_order, ends_below, below_at, below_same, round_mono, start_rises, kept_test}
use Rattle.rounds.specs.Step.{set_after}
use Rattle.rounds.specs.Turns.{Ready}

-- the words at the front of a model area are those of the set there
pub front_words : (model set : List ℕ) → Known model → row_words ≤ length model → set ≡ take row_words model → set ≡ pack row_words (row set)
front_words model set known l e =
    let size : length set ≡ row_words = ap length e ∙ length_part 0 row_words model l in
    sym (ap (λ (w : ℕ). pack w (row set)) (sym size) ∙ pack_row set (subst Words (sym e) (words_part 0 row_words model (in_range model known))))

-- rows and start set in order
module _ (o : RowAreas) (m : ℕ) (formed : formed_system o m ≡ true) where
  abbrev s : System
  s = system_in o m

  abbrev order : RoundsFormed o m
  order = in_order o m formed

  -- the count is within its limit
  pub few : m ≤ atoms
  few = order.0

  -- the start set has nothing at or past the count
  pub start_ends : Ends m (model_in o.model)
  start_ends k l = either (model_in o.model k) (λ t. absurd (omega (arith, order.3 k t))) (λ t. t)

  -- what a round makes of a set
  abbrev pub after : Set → Set
  after v = below m (set_after o.all o.any v)

  -- with each row taken whole it is one over the m atoms
  after_round : (v : Set) → Same m (after v) (round s v)
  unfolding set_after round any_head all_step
  after_round v i l =
      below_at m (set_after o.all o.any v) i l
      ∙ round_fewer atoms m (row_in row_words o.all) (row_in row_words o.any) (model_in o.model) empty_set few order.1 order.2 v i l

  agree : (v w : Set) → Same m v w → Same m (after v) (round s w)
  agree v w e i l = after_round v i l ∙ step_sees m (round s) (round_mono s) v w e i l

  -- The start set's words, and those of the set after it.
  module _ (long : RoundsLong o) (start next : List ℕ) (is : start ≡ take row_words o.model) (made : next ≡ pack row_words (after (row start))) where
    size : length start ≡ row_words
    size = ap length is ∙ length_part 0 row_words o.model long.2

    next_row : Same m (row next) (round s (row start))
    next_row i l =
        ap (λ (ws : List ℕ). row ws i) made ∙ row_pack row_words (after (row start)) i (omega (arith, few)) ∙ after_round (row start) i l

    -- whether the start set lies within the set after it
    pub kept_is : (inside : Bool) → inside ≡ within (length start * word_bits) (row start) (row next) → start_kept s ≡ inside
    kept_is inside q =
        sym (kept_test s (row_words * word_bits) (row start) (row next) few (λ k l. ap (λ (ws : List ℕ). row ws k) is ∙ start_ends k l)
        (λ i l. ap (λ (ws : List ℕ). row ws i) is) next_row)
        ∙ ap (λ (k : ℕ). within (k * word_bits) (row start) (row next)) (sym size)
        ∙ sym q

    -- where it does, the rounds may go on
    pub ready : start ≡ pack row_words (row start) → start_kept s ≡ true → Ready m after start next
    ready words kept = record {
      few = few;
      mono = λ f g w i l p. after_round g i l ∙ round_mono s f g w i l (sym (after_round f i l) ∙ p);
      ends = λ f k l. ends_below m (set_after o.all o.any f) k l;
      words = words;
      start_ends = λ k l. ap (λ (ws : List ℕ). row ws k) is ∙ start_ends k l;
      rises =
          λ i l p.
          after_round (row start) i l ∙ ap (λ (ws : List ℕ). round s (row ws) i) is
          ∙ start_rises s kept i l (sym (ap (λ (ws : List ℕ). row ws i) is) ∙ p);
      made = made;
    }

    -- the rounds are those of the system
    pub rounds_are : (t : ℕ) → t ≡ rounds m after (row start) → t ≡ rounds_of s
    unfolding rounds_of
    rounds_are t e = e ∙ rounds_agree m after (round s) agree (row start) (model_in o.model) (λ i l. ap (λ (ws : List ℕ). row ws i) is)

    -- and its set, put at the front of the model area
    pub model_is : (set front : List ℕ) → set ≡ pack row_words (below m (reached m after (row start))) → front ≡ set
        → front ++ drop row_words o.model ≡ with_model (below m (held_by s)) o.model
    unfolding held_by with_model begun
    model_is set front e f =
        let held : front ≡ pack row_words (below m (held_by s)) =
        f ∙ e ∙ ap (pack row_words)
        (below_same m (reached m after (row start)) (held_by s)
        (reached_agree m after (round s) agree (row start) (model_in o.model) (λ i l. ap (λ (ws : List ℕ). row ws i) is)))
        in
        ap₂ (λ (ws : List ℕ) (k : ℕ). ws ++ drop k o.model) held (sym (length_pack row_words (below m (held_by s))))
