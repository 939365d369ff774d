-- The rounds over tables in order rise from the empty set, and reach the names that the plain route holds.
-- Assumes nothing.
use mathlib.Core.Path.{◌≡◌, sym, ap, ap₂, ◌∙◌}
use mathlib.Core.Bool.{true, false}
use mathlib.Core.List.{List, ◌++◌}
use Prim.Native.Nat.{ℕ, ◌*◌, ◌≤◌}
use native.Mathlib.Omega.{arith}
use lib.Dec.{ltb}
use lib.ListN.{length, replicate, drop}
use borrow.Author.Tests.{ltb-true, ltb-false}
use Rattle.limits.specs.Book.{word_bits, row_words}
use Rattle.sets.specs.Set.{Set, Same, count, empty_set}
use Rattle.sets.specs.Steps.{rounds, reached}
use Rattle.sets.proofs.Logic.{either, clash}
use Rattle.sets.proofs.Counting.{count_same, count_tail}
use Rattle.sets.proofs.Running.{step_sees}
use Rattle.sets.proofs.Rounds.{rounds_agree, reached_agree}
use Rattle.areas.specs.Area.{begun}
use Rattle.words.specs.Row.{row, pack}
use Rattle.words.proofs.Rows.{row_past, row_pack, length_pack, pack_same, pack_empty}
use Rattle.program.specs.Program.{Program, consequence, plain_held, plain_rounds}
use Rattle.program.proofs.Plain.{consequence_mono}
use Rattle.tables.specs.Areas.{RuleTables, Counts, program_in}
use Rattle.systems.specs.Rows.{below}
use Rattle.systems.specs.Rounds.{with_model}
use Rattle.systems.specs.Standardise.{formed_tables}
use Rattle.systems.proofs.Bridge.{formed_limits}
use Rattle.systems.proofs.Running.{ends_below, below_at, below_same}
use Rattle.rounds.specs.Turns.{Ready}
use Rattle.plain.specs.Step.{heads_from}
use Rattle.plain.proofs.Consequences.{heads_are, heads_end}

-- the words of the empty set
abbrev zeros : List ℕ
zeros = replicate row_words 0

zeros_row : (a : ℕ) → row zeros a ≡ false
zeros_row a =
    either (ltb a (row_words * word_bits))
    (λ t. ap (λ (ws : List ℕ). row ws a) (sym (pack_empty row_words)) ∙ row_pack row_words empty_set a (ltb-true a (row_words * word_bits) t))
    (λ t. row_past zeros a (ltb-false a (row_words * word_bits) t))

-- tables in order
module _ (tables : RuleTables) (counts : Counts) (formed : formed_tables tables counts ≡ true) where
  abbrev n : ℕ
  n = counts.names

  abbrev p : Program
  p = program_in tables counts

  -- what a round makes of a set
  abbrev after : Set → Set
  after = heads_from tables counts.rules

  few : n ≤ row_words * word_bits
  few = omega (arith, (formed_limits tables counts formed).0)

  -- the rounds may go on from round one
  pub ready : (next : List ℕ) → next ≡ pack row_words (after (row zeros)) → Ready n after zeros next
  ready next e = record {
    few = few;
    mono = λ f g w i l q. heads_are tables counts formed g i ∙ consequence_mono p f g w i l (sym (heads_are tables counts formed f i) ∙ q);
    ends = heads_end tables counts formed;
    words = sym (pack_same row_words (row zeros) empty_set (λ a l. zeros_row a) ∙ pack_empty row_words);
    start_ends = λ k l. zeros_row k;
    rises = λ i l q. clash q (zeros_row i);
    made = e;
  }

  agree : (v w : Set) → Same n v w → Same n (after v) (consequence p w)
  agree v w e i l = heads_are tables counts formed v i ∙ step_sees n (consequence p) (consequence_mono p) v w e i l

  -- the rounds are those of the plain route
  pub rounds_are : (t : ℕ) → t ≡ rounds n after (row zeros) → t ≡ plain_rounds p
  unfolding plain_rounds
  rounds_are t e = e ∙ rounds_agree n after (consequence p) agree (row zeros) empty_set (λ i l. zeros_row i)

  -- and so is the set reached
  module _ (set : List ℕ) (e : set ≡ pack row_words (below n (reached n after (row zeros)))) where
    held_words : set ≡ pack row_words (below n (plain_held p))
    unfolding plain_held
    held_words =
        e ∙ ap (pack row_words)
        (below_same n (reached n after (row zeros)) (plain_held p)
        (reached_agree n after (consequence p) agree (row zeros) empty_set (λ i l. zeros_row i)))

    -- put at the front of the model area
    pub model_is : (front model : List ℕ) → front ≡ set → front ++ drop row_words model ≡ with_model (below n (plain_held p)) model
    unfolding with_model begun
    model_is front model f =
        ap₂ (λ (ws : List ℕ) (k : ℕ). ws ++ drop k model) (f ∙ held_words) (sym (length_pack row_words (below n (plain_held p))))

    -- its members are the held names
    pub held_is : (k : ℕ) → k ≡ count (length set * word_bits) (row set) → k ≡ count n (plain_held p)
    held_is k h =
        h
        ∙ ap₂ (λ (w : ℕ) (ws : List ℕ). count (w * word_bits) (row ws))
        (ap length held_words ∙ length_pack row_words (below n (plain_held p))) held_words
        ∙ count_same (row_words * word_bits) (row (pack row_words (below n (plain_held p)))) (below n (plain_held p))
        (row_pack row_words (below n (plain_held p)))
        ∙ count_tail n (row_words * word_bits) (below n (plain_held p)) few (λ a b u. ends_below n (plain_held p) a b)
        ∙ count_same n (below n (plain_held p)) (plain_held p) (below_at n (plain_held p))
