-- The loop of rounds over rows: the row `set`, the row `next` with the set after it, and how many rounds make that one.
-- Assumes nothing.
use mathlib.Core.Path.{◌≡◌, refl, sym, ap, subst, ◌∙◌}
use mathlib.Core.Bool.{Bool, true, false}
use mathlib.Core.List.{List}
use Prim.Native.Nat.{ℕ, ◌+◌, ◌*◌, ◌≤◌}
use native.Mathlib.Omega.{arith}
use lib.Dec.{ltb}
use lib.ListN.{length}
use borrow.Author.Tests.{ltb-true, ltb-false}
use Rattle.limits.specs.Book.{word_bits, row_words}
use Rattle.sets.specs.Set.{Set, Same, same}
use Rattle.sets.specs.Steps.{rounds, reached}
use Rattle.sets.proofs.Logic.{either}
use Rattle.sets.proofs.Running.{Running, run_begin, run_on, run_bound, run_count, run_held}
use Rattle.words.specs.Row.{row, pack}
use Rattle.words.proofs.Rows.{row_past, length_pack, row_pack, pack_same}
use Rattle.systems.specs.Rows.{below}
use Rattle.systems.proofs.Running.{Ends, same_ends, below_ends, below_same}
use Rattle.rounds.specs.Turns.{Ready}

-- the words of a set with nothing at or past n hold it, and nothing there
packed_same : (n : ℕ) (f : Set) → n ≤ row_words * word_bits → Same n (row (pack row_words f)) f
packed_same n f l i b = row_pack row_words f i (omega arith)

packed_ends : (n : ℕ) (f : Set) → Ends n f → Ends n (row (pack row_words f))
packed_ends n f e k l =
    either (ltb k (row_words * word_bits)) (λ t. row_pack row_words f k (ltb-true k (row_words * word_bits) t) ∙ e k l)
    (λ t. row_past (pack row_words f) k (omega (arith, length_pack row_words f, ltb-false k (row_words * word_bits) t)))

-- t rounds make the set in `next`
pub record Going (n : ℕ) (F : Set → Set) (start set next : List ℕ) (t : ℕ) : Type 0 where
  pub few : t ≤ n + 1
  pub words : set ≡ pack row_words (row set)
  pub ends : Ends n (row set)
  pub made : next ≡ pack row_words (F (row set))
  pub runs : Running n F (row start) (row set) (row next) t

module _ (n : ℕ) (F : Set → Set) (start first : List ℕ) (p : Ready n F start first) where
  abbrev f : Set
  f = row start

  -- what a round leaves in a row is the set after v
  after_row : (set next : List ℕ) → next ≡ pack row_words (F (row set)) → Same n (row next) (F (row set))
  after_row set next e i l = ap (λ (ws : List ℕ). row ws i) e ∙ packed_same n (F (row set)) p.few i l

  -- before the loop, round one is made
  pub loop_begin : Going n F start start first 1
  loop_begin = record {
    few = omega arith;
    words = p.words;
    ends = p.start_ends;
    made = p.made;
    runs = run_begin n F f p.mono f (row first) (λ i l. refl) (after_row start first p.made);
  }

  -- `still` is whether the two rows are the same
  module _ (set next : List ℕ) (t : ℕ) (g : Going n F start set next t) (still : Bool)
      (e : still ≡ same (length set * word_bits) (row set) (row next)) where
    next_ends : Ends n (row next)
    next_ends = subst (λ (ws : List ℕ). Ends n (row ws)) (sym g.made) (packed_ends n (F (row set)) (p.ends (row set)))

    next_words : next ≡ pack row_words (row next)
    next_words =
        g.made ∙ pack_same row_words (F (row set)) (row next)
        (λ i l. sym (ap (λ (ws : List ℕ). row ws i) g.made ∙ row_pack row_words (F (row set)) i l))

    compared : same n (row set) (row next) ≡ still
    compared =
        sym (same_ends n (row_words * word_bits) (row set) (row next) p.few g.ends next_ends)
        ∙ ap (λ (w : ℕ). same (w * word_bits) (row set) (row next)) (sym (ap length g.words ∙ length_pack row_words (row set)))
        ∙ sym e

    -- they are not: the count stays small, and a further round is made
    pub loop_less : still ≡ false → t + 1 ≤ n + 1
    loop_less d =
        run_bound n F f p.mono p.rises (row next) (F (row next)) (t + 1)
        (run_on n F f p.mono (row set) (row next) (F (row next)) t g.runs (compared ∙ d) (λ i l. refl))

    pub loop_on : still ≡ false → (more : List ℕ) → more ≡ pack row_words (F (row next)) → Going n F start next more (t + 1)
    loop_on d more h = record {
      few = loop_less d;
      words = next_words;
      ends = next_ends;
      made = h;
      runs = run_on n F f p.mono (row set) (row next) (row more) t g.runs (compared ∙ d) (after_row next more h);
    }

    -- they are: the count is the number of rounds, and the set is the one reached
    pub loop_count : still ≡ true → t ≡ rounds n F f
    loop_count d = run_count n F f p.mono p.rises (row set) (row next) t g.runs (compared ∙ d)

    pub loop_set : still ≡ true → set ≡ pack row_words (below n (reached n F f))
    loop_set d =
        g.words
        ∙ ap (pack row_words)
        (sym (below_ends n (row set) g.ends)
        ∙ below_same n (row set) (reached n F f) (run_held n F f p.mono p.rises (row set) (row next) t g.runs (compared ∙ d)))
