-- The names with several rules, and the rules that are theirs, are those of the program that the tables give: what its atoms and h are.
-- Assumes nothing.
use mathlib.Core.Path.{◌≡◌, sym, ap, ◌∙◌}
use mathlib.Core.Bool.{true, false}
use mathlib.Core.List.{List}
use Prim.Native.Nat.{ℕ, ◌+◌, ◌*◌, ◌≤◌, ◌<◌}
use native.Mathlib.Omega.{arith}
use lib.Dec.{eqb, leb}
use lib.ListN.{get_or}
use borrow.Author.Tests.{ne_eqb, lt-leb}
use Rattle.limits.specs.Book.{names, word_bits, body_words}
use Rattle.sets.specs.Set.{count}
use Rattle.sets.proofs.Counting.{count_none, count_same, count_tail}
use Rattle.areas.specs.Area.{part}
use Rattle.words.specs.Row.{row, pack}
use Rattle.program.specs.Program.{Program, head_at}
use Rattle.program.specs.System as System
use Rattle.program.specs.Standard as Standard
use Rattle.program.proofs.Theorems.{kinds}
use Rattle.tables.specs.Areas.{RuleTables, Counts, program_in}
use Rattle.systems.specs.Standardise.{formed_tables}
use Rattle.systems.proofs.Bridge.{size_in, head_in, formed_limits, formed_entry_lem, formed_program}
use Rattle.ways.specs.Ways.{several_names}
use Rattle.ways.proofs.Names.{row_whole}

module _ (tables : RuleTables) (counts : Counts) where
  abbrev heads : List ℕ
  heads = tables.heads

  abbrev n : ℕ
  n = counts.names

  abbrev m : ℕ
  m = counts.rules

  abbrev p : Program
  p = program_in tables counts

  -- the rules of a name, read off the heads
  ways_are : (a : ℕ) → count m (λ j. eqb (get_or heads j 0) a) ≡ Standard.ways p a
  unfolding Standard.ways
  ways_are a =
      count_same m (λ j. eqb (get_or heads j 0) a) (λ j. eqb (head_at p j) a)
      (λ j l. ap (λ (x : ℕ). eqb x a) (sym (head_in tables counts j l)))
      ∙ ap (λ (k : ℕ). count k (λ j. eqb (head_at p j) a)) (sym (size_in tables counts))

  -- the names with several rules are the program's
  pub several_is : (a : ℕ) → several_names heads m a ≡ leb 2 (Standard.ways p a)
  unfolding several_names
  several_is a = ap (leb 2) (ways_are a)

  -- a rule's head
  pub several_rule : (j : ℕ) → j < m → several_names heads m (get_or heads j 0) ≡ Standard.several p j
  unfolding Standard.several
  several_rule j l = ap (several_names heads m) (sym (head_in tables counts j l)) ∙ several_is (head_at p j)

  -- the further atom of rule j
  pub helpers_are : (j : ℕ) → j ≤ m → n + count j (λ l. several_names heads m (get_or heads l 0)) ≡ Standard.helper p j
  unfolding Standard.helper
  helpers_are j l =
      ap (λ (k : ℕ). n + k)
      (count_same j (λ i. several_names heads m (get_or heads i 0)) (Standard.several p) (λ i b. several_rule i (omega arith)))

  module _ (formed : formed_tables tables counts ≡ true) where
    -- heads are names, as the row of them asks
    pub heads_below : (j : ℕ) → j < m → get_or heads j 0 < names
    heads_below j l =
        let a : get_or heads j 0 < n = (formed_entry_lem tables counts formed j l).0 in
        let b : n ≤ names = (formed_limits tables counts formed).0 in
        omega arith

    -- a number past the names has no rule
    several_past : (a : ℕ) → n ≤ a → several_names heads m a ≡ false
    unfolding several_names
    several_past a l =
        let none : count m (λ j. eqb (get_or heads j 0) a) ≡ 0 =
        count_none m (λ j. eqb (get_or heads j 0) a)
        (λ j b.
        let h : get_or heads j 0 < n = (formed_entry_lem tables counts formed j b).0 in
        ne_eqb (get_or heads j 0) a (λ (e : get_or heads j 0 ≡ a). omega arith))
        in
        lt-leb 2 (count m (λ j. eqb (get_or heads j 0) a)) (omega arith)

    -- so those counted below the limit of names are the program's h
    pub h_is : count names (several_names heads m) ≡ System.h (Standard.standard p)
    h_is =
        count_tail n names (several_names heads m) (formed_limits tables counts formed).0 (λ a l b. several_past a l)
        ∙ count_same n (several_names heads m) (λ a. leb 2 (Standard.ways p a)) (λ a l. several_is a)
        ∙ sym (kinds p (formed_program tables counts formed)).h_names

    -- The same, read from a row that holds those names.
    module _ (several : List ℕ) (e : several ≡ pack body_words (several_names heads m)) where
      pub row_name : (a : ℕ) → a < names → row (part 0 body_words several) a ≡ several_names heads m a
      row_name = row_whole body_words (several_names heads m) several e

      pub row_rule : (j : ℕ) → j < m → row (part 0 body_words several) (get_or heads j 0) ≡ Standard.several p j
      row_rule j l = row_name (get_or heads j 0) (heads_below j l) ∙ several_rule j l

      pub row_helpers : (j : ℕ) → j ≤ m → n + count j (λ l. row (part 0 body_words several) (get_or heads l 0)) ≡ Standard.helper p j
      row_helpers j l =
          ap (λ (k : ℕ). n + k)
          (count_same j (λ i. row (part 0 body_words several) (get_or heads i 0)) (λ i. several_names heads m (get_or heads i 0))
          (λ i b. row_name (get_or heads i 0) (heads_below i (omega arith))))
          ∙ helpers_are j l

      pub row_atoms : n + count m (λ l. row (part 0 body_words several) (get_or heads l 0)) ≡ (Standard.standard p).atoms
      row_atoms = row_helpers m (omega arith) ∙ ap (Standard.helper p) (sym (size_in tables counts))

      pub row_h : count (body_words * word_bits) (row (part 0 body_words several)) ≡ System.h (Standard.standard p)
      row_h = count_same names (row (part 0 body_words several)) (several_names heads m) (λ a l. row_name a l) ∙ h_is
