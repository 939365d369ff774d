-- The three stages after reading, as equations of what they leave: a book's tables standardised, a program's rows folded, and those run.
-- Assumes nothing.
use mathlib.Core.Path.{◌≡◌, refl, sym, ap, ap₂, ◌∙◌, subst}
use mathlib.Core.Bool.{true, false}
use mathlib.Core.List.{List, [], map}
use Prim.Native.Nat.{ℕ, ◌*◌, ◌≤◌, ◌<◌}
use native.Mathlib.Nat.{le_refl}
use native.Mathlib.Omega.{arith}
use lib.Dec.{ltb}
use borrow.Author.Tests.{ltb-true, ltb-false}
use lib.ListN.{length, get_or, length-map}
use Rattle.limits.specs.Book.{rules, atoms, folds, word_bits, row_words, body_words, body_area, row_area}
use Rattle.sets.specs.Set.{Set, Same}
use Rattle.sets.proofs.Logic.{either, clash, not-true}
use Rattle.sets.proofs.Tests.{within_make}
use Rattle.sets.proofs.Rounds.{rounds_agree, reached_agree}
use Rattle.program.specs.Program.{Rule, Program, WellFormed}
use Rattle.program.specs.System.{System, round, rows_after, folded, rounds_of, held_by}
use Rattle.program.specs.Standard.{all_row, any_row, start_set, standard}
use Rattle.program.proofs.Theorems.{least_model}
use Rattle.grammar.specs.Grammar.{Clause}
use Rattle.tables.specs.Numbering.{names_of, numbered, program_of}
use Rattle.tables.specs.Reading.{Fits}
use Rattle.tables.specs.Areas.{Areas, RuleTables, Counts, counts_of, rules_of, short, rules_in, program_in}
use Rattle.tables.specs.Areas.{head_rows, body_rows, filled_with, tables_of}
use Rattle.areas.specs.Area.{begun, filled}
use Rattle.areas.proofs.Filled.{length_filled, begun_over}
use Rattle.tables.proofs.Encoding.{rules_filled, long_enough}
use Rattle.tables.proofs.Numbering.{numbers, heads_length, bodies_length, book_low}
use Rattle.systems.specs.Rows.{RowAreas, row_in, packed, below}
use Rattle.systems.specs.Fold.{short_rows, folded_area, fold_call}
use Rattle.systems.specs.Rounds.{model_in, with_model, system_in, start_kept, rounds_made, rounds_call}
use Rattle.systems.specs.Standardise.{standard_call, standard_of, standard_rows}
use Rattle.systems.specs.Claims.{InCount, TablesLong, StandardLong, StandardFormed}
use Rattle.systems.proofs.Packed.{length_packed, packed_same, zero_word, row_unused, row_filled_past}
use Rattle.systems.proofs.Formed.{after_in, after_same, round_same}
use Rattle.systems.proofs.Folds.{rows_short, formed_all_lem, fold_good}
use Rattle.systems.proofs.Bridge.{size_in, head_in, body_in, tables_formed}
use Rattle.systems.proofs.Standard.{all_within, any_within, start_within, row_whole, all_rows, any_rows, start_row, long_tables, standard_formed}
use Rattle.systems.proofs.Running.{length_model, model_again, below_same, call_runs}

-- Reading, then standardising.

module _ (cs : List Clause) (old : Areas) (fits : Fits cs) where
  -- the number of names, the rules by numbers, and what the tables have of them
  abbrev n : ℕ
  n = length (names_of cs)

  abbrev rs : List (Rule ℕ)
  rs = map (numbered (names_of cs)) cs

  abbrev tables : RuleTables
  tables = rules_of (tables_of cs old)

  abbrev counts : Counts
  counts = counts_of cs

  -- as many rules as clauses
  size : length rs ≡ length cs
  size = length-map cs (numbered (names_of cs))

  -- the tables give the book's program
  pub tables_program : program_in tables counts ≡ program_of cs
  unfolding tables_of program_of
  tables_program =
      ap (λ (x : List (Rule ℕ)). record { names = n; rules = x })
      (ap (rules_in tables) (sym size) ∙ rules_filled (names_of cs) rs old (book_low cs fits.names_fit))

  -- which is well formed
  tables_well : WellFormed (program_in tables counts)
  tables_well = subst WellFormed (sym tables_program) (numbers cs).formed

  -- past the rules there are zeros
  unused_head : (j : ℕ) → length cs ≤ j → j < rules → get_or tables.heads j 0 ≡ 0
  unfolding tables_of filled_with
  unused_head j l b = zero_word rules (head_rows rs) old.heads j (omega (arith, heads_length rs, size)) b

  unused_body : (j a : ℕ) → length cs ≤ j → j < rules → row_in body_words tables.bodies j a ≡ false
  unfolding tables_of filled_with
  unused_body j a l b =
      row_unused body_words body_area (body_rows rs) old.bodies j a (omega (arith, bodies_length rs, size)) (omega arith)

  -- so the tables are in order
  pub book_formed : StandardFormed tables counts
  book_formed =
      let m : ℕ = length cs in
      let is_rule_lem : (j : ℕ) → j < m → j < length (program_in tables counts).rules =
      λ j l. subst (λ (k : ℕ). j < k) (sym (size_in tables counts)) l in
      record {
        names_limit = fits.names_fit;
        rules_limit = fits.rules_fit;
        head = λ j l. subst (λ (x : ℕ). x < n) (head_in tables counts j l) (tables_well.heads j (is_rule_lem j l));
        body = λ j a l e. tables_well.bodies j a (is_rule_lem j l) (ap (λ (f : Set). f a) (body_in tables counts j l) ∙ e);
        head_unused = unused_head;
        body_unused = unused_body;
      }

  -- and as long as they were
  pub book_long : short old ≡ false → TablesLong tables
  unfolding tables_of filled_with
  book_long e =
      let l = long_enough old e in (
        omega (arith, l.1, length_filled rules (head_rows rs) old.heads (omega (arith, heads_length rs, size, fits.rules_fit)) l.1),
        omega (arith, l.2, length_filled body_area (body_rows rs) old.bodies (omega (arith, bodies_length rs, size, fits.rules_fit)) l.2),
      )

-- the tables of a book are taken, and standardised as its program
pub read_standard : (cs : List Clause) (old : Areas) (rows : RowAreas) → Fits cs → short old ≡ false
    → row_area ≤ length rows.all → row_area ≤ length rows.any → row_words ≤ length rows.model
    → standard_call (rules_of (tables_of cs old)) (counts_of cs) rows ≡ standard_of (program_of cs) rows
read_standard cs old rows fits e all any model =
    let tables : RuleTables = rules_of (tables_of cs old) in
    let long : StandardLong tables rows = (book_long cs old fits e, (all, any, model)) in
    standard_formed tables (counts_of cs) rows (long_tables tables rows long)
    (tables_formed tables (counts_of cs) (book_formed cs old fits))
    ∙ ap (λ (p : Program). standard_of p rows) (tables_program cs old fits)

-- Standardising, then folding, then the rounds.

-- the areas of rows of a program after k folds
abbrev pub folded_rows : Program → RowAreas → ℕ → RowAreas
folded_rows p o k =
    record {
      all = filled row_area (packed row_words (standard p).atoms (folded k (standard p)).all) o.all;
      any = (standard_rows p o).any;
      model = (standard_rows p o).model;
    }

module _ (p : Program) (well : WellFormed p) (few : (standard p).atoms ≤ atoms) where
  -- the atom count, and the "all" rows after k folds
  abbrev m : ℕ
  m = (standard p).atoms

  abbrev rows : ℕ → ℕ → Set
  rows k = rows_after k m (all_row p)

  -- these lie within the atoms
  pub folded_within : (k i a : ℕ) → i < m → rows k i a ≡ true → a < m
  folded_within k i a l e = (after_in k m m (all_row p) (le_refl m) (λ i a l e. (l, all_within p well i a l e)) i a l e).1

  -- an area filled with rows that lie so has neither a bit nor a row at or past the count
  area_in : (f : ℕ → Set) (old : List ℕ) → ((i a : ℕ) → i < m → f i a ≡ true → a < m) → InCount m (filled row_area (packed row_words m f) old)
  area_in f old h i a l t =
      either (ltb i m)
      (λ b. let c : i < m = ltb-true i m b in (c, h i a c (sym (row_whole p well few f old i c (λ a. h i a c) a) ∙ t)))
      (λ b. clash t (row_filled_past row_words m row_area f old i a (ltb-false i m b) (omega arith)))

  -- and is as long as it was
  area_long : (f : ℕ → Set) (old : List ℕ) → row_area ≤ length old → row_area ≤ length (filled row_area (packed row_words m f) old)
  area_long f old l =
      omega (arith, length_filled row_area (packed row_words m f) old (omega (arith, length_packed row_words m f)) l)

  module _ (o : RowAreas) (k : ℕ) (all_long : row_area ≤ length o.all) where
    -- the "all" rows as standardising leaves them: in order, and long enough
    abbrev all : List ℕ
    all = (standard_rows p o).all

    all_in : InCount m all
    unfolding standard_rows
    all_in = area_in (all_row p) o.all (all_within p well)

    all_kept : row_area ≤ length all
    unfolding standard_rows
    all_kept = area_long (all_row p) o.all all_long

    -- folded, they are the definition's in every bit
    same_rows : (i : ℕ) → i < m → Same (row_words * word_bits) (rows_after k m (row_in row_words all) i) (rows k i)
    same_rows i l a b =
        let inside : rows_after k m (row_in row_words all) i a ≡ true → a < m =
        λ e. (after_in k atoms m (row_in row_words all) few all_in i a (omega arith) e).1 in
        either (ltb a m)
        (λ t. after_same k m (row_in row_words all) (all_row p) (λ i l a b. all_rows p well few o i l a) i l a (ltb-true a m t))
        (λ t.
        let past : m ≤ a = ltb-false a m t in
        not-true (rows_after k m (row_in row_words all) i a) (λ e. let c : a < m = inside e in omega arith)
        ∙ sym (not-true (rows k i a) (λ e. let c : a < m = folded_within k i a l e in omega arith)))

    -- so folding leaves the definition's rows
    folded_area_lem : folded_area k m all ≡ filled row_area (packed row_words m (rows k)) o.all
    unfolding folded_area standard_rows
    folded_area_lem =
        ap (λ (xs : List ℕ). begun xs all) (packed_same row_words m (rows_after k m (row_in row_words all)) (rows k) same_rows)
        ∙ begun_over row_area (packed row_words m (rows k)) (packed row_words m (all_row p)) o.all
        (length_packed row_words m (rows k) ∙ sym (length_packed row_words m (all_row p)))

    -- The rounds over the folded rows.

    module _ (any_long : row_area ≤ length o.any) (model_long : row_words ≤ length o.model) where
      -- the areas, and the model area
      abbrev after : RowAreas
      after = folded_rows p o k

      abbrev model : List ℕ
      model = (standard_rows p o).model

      -- the system in the areas, and the definition's after k folds
      abbrev here : System
      here = system_in after m

      abbrev defined : System
      defined = folded k (standard p)

      -- they make the same rounds, from the same start
      agree : (v w : Set) → Same m v w → Same m (round here v) (round defined w)
      agree =
          round_same here defined refl (λ i l a b. row_whole p well few (rows k) o.all i l (λ a. folded_within k i a l) a)
          (λ i l a b. any_rows p well few o i l a)

      starts : Same m (model_in model) (start_set p)
      starts a l = start_row p well few o a

      -- no start atom is lost
      kept : start_kept here ≡ true
      unfolding start_kept
      kept =
          within_make m (model_in model) (round here (model_in model))
          (λ i l t. agree (model_in model) (start_set p) starts i l ∙ (least_model p well k).rounds.start i l (sym (starts i l) ∙ t))

      -- so they are not refused
      runs : rounds_call after m ≡ rounds_made here model
      unfolding standard_rows
      runs =
          call_runs after m (
            area_long (rows k) o.all all_long,
            area_long (any_row p) o.any any_long,
            omega (arith, length_model (start_set p) o.model model_long),
          ) (
            few,
            area_in (rows k) o.all (folded_within k),
            area_in (any_row p) o.any (λ i a l. any_within p well i a),
            λ a t. start_within p well a (sym (start_row p well few o a) ∙ t),
          )
          kept

      -- and the rounds, their last set and what is left of it are the definition's
      rounds_same : rounds_of here ≡ rounds_of defined
      unfolding rounds_of
      rounds_same = rounds_agree m (round here) (round defined) agree (model_in model) (start_set p) starts

      held_same : Same m (held_by here) (held_by defined)
      unfolding held_by
      held_same = reached_agree m (round here) (round defined) agree (model_in model) (start_set p) starts

      model_left : with_model (below m (held_by here)) model ≡ with_model (below m (held_by defined)) o.model
      unfolding standard_rows
      model_left =
          model_again (below m (held_by here)) (start_set p) o.model
          ∙ ap (λ (f : Set). with_model f o.model) (below_same m (held_by here) (held_by defined) held_same)

      rounds_left : rounds_made here model
          ≡ record { number = 0; rounds = rounds_of defined; model = with_model (below m (held_by defined)) o.model }
      unfolding rounds_made
      rounds_left = ap₂ (λ (r : ℕ) (area : List ℕ). record { number = 0; rounds = r; model = area }) rounds_same model_left

-- the rows of a program are taken, and folded as the definition folds them
pub standard_fold : (p : Program) → WellFormed p → (standard p).atoms ≤ atoms → (o : RowAreas) (spare : List ℕ) (k : ℕ)
    → row_area ≤ length o.all → row_area ≤ length spare → k ≤ folds
    → fold_call (standard_rows p o).all spare (standard p).atoms k
    ≡ record {
      number = 0;
      all = filled row_area (packed row_words (standard p).atoms (folded k (standard p)).all) o.all;
      spare = filled row_area [] spare;
    }
standard_fold p well few o spare k all_long spare-long l =
    let all : List ℕ = (standard_rows p o).all in
    fold_good all spare (standard p).atoms k
    (not-true (short_rows all spare) (λ e. rows_short all spare e (all_kept p well few o k all_long, spare-long))) l
    (formed_all_lem all (standard p).atoms (few, all_in p well few o k all_long))
    ∙ ap (λ (area : List ℕ). record { number = 0; all = area; spare = filled row_area [] spare }) (folded_area_lem p well few o k all_long)

-- the folded rows of a program are taken, and run as the definition runs them
pub folded_run : (p : Program) → WellFormed p → (standard p).atoms ≤ atoms → (o : RowAreas) (k : ℕ)
    → row_area ≤ length o.all → row_area ≤ length o.any → row_words ≤ length o.model
    → rounds_call (folded_rows p o k) (standard p).atoms
    ≡ record {
      number = 0;
      rounds = rounds_of (folded k (standard p));
      model = with_model (below (standard p).atoms (held_by (folded k (standard p)))) o.model;
    }
folded_run p well few o k all any model = runs p well few o k all any model ∙ rounds_left p well few o k all any model
