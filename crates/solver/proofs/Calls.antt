-- The outcomes of the call: laws over what each step answers and leaves.
-- Assumes nothing.
use mathlib.Core.Path.{◌≡◌, refl, sym, ap, ap₂, ◌∙◌, subst}
use mathlib.Core.Bool.{Bool}
use mathlib.Core.List.{List}
use Prim.Native.Nat.{ℕ, suc, ◌+◌, ◌*◌, ◌≤◌, ◌<◌}
use native.Mathlib.Omega.{arith}
use lib.Dec.{ltb}
use lib.ListN.{length}
use borrow.Author.Tests.{eq-eqb, ne_eqb, ltb-true, ltb-false}
use Rattle.limits.specs.Book.{text_bytes, names, name_bytes, atoms, folds, row_words, name_area, listing_bytes}
use Rattle.sets.specs.Set.{Same, pick}
use Rattle.sets.proofs.Logic.{either, pick_true, pick_false}
use Rattle.sets.proofs.Running.{rounds_few}
use Rattle.program.specs.Program.{Program}
use Rattle.program.specs.System.{System, round, folded as after, rounds_of, held_by}
use Rattle.program.specs.Standard.{standard}
use Rattle.program.proofs.Homes.{names_below}
use Rattle.program.proofs.Theorems.{least_model}
use Rattle.grammar.specs.Bytes.{Bytes, Folding, letters}
use Rattle.grammar.specs.Letters.{FoldTable, letters_cause}
use Rattle.grammar.specs.Grammar.{Clause}
use Rattle.tables.specs.Numbering.{names_of, program_of}
use Rattle.tables.specs.Reading.{Reading, read, refused, Fits, book_of}
use Rattle.areas.specs.Area.{filled}
use Rattle.tables.specs.Areas.{Areas, RuleTables, Counts, Outcome, counts_of, rules_of, short, name_rows, filled_with, tables_of}
use Rattle.tables.specs.Areas.{refusal, outcome, names_in, program_in}
use Rattle.tables.proofs.Numbering.{numbers}
use Rattle.tables.proofs.Calls.{refusal_some}
use Rattle.areas.proofs.Filled.{length_filled}
use Rattle.tables.proofs.Encoding.{length_name_rows, names_filled}
use Rattle.tables.proofs.Theorems.{judged, read_fits, read_fine}
use Rattle.systems.specs.Rows.{below}
use Rattle.systems.specs.Rounds.{model_in, with_model}
use Rattle.systems.specs.Standardise.{formed_tables}
use Rattle.systems.specs.Claims.{TablesLong}
use Rattle.systems.proofs.Bridge.{tables_formed}
use Rattle.systems.proofs.Running.{length_model, model_below, round_mono}
use Rattle.solving.specs.Solve.{SolveAreas, SolveOutcome, short_areas, solve_refusal, answer_of, solved_areas, solve_read, solve_call}
use Rattle.solving.specs.SolveClaims.{SolveLong, SolveReady}
use Rattle.solving.proofs.Judging.{areas_long, long_tables, solve_cause, solve_short, solve_long_text, solve_over_folds, solve_in_range}
use Rattle.solving.proofs.Judging.{solve_refused, solve_over_atoms, solve_solved}
use Rattle.solving.proofs.Staged.{tables_program, book_formed, book_long}
use Rattle.tablecheck.specs.Lent.{Names as Lent}
use Rattle.listing.specs.Write.{Listing, listing_of}
use Rattle.solver.specs.Range.{short_solve, range_cause}
use Rattle.solver.specs.Run.{RunAreas, RunOutcome, RowsReady, run_refusal, rows_left, run_made, run_tables}
use Rattle.solver.specs.End.{listed_end}
use Rattle.ways.specs.Tables.{InUse, InOrder}
use Rattle.solver.specs.Lent.{answer_in}
use Rattle.solver.specs.declared.Solved.{Solved}
use Rattle.limits.specs.Refusal.{number_of, refused_number, count_in}
use Rattle.limits.specs.declared.Refusal.{Refusal as Cause}
use Rattle.limits.specs.declared.Refused.{Refused}
use Rattle.std.specs.Prelude.{Result, Err}
use Rattle.std.specs.Result.{IsErr, IsErrAnd}
use Rattle.std.proofs.lemmas.Result.{err_from_is_err_and}
use Rattle.limits.proofs.Numbers.{number_some}
use Rattle.solver.proofs.Range.{cause_short, cause_text, cause_folds, cause_none}
use Rattle.solver.proofs.Atoms.{over, within}
use Rattle.solver.proofs.Listed.{listing_same}

-- the areas by tables, rows and listing
abbrev areas_of : Areas → RunAreas → Bytes → SolveAreas
areas_of o rows listing =
    record { tables = o; all = rows.all; any = rows.any; spare = rows.spare; model = rows.model; listing = listing }

abbrev pub lent : Bytes → List ℕ → List ℕ → List ℕ → List ℕ → List ℕ → List ℕ → Bytes → SolveAreas
lent spellings heads bodies all any spare model listing =
    areas_of (record { spellings = spellings; heads = heads; bodies = bodies })
    (record { all = all; any = any; spare = spare; model = model }) listing

-- those of the rows
abbrev run_in : SolveAreas → RunAreas
run_in o = record { all = o.all; any = o.any; spare = o.spare; model = o.model }

-- what the call answers and leaves
abbrev gives : Result Solved Refused → SolveAreas → SolveOutcome
gives x o = record { answer = answer_in x; areas = o }

-- solved, by what reading, the rounds and the listing give
abbrev solved_as : Outcome → RunOutcome → Listing → SolveOutcome
solved_as r s l =
    record {
      answer =
          record {
            number = 0;
            line = 0;
            names = r.answer.names;
            atoms = s.atoms;
            held = l.held;
            rounds = s.rounds;
            c = s.c;
            h = s.h;
          };
      areas = areas_of r.areas s.areas l.area;
    }

-- a refusal that is handed on
pub handed : {r : Refused} (x : Result Solved Refused) → IsErr x × IsErrAnd x (λ e. e ≡ r) → x ≡ Err r
handed x e = let d = err_from_is_err_and x e.1 in d.1 ∙ ap (λ (q : Refused). Err q) d.2

-- nothing is listed of it
end_none : (cause : Cause) (y : Reading) (k : ℕ) → 0 ≡ listed_end (number_of cause) y k
unfolding listed_end
end_none cause (refused q i) k = refl
end_none cause (read cs) k = sym (pick_false _ 0 (ne_eqb (number_of cause) 0 (number_some cause)))

pub end_refused : {x : Result Solved Refused} {r : Refused} → x ≡ Err r → (y : Reading) (k : ℕ)
    → count_in (λ (s : Solved). s.end) x ≡ listed_end (refused_number x) y k
end_refused {r = r} e y k =
    subst (λ (x : Result Solved Refused). count_in (λ (s : Solved). s.end) x ≡ listed_end (refused_number x) y k) (sym e) (end_none r.cause y k)

-- What is judged first, as q says.
module _ (table : List ℕ) (t : Bytes) (k : ℕ) (old : SolveAreas) {low : Bool}
    (e : low ≡ short_solve (length old.tables.spellings) (length old.tables.heads) (length old.tables.bodies)
    (length old.all) (length old.any) (length old.spare) (length old.model) (length old.listing))
    {q : ℕ} (f : q ≡ letters_cause low table) where
  -- the test is the solver's
  cause_is : q ≡ letters_cause (short_areas old) table
  unfolding short_areas short short_solve
  cause_is = f ∙ ap (λ (b : Bool). letters_cause b table) e

  -- refused
  pub call_first : {x : Result Solved Refused} {cause : Cause} → x ≡ Err (record { cause = cause; line = 0 }) → q ≡ number_of cause
      → gives x old ≡ solve_call table t k old
  call_first {x} {cause} d some =
      ap (λ (y : Result Solved Refused). gives y old) d
      ∙ ap (λ (i : ℕ). solve_refusal i 0 old.tables old) (sym some ∙ cause_is)
      ∙ sym (solve_cause table t k old (λ z. number_some cause (sym some ∙ cause_is ∙ z)))

-- areas, table, text and fold number are in range
pub record Ranged (table : List ℕ) (t : Bytes) (k : ℕ) (o : SolveAreas) : Type 0 where
  pub long : SolveLong o
  pub passes : FoldTable table
  pub text : length t ≤ text_bytes
  pub few : k ≤ folds

-- `low` is whether an area is too short, `number` the cause before the text is read
module _ (table : List ℕ) (passes : FoldTable table) (t : Bytes) (k : ℕ) (old : SolveAreas) {low : Bool}
    (e : low ≡ short_solve (length old.tables.spellings) (length old.tables.heads) (length old.tables.bodies)
    (length old.all) (length old.any) (length old.spare) (length old.model) (length old.listing))
    {number : ℕ} (f : number ≡ range_cause low (length t) k) where
  -- the test is the solver's
  low_is : low ≡ short_areas old
  unfolding short_areas short short_solve
  low_is = e

  -- the call is refused for the cause, or there is none and all is in range
  by_cause : {X : Type 0}
      → ((j : ℕ) → number ≡ suc j → solve_call table t k old ≡ solve_refusal (suc j) 0 old.tables old → X)
      → (number ≡ 0 → Ranged table t k old → X)
      → X
  by_cause refuse pass =
      either low
      (λ x. refuse 0 (f ∙ sym (cause_short low (length t) k x)) (solve_short table t k old (sym low_is ∙ x)))
      (λ x.
      let ready : SolveReady table old = (areas_long old (sym low_is ∙ x), passes) in
      either (ltb text_bytes (length t))
      (λ y.
      let l : text_bytes < length t = ltb-true text_bytes (length t) y in
      refuse 1 (f ∙ sym (cause_text low (length t) k x l)) (solve_long_text table t k old ready l))
      (λ y.
      let fits : length t ≤ text_bytes = ltb-false text_bytes (length t) y in
      either (ltb folds k)
      (λ z.
      let l : folds < k = ltb-true folds k z in
      refuse 8 (f ∙ sym (cause_folds low (length t) k x fits l)) (solve_over_folds table t k old ready fits l))
      (λ z.
      let l : k ≤ folds = ltb-false folds k z in
      pass (f ∙ sym (cause_none low (length t) k x fits l)) (record { long = ready.0; passes = passes; text = fits; few = l }))))

  -- refused before the text is read
  pub call_early : {x : Result Solved Refused} {cause : Cause} → x ≡ Err (record { cause = cause; line = 0 }) → number ≡ number_of cause
      → gives x old ≡ solve_call table t k old
  call_early {x} {cause} d some =
      by_cause
      (λ j q s.
      ap (λ (y : Result Solved Refused). gives y old) d
      ∙ ap (λ (i : ℕ). solve_refusal i 0 old.tables old) (sym some ∙ q) ∙ sym s)
      (λ z range. absurd (number_some cause (sym some ∙ z)))

  -- no cause
  pub ranged : number ≡ 0 → Ranged table t k old
  ranged z = by_cause (λ j p s. absurd (omega (arith, p, z))) (λ p range. range)

-- a text that is refused has a number
some_cause : (table : List ℕ) → FoldTable table → (t : Bytes) (i j : ℕ) → book_of (letters table) t ≡ refused i j → i ≡ 0 → ⊥
some_cause table passes t i j b = refusal_some (letters table) t i j (((judged (letters table) passes.1).refuses t i j).0 b)

-- the text is a book, whose names and rules are counted and left
record BookRead (table : List ℕ) (t : Bytes) (old : Areas) (r : Outcome) : Type 0 where
  cs : List Clause
  reads : book_of (letters table) t ≡ read cs
  left : r ≡ outcome (read cs) old

-- the text is read, as r says
module _ {table : List ℕ} {t : Bytes} {k : ℕ} {old : SolveAreas} (range : Ranged table t k old)
    {r : Outcome} (g : r ≡ outcome (book_of (letters table) t) old.tables) where
  abbrev fold : ℕ → ℕ
  fold = letters table

  abbrev folding : Folding fold
  folding = range.passes.1

  -- what the solver answers and leaves, x being what the text comes to
  solver_is : (x : Reading) → book_of fold t ≡ x → solve_call table t k old ≡ solve_read x k old
  solver_is x b =
      solve_in_range table t k old (range.long, range.passes) range.text range.few
      ∙ ap (λ (y : Reading). solve_read y k old) b

  -- refused by the reader
  refused_by : (x : Reading) → book_of fold t ≡ x → r ≡ outcome x old.tables → (r.answer.number ≡ 0 → ⊥)
      → solve_refusal r.answer.number r.answer.line r.areas old ≡ solve_call table t k old
  unfolding outcome refusal
  refused_by (read cs) b d some = absurd (some (ap (λ (o : Outcome). o.answer.number) d))
  refused_by (refused i j) b d some =
      ap (λ (o : Outcome). solve_refusal o.answer.number o.answer.line o.areas old) d
      ∙ sym (solver_is (refused i j) b ∙ solve_refused i j k old)

  pub call_refused : {x : Result Solved Refused} {q : Refused} → x ≡ Err q → r.answer.number ≡ number_of q.cause → r.answer.line ≡ q.line
      → gives x (areas_of r.areas (run_in old) old.listing) ≡ solve_call table t k old
  call_refused {x} {q} d n l =
      ap (λ (y : Result Solved Refused). gives y (areas_of r.areas (run_in old) old.listing)) d
      ∙ ap₂ (λ (i j : ℕ). solve_refusal i j r.areas old) (sym n) (sym l)
      ∙ refused_by (book_of fold t) refl g (λ z. number_some q.cause (sym n ∙ z))

  -- else read
  read_by : (x : Reading) → book_of fold t ≡ x → r ≡ outcome x old.tables → r.answer.number ≡ 0 → BookRead table t old.tables r
  unfolding outcome refusal
  read_by (read cs) b d none = record { cs = cs; reads = b; left = d }
  read_by (refused i j) b d none = absurd (some_cause table range.passes t i j b (sym (ap (λ (o : Outcome). o.answer.number) d) ∙ none))

  module _ (none : r.answer.number ≡ 0) where
    -- the book, its names and its program, which fit
    book : BookRead table t old.tables r
    book = read_by (book_of fold t) refl g none

    abbrev ns : List Bytes
    ns = names_of book.cs

    abbrev p : Program
    p = program_of book.cs

    fits : Fits book.cs
    fits = let l = read_fits fold folding t book.cs book.reads in record { rules_fit = l.0; names_fit = l.1 }

    -- what is left, part by part
    names_are : r.answer.names ≡ length ns
    unfolding outcome
    names_are = ap (λ (o : Outcome). o.answer.names) book.left

    tables_are : r.areas ≡ tables_of book.cs old.tables
    unfolding outcome
    tables_are = ap (λ (o : Outcome). o.areas) book.left

    -- the rule tables and the counts are the book's
    abbrev rules_left : RuleTables
    rules_left = rules_of r.areas

    abbrev counts : Counts
    counts = record { names = r.answer.names; rules = r.answer.rules }

    rules_are : rules_left ≡ rules_of (tables_of book.cs old.tables)
    rules_are = ap rules_of tables_are

    counts_are : counts ≡ counts_of book.cs
    unfolding outcome
    counts_are = ap (λ (o : Outcome). record { names = o.answer.names; rules = o.answer.rules }) book.left

    -- the tables are long enough and in order
    pub rules_ready : InOrder (record { tables = rules_left; counts = counts })
    rules_ready =
        record {
          long = subst TablesLong (sym rules_are) (book_long book.cs old.tables fits (long_tables old range.long));
          formed = ap₂ formed_tables rules_are counts_are ∙ tables_formed _ _ (book_formed book.cs old.tables fits);
        }

    -- and so are the areas of rows
    pub rows_ready : RowsReady k (run_in old)
    rows_ready =
        let l = range.long in
        record { long = (l.all, l.any, l.model); spare = l.spare; few = range.few }

    -- they give the book's program
    program_is : program_in rules_left counts ≡ p
    program_is = ap₂ program_in rules_are counts_are ∙ tables_program book.cs old.tables fits

    -- the rounds are made, as s says
    module _ {b : InUse} (of : b ≡ record { tables = rules_left; counts = counts })
        {s : RunOutcome} (g₂ : s ≡ run_tables (program_in b.tables b.counts) k (run_in old)) where
      -- the rows after the folds
      abbrev made : System
      made = after k (standard p)

      -- what is made of the book's program, by its atoms
      run_is : s ≡ pick (ltb atoms (standard p).atoms) (run_refusal 8 (run_in old)) (run_made made (run_in old))
      unfolding run_tables
      run_is =
          g₂ ∙ ap (λ (x : InUse). run_tables (program_in x.tables x.counts) k (run_in old)) of
          ∙ ap (λ (x : Program). run_tables x k (run_in old)) program_is

      -- refused for them
      pub call_over : {x : Result Solved Refused} {cause : Cause} → x ≡ Err (record { cause = cause; line = 0 }) → s.number ≡ number_of cause
          → gives x (areas_of r.areas s.areas old.listing) ≡ solve_call table t k old
      unfolding run_made
      call_over {x} {cause} d n =
          let o = over (λ (y : RunOutcome). y.number) _ _ _ refl refl run_is (λ z. number_some cause (sym n ∙ z)) in
          ap (λ (y : Result Solved Refused). gives y (areas_of r.areas s.areas old.listing)) d
          ∙ ap (λ (i : ℕ). solve_refusal i 0 r.areas (areas_of r.areas s.areas old.listing)) (sym n)
          ∙ ap₂ (λ (a : Areas) (y : RunOutcome). solve_refusal y.number 0 a (areas_of a y.areas old.listing)) tables_are o.1
          ∙ sym (solver_is (read book.cs) book.reads ∙ solve_over_atoms book.cs k old o.0)

      module _ (none₂ : s.number ≡ 0) where
        -- at most 256 atoms, and the rounds and the last set are the program's
        taken : ((standard p).atoms ≤ atoms) × (s ≡ run_made made (run_in old))
        unfolding run_made
        taken = within (λ (x : RunOutcome). x.number) _ _ _ refl refl run_is none₂

        few : (standard p).atoms ≤ atoms
        few = taken.0

        made_is : s ≡ run_made made (run_in old)
        made_is = taken.1

        rounds_are : s.rounds ≡ rounds_of made
        unfolding run_made
        rounds_are = ap (λ (y : RunOutcome). y.rounds) made_is

        model_is : s.areas.model ≡ with_model (below (standard p).atoms (held_by made)) old.model
        unfolding run_made rows_left
        model_is = ap (λ (y : RunOutcome). y.areas.model) made_is

        -- which is at most one round more than there are atoms
        few_rounds : rounds_of made ≤ (standard p).atoms + 1
        unfolding rounds_of
        few_rounds =
            rounds_few made.atoms (round made) made.start (round_mono made) (least_model p (numbers book.cs).formed k).rounds.start

        -- the names
        pub names_long : (name_area ≤ length r.areas.spellings) × (r.answer.names ≤ names)
        unfolding tables_of filled_with
        names_long =
            let few_names : length ns ≤ names = fits.names_fit in
            let used : length (name_rows ns) ≡ length ns * name_bytes =
            length_name_rows ns (λ a l. (read_fine fold folding t book.cs book.reads a l).0) in
            let area : length r.areas.spellings ≡ length (filled name_area (name_rows ns) old.tables.spellings) =
            ap (λ (o : Areas). length o.spellings) tables_are in (
              omega (
                arith,
                area,
                length_filled name_area (name_rows ns) old.tables.spellings (omega (arith, used, few_names)) range.long.spellings,
                range.long.spellings,
              ),
              omega (arith, few_names, names_are),
            )

        -- with their set
        pub model_long : row_words ≤ length s.areas.model
        model_long =
            omega (
              arith,
              ap length model_is,
              length_model (below (standard p).atoms (held_by made)) old.model range.long.model,
              range.long.model,
            )

        -- the listing can be written
        pub listing_ready : (k ≤ folds) × (s.rounds ≤ atoms + 1) × (listing_bytes ≤ length old.listing)
        listing_ready = (range.few, omega (arith, rounds_are, few_rounds, few), range.long.listing)

        -- the model area has the names held by the rounds
        same_held : Same (length ns) (model_in s.areas.model) (held_by made)
        unfolding program_of
        same_held i l =
            let few_atoms : length ns ≤ (standard p).atoms = names_below p in
            ap (λ (v : List ℕ). model_in v i) model_is
            ∙ model_below (standard p).atoms (held_by made) old.model (omega (arith, few)) i (omega (arith, l, few_atoms))

        -- the name area has the names of the book
        names_left : names_in r.areas.spellings r.answer.names ≡ ns
        unfolding tables_of filled_with
        names_left =
            ap₂ (λ (o : Areas) (i : ℕ). names_in o.spellings i) tables_are names_are
            ∙ names_filled ns old.tables.spellings (read_fine fold folding t book.cs book.reads)

        -- the listing is written, as l says: the book's
        module _ {w : Lent} (named : w ≡ record { area = r.areas.spellings; count = r.answer.names }) {l : Listing}
            (g₃ : l ≡ listing_of (names_in w.area w.count) (model_in s.areas.model) k s.rounds old.listing) where
          listing_is : l ≡ listing_of ns (held_by made) k (rounds_of made) old.listing
          listing_is =
              g₃ ∙ ap (λ (x : Lent). listing_of (names_in x.area x.count) (model_in s.areas.model) k s.rounds old.listing) named
              ∙ ap₂ (λ (xs : List Bytes) (i : ℕ). listing_of xs (model_in s.areas.model) k i old.listing) names_left rounds_are
              ∙ listing_same ns (model_in s.areas.model) (held_by made) k (rounds_of made) old.listing same_held

          -- solved
          pub call_done : solved_as r s l ≡ solve_call table t k old
          unfolding outcome run_made rows_left listing_of answer_of solved_areas program_of
          call_done =
              ap₂ (λ (x : Outcome) (y : RunOutcome). solved_as x y l) book.left made_is
              ∙ ap (solved_as (outcome (read book.cs) old.tables) (run_made made (run_in old))) listing_is
              ∙ sym (solver_is (read book.cs) book.reads ∙ solve_solved book.cs k old few)

          -- and the end is that of the listing's text
          pub end_done : l.end ≡ listed_end 0 (book_of fold t) k
          unfolding listing_of listed_end
          end_done =
              ap (λ (x : Listing). x.end) listing_is ∙ sym (pick_true _ 0 (eq-eqb 0 0 refl))
              ∙ sym (ap (λ (x : Reading). listed_end 0 x k) book.reads)
