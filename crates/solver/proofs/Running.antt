-- From rule tables to rows, the last set and the counts: what each stage asks for, and what the stages leave together.
-- Assumes nothing.
use mathlib.Core.Path.{◌≡◌, refl, sym, ap, ap₂, ◌∙◌}
use mathlib.Core.Bool.{true}
use mathlib.Core.List.{List, []}
use Prim.Native.Nat.{ℕ, ◌≤◌}
use lib.Dec.{ltb}
use lib.ListN.{length}
use borrow.Author.Tests.{lt-ltb, le-ltb}
use Rattle.limits.specs.Book.{atoms, folds, row_words, row_area}
use Rattle.sets.specs.Set.{pick}
use Rattle.sets.proofs.Logic.{not-true, pick_true, pick_false}
use Rattle.program.specs.Program.{Program, WellFormed}
use Rattle.program.specs.System.{System, folded, rounds_of, held_by}
use Rattle.program.specs.System as System
use Rattle.program.specs.Standard.{standard}
use Rattle.areas.specs.Area.{filled}
use Rattle.tables.specs.Areas.{RuleTables, Counts, program_in}
use Rattle.systems.specs.Rows.{RowAreas, packed, below, formed_rows}
use Rattle.systems.specs.Fold.{FoldOutcome, short_rows, folded_area, fold_call}
use Rattle.systems.specs.Rounds.{RoundsOutcome, with_model, formed_system, rounds_call}
use Rattle.systems.specs.Standardise.{StandardOutcome, standard_refusal, standard_rows, standard_of, standard_call}
use Rattle.systems.specs.Claims.{FoldLong, FoldFormed, RoundsLong}
use Rattle.systems.proofs.Formed.{formed_make}
use Rattle.systems.proofs.Folds.{rows_short, formed_all_lem, fold_good, folds_rows}
use Rattle.systems.proofs.Bridge.{formed_program}
use Rattle.systems.proofs.Standard.{standard_well, long_tables, standard_formed}
use Rattle.solving.proofs.Staged.{standard_fold, folded_run}
use Rattle.rounds.proofs.Calls.{accepted}
use Rattle.limits.specs.Refusal.{number_of}
use Rattle.limits.specs.declared.Refusal.{Refusal}
use Rattle.limits.proofs.Numbers.{number_some}
use Rattle.solver.specs.Run.{RunAreas, RunOutcome, RunReady, RowsReady, rows_in, run_refusal, rows_left, run_made, run_tables}
use Rattle.ways.specs.Tables.{InUse, InOrder}
use Rattle.solver.proofs.Atoms.{over, within}

-- what the stages give, in one
abbrev over_by : StandardOutcome → List ℕ → RunOutcome
over_by s spare =
    record {
      number = s.number;
      atoms = 0;
      rounds = 0;
      c = 0;
      h = 0;
      areas = record { all = s.areas.all; any = s.areas.any; spare = spare; model = s.areas.model };
    }

abbrev made_by : StandardOutcome → FoldOutcome → RoundsOutcome → RunOutcome
made_by s f r =
    record {
      number = 0;
      atoms = s.atoms;
      rounds = r.rounds;
      c = s.c;
      h = s.h;
      areas = record { all = f.all; any = s.areas.any; spare = f.spare; model = r.model };
    }

-- the rows with the "all" rows folded
abbrev folded_in : StandardOutcome → List ℕ → RowAreas
folded_in s all = record { all = all; any = s.areas.any; model = s.areas.model }

-- rules in order and areas of rows that are long enough
pub ready_with : {b : InUse} {k : ℕ} {o : RunAreas} → InOrder b → RowsReady k o → RunReady b.tables b.counts k o
ready_with order rows = record { long = (order.long, rows.long); spare = rows.spare; few = rows.few; formed = order.formed }

module _ {tables : RuleTables} {counts : Counts} {k : ℕ} {old : RunAreas} (ready : RunReady tables counts k old) where
  -- the program of the tables, and its rows after the folds
  abbrev p : Program
  p = program_in tables counts

  abbrev made : System
  made = folded k (standard p)

  well : WellFormed p
  well = formed_program tables counts ready.formed

  -- the tables are standardised, as s says
  module _ {s : StandardOutcome} (g : s ≡ standard_call tables counts (rows_in old)) where
    standardised : s ≡ pick (ltb atoms (standard p).atoms) (standard_refusal 8 (rows_in old)) (standard_well p (rows_in old))
    unfolding standard_of
    standardised =
        g ∙ standard_formed tables counts (rows_in old) (long_tables tables (rows_in old) ready.long) ready.formed

    -- refused for its atoms
    pub run_over : (cause : Refusal) → s.number ≡ number_of cause → over_by s old.spare ≡ run_tables p k old
    unfolding run_tables
    run_over cause some =
        let o = over (λ (x : StandardOutcome). x.number) _ _ _ refl refl standardised (λ z. number_some cause (sym some ∙ z)) in
        ap (λ (x : StandardOutcome). over_by x old.spare) o.1
        ∙ sym (pick_true (run_refusal 8 old) (run_made made old) (lt-ltb atoms (standard p).atoms o.0))

    module _ (none : s.number ≡ 0) where
      -- at most 256 atoms, and the rows are the program's
      taken : ((standard p).atoms ≤ atoms) × (s ≡ standard_well p (rows_in old))
      taken = within (λ (x : StandardOutcome). x.number) _ _ _ refl refl standardised none

      few : (standard p).atoms ≤ atoms
      few = taken.0

      rows_are : s ≡ standard_well p (rows_in old)
      rows_are = taken.1

      -- folding them is not refused
      abbrev folding : FoldOutcome
      folding =
          record {
            number = 0;
            all = filled row_area (packed row_words (standard p).atoms made.all) old.all;
            spare = filled row_area [] old.spare;
          }

      fold_call_lem : fold_call s.areas.all old.spare s.atoms k ≡ folding
      fold_call_lem =
          ap (λ (o : StandardOutcome). fold_call o.areas.all old.spare o.atoms k) rows_are
          ∙ standard_fold p well few (rows_in old) old.spare k ready.long.1.0 ready.spare ready.few

      -- so they are long enough and in order
      fold_taken : FoldLong s.areas.all old.spare × (k ≤ folds) × FoldFormed s.areas.all s.atoms
      fold_taken =
          (folds_rows s.areas.all old.spare s.atoms k).accepts.0 (ap (λ (o : FoldOutcome). o.number) fold_call_lem)

      pub fold_ready : (s.atoms ≤ atoms) × (k ≤ folds) × (row_area ≤ length s.areas.all) × (row_area ≤ length old.spare)
          × (formed_rows row_words atoms s.atoms s.areas.all ≡ true)
      fold_ready =
          let l = fold_taken in
          (l.2.0, l.1, l.0.0, l.0.1, formed_make row_words atoms s.atoms s.areas.all l.2.1)

      -- the rows are folded
      module _ {all spare : List ℕ} (f : all ≡ folded_area k s.atoms s.areas.all) (z : spare ≡ filled row_area [] old.spare) where
        fold_is : ◌≡◌ {A = FoldOutcome} (record { number = 0; all = all; spare = spare }) folding
        fold_is =
            let l = fold_taken in
            ap₂ (λ (x y : List ℕ). record { number = 0; all = x; spare = y }) f z
            ∙ sym (fold_good s.areas.all old.spare s.atoms k
            (not-true (short_rows s.areas.all old.spare) (λ e. rows_short s.areas.all old.spare e l.0)) l.1
            (formed_all_lem s.areas.all s.atoms l.2))
            ∙ fold_call_lem

        abbrev rows : RowAreas
        rows = folded_in s all

        -- the rounds over them are not refused
        abbrev rounds_made_lem : RoundsOutcome
        rounds_made_lem =
            record { number = 0; rounds = rounds_of made; model = with_model (below (standard p).atoms (held_by made)) old.model }

        run_call : rounds_call rows s.atoms ≡ rounds_made_lem
        run_call =
            ap₂ (λ (x : FoldOutcome) (o : StandardOutcome). rounds_call (folded_in o x.all) o.atoms) fold_is rows_are
            ∙ folded_run p well few (rows_in old) k ready.long.1.0 ready.long.1.1 ready.long.1.2

        -- so the folded rows and the start set are long enough and in order
        pub run_ready : RoundsLong rows × (formed_system rows s.atoms ≡ true)
        run_ready = accepted rows s.atoms (ap (λ (o : RoundsOutcome). o.number) run_call)

        pub run_kept : (cause : Refusal) {j : ℕ} {model : List ℕ}
            → ◌≡◌ {A = RoundsOutcome} (record { number = number_of cause; rounds = j; model = model }) (rounds_call rows s.atoms) → ⊥
        run_kept cause e = number_some cause (ap (λ (o : RoundsOutcome). o.number) (e ∙ run_call))

        -- the rounds are made
        pub run_done : {r : RoundsOutcome} → r ≡ rounds_call rows s.atoms
            → made_by s (record { number = 0; all = all; spare = spare }) r ≡ run_tables p k old
        unfolding run_tables run_made rows_left standard_rows System.c System.h System.any_head
        run_done {r} e =
            ap₂ (λ (o : StandardOutcome) (x : FoldOutcome). made_by o x r) rows_are fold_is
            ∙ ap (made_by (standard_well p (rows_in old)) folding) (e ∙ run_call)
            ∙ sym (pick_false (run_refusal 8 old) (run_made made old) (le-ltb atoms (standard p).atoms few))
