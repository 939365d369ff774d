-- The three calls one after another: what standardising leaves, folding takes, and what folding leaves, the rounds take.
-- Assumes nothing.
use mathlib.Core.Path.{◌≡◌, refl, sym, ap, ◌∙◌}
use mathlib.Core.Bool.{true}
use mathlib.Core.List.{List}
use Prim.Native.Nat.{ℕ, ◌*◌, ◌≤◌, ◌<◌}
use native.Mathlib.Omega.{arith}
use lib.Dec.{ltb}
use borrow.Author.Tests.{ltb-true, ltb-false}
use lib.ListN.{length}
use Rattle.limits.specs.Book.{atoms, folds, row_words, row_area}
use Rattle.sets.specs.Set.{Set, Same, pick}
use Rattle.sets.specs.Steps.{rounds, reached}
use Rattle.sets.proofs.Logic.{either, clash}
use Rattle.sets.proofs.Tests.{within_make}
use Rattle.sets.proofs.Rounds.{rounds_agree, reached_agree}
use Rattle.program.specs.Program.{Program, WellFormed}
use Rattle.program.specs.System.{System, round, rows_after, folded, rounds_of, held_by}
use Rattle.program.specs.Standard.{all_row, any_row, start_set, standard}
use Rattle.program.specs.Claims.{LeastModel}
use Rattle.program.proofs.Homes.{names_below}
use Rattle.program.proofs.Theorems.{least_model}
use Rattle.tables.specs.Areas.{RuleTables, Counts, program_in}
use Rattle.areas.proofs.Begun.{length_begun}
use Rattle.areas.proofs.Filled.{length_filled}
use Rattle.systems.specs.Rows.{RowAreas, row_in, packed}
use Rattle.systems.specs.Fold.{FoldOutcome, short_rows, formed_all, folded_area, fold_call}
use Rattle.systems.specs.Rounds.{RoundsOutcome, model_in, system_in, start_kept, rounds_made}
use Rattle.systems.specs.Standardise.{StandardOutcome, short_tables, formed_tables, standard_rows, standard_of, standard_call}
use Rattle.systems.specs.Claims.{InCount, RoundsLong, Folds, Standardises, fold_after, rounds_after, Stages}
use Rattle.systems.proofs.Packed.{length_packed}
use Rattle.systems.proofs.Formed.{after_in, after_same, round_same}
use Rattle.systems.proofs.Folds.{rows_long, all_formed, folds_rows}
use Rattle.systems.proofs.Standard.{all_within, any_within, start_within, standardises}
use Rattle.systems.proofs.Running.{length_model, model_below, call_runs}

-- Lengths.

-- the folded rows fit
length_folded : (k m : ℕ) (all : List ℕ) → m ≤ atoms → row_area ≤ length all → length (folded_area k m all) ≡ length all
unfolding folded_area
length_folded k m all b l =
    let rows : List ℕ = packed row_words m (rows_after k m (row_in row_words all)) in
    let n : length rows ≡ m * row_words = length_packed row_words m (rows_after k m (row_in row_words all)) in
    length_begun rows all (omega arith)

-- folding leaves the area as long as it was
pub length_fold : (all spare : List ℕ) (m k : ℕ) → length (fold_call all spare m k).all ≡ length all
unfolding fold_call pick
length_fold all spare m k =
    either (short_rows all spare) (λ e. rw e)
    (λ e. either (ltb folds k) (λ f. rw (e, f))
    (λ f. either (formed_all all m)
    (λ g. rw (e, f, g) (length_folded k m all (all_formed all m g).0 (rows_long all spare e).0))
    (λ g. rw (e, f, g))))

-- and standardising leaves areas of rows long enough
long_rows : (p : Program) (o : RowAreas) → (standard p).atoms ≤ atoms → RoundsLong o → RoundsLong (standard_rows p o)
unfolding standard_rows
long_rows p o b l =
    let rows : (f : ℕ → Set) → length (packed row_words (standard p).atoms f) ≡ (standard p).atoms * row_words =
    λ f. length_packed row_words (standard p).atoms f in (
      omega (arith, length_filled row_area (packed row_words (standard p).atoms (all_row p)) o.all (omega (arith, rows (all_row p))) l.0),
      omega (arith, length_filled row_area (packed row_words (standard p).atoms (any_row p)) o.any (omega (arith, rows (any_row p))) l.1),
      omega (arith, length_model (start_set p) o.model l.2),
    )

long_standard : (tables : RuleTables) (counts : Counts) (o : RowAreas)
    → (standard (program_in tables counts)).atoms ≤ atoms → RoundsLong o → RoundsLong (standard_call tables counts o).areas
unfolding standard_call standard_of pick
long_standard tables counts o b l =
    let p : Program = program_in tables counts in
    either (short_tables tables o) (λ e. rw e l)
    (λ e. either (formed_tables tables counts)
    (λ f. either (ltb atoms (standard p).atoms) (λ g. rw (e, f, g) l) (λ g. rw (e, f, g) (long_rows p o b l)))
    (λ f. rw (e, f) l))

-- What standardising has left, folded and run.
module _
    (tables : RuleTables)
    (counts : Counts)
    (o : RowAreas)
    (spare : List ℕ)
    (k : ℕ)
    (z : (standard_call tables counts o).number ≡ 0)
    (spare-long : row_area ≤ length spare)
    (few : k ≤ folds)
  where
    abbrev p : Program
    p = program_in tables counts

    abbrev r : StandardOutcome
    r = standard_call tables counts o

    st : Standardises tables counts o p r
    st = standardises tables counts o

    long : RoundsLong r.areas
    long =
        let a = st.accepts.0 z in
        long_standard tables counts o a.2 a.0.1

    -- the atom count, within its limit
    abbrev M : ℕ
    M = r.atoms

    formed : WellFormed p
    formed = st.program z

    is_atoms : M ≡ (standard p).atoms
    is_atoms = st.count_atoms z

    limit : M ≤ atoms
    limit = let a : (standard p).atoms ≤ atoms = (st.accepts.0 z).2 in omega (arith, is_atoms)

    -- neither a bit nor a row at or past it
    all_in : InCount M r.areas.all
    all_in i a l t =
        either (ltb i M)
        (λ b.
        let c : i < M = ltb-true i M b in
        let d : i < (standard p).atoms = omega (arith, is_atoms) in
        let g : a < (standard p).atoms = all_within p formed i a d (sym (st.all_row_lem z i c a) ∙ t) in
        (c, omega (arith, is_atoms)))
        (λ b. clash t (st.all_past z i (ltb-false i M b) l a))

    any_in : InCount M r.areas.any
    any_in i a l t =
        either (ltb i M)
        (λ b.
        let c : i < M = ltb-true i M b in
        let g : a < (standard p).atoms = any_within p formed i a (sym (st.any_row_lem z i c a) ∙ t) in
        (c, omega (arith, is_atoms)))
        (λ b. clash t (st.any_past z i (ltb-false i M b) l a))

    start_in_lem : (a : ℕ) → model_in r.areas.model a ≡ true → a < M
    start_in_lem a t =
        let g : a < (standard p).atoms = start_within p formed a (sym (st.start z a) ∙ t) in
        omega (arith, is_atoms)

    -- what folding leaves of them, so not refused
    abbrev F : FoldOutcome
    F = fold_after r spare k

    fold_claims : Folds r.areas.all spare M k F
    fold_claims = folds_rows r.areas.all spare M k

    fold_number : F.number ≡ 0
    fold_number = fold_claims.accepts.1 ((long.0, spare-long), few, (limit, all_in))

    -- the areas then, the system in them, and the definition's after k folds
    abbrev after : RowAreas
    after = record { all = F.all; any = r.areas.any; model = r.areas.model }

    abbrev S : System
    S = system_in after M

    abbrev D : System
    D = folded k (standard p)

    all_same : (i : ℕ) → i < M → Same M (row_in row_words F.all i) (D.all i)
    all_same i l a b =
        fold_claims.rows fold_number i (omega (arith, limit)) a
        ∙ after_same k M (row_in row_words r.areas.all) (all_row p) (λ i l a b. st.all_row_lem z i l a) i l a b
        ∙ ap (λ (x : ℕ). rows_after k x (all_row p) i a) is_atoms

    -- they make the same rounds, from the same start
    agree : (v w : Set) → Same M v w → Same M (round S v) (round D w)
    agree = round_same S D is_atoms all_same (λ i l a b. st.any_row_lem z i l a)

    starts : Same M S.start (start_set p)
    starts a l = st.start z a

    -- so the rounds are not refused
    folded_in_lem : InCount M F.all
    folded_in_lem i a l t =
        after_in k atoms M (row_in row_words r.areas.all) limit all_in i a l (sym (fold_claims.rows fold_number i l a) ∙ t)

    claims : LeastModel p k
    claims = least_model p formed k

    kept : start_kept S ≡ true
    unfolding start_kept
    kept =
        within_make M S.start (round S S.start)
        (λ i l t.
        agree S.start (start_set p) starts i l
        ∙ claims.rounds.start i (omega (arith, is_atoms)) (sym (starts i l) ∙ t))

    runs_so : rounds_after r spare k ≡ rounds_made S r.areas.model
    runs_so =
        let l : row_area ≤ length F.all = omega (arith, long.0, length_fold r.areas.all spare M k) in
        call_runs after M (l, long.1, long.2) (limit, folded_in_lem, any_in, start_in_lem) kept

    -- and they and their last set are the definition's
    rounds_same : (rounds_after r spare k).rounds ≡ rounds_of D
    unfolding rounds_made rounds_of
    rounds_same =
        ap (λ (x : RoundsOutcome). x.rounds) runs_so ∙ rounds_agree M (round S) (round D) agree S.start (start_set p) starts
        ∙ ap (λ (x : ℕ). rounds x (round D) (start_set p)) is_atoms

    held_same : Same M (model_in (rounds_after r spare k).model) (held_by D)
    unfolding rounds_made held_by
    held_same i l =
        ap (λ (x : RoundsOutcome). model_in x.model i) runs_so ∙ model_below M (held_by S) r.areas.model limit i l
        ∙ reached_agree M (round S) (round D) agree S.start (start_set p) starts i l
        ∙ ap (λ (x : ℕ). reached x (round D) (start_set p) i) is_atoms

    -- the three calls
    pub stages : Stages p r spare k
    stages =
        let number : RoundsOutcome → ℕ = λ x. x.number in
        record {
          folds_number = fold_number;
          rounds_number = ap number runs_so ∙ unfold rounds_made in refl;
          rows = all_same;
          rounds = rounds_same;
          held = held_same;
          names =
              λ a l.
              let b : p.names ≤ (standard p).atoms = names_below p in
              let c : model_in (rounds_after r spare k).model a ≡ held_by D a = held_same a (omega (arith, is_atoms)) in
              (λ t. (claims.held a l).0 (sym c ∙ t), λ t. c ∙ (claims.held a l).1 t);
        }
