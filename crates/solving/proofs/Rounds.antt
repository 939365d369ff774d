-- Where the solver accepts: its rounds, c and h are those of the definitions, within both bounds, and the areas hold the folded rows.
-- Assumes nothing.
use mathlib.Core.Path.{◌≡◌, refl, sym, subst}
use mathlib.Core.Bool.{false}
use mathlib.Core.List.{List, []}
use Prim.Native.Nat.{ℕ, ◌^◌, ◌≤◌, ◌<◌}
use native.Mathlib.Omega.{arith}
use Rattle.limits.specs.Book.{atoms, row_words, row_area}
use Rattle.program.specs.Program.{Program, WellFormed}
use Rattle.program.specs.System.{System, folded, any_head, held_by, c, h}
use Rattle.program.specs.Standard.{any_row, standard}
use Rattle.program.specs.Claims.{AfterFolds}
use Rattle.program.proofs.Theorems.{standard_regular, after_folds}
use Rattle.grammar.specs.Bytes.{Bytes, letters}
use Rattle.grammar.specs.Grammar.{Clause}
use Rattle.tables.specs.Numbering.{program_of}
use Rattle.tables.specs.Reading.{Book}
use Rattle.tables.proofs.Numbering.{numbers}
use Rattle.systems.specs.Rows.{row_in}
use Rattle.systems.specs.Rounds.{model_in}
use Rattle.systems.proofs.Packed.{row_unused, row_filled_past}
use Rattle.systems.proofs.Running.{model_below, model_below_past}
use Rattle.systems.proofs.Standard.{any_within, row_whole}
use Rattle.solving.specs.Solve.{SolveAreas, SolveOutcome, answer_of, solved_areas, solve_call}
use Rattle.solving.specs.SolveClaims.{SolveRounds}
use Rattle.solving.proofs.Staged.{folded_within}
use Rattle.solving.proofs.Judging.{Solved, solved_of, same_book}

-- folds change neither c nor h
c_folded : (k : ℕ) (s : System) → c (folded k s) ≡ c s
unfolding c
c_folded k s = refl

h_folded : (k : ℕ) (s : System) → h (folded k s) ≡ h s
unfolding h any_head
h_folded k s = refl

module _ (cs : List Clause) (k : ℕ) (old : SolveAreas) (few : (standard (program_of cs)).atoms ≤ atoms) where
  abbrev p : Program
  p = program_of cs

  abbrev r : SolveOutcome
  r = record { answer = answer_of p k; areas = solved_areas cs k old }

  well : WellFormed p
  well = (numbers cs).formed

  claims : AfterFolds (standard p) k
  claims = after_folds (standard p) (standard_regular p well) k

  -- the rows of the areas
  all_row_lem : (i : ℕ) → i < (standard p).atoms → (a : ℕ) → row_in row_words r.areas.all i a ≡ (folded k (standard p)).all i a
  unfolding solved_areas
  all_row_lem i l = row_whole p well few (folded k (standard p)).all old.all i l (λ a. folded_within p well few k i a l)

  any_row_lem : (i : ℕ) → i < (standard p).atoms → (a : ℕ) → row_in row_words r.areas.any i a ≡ (standard p).any i a
  unfolding solved_areas
  any_row_lem i l = row_whole p well few (any_row p) old.any i l (any_within p well i)

  -- past the atoms they are empty, and so is the spare
  all_past : (i : ℕ) → (standard p).atoms ≤ i → i < atoms → (a : ℕ) → row_in row_words r.areas.all i a ≡ false
  unfolding solved_areas
  all_past i l b a = row_filled_past row_words (standard p).atoms row_area (folded k (standard p)).all old.all i a l (omega arith)

  any_past : (i : ℕ) → (standard p).atoms ≤ i → i < atoms → (a : ℕ) → row_in row_words r.areas.any i a ≡ false
  unfolding solved_areas
  any_past i l b a = row_filled_past row_words (standard p).atoms row_area (any_row p) old.any i a l (omega arith)

  spare_row : (i : ℕ) → i < atoms → (a : ℕ) → row_in row_words r.areas.spare i a ≡ false
  unfolding solved_areas
  spare_row i l a = row_unused row_words row_area [] old.spare i a (omega arith) (omega arith)

  -- the last set in the model area
  last_set : (a : ℕ) → a < (standard p).atoms → model_in r.areas.model a ≡ held_by (folded k (standard p)) a
  unfolding solved_areas
  last_set = model_below (standard p).atoms (held_by (folded k (standard p))) old.model few

  model_past : (a : ℕ) → (standard p).atoms ≤ a → model_in r.areas.model a ≡ false
  unfolding solved_areas
  model_past = model_below_past (standard p).atoms (held_by (folded k (standard p))) old.model

  -- all that is claimed
  rounds_claim : SolveRounds cs k r
  unfolding answer_of program_of
  rounds_claim =
      record {
        line = refl;
        names = refl;
        atoms = refl;
        rounds = refl;
        first = claims.first;
        is_c = c_folded k (standard p);
        is_h = h_folded k (standard p);
        bound = omega (arith, claims.bound, c_folded k (standard p), h_folded k (standard p));
        enough = λ e. omega (arith, claims.enough (subst (λ (x : ℕ). x ≤ 2 ^ k) (c_folded k (standard p)) e), h_folded k (standard p));
        last_set = last_set;
        model_past = model_past;
        all_row_lem = all_row_lem;
        any_row_lem = any_row_lem;
        all_past = all_past;
        any_past = any_past;
        spare = spare_row;
      }

-- the field `rounds` of the demands
pub solve_rounds : (table : List ℕ) (t : Bytes) (k : ℕ) (old : SolveAreas) (cs : List Clause) → Book (letters table) t cs
    → (solve_call table t k old).answer.number ≡ 0 → SolveRounds cs k (solve_call table t k old)
solve_rounds table t k old cs book z =
    let s : Solved table t k old = solved_of table t k old z in
    let one : s.cs ≡ cs = same_book (letters table) s.folding t s.cs cs s.book book in
    subst (λ (ds : List Clause). SolveRounds ds k (solve_call table t k old)) one
    (subst (SolveRounds s.cs k) (sym s.is) (rounds_claim s.cs k old s.few))
