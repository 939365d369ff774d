-- What lies past the stated sizes: the solver leaves it as it was, on acceptance and on every refusal.
-- Assumes nothing.
use mathlib.Core.Path.{◌≡◌, refl, sym, subst}
use mathlib.Core.Logic.{⊎_elim}
use mathlib.Core.List.{List, [], map}
use Prim.Native.Nat.{ℕ, ◌+◌, ◌≤◌}
use native.Mathlib.Omega.{arith}
use lib.ListN.{length, drop, length-map}
use Rattle.limits.specs.Book.{rules, atoms, folds, row_words, name_area, body_area, row_area, listing_bytes}
use Rattle.limits.proofs.Causes.{solve_left}
use Rattle.sets.proofs.Running.{rounds_few}
use Rattle.program.specs.Program.{Rule}
use Rattle.program.specs.System.{System, round, folded, rounds_of, held_by}
use Rattle.program.specs.Standard.{standard}
use Rattle.program.specs.Claims.{AfterFolds}
use Rattle.program.proofs.Theorems.{after_folds, standard_regular}
use Rattle.grammar.specs.Bytes.{Bytes, Folding, letters}
use Rattle.grammar.specs.Grammar.{Clause, joined}
use Rattle.tables.specs.Numbering.{names_of, numbered, program_of}
use Rattle.tables.specs.Reading.{Fits, Book}
use Rattle.tables.specs.Areas.{Areas, name_rows, head_rows, body_rows, filled_with, tables_of}
use Rattle.tables.specs.Claims.{zeroed}
use Rattle.tables.proofs.Calls.{cleared_zero}
use Rattle.areas.proofs.Filled.{drop_filled}
use Rattle.tables.proofs.Encoding.{AllFit, length_name_rows}
use Rattle.tables.proofs.Numbering.{numbers, heads_length, bodies_length}
use Rattle.tables.proofs.Theorems.{judged, read_fine}
use Rattle.systems.specs.Rows.{packed, below}
use Rattle.systems.proofs.Packed.{length_packed}
use Rattle.systems.proofs.Running.{model_rest, round_mono}
use Rattle.solving.specs.Listing.{listing_lines, listed}
use Rattle.solving.specs.Solve.{SolveAreas, SolveOutcome, solve_refusal, solved_areas, solve_call}
use Rattle.solving.specs.SolveClaims.{SolveJudges, SolvePast}
use Rattle.solving.proofs.Decimal.{listing_fits}
use Rattle.solving.proofs.Judging.{Solved, solved_of, solve_judges}

-- the tables past their stated sizes are as they were
abbrev TablesPast : Areas → Areas → Type 0
TablesPast old o =
    (drop name_area o.spellings ≡ drop name_area old.spellings) × (drop rules o.heads ≡ drop rules old.heads)
    × (drop body_area o.bodies ≡ drop body_area old.bodies)

-- after names and rules that fit
filled_past : (ns : List Bytes) (rs : List (Rule ℕ)) (old : Areas) → length (name_rows ns) ≤ name_area → length rs ≤ rules
    → TablesPast old (filled_with ns rs old)
unfolding filled_with
filled_past ns rs old a b = (
  drop_filled name_area (name_rows ns) old.spellings a,
  drop_filled rules (head_rows rs) old.heads (omega (arith, heads_length rs)),
  drop_filled body_area (body_rows rs) old.bodies (omega (arith, bodies_length rs)),
)

-- after a book
tables_past : (cs : List Clause) (old : Areas) → Fits cs → AllFit (names_of cs) → TablesPast old (tables_of cs old)
unfolding tables_of
tables_past cs old fits short =
    let rs : List (Rule ℕ) = map (numbered (names_of cs)) cs in
    filled_past (names_of cs) rs old (omega (arith, length_name_rows (names_of cs) short, fits.names_fit))
    (omega (arith, length-map cs (numbered (names_of cs)), fits.rules_fit))

-- after a refusal of a line
zeroed_past : (old : Areas) → TablesPast old (zeroed old)
zeroed_past old =
    let none : length (name_rows []) ≤ name_area = unfold name_rows in omega arith in
    subst (TablesPast old) (cleared_zero old) (filled_past [] [] old none (omega arith))

-- a refusal leaves all areas but the tables as they were
refused_past : (q line : ℕ) (left : Areas) (old : SolveAreas) → TablesPast old.tables left
    → SolvePast old (solve_refusal q line left old).areas
refused_past q line left old h = record {
  spellings = h.0;
  heads = h.1;
  bodies = h.2;
  all = refl;
  any = refl;
  spare = refl;
  model = refl;
  listing = refl;
}

-- the rounds of a book are at most one more than the atoms' limit
pub rounds_limit : (cs : List Clause) (k : ℕ) → (standard (program_of cs)).atoms ≤ atoms
    → rounds_of (folded k (standard (program_of cs))) ≤ atoms + 1
unfolding rounds_of
rounds_limit cs k few =
    let s : System = standard (program_of cs) in
    let a : AfterFolds s k = after_folds s (standard_regular (program_of cs) (numbers cs).formed) k in
    omega (arith, rounds_few s.atoms (round (folded k s)) s.start (round_mono (folded k s)) a.start)

-- an accepted call
solved_past : (cs : List Clause) (k : ℕ) (old : SolveAreas) → Fits cs → AllFit (names_of cs) → k ≤ folds
    → (standard (program_of cs)).atoms ≤ atoms → SolvePast old (solved_areas cs k old)
unfolding solved_areas listed
solved_past cs k old fits short l few =
    let s : System = folded k (standard (program_of cs)) in
    let tables : TablesPast old.tables (tables_of cs old.tables) = tables_past cs old.tables fits short in
    record {
      spellings = tables.0;
      heads = tables.1;
      bodies = tables.2;
      all = drop_filled row_area (packed row_words s.atoms s.all) old.all (omega (arith, length_packed row_words s.atoms s.all));
      any = drop_filled row_area (packed row_words s.atoms s.any) old.any (omega (arith, length_packed row_words s.atoms s.any));
      spare = drop_filled row_area [] old.spare (omega arith);
      model = model_rest (below s.atoms (held_by s)) old.model;
      listing =
          drop_filled listing_bytes (joined (listing_lines (names_of cs) (held_by s) k (rounds_of s))) old.listing
          (omega (arith, listing_fits (names_of cs) (held_by s) k (rounds_of s) fits.names_fit l (rounds_limit cs k few) short));
    }

-- what lies past the stated sizes is as it was, however the call ends
pub solve_past : (table : List ℕ) (t : Bytes) (k : ℕ) (old : SolveAreas) → SolvePast old (solve_call table t k old).areas
solve_past table t k old =
    let fold : ℕ → ℕ = letters table in
    let r : SolveOutcome = solve_call table t k old in
    let j : SolveJudges table t k old r = solve_judges table t k old in
    let n : ℕ = r.answer.number in
    let P : SolveOutcome → Type 0 = λ x. SolvePast old x.areas in
    let fit : Folding fold → (cs : List Clause) → Book fold t cs → AllFit (names_of cs) =
    λ folding cs b a l. (read_fine fold folding t cs (((judged fold folding).accepted t cs).1 b) a l).0
    in
    ⊎_elim
    (λ z.
    let s : Solved table t k old = solved_of table t k old z in
    subst P (sym s.is) (solved_past s.cs k old s.fits (fit s.folding s.cs s.book) s.range.2 s.few))
    (λ m.
    solve_left n m
    (λ i. subst P (sym (j.kept i)) (refused_past n 0 old.tables old (refl, refl, refl)))
    (λ i. subst P (sym (j.cleared i)) (refused_past n r.answer.line (zeroed old.tables) old (zeroed_past old.tables)))
    (λ z.
    let (range, (cs, b, more)) = j.over_atoms.0 z in
    subst P (sym (j.left_8 cs b z))
    (refused_past 8 0 (tables_of cs old.tables) old (tables_past cs old.tables b.fits (fit range.0.1.1 cs b)))))
    j.no_other
