-- What is claimed of the solver: demands 1 and 3, the listing aside. Proved in proofs/Judging.antt, Past.antt, Holds.antt and Rounds.antt.
-- "Accepted" is: the number is 0.
-- Assumes nothing.
use Rattle.std.specs.Prelude.{◌≡◌, ◌⊎◌, ◌↔◌, true, false, List, ℕ, suc, ◌+◌, ◌*◌, ◌^◌, ◌≤◌, ◌<◌, length, drop}
use Rattle.limits.specs.Book.{text_bytes, rules, atoms, atoms as limit, folds, row_words, name_area, body_area, row_area, listing_bytes}
use Rattle.limits.specs.Cause.{OneOf, line_causes, text_causes, solve_kept_causes, solve_causes}
use Rattle.sets.specs.Set.{count}
use Rattle.sets.specs.Steps.{First}
use Rattle.program.specs.System.{round, folded, rounds_of, held_by}
use Rattle.program.specs.System as System
use Rattle.program.specs.Standard.{standard}
use Rattle.grammar.specs.Bytes.{Bytes, letters}
use Rattle.grammar.specs.Letters.{FoldTable, LettersJudged}
use Rattle.grammar.specs.Grammar.{Clause}
use Rattle.tables.specs.Numbering.{names_of, program_of}
use Rattle.tables.specs.Reading.{Book, Refusal}
use Rattle.tables.specs.Areas.{tables_of, read_call}
use Rattle.tables.specs.Claims.{zeroed}
use Rattle.systems.specs.Rows.{row_in}
use Rattle.systems.specs.Rounds.{model_in}
use Rattle.solving.specs.Solve.{SolveAreas, SolveOutcome, solve_refusal, answer_of, solved_areas}
use Rattle.solving.specs.Models.{Spellings, ModelOf, InEveryModelOf}
use Rattle.solving.specs.Held.{Held}

-- Demand 1 for the solver.

-- areas of their stated sizes, or longer
pub record SolveLong (o : SolveAreas) : Type 0 where
  pub spellings : name_area ≤ length o.tables.spellings
  pub heads : rules ≤ length o.tables.heads
  pub bodies : body_area ≤ length o.tables.bodies
  pub all : row_area ≤ length o.all
  pub any : row_area ≤ length o.any
  pub spare : row_area ≤ length o.spare
  pub model : row_words ≤ length o.model
  pub listing : listing_bytes ≤ length o.listing

-- so are they, and the folding table passes
abbrev pub SolveReady : List ℕ → SolveAreas → Type 0
SolveReady table old = SolveLong old × FoldTable table

-- areas, table, text and fold number are in range
abbrev pub InRange : List ℕ → Bytes → ℕ → SolveAreas → Type 0
InRange table t k old = SolveReady table old × (length t ≤ text_bytes) × (k ≤ folds)

-- each number exactly where documents 01 and 02 give it, and what is left then: r is what the call returns and leaves
pub record SolveJudges (table : List ℕ) (t : Bytes) (k : ℕ) (old : SolveAreas) (r : SolveOutcome) : Type 0 where
  pub accepts : (r.answer.number ≡ 0)
      ↔ (InRange table t k old × ((cs : List Clause) × Book (letters table) t cs × ((standard (program_of cs)).atoms ≤ atoms)))
  -- 1, 20, 21
  pub letters_judged : LettersJudged (SolveLong old) table r.answer.number
  pub long_text : (r.answer.number ≡ 2) ↔ (SolveReady table old × (text_bytes < length t))
  pub over_folds : (r.answer.number ≡ 9) ↔ (SolveReady table old × (length t ≤ text_bytes) × (folds < k))
  -- those of a text with their line, as the grammar says
  pub text : (q line : ℕ) → OneOf q text_causes
      → ((r.answer.number ≡ q) × (r.answer.line ≡ line)) ↔ (InRange table t k old × Refusal (letters table) t q line)
  pub over_atoms : (r.answer.number ≡ 8)
      ↔ (InRange table t k old × ((cs : List Clause) × Book (letters table) t cs × (atoms < (standard (program_of cs)).atoms)))
  -- 0 and these are all its numbers: 10, 11 and 12 cannot occur
  pub no_other : (r.answer.number ≡ 0) ⊎ OneOf r.answer.number solve_causes
  -- a line comes with exactly these
  pub lined : (r.answer.line ≡ 0 → ⊥) ↔ OneOf r.answer.number line_causes
  -- what is returned and left, on acceptance
  pub solved : (cs : List Clause) → Book (letters table) t cs → r.answer.number ≡ 0
      → r ≡ record { answer = answer_of (program_of cs) k; areas = solved_areas cs k old }
  -- "number, zeros", "all as it was"
  pub kept : OneOf r.answer.number solve_kept_causes → r ≡ solve_refusal r.answer.number 0 old.tables old
  -- "number, line", "names, rules zero; others as they were"
  pub cleared : OneOf r.answer.number line_causes
      → r ≡ solve_refusal r.answer.number r.answer.line (zeroed old.tables) old
  -- "number, zeros", "names, rules as read; others as they were"
  pub left_8 : (cs : List Clause) → Book (letters table) t cs → r.answer.number ≡ 8 → r ≡ solve_refusal 8 0 (tables_of cs old.tables) old
  -- names and rules are as the reader leaves them, whenever it is reached
  pub as_read : InRange table t k old → r.areas.tables ≡ (read_call table t old.tables).areas

-- what lies past the stated sizes is as it was, on acceptance and on every refusal
pub record SolvePast (old : SolveAreas) (o : SolveAreas) : Type 0 where
  pub spellings : drop name_area o.tables.spellings ≡ drop name_area old.tables.spellings
  pub heads : drop rules o.tables.heads ≡ drop rules old.tables.heads
  pub bodies : drop body_area o.tables.bodies ≡ drop body_area old.tables.bodies
  pub all : drop row_area o.all ≡ drop row_area old.all
  pub any : drop row_area o.any ≡ drop row_area old.any
  pub spare : drop row_area o.spare ≡ drop row_area old.spare
  pub model : drop row_words o.model ≡ drop row_words old.model
  pub listing : drop listing_bytes o.listing ≡ drop listing_bytes old.listing

-- Demand 3 for the solver, where it accepts.

-- held = in every model; and the held names are themselves a model
pub record SolveHolds (fold : ℕ → ℕ) (t : Bytes) (r : SolveOutcome) : Type 0 where
  pub holds : (x : Bytes) → Held r x ↔ InEveryModelOf fold t x
  pub least : (M : Spellings) × ModelOf fold t M × ((x : Bytes) → Held r x ↔ (M x ≡ true))
  pub counts : r.answer.held ≡ count r.answer.names (model_in r.areas.model)

-- What is returned and left, for a book of these clauses. The rounds are those of the rows that the book's rules give, standardised and folded
-- k times; c and h are those of the definition.
pub record SolveRounds (cs : List Clause) (k : ℕ) (r : SolveOutcome) : Type 0 where
  pub line : r.answer.line ≡ 0
  pub names : r.answer.names ≡ length (names_of cs)
  pub atoms : r.answer.atoms ≡ (standard (program_of cs)).atoms
  pub rounds : r.answer.rounds ≡ rounds_of (folded k (standard (program_of cs)))
  pub first : (q : ℕ) × (r.answer.rounds ≡ suc q)
      × First r.answer.atoms (round (folded k (standard (program_of cs)))) (standard (program_of cs)).start q
  pub is_c : r.answer.c ≡ System.c (standard (program_of cs))
  pub is_h : r.answer.h ≡ System.h (standard (program_of cs))
  pub bound : r.answer.rounds ≤ r.answer.c + r.answer.h + 1
  pub enough : r.answer.c ≤ 2 ^ k → r.answer.rounds ≤ 2 * r.answer.h + 2
  -- the model area has the last set, helpers too, and nothing at or past the atoms
  pub last_set : (a : ℕ) → a < r.answer.atoms → model_in r.areas.model a ≡ held_by (folded k (standard (program_of cs))) a
  pub model_past : (a : ℕ) → r.answer.atoms ≤ a → model_in r.areas.model a ≡ false
  -- the rows in the areas are these rows, those past the atoms are empty, the spare is zero
  pub all_row_lem : (i : ℕ) → i < r.answer.atoms → (a : ℕ)
      → row_in row_words r.areas.all i a ≡ (folded k (standard (program_of cs))).all i a
  pub any_row_lem : (i : ℕ) → i < r.answer.atoms → (a : ℕ) → row_in row_words r.areas.any i a ≡ (standard (program_of cs)).any i a
  pub all_past : (i : ℕ) → r.answer.atoms ≤ i → i < limit → (a : ℕ) → row_in row_words r.areas.all i a ≡ false
  pub any_past : (i : ℕ) → r.answer.atoms ≤ i → i < limit → (a : ℕ) → row_in row_words r.areas.any i a ≡ false
  pub spare : (i : ℕ) → i < limit → (a : ℕ) → row_in row_words r.areas.spare i a ≡ false
