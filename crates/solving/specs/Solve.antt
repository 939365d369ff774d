-- The solver's call. Document 01: "The solver reads, standardises, folds, runs and lists; it returns number, line, n, atoms, held names,
-- rounds, c, h. After it, names and rules are as read, "all" rows folded, spare zero, the model area the last set."
-- Assumes nothing.
use Rattle.std.specs.Prelude.{Bool, ◌||◌, List, [], ℕ, eqb, ltb, length}
use Rattle.limits.specs.Book.{text_bytes, atoms, folds, row_words, row_area, listing_bytes}
use Rattle.sets.specs.Set.{pick, count}
use Rattle.program.specs.Program.{Program}
use Rattle.program.specs.System.{System, folded, rounds_of, held_by}
use Rattle.program.specs.System as System
use Rattle.program.specs.Standard.{standard}
use Rattle.grammar.specs.Bytes.{Bytes, letters}
use Rattle.grammar.specs.Letters.{letters_cause}
use Rattle.grammar.specs.Grammar.{Clause}
use Rattle.tables.specs.Numbering.{names_of, program_of}
use Rattle.tables.specs.Reading.{Reading, read, refused, book_of}
use Rattle.areas.specs.Area.{filled}
use Rattle.tables.specs.Areas.{Areas, short, tables_of, refusal}
use Rattle.systems.specs.Rows.{packed, below}
use Rattle.systems.specs.Rounds.{with_model}
use Rattle.solving.specs.Listing.{listed}

-- the eight areas that the solver is lent: names, heads and bodies are the tables
pub record SolveAreas : Type 0 where
  pub tables : Areas
  pub all : List ℕ
  pub any : List ℕ
  pub spare : List ℕ
  pub model : List ℕ
  pub listing : Bytes

-- what the solver returns
pub record SolveAnswer : Type 0 where
  pub number : ℕ
  pub line : ℕ
  pub names : ℕ
  pub atoms : ℕ
  pub held : ℕ
  pub rounds : ℕ
  pub c : ℕ
  pub h : ℕ

pub record SolveOutcome : Type 0 where
  pub answer : SolveAnswer
  pub areas : SolveAreas

-- an area shorter than its stated size
unfoldable pub short_areas : SolveAreas → Bool
short_areas o =
    short o.tables
    || (ltb (length o.all) row_area
    || (ltb (length o.any) row_area
    || (ltb (length o.spare) row_area || (ltb (length o.model) row_words || ltb (length o.listing) listing_bytes))))

-- the number, the line, and zeros
abbrev pub refusal_answer : ℕ → ℕ → SolveAnswer
refusal_answer number line =
    record { number = number; line = line; names = 0; atoms = 0; held = 0; rounds = 0; c = 0; h = 0 }

-- a refusal leaves these tables, and all other areas as they were
abbrev pub solve_refusal : ℕ → ℕ → Areas → SolveAreas → SolveOutcome
solve_refusal number line left old =
    record {
      answer = refusal_answer number line;
      areas =
          record {
            tables = left;
            all = old.all;
            any = old.any;
            spare = old.spare;
            model = old.model;
            listing = old.listing;
          };
    }

-- the answer for a program after k folds
unfoldable pub answer_of : Program → ℕ → SolveAnswer
answer_of p k =
    let s : System = folded k (standard p) in
    record {
      number = 0;
      line = 0;
      names = p.names;
      atoms = s.atoms;
      held = count p.names (held_by s);
      rounds = rounds_of s;
      c = System.c s;
      h = System.h s;
    }

-- the areas after a book with these clauses and k folds
unfoldable pub solved_areas : List Clause → ℕ → SolveAreas → SolveAreas
solved_areas cs k old =
    let s : System = folded k (standard (program_of cs)) in
    record {
      tables = tables_of cs old.tables;
      all = filled row_area (packed row_words s.atoms s.all) old.all;
      any = filled row_area (packed row_words s.atoms s.any) old.any;
      spare = filled row_area [] old.spare;
      model = with_model (below s.atoms (held_by s)) old.model;
      listing = listed (names_of cs) (held_by s) k (rounds_of s) old.listing;
    }

-- what the solver answers and leaves, given what the text comes to: a refusal of the reader, over 256 atoms, or the answer
unfoldable pub solve_read : Reading → ℕ → SolveAreas → SolveOutcome
solve_read (refused number line) k old = solve_refusal number line (refusal number line old.tables).areas old
solve_read (read cs) k old =
    pick (ltb atoms (standard (program_of cs)).atoms) (solve_refusal 8 0 (tables_of cs old.tables) old)
    (record { answer = answer_of (program_of cs) k; areas = solved_areas cs k old })

-- with areas and table in order: text too long, folds over 8; then the text
unfoldable pub solve_text : (ℕ → ℕ) → Bytes → ℕ → SolveAreas → SolveOutcome
solve_text fold t k old =
    pick (ltb text_bytes (length t)) (solve_refusal 2 0 old.tables old)
    (pick (ltb folds k) (solve_refusal 9 0 old.tables old)
    (solve_read (book_of fold t) k old))

-- the solver, lent a folding table: areas too short and the table come first, then the text by the table's letters
unfoldable pub solve_call : List ℕ → Bytes → ℕ → SolveAreas → SolveOutcome
solve_call table t k old =
    let cause : ℕ = letters_cause (short_areas old) table in
    pick (eqb cause 0) (solve_text (letters table) t k old) (solve_refusal cause 0 old.tables old)
