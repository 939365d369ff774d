-- Demand 3: after the solver and after the plain route exactly the names in every model of the book's lines are held, whatever the fold number.
-- Assumes nothing.
use mathlib.Core.Path.{◌≡◌, sym, ap, ◌∙◌, subst}
use mathlib.Core.Bool.{true, false}
use mathlib.Core.Logic.{◌↔◌}
use mathlib.Core.List.{List, []}
use Prim.Native.Nat.{ℕ, ◌*◌, ◌≤◌, ◌<◌}
use native.Mathlib.Omega.{arith}
use lib.ListN.{length, get_or}
use Rattle.limits.specs.Book.{word_bits, row_words}
use Rattle.sets.specs.Set.{Set, Same}
use Rattle.sets.proofs.Tests.{same_sym}
use Rattle.sets.proofs.Counting.{count_same}
use Rattle.program.specs.Program.{Program, head_at, Model, InEveryModel}
use Rattle.program.specs.System.{System, folded, held_by}
use Rattle.program.specs.Standard.{standard}
use Rattle.program.proofs.Homes.{names_below}
use Rattle.program.proofs.Theorems.{least_model}
use Rattle.grammar.specs.Bytes.{Bytes, Folding, letters}
use Rattle.grammar.specs.Grammar.{Clause}
use Rattle.tables.specs.Numbering.{place, names_of, program_of}
use Rattle.tables.specs.Reading.{Book}
use Rattle.tables.specs.Areas.{Areas, Counts, counts_of, rules_of, short, tables_of, read_call, look_up}
use Rattle.tables.specs.Claims.{accepted}
use Rattle.tables.proofs.Encoding.{long_enough}
use Rattle.tables.proofs.Numbering.{place_at}
use Rattle.tables.proofs.Theorems.{numbers, judged, books_read}
use Rattle.systems.specs.Rows.{below}
use Rattle.systems.specs.Rounds.{model_in, with_model}
use Rattle.systems.proofs.Running.{model_below}
use Rattle.solving.specs.Plain.{PlainOutcome, plain_call}
use Rattle.solving.specs.Solve.{SolveAreas, answer_of, solved_areas, solve_call}
use Rattle.solving.specs.Models.{ModelOf, InEveryModelOf}
use Rattle.solving.specs.Held.{HeldIn, Held}
use Rattle.solving.specs.PlainClaims.{PlainCalls, PlainHolds}
use Rattle.solving.specs.SolveClaims.{SolveHolds}
use Rattle.solving.proofs.Staged.{tables_program, book_formed, book_long}
use Rattle.solving.proofs.Judging.{Solved, solved_of, look_up_read}
use Rattle.solving.proofs.Models.{spelt, spelt_find, spelt_make, model_spelt, in_every_model}
use Rattle.solving.proofs.Plain.{plain_calls}

-- a set of exactly the names in every model is itself a model
exact_model : (cs : List Clause) (f : Set) → ((a : ℕ) → a < length (names_of cs) → (f a ≡ true) ↔ InEveryModel (program_of cs) a)
    → Model (program_of cs) f
unfolding program_of
exact_model cs f exact j l h =
    (exact (head_at (program_of cs) j) ((numbers cs).formed.heads j l)).1
    (λ g model. model j l (λ i m e. (exact i m).0 (h i m e) g model))

-- A model area and a name area: below the number of names the look-up has the book's names, and the bits are set exactly for those in every model.
module _
    (fold : ℕ → ℕ)
    (folding : Folding fold)
    (t : Bytes)
    (cs : List Clause)
    (book : Book fold t cs)
    (spellings : Bytes)
    (looks : (a : ℕ) → a < length (names_of cs) → look_up spellings (length (names_of cs)) a ≡ get_or (names_of cs) a [])
    (model : List ℕ)
    (exact : (a : ℕ) → a < length (names_of cs) → (model_in model a ≡ true) ↔ InEveryModel (program_of cs) a)
  where
    -- the book's names
    abbrev ns : List Bytes
    ns = names_of cs

    -- a spelling is held where the bit of its number is set
    held_spelt_lem : (x : Bytes) → HeldIn spellings (length ns) model x ↔ (spelt ns (model_in model) x ≡ true)
    held_spelt_lem x = (
      λ (a, l, e, q).
          let p : place ns x ≡ a = ap (place ns) (sym q ∙ looks a l) ∙ (numbers cs).number a l in
          spelt_make ns (model_in model) x (omega arith) (ap (model_in model) p ∙ e),
      λ e.
          let r = spelt_find ns (model_in model) x e in
          (place ns x, r.0, r.1, looks (place ns x) r.0 ∙ place_at ns x r.0),
    )

    -- these spellings are a model of the text
    spelt_model : ModelOf fold t (spelt ns (model_in model))
    spelt_model = model_spelt fold folding t cs book (model_in model) (exact_model cs (model_in model) exact)

    -- so a spelling is held exactly where it lies in every model
    held_exactly : (x : Bytes) → HeldIn spellings (length ns) model x ↔ InEveryModelOf fold t x
    held_exactly x = (
      λ (a, l, e, q).
          subst (InEveryModelOf fold t) (sym (looks a l) ∙ q) ((in_every_model fold folding t cs book a l).0 ((exact a l).0 e)),
      λ h. (held_spelt_lem x).1 (h (spelt ns (model_in model)) spelt_model),
    )

-- After the solver.

-- What it leaves where it accepts.
module _ (table : List ℕ) (t : Bytes) (k : ℕ) (old : SolveAreas) (s : Solved table t k old) where
  abbrev fold : ℕ → ℕ
  fold = letters table

  abbrev folding : Folding fold
  folding = s.folding

  -- the book's program, its system after k folds, and the model area
  abbrev p : Program
  p = program_of s.cs

  abbrev D : System
  D = folded k (standard p)

  abbrev left : List ℕ
  left = with_model (below D.atoms (held_by D)) old.model

  -- the names' bits in the model area are those of the last set
  left_names : Same p.names (model_in left) (held_by D)
  left_names a l =
      let b : D.atoms ≤ row_words * word_bits = s.few in
      model_below D.atoms (held_by D) old.model b a (omega (arith, names_below p))

  -- so they are set exactly for the names in every model
  left_exactly : (a : ℕ) → a < length (names_of s.cs) → (model_in left a ≡ true) ↔ InEveryModel p a
  unfolding program_of
  left_exactly a l =
      let e : model_in left a ≡ held_by D a = left_names a l in
      let h = (least_model p (numbers s.cs).formed k).held a l in
      (λ q. h.0 (sym e ∙ q), λ q. e ∙ h.1 q)

  -- and the look-up has the names
  left_looks : (a : ℕ) → a < length (names_of s.cs)
      → look_up (tables_of s.cs old.tables).spellings (length (names_of s.cs)) a ≡ get_or (names_of s.cs) a []
  left_looks = look_up_read fold folding t s.cs s.reads old.tables s.range.0.0.spellings

  -- all together
  left_holds : SolveHolds fold t (record { answer = answer_of p k; areas = solved_areas s.cs k old })
  unfolding answer_of solved_areas program_of
  left_holds =
      let spellings : Bytes = (tables_of s.cs old.tables).spellings in
      record {
        holds = held_exactly fold folding t s.cs s.book spellings left_looks left left_exactly;
        least = (
          spelt (names_of s.cs) (model_in left),
          spelt_model fold folding t s.cs s.book spellings left_looks left left_exactly,
          held_spelt_lem fold folding t s.cs s.book spellings left_looks left left_exactly,
        );
        counts = count_same p.names (held_by D) (model_in left) (same_sym p.names (model_in left) (held_by D) left_names);
      }

-- where the solver accepts, it holds exactly the names in every model, and they are a model
pub solve_holds : (table : List ℕ) (t : Bytes) (k : ℕ) (old : SolveAreas) → (solve_call table t k old).answer.number ≡ 0
    → SolveHolds (letters table) t (solve_call table t k old)
solve_holds table t k old z =
    let s : Solved table t k old = solved_of table t k old z in
    subst (SolveHolds (letters table) t) (sym s.is) (left_holds table t k old s)

-- After the plain route.

-- Over the tables of a book.
module _
    (fold : ℕ → ℕ)
    (folding : Folding fold)
    (t : Bytes)
    (cs : List Clause)
    (book : Book fold t cs)
    (old : Areas)
    (long : short old ≡ false)
    (model : List ℕ)
    (model_long : row_words ≤ length model)
  where
    -- the tables, the number of names, and what the call returns and leaves
    abbrev tables : Areas
    tables = tables_of cs old

    abbrev count : ℕ
    count = length (names_of cs)

    abbrev outcome : PlainOutcome
    outcome = plain_call (rules_of tables) (counts_of cs) model

    -- they give the book's program, so what is claimed of the call speaks of it
    book_calls : PlainCalls (rules_of tables) (counts_of cs) model (program_of cs) outcome
    book_calls =
        subst (λ (p : Program). PlainCalls (rules_of tables) (counts_of cs) model p outcome)
        (tables_program cs old book.fits) (plain_calls (rules_of tables) (counts_of cs) model)

    -- and they are in order
    book_accepted : outcome.number ≡ 0
    book_accepted =
        book_calls.accepts.1 ((book_long cs old book.fits long, model_long), book_formed cs old book.fits)

    -- all together
    book_holds : PlainHolds fold t tables.spellings count outcome
    book_holds = record {
      accepts = book_accepted;
      holds =
          held_exactly fold folding t cs book tables.spellings
          (look_up_read fold folding t cs (((judged fold folding).accepted t cs).1 book) old (long_enough old long).0)
          outcome.model (book_calls.holds book_accepted);
      counts = book_calls.count_held book_accepted;
      bound = book_calls.bound book_accepted;
    }

    -- by the counts and the areas that the reader hands back
    counted_holds : (n m : ℕ) (o : Areas) → n ≡ length (names_of cs) → m ≡ length cs → o ≡ tables_of cs old
        → PlainHolds fold t o.spellings n (plain_call (rules_of o) (record { names = n; rules = m }) model)
    counted_holds n m o is-n is_m is-o = rw (is-n, is_m, is-o) book_holds

-- given the tables read from a book, it accepts them and holds exactly the names in every model
pub plain_holds_lem : (table : List ℕ) (t : Bytes) (old o : Areas) (counts : Counts)
    → read_call table t old ≡ accepted counts.names counts.rules o → (model : List ℕ) → row_words ≤ length model
    → PlainHolds (letters table) t o.spellings counts.names (plain_call (rules_of o) counts model)
plain_holds_lem table t old o counts e model l =
    let (cs, long, passes, fits, book, is-n, is_m, is-o) = ((books_read table).accepts t old o counts.names counts.rules).0 e in
    counted_holds (letters table) passes.1 t cs book old long model l counts.names counts.rules o is-n is_m is-o

-- So the held names are alike.

module _ (table : List ℕ) (t : Bytes) (k : ℕ) (old : SolveAreas) (z : (solve_call table t k old).answer.number ≡ 0) where
  -- under every two fold numbers
  pub alike : (k' : ℕ) (old' : SolveAreas) → (solve_call table t k' old').answer.number ≡ 0
      → (x : Bytes) → Held (solve_call table t k old) x ↔ Held (solve_call table t k' old') x
  alike k' old' z' x =
      let h = (solve_holds table t k old z).holds x in
      let h' = (solve_holds table t k' old' z').holds x in
      (λ e. h'.1 (h.0 e), λ e. h.1 (h'.0 e))

  -- and by the plain route
  pub alike_plain : (tables o : Areas) (counts : Counts) → read_call table t tables ≡ accepted counts.names counts.rules o
      → (model : List ℕ) → row_words ≤ length model
      → (x : Bytes) → Held (solve_call table t k old) x ↔ HeldIn o.spellings counts.names (plain_call (rules_of o) counts model).model x
  alike_plain tables o counts e model l x =
      let h = (solve_holds table t k old z).holds x in
      let h' = (plain_holds_lem table t tables o counts e model l).holds x in
      (λ q. h'.1 (h.0 q), λ q. h.1 (h'.0 q))
