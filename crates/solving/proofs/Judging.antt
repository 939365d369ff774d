-- The solver's call: each way out, and every number exactly where documents 01 and 02 give it.
-- Assumes nothing.
use mathlib.Core.Path.{◌≡◌, refl, sym, ap, ◌∙◌, subst}
use mathlib.Core.Bool.{Bool, true, false, ◌||◌}
use mathlib.Core.List.{List, [], ◌++◌}
use mathlib.Core.Logic.{◌↔◌, inl, inr}
use Prim.Native.Nat.{ℕ, ◌-◌, ◌≤◌, ◌<◌}
use native.Mathlib.Omega.{arith}
use lib.Dec.{eqb, ltb}
use lib.ListN.{length, get_or, drop, replicate}
use borrow.Author.Tests.{eqb-true, eqb-false, eq-eqb, ne_eqb, ltb-true, ltb-false, lt-ltb, le-ltb, le-leb}
use Rattle.limits.specs.Book.{text_bytes, names, atoms, folds, row_words, name_area, row_area, listing_bytes}
use Rattle.limits.specs.Cause.{OneOf, letter_causes, line_causes, text_causes, solve_kept_causes, solve_causes}
use Rattle.limits.proofs.Causes.{without, other, one_found, inside, one_inside, apart, one_apart}
use Rattle.sets.specs.Set.{pick}
use Rattle.sets.proofs.Logic.{either, or_none, and_make, holds, fails, pick_true, pick_false}
use Rattle.program.specs.Standard.{standard}
use Rattle.grammar.specs.Bytes.{Bytes, Folding, letters}
use Rattle.grammar.specs.Letters.{LettersJudged, letters_cause}
use Rattle.grammar.proofs.Letters.{letters_judged, letters_pass, letters_cause_lem, letters_other, cause_low}
use Rattle.grammar.specs.Grammar.{Clause}
use Rattle.tables.specs.Numbering.{names_of, program_of}
use Rattle.tables.specs.Reading.{Reading, read, refused, book_of, Fits, Book, Refusal}
use Rattle.tables.specs.Areas.{Areas, Outcome, short, name_rows, filled_with, tables_of, refusal, outcome, read_call, name_at, look_up}
use Rattle.tables.specs.Claims.{zeroed}
use Rattle.tables.proofs.Calls.{refusal_cause, Placed, refusal_placed, leaves_refusal, read_ready}
use Rattle.tables.proofs.Judging.{reading_short}
use Rattle.tables.proofs.Loop.{read_refused, refused_number, refused_line}
use Rattle.areas.proofs.Filled.{length_filled, filled_is}
use Rattle.tables.proofs.Encoding.{AllFine, length_name_rows, name_at_lem, long_enough, not_short}
use Rattle.tables.proofs.Theorems.{judged, read_fits, read_fine}
use Rattle.solving.specs.Solve.{SolveAreas, SolveOutcome, short_areas, solve_refusal, answer_of, solved_areas, solve_read, solve_text, solve_call}
use Rattle.solving.specs.SolveClaims.{SolveLong, SolveReady, InRange, SolveJudges}

-- Lengths of the areas.

-- areas that are not too short have their stated sizes
pub areas_long : (o : SolveAreas) → short_areas o ≡ false → SolveLong o
unfolding short_areas
areas_long o e =
    let below : List ℕ → ℕ → Bool = λ xs n. ltb (length xs) n in
    let listing : Bool = below o.listing listing_bytes in
    let model : Bool = below o.model row_words in
    let spare : Bool = below o.spare row_area in
    let any : Bool = below o.any row_area in
    let all : Bool = below o.all row_area in
    let a = or_none (short o.tables) (all || (any || (spare || (model || listing)))) e in
    let b = or_none all (any || (spare || (model || listing))) a.1 in
    let c = or_none any (spare || (model || listing)) b.1 in
    let d = or_none spare (model || listing) c.1 in
    let f = or_none model listing d.1 in
    let tables = long_enough o.tables a.0 in
    record {
      spellings = tables.0;
      heads = tables.1;
      bodies = tables.2;
      all = ltb-false (length o.all) row_area b.0;
      any = ltb-false (length o.any) row_area c.0;
      spare = ltb-false (length o.spare) row_area d.0;
      model = ltb-false (length o.model) row_words f.0;
      listing = ltb-false (length o.listing) listing_bytes f.1;
    }

-- the other way, for the tables and for all
pub long_tables : (o : SolveAreas) → SolveLong o → short o.tables ≡ false
long_tables o h = not_short o.tables h.spellings h.heads h.bodies

pub long_areas : (o : SolveAreas) → SolveLong o → short_areas o ≡ false
unfolding short_areas
long_areas o h = rw (
  long_tables o h,
  le-ltb (length o.all) row_area h.all,
  le-ltb (length o.any) row_area h.any,
  le-ltb (length o.spare) row_area h.spare,
  le-ltb (length o.model) row_words h.model,
  le-ltb (length o.listing) listing_bytes h.listing,
)

-- The ways out of the call.

module _ (table : List ℕ) (t : Bytes) (k : ℕ) (old : SolveAreas) where
  -- what is judged first
  abbrev cause : ℕ
  cause = letters_cause (short_areas old) table

  by_lengths : (short_areas old ≡ false) ↔ SolveLong old
  by_lengths = (areas_long old, long_areas old)

  pub solve_cause : (cause ≡ 0 → ⊥) → solve_call table t k old ≡ solve_refusal cause 0 old.tables old
  unfolding solve_call
  solve_cause some = pick_false (solve_text (letters table) t k old) (solve_refusal cause 0 old.tables old) (ne_eqb cause 0 some)

  pub solve_short : short_areas old ≡ true → solve_call table t k old ≡ solve_refusal 1 0 old.tables old
  solve_short e =
      let one : cause ≡ 1 = cause_low (short_areas old) table e in
      solve_cause (λ z. omega (arith, one, z)) ∙ ap (λ (q : ℕ). solve_refusal q 0 old.tables old) one

  -- one of these, or areas and table in order
  pub ready_or : {X : Type 0} → ((cause ≡ 0 → ⊥) → X) → (SolveReady table old → X) → X
  ready_or first then =
      either (eqb cause 0) (λ e. then ((letters_pass (short_areas old) by_lengths table).0 (eqb-true cause 0 e))) (λ e. first (eqb-false cause 0 e))

  module _ (ready : SolveReady table old) where
    pub solve_ready : solve_call table t k old ≡ solve_text (letters table) t k old
    unfolding solve_call
    solve_ready =
        pick_true (solve_text (letters table) t k old) (solve_refusal cause 0 old.tables old)
        (eq-eqb cause 0 ((letters_pass (short_areas old) by_lengths table).1 ready))

    -- a text too long
    pub solve_long_text : text_bytes < length t → solve_call table t k old ≡ solve_refusal 2 0 old.tables old
    unfolding solve_text pick
    solve_long_text l = solve_ready ∙ rw (lt-ltb text_bytes (length t) l)

    module _ (fits : length t ≤ text_bytes) where
      -- folds over 8
      pub solve_over_folds : folds < k → solve_call table t k old ≡ solve_refusal 9 0 old.tables old
      unfolding solve_text pick
      solve_over_folds l = solve_ready ∙ rw (le-ltb text_bytes (length t) fits, lt-ltb folds k l)

      -- else the text
      pub solve_in_range : k ≤ folds → solve_call table t k old ≡ solve_read (book_of (letters table) t) k old
      unfolding solve_text pick
      solve_in_range l = solve_ready ∙ rw (le-ltb text_bytes (length t) fits, le-ltb folds k l)

-- what the solver does with what the text comes to: refused, over 256 atoms, or solved
pub solve_refused : (number line k : ℕ) (old : SolveAreas)
    → solve_read (refused number line) k old ≡ solve_refusal number line (refusal number line old.tables).areas old
unfolding solve_read
solve_refused number line k old = refl

pub solve_over_atoms : (cs : List Clause) (k : ℕ) (old : SolveAreas) → atoms < (standard (program_of cs)).atoms
    → solve_read (read cs) k old ≡ solve_refusal 8 0 (tables_of cs old.tables) old
unfolding solve_read pick
solve_over_atoms cs k old l = rw (lt-ltb atoms (standard (program_of cs)).atoms l)

pub solve_solved : (cs : List Clause) (k : ℕ) (old : SolveAreas) → (standard (program_of cs)).atoms ≤ atoms
    → solve_read (read cs) k old ≡ record { answer = answer_of (program_of cs) k; areas = solved_areas cs k old }
unfolding solve_read pick
solve_solved cs k old l = rw (le-ltb atoms (standard (program_of cs)).atoms l)

-- What a text comes to.

module _ (fold : ℕ → ℕ) (folding : Folding fold) (t : Bytes) where
  -- a text is a book in one way only
  pub same_book : (cs ds : List Clause) → Book fold t cs → Book fold t ds → cs ≡ ds
  same_book cs ds b d =
      let e : read cs ≡ read ds = sym (((judged fold folding).accepted t cs).1 b) ∙ ((judged fold folding).accepted t ds).1 d in
      cc

  -- the look-up has the names of a book that was read
  pub look_up_read : (cs : List Clause) → book_of fold t ≡ read cs → (old : Areas) → name_area ≤ length old.spellings
      → (a : ℕ) → a < length (names_of cs) → look_up (tables_of cs old).spellings (length (names_of cs)) a ≡ get_or (names_of cs) a []
  unfolding look_up tables_of filled_with
  look_up_read cs q old h a l =
      let ns : List Bytes = names_of cs in
      let fine : AllFine ns = read_fine fold folding t cs q in
      let area : Bytes = (tables_of cs old).spellings in
      let rest : List ℕ = replicate (name_area - length (name_rows ns)) 0 ++ drop name_area old.spellings in
      let few : length ns ≤ names = (read_fits fold folding t cs q).1 in
      let rows : length (name_rows ns) ≤ name_area = omega (arith, length_name_rows ns (λ a l. (fine a l).0)) in
      let long : name_area ≤ length area = omega (arith, length_filled name_area (name_rows ns) old.spellings rows h) in
      pick_true (name_at area a) []
      (and_make (lt-ltb a (length ns) l) (and_make (le-leb (length ns) names few) (le-leb name_area (length area) long)))
      ∙ ap (λ (x : List ℕ). name_at x a) (filled_is name_area (name_rows ns) old.spellings) ∙ name_at_lem ns rest fine a l

-- Every number exactly where document 01 gives it.

-- a refusal without a line leaves the tables as they were
kept_tables : (q : ℕ) (o : Areas) → (refusal q 0 o).areas ≡ o
unfolding refusal pick
kept_tables q o = refl

-- a refusal of the reader: what is left, and whether it has a line
module _ (a b : ℕ) (old : SolveAreas) where
  refused_kept : Placed a b → OneOf a solve_kept_causes
      → solve_refusal a b (refusal a b old.tables).areas old ≡ solve_refusal a 0 old.tables old
  unfolding apart without
  refused_kept (inl (z, m)) i =
      ap (λ (n : ℕ). solve_refusal a n (refusal a n old.tables).areas old) z
      ∙ ap (λ (o : Areas). solve_refusal a 0 o old) (kept_tables a old.tables)
  refused_kept (inr (some, m)) i = absurd (one_apart a solve_kept_causes line_causes refl i m)

  refused_cleared : Placed a b → OneOf a line_causes
      → solve_refusal a b (refusal a b old.tables).areas old ≡ solve_refusal a b (zeroed old.tables) old
  unfolding refusal
  refused_cleared p i = ap (λ (x : Outcome). solve_refusal a b x.areas old) ((leaves_refusal old.tables a b p).cleared i)

  refused_lined : Placed a b → (b ≡ 0 → ⊥) ↔ OneOf a line_causes
  unfolding refusal
  refused_lined p = (leaves_refusal old.tables a b p).lined

module _ (table : List ℕ) (t : Bytes) (k : ℕ) (old : SolveAreas) where
  abbrev fold : ℕ → ℕ
  fold = letters table

  -- what is claimed of an outcome
  abbrev Judges : SolveOutcome → Type 0
  Judges = SolveJudges table t k old

  -- what the reader leaves, where areas, table and text are in range
  reader_leaves : InRange table t k old → (x : Reading) → book_of fold t ≡ x → read_call table t old.tables ≡ outcome x old.tables
  reader_leaves range x e =
      read_ready table t old.tables (long_tables old range.0.0, range.0.1)
      ∙ ap (λ (y : Reading). outcome y old.tables) (reading_short fold t range.1 ∙ e)

  -- The ways out, each with what it is claimed to be.

  -- what is judged first
  way_first : (q : ℕ) → OneOf q letter_causes → (SolveReady table old → ⊥) → LettersJudged (SolveLong old) table q
      → Judges (solve_refusal q 0 old.tables old)
  unfolding inside apart without
  way_first q m h first = record {
    accepts = fails (other 0 q letter_causes refl m) (λ p. h p.0.0);
    letters_judged = first;
    long_text = fails (other 2 q letter_causes refl m) (λ p. h p.0);
    over_folds = fails (other 9 q letter_causes refl m) (λ p. h p.0);
    text = λ a line i. fails (λ z. one_apart q letter_causes text_causes refl m (subst (λ (n : ℕ). OneOf n text_causes) (sym z.0) i)) (λ p. h p.0.0);
    over_atoms = fails (other 8 q letter_causes refl m) (λ p. h p.0.0);
    no_other = inr (one_inside q letter_causes solve_causes refl m);
    lined = fails (λ z. z refl) (one_apart q letter_causes line_causes refl m);
    solved = λ cs b z. absurd (other 0 q letter_causes refl m z);
    kept = λ i. refl;
    cleared = λ i. absurd (one_apart q letter_causes line_causes refl m i);
    left_8 = λ cs b z. absurd (other 8 q letter_causes refl m z);
    as_read = λ range. absurd (h range.0);
  }

  module _ (ready : SolveReady table old) where
    folding : Folding fold
    folding = ready.1.1

    -- a number that is judged later
    later : (q : ℕ) → (OneOf q letter_causes → ⊥) → LettersJudged (SolveLong old) table q
    later q = letters_other table q ready.0 ready.1

    -- a text too long
    way_long : text_bytes < length t → Judges (solve_refusal 2 0 old.tables old)
    unfolding without
    way_long l = record {
      accepts = fails (λ z. omega arith) (λ p. omega (arith, p.0.1));
      letters_judged = later 2 (λ m. other 2 2 letter_causes refl m refl);
      long_text = holds refl (ready, l);
      over_folds = fails (λ z. omega arith) (λ p. omega (arith, p.1));
      text = λ q line m. fails (λ z. other 2 q text_causes refl m (sym z.0)) (λ p. omega (arith, p.0.1));
      over_atoms = fails (λ z. omega arith) (λ p. omega (arith, p.0.1));
      no_other = inr (one_found 2 2 solve_causes refl refl);
      lined = fails (λ z. z refl) (λ m. other 2 2 line_causes refl m refl);
      solved = λ cs b z. absurd (omega arith);
      kept = λ m. refl;
      cleared = λ m. absurd (other 2 2 line_causes refl m refl);
      left_8 = λ cs b z. absurd (omega arith);
      as_read = λ range. absurd (omega (arith, range.1));
    }

    module _ (fits : length t ≤ text_bytes) where
      -- folds over 8
      way_folds : folds < k → Judges (solve_refusal 9 0 old.tables old)
      unfolding without
      way_folds l = record {
        accepts = fails (λ z. omega arith) (λ p. omega (arith, p.0.2));
        letters_judged = later 9 (λ m. other 9 9 letter_causes refl m refl);
        long_text = fails (λ z. omega arith) (λ p. omega (arith, p.1));
        over_folds = holds refl (ready, fits, l);
        text = λ q line m. fails (λ z. other 9 q text_causes refl m (sym z.0)) (λ p. omega (arith, p.0.2));
        over_atoms = fails (λ z. omega arith) (λ p. omega (arith, p.0.2));
        no_other = inr (one_found 9 9 solve_causes refl refl);
        lined = fails (λ z. z refl) (λ m. other 9 9 line_causes refl m refl);
        solved = λ cs b z. absurd (omega arith);
        kept = λ m. refl;
        cleared = λ m. absurd (other 9 9 line_causes refl m refl);
        left_8 = λ cs b z. absurd (omega arith);
        as_read = λ range. absurd (omega (arith, range.2));
      }

      module _ (few : k ≤ folds) where
        -- areas, text and folds in range
        abbrev range : InRange table t k old
        range = (ready, fits, few)

        module _ (a b : ℕ) (e : book_of fold t ≡ refused a b) where
          -- a text refused is no book
          no_book : {X : Type 0} (cs : List Clause) → Book fold t cs → X
          no_book cs x = read_refused cs a b (sym (((judged fold folding).accepted t cs).1 x) ∙ e)

          -- it has that refusal alone
          way_refused : Judges (solve_refusal a b (refusal a b old.tables).areas old)
          unfolding outcome without inside apart
          way_refused =
              let m : OneOf a text_causes = refusal_cause fold t a b (((judged fold folding).refuses t a b).0 e) in
              let placed : Placed a b = refusal_placed fold t a b (((judged fold folding).refuses t a b).0 e) in
              record {
                accepts = fails (other 0 a text_causes refl m) (λ p. no_book p.1.0 p.1.1);
                letters_judged = later a (λ i. one_apart a letter_causes text_causes refl i m);
                long_text = fails (other 2 a text_causes refl m) (λ p. omega (arith, p.1));
                over_folds = fails (other 9 a text_causes refl m) (λ p. omega (arith, p.2));
                text = λ q line n. (
                  λ z. (range, ((judged fold folding).refuses t q line).0 (e ∙ ap (λ (n : ℕ). refused n b) z.0 ∙ ap (refused q) z.1)),
                  λ p.
                      let same : refused a b ≡ refused q line = sym e ∙ ((judged fold folding).refuses t q line).1 p.1 in
                      (refused_number a b q line same, refused_line a b q line same),
                );
                over_atoms = fails (other 8 a text_causes refl m) (λ p. no_book p.1.0 p.1.1);
                no_other = inr (one_inside a text_causes solve_causes refl m);
                lined = refused_lined a b old placed;
                solved = λ cs x z. no_book cs x;
                kept = refused_kept a b old placed;
                cleared = refused_cleared a b old placed;
                left_8 = λ cs x z. no_book cs x;
                as_read = λ p. ap (λ (o : Outcome). o.areas) (sym (reader_leaves range (refused a b) e));
              }

        module _ (cs : List Clause) (e : book_of fold t ≡ read cs) where
          -- the text is a book
          abbrev book : Book fold t cs
          book = ((judged fold folding).accepted t cs).0 e

          -- it has no refusal
          no_refusal : {X : Type 0} (q line : ℕ) → Refusal fold t q line → X
          no_refusal q line x = read_refused cs q line (sym e ∙ ((judged fold folding).refuses t q line).1 x)

          -- its clauses and so its atoms are these alone
          as_cs : (ds : List Clause) → Book fold t ds → cs ≡ ds
          as_cs ds d = same_book fold folding t cs ds book d

          same_atoms : (ds : List Clause) → Book fold t ds → (standard (program_of cs)).atoms ≡ (standard (program_of ds)).atoms
          same_atoms ds d = ap (λ (xs : List Clause). (standard (program_of xs)).atoms) (as_cs ds d)

          -- over 256 atoms
          way_over : atoms < (standard (program_of cs)).atoms → Judges (solve_refusal 8 0 (tables_of cs old.tables) old)
          unfolding outcome without
          way_over l = record {
            accepts = fails (λ z. omega arith) (λ p. omega (arith, p.1.2, same_atoms p.1.0 p.1.1));
            letters_judged = later 8 (λ m. other 8 8 letter_causes refl m refl);
            long_text = fails (λ z. omega arith) (λ p. omega (arith, p.1));
            over_folds = fails (λ z. omega arith) (λ p. omega (arith, p.2));
            text = λ q line m. fails (λ z. other 8 q text_causes refl m (sym z.0)) (λ p. no_refusal q line p.1);
            over_atoms = holds refl (range, (cs, book, l));
            no_other = inr (one_found 8 8 solve_causes refl refl);
            lined = fails (λ z. z refl) (λ m. other 8 8 line_causes refl m refl);
            solved = λ ds d z. absurd (omega arith);
            kept = λ m. absurd (other 8 8 solve_kept_causes refl m refl);
            cleared = λ m. absurd (other 8 8 line_causes refl m refl);
            left_8 = λ ds d z. ap (λ (xs : List Clause). solve_refusal 8 0 (tables_of xs old.tables) old) (as_cs ds d);
            as_read = λ p. ap (λ (o : Outcome). o.areas) (sym (reader_leaves range (read cs) e));
          }

          -- and no more
          way_solved : (standard (program_of cs)).atoms ≤ atoms → Judges (record { answer = answer_of (program_of cs) k; areas = solved_areas cs k old })
          unfolding outcome answer_of solved_areas without
          way_solved l = record {
            accepts = holds refl (range, (cs, book, l));
            letters_judged = later 0 (λ m. other 0 0 letter_causes refl m refl);
            long_text = fails (λ z. omega arith) (λ p. omega (arith, p.1));
            over_folds = fails (λ z. omega arith) (λ p. omega (arith, p.2));
            text = λ q line m. fails (λ z. other 0 q text_causes refl m (sym z.0)) (λ p. no_refusal q line p.1);
            over_atoms = fails (λ z. omega arith) (λ p. omega (arith, p.1.2, same_atoms p.1.0 p.1.1));
            no_other = inl refl;
            lined = fails (λ z. z refl) (λ m. other 0 0 line_causes refl m refl);
            solved = λ ds d z. ap (λ (xs : List Clause). record { answer = answer_of (program_of xs) k; areas = solved_areas xs k old }) (as_cs ds d);
            kept = λ m. absurd (other 0 0 solve_kept_causes refl m refl);
            cleared = λ m. absurd (other 0 0 line_causes refl m refl);
            left_8 = λ ds d z. absurd (omega arith);
            as_read = λ p. ap (λ (o : Outcome). o.areas) (sym (reader_leaves range (read cs) e));
          }

        -- by what the text comes to
        by_reading : (x : Reading) → book_of fold t ≡ x → Judges (solve_read x k old)
        by_reading (refused a b) e = subst Judges (sym (solve_refused a b k old)) (way_refused a b e)
        by_reading (read cs) e =
            let m : ℕ = (standard (program_of cs)).atoms in
            either (ltb atoms m)
            (λ u. subst Judges (sym (solve_over_atoms cs k old (ltb-true atoms m u))) (way_over cs e (ltb-true atoms m u)))
            (λ u. subst Judges (sym (solve_solved cs k old (ltb-false atoms m u))) (way_solved cs e (ltb-false atoms m u)))

  -- what is claimed of the solver's call
  pub solve_judges : SolveJudges table t k old (solve_call table t k old)
  solve_judges =
      ready_or table t k old
      (λ some.
      let q : ℕ = letters_cause (short_areas old) table in
      let lengths : (short_areas old ≡ false) ↔ SolveLong old = by_lengths table t k old in
      subst Judges (sym (solve_cause table t k old some))
      (way_first q (letters_cause_lem (short_areas old) lengths table some) (λ ready. some ((letters_pass (short_areas old) lengths table).1 ready))
      (letters_judged (short_areas old) lengths table)))
      (λ ready.
      either (ltb text_bytes (length t))
      (λ l.
      let over : text_bytes < length t = ltb-true text_bytes (length t) l in
      subst Judges (sym (solve_long_text table t k old ready over)) (way_long ready over))
      (λ l.
      let fits : length t ≤ text_bytes = ltb-false text_bytes (length t) l in
      either (ltb folds k)
      (λ f.
      let over : folds < k = ltb-true folds k f in
      subst Judges (sym (solve_over_folds table t k old ready fits over)) (way_folds ready fits over))
      (λ f.
      let few : k ≤ folds = ltb-false folds k f in
      subst Judges (sym (solve_in_range table t k old ready fits few)) (by_reading ready fits few (book_of fold t) refl))))

-- everything known of an accepted call
pub record Solved (table : List ℕ) (t : Bytes) (k : ℕ) (old : SolveAreas) : Type 0 where
  pub folding : Folding (letters table)
  pub cs : List Clause
  pub book : Book (letters table) t cs
  pub reads : book_of (letters table) t ≡ read cs
  pub fits : Fits cs
  pub range : InRange table t k old
  pub few : (standard (program_of cs)).atoms ≤ atoms
  pub is : solve_call table t k old ≡ record { answer = answer_of (program_of cs) k; areas = solved_areas cs k old }

-- what is known where the number is 0
pub solved_of : (table : List ℕ) (t : Bytes) (k : ℕ) (old : SolveAreas) → (solve_call table t k old).answer.number ≡ 0 → Solved table t k old
solved_of table t k old z =
    let j : SolveJudges table t k old (solve_call table t k old) = solve_judges table t k old in
    let (range, (cs, book, few)) = j.accepts.0 z in
    let folding : Folding (letters table) = range.0.1.1 in
    record {
      folding = folding;
      cs = cs;
      book = book;
      reads = ((judged (letters table) folding).accepted t cs).1 book;
      fits = book.fits;
      range = range;
      few = few;
      is = j.solved cs book z;
    }
