-- The standardise call: each way out of it, and what document 01 asks of it.
-- Assumes nothing.
use mathlib.Core.Path.{◌≡◌, refl, sym, ◌∙◌, subst}
use mathlib.Core.Logic.{◌↔◌, inl, inr}
use mathlib.Core.Bool.{Bool, true, false, not}
use mathlib.Core.List.{List}
use Prim.Native.Nat.{ℕ, ◌*◌, ◌≤◌, ◌<◌}
use native.Mathlib.Nat.{le_trans}
use native.Mathlib.Omega.{arith}
use lib.Dec.{ltb}
use borrow.Author.Tests.{eqb-true, eqb-false, ltb-true, ltb-false, lt-ltb, le-ltb}
use lib.ListN.{length}
use Rattle.limits.specs.Book.{rules, atoms, word_bits, row_words, body_area, row_area}
use Rattle.limits.specs.Cause.{OneOf, standard_causes}
use Rattle.limits.proofs.Causes.{without, one_found}
use Rattle.sets.specs.Set.{Set, pick, only, image}
use Rattle.sets.proofs.Logic.{either, clash, not-true, or_none, pick_true, pick_false, holds, fails}
use Rattle.sets.proofs.Tests.{exists_same}
use Rattle.sets.proofs.Counting.{image_find}
use Rattle.program.specs.Program.{Program, WellFormed, size, body_at}
use Rattle.program.specs.System as System
use Rattle.program.specs.System.{Regular, any_head}
use Rattle.program.specs.Standard.{home, has_body, counted_atoms, all_row, any_row, start_set, standard}
use Rattle.program.proofs.Homes.{helper_below, names_below, home_below, any_find}
use Rattle.program.proofs.Theorems.{kinds, standard_regular}
use Rattle.areas.specs.Area.{filled}
use Rattle.tables.specs.Areas.{RuleTables, Counts, program_in}
use Rattle.systems.specs.Rows.{RowAreas, row_in, packed}
use Rattle.systems.specs.Rounds.{model_in, with_model, short_system}
use Rattle.systems.specs.Standardise.{StandardOutcome, short_rules, short_tables, formed_tables, standard_refusal, standard_rows, standard_of, standard_call}
use Rattle.systems.specs.Claims.{TablesLong, StandardLong, StandardFormed, Standardises, standard_in}
use Rattle.systems.proofs.Packed.{part_past, row_in_past, row_filled, row_filled_past}
use Rattle.systems.proofs.Bridge.{formed_tables_lem, formed_program, tables_formed}
use Rattle.systems.proofs.Running.{model_row, long_at, long_make}

-- what the call returns and leaves where it takes the tables
abbrev pub standard_well : Program → RowAreas → StandardOutcome
standard_well p o =
    record {
      number = 0;
      atoms = (standard p).atoms;
      c = System.c (standard p);
      h = System.h (standard p);
      areas = standard_rows p o;
    }

-- The rows of a program lie within its atoms.

module _ (p : Program) (formed : WellFormed p) where
  abbrev count : ℕ
  count = (standard p).atoms

  pub all_within : (i a : ℕ) → i < count → all_row p i a ≡ true → a < count
  unfolding all_row
  all_within i a l e =
      let body : Bool = image (size p) (home p) (λ j. body_at p j a) i in
      either (counted_atoms p i)
      (λ t.
      let q = image_find (size p) (home p) (λ j. body_at p j a) i (sym (pick_true body (only i a) t) ∙ e) in
      le_trans (formed.bodies q.0 a q.1 q.3) (names_below p))
      (λ t. subst (λ (x : ℕ). x < count) (eqb-true i a (sym (pick_false body (only i a) t) ∙ e)) l)

  pub any_within : (i a : ℕ) → any_row p i a ≡ true → a < count
  any_within i a e =
      let q = any_find p i a e in
      subst (λ (x : ℕ). x < count) q.4 (helper_below p q.0 q.1 q.2)

  pub start_within : (a : ℕ) → start_set p a ≡ true → a < count
  unfolding start_set
  start_within a e =
      let q = image_find (size p) (home p) (λ j. not (has_body p j)) a e in
      subst (λ (x : ℕ). x < count) q.2 (home_below p formed q.0 q.1)

  -- so, where these fit, the areas hold them whole

  module _ (fits : count ≤ atoms) where
    -- a set within the atoms, read from words that hold it
    whole : (f g : Set) → ((a : ℕ) → f a ≡ true → a < count) → ((a : ℕ) → a < row_words * word_bits → g a ≡ f a)
        → ((a : ℕ) → row_words * word_bits ≤ a → g a ≡ false) → (a : ℕ) → g a ≡ f a
    whole f g h at past a =
        either (ltb a (row_words * word_bits)) (λ t. at a (ltb-true a (row_words * word_bits) t))
        (λ t.
        let b : row_words * word_bits ≤ a = ltb-false a (row_words * word_bits) t in
        past a b ∙ sym (not-true (f a) (λ e. let c : a < count = h a e in omega arith)))

    -- a row of an area filled with rows
    pub row_whole : (rows : ℕ → Set) (old : List ℕ) (i : ℕ) → i < count → ((a : ℕ) → rows i a ≡ true → a < count)
        → (a : ℕ) → row_in row_words (filled row_area (packed row_words count rows) old) i a ≡ rows i a
    row_whole rows old i l h =
        whole (rows i) (row_in row_words (filled row_area (packed row_words count rows) old) i) h
        (λ a b. row_filled row_words count row_area rows old i a l b)
        (λ a b. row_in_past row_words (filled row_area (packed row_words count rows) old) i a b)

    module _ (o : RowAreas) where
      pub all_rows : (i : ℕ) → i < count → (a : ℕ) → row_in row_words (standard_rows p o).all i a ≡ all_row p i a
      unfolding standard_rows
      all_rows i l = row_whole (all_row p) o.all i l (λ a. all_within i a l)

      pub any_rows : (i : ℕ) → i < count → (a : ℕ) → row_in row_words (standard_rows p o).any i a ≡ any_row p i a
      unfolding standard_rows
      any_rows i l = row_whole (any_row p) o.any i l (any_within i)

      pub start_row : (a : ℕ) → model_in (standard_rows p o).model a ≡ start_set p a
      unfolding standard_rows
      start_row =
          whole (start_set p) (model_in (with_model (start_set p) o.model)) start_within
          (model_row (start_set p) o.model) (part_past 0 row_words (with_model (start_set p) o.model))

      -- rows past the atoms are empty
      pub all_rows_past : (i : ℕ) → count ≤ i → i < atoms → (a : ℕ) → row_in row_words (standard_rows p o).all i a ≡ false
      unfolding standard_rows
      all_rows_past i l b a = row_filled_past row_words count row_area (all_row p) o.all i a l (omega arith)

      pub any_rows_past : (i : ℕ) → count ≤ i → i < atoms → (a : ℕ) → row_in row_words (standard_rows p o).any i a ≡ false
      unfolding standard_rows
      any_rows_past i l b a = row_filled_past row_words count row_area (any_row p) o.any i a l (omega arith)

      -- the system in the areas is regular, as the program's is
      heads_alike : (i : ℕ) → i < count → any_head (standard_in p (standard_well p o)) i ≡ any_head (standard p) i
      unfolding any_head
      heads_alike i l =
          exists_same count (row_in row_words (standard_rows p o).any i) (any_row p i) (λ a b. any_rows i l a)

      pub regular_rows : Regular (standard_in p (standard_well p o))
      regular_rows =
          let reg : Regular (standard p) = standard_regular p formed in
          record {
            kept = λ i l d a b. all_rows i l a ∙ reg.kept i l d a b;
            heads = λ i l e. reg.heads i l (sym (heads_alike i l) ∙ e);
            starts = λ i l e.
                let q = reg.starts i l (sym (start_row i) ∙ e) in
                (q.0, heads_alike i l ∙ q.1);
          }

-- The tests of the call.

-- rule tables of their stated sizes, or longer
module _ (tables : RuleTables) where
  pub rules_long : short_rules tables ≡ false → TablesLong tables
  unfolding short_rules
  rules_long e =
      let h = or_none (ltb (length tables.heads) rules) (ltb (length tables.bodies) body_area) e in
      (ltb-false (length tables.heads) rules h.0, ltb-false (length tables.bodies) body_area h.1)

  pub long_rules : TablesLong tables → short_rules tables ≡ false
  unfolding short_rules
  long_rules h = rw (le-ltb (length tables.heads) rules h.0, le-ltb (length tables.bodies) body_area h.1)

-- and the areas of rows with them
module _ (tables : RuleTables) (o : RowAreas) where
  pub tables_long : short_tables tables o ≡ false → StandardLong tables o
  unfolding short_tables
  tables_long e =
      let h = or_none (short_rules tables) (short_system o) e in
      (rules_long tables h.0, long_at o h.1)

  pub long_tables : StandardLong tables o → short_tables tables o ≡ false
  unfolding short_tables
  long_tables h = rw (long_rules tables h.0, long_make o h.1)

module _ (tables : RuleTables) (counts : Counts) (o : RowAreas) where
  abbrev p : Program
  p = program_in tables counts

  -- The ways out.

  abbrev after_short : StandardOutcome
  after_short = pick (formed_tables tables counts) (standard_of p o) (standard_refusal 10 o)

  pub standard_short : short_tables tables o ≡ true → standard_call tables counts o ≡ standard_refusal 1 o
  unfolding standard_call
  standard_short e = pick_true (standard_refusal 1 o) after_short e

  pub standard_ill : short_tables tables o ≡ false → formed_tables tables counts ≡ false
      → standard_call tables counts o ≡ standard_refusal 10 o
  unfolding standard_call
  standard_ill e f = pick_false (standard_refusal 1 o) after_short e ∙ pick_false (standard_of p o) (standard_refusal 10 o) f

  pub standard_formed : short_tables tables o ≡ false → formed_tables tables counts ≡ true
      → standard_call tables counts o ≡ standard_of p o
  unfolding standard_call
  standard_formed e f = pick_false (standard_refusal 1 o) after_short e ∙ pick_true (standard_of p o) (standard_refusal 10 o) f

  pub standard_over : short_tables tables o ≡ false → formed_tables tables counts ≡ true → atoms < (standard p).atoms
      → standard_call tables counts o ≡ standard_refusal 8 o
  unfolding standard_of
  standard_over e f l =
      standard_formed e f ∙ pick_true (standard_refusal 8 o) (standard_well p o) (lt-ltb atoms (standard p).atoms l)

  pub standard_good : short_tables tables o ≡ false → formed_tables tables counts ≡ true → (standard p).atoms ≤ atoms
      → standard_call tables counts o ≡ standard_well p o
  unfolding standard_of
  standard_good e f l =
      standard_formed e f ∙ pick_false (standard_refusal 8 o) (standard_well p o) (le-ltb atoms (standard p).atoms l)

  -- The claim, at each way out.

  -- a refusal with its number k: what it is claimed to be where one of the claims holds and the others do not
  refused : (k : ℕ) → (k ≡ 0 → ⊥) → ((k ≡ 1) ↔ (StandardLong tables o → ⊥))
      → ((k ≡ 10) ↔ (StandardLong tables o × (StandardFormed tables counts → ⊥)))
      → ((k ≡ 8) ↔ (StandardLong tables o × StandardFormed tables counts × (atoms < (standard p).atoms)))
      → (StandardLong tables o → StandardFormed tables counts → (standard p).atoms ≤ atoms → ⊥) → OneOf k standard_causes
      → Standardises tables counts o p (standard_refusal k o)
  refused k z short ill over none one = record {
    accepts = fails z (λ q. none q.0 q.1 q.2);
    short = short;
    ill = ill;
    over = over;
    no_other = inr one;
    kept = λ h. (refl, refl, refl, refl);
    program = λ h. absurd (z h);
    count_atoms = λ h. absurd (z h);
    count_c = λ h. absurd (z h);
    count_h = λ h. absurd (z h);
    all_row_lem = λ h. absurd (z h);
    any_row_lem = λ h. absurd (z h);
    all_past = λ h. absurd (z h);
    any_past = λ h. absurd (z h);
    start = λ h. absurd (z h);
    regular = λ h. absurd (z h);
  }

  claim_short : short_tables tables o ≡ true → Standardises tables counts o p (standard_refusal 1 o)
  unfolding without
  claim_short e =
      let none : StandardLong tables o → ⊥ = λ long. clash e (long_tables tables o long) in
      refused 1 (eqb-false 1 0 refl) (holds refl none) (fails (eqb-false 1 10 refl) (λ q. none q.0))
      (fails (eqb-false 1 8 refl) (λ q. none q.0)) (λ long formed l. none long) (one_found 1 1 standard_causes refl refl)

  claim_ill : short_tables tables o ≡ false → formed_tables tables counts ≡ false
      → Standardises tables counts o p (standard_refusal 10 o)
  unfolding without
  claim_ill e f =
      let long : StandardLong tables o = tables_long tables o e in
      let none : StandardFormed tables counts → ⊥ = λ g. clash (tables_formed tables counts g) f in
      refused 10 (eqb-false 10 0 refl) (fails (eqb-false 10 1 refl) (λ h. h long)) (holds refl (long, none))
      (fails (eqb-false 10 8 refl) (λ q. none q.1)) (λ long formed l. none formed) (one_found 10 10 standard_causes refl refl)

  claim_over : short_tables tables o ≡ false → formed_tables tables counts ≡ true → atoms < (standard p).atoms
      → Standardises tables counts o p (standard_refusal 8 o)
  unfolding without
  claim_over e f l =
      let long : StandardLong tables o = tables_long tables o e in
      let formed : StandardFormed tables counts = formed_tables_lem tables counts f in
      refused 8 (eqb-false 8 0 refl) (fails (eqb-false 8 1 refl) (λ h. h long))
      (fails (eqb-false 8 10 refl) (λ q. q.1 formed)) (holds refl (long, formed, l)) (λ long formed b. omega arith)
      (one_found 8 8 standard_causes refl refl)

  claim_good : short_tables tables o ≡ false → formed_tables tables counts ≡ true → (standard p).atoms ≤ atoms
      → Standardises tables counts o p (standard_well p o)
  claim_good e f l =
      let long : StandardLong tables o = tables_long tables o e in
      let formed : StandardFormed tables counts = formed_tables_lem tables counts f in
      let well : WellFormed p = formed_program tables counts f in
      record {
        accepts = holds refl (long, formed, l);
        short = fails (eqb-false 0 1 refl) (λ h. h long);
        ill = fails (eqb-false 0 10 refl) (λ q. q.1 formed);
        over = fails (eqb-false 0 8 refl) (λ q. let b : atoms < (standard p).atoms = q.2 in omega arith);
        no_other = inl refl;
        kept = λ h. absurd (h refl);
        program = λ h. well;
        count_atoms = λ h. refl;
        count_c = λ h. (kinds p well).c_rules;
        count_h = λ h. (kinds p well).h_names;
        all_row_lem = λ h. all_rows p well l o;
        any_row_lem = λ h. any_rows p well l o;
        all_past = λ h. all_rows_past p well l o;
        any_past = λ h. any_rows_past p well l o;
        start = λ h. start_row p well l o;
        regular = λ h. regular_rows p well l o;
      }

  pub standardises : Standardises tables counts o p (standard_call tables counts o)
  standardises =
      let P : StandardOutcome → Type 0 = Standardises tables counts o p in
      either (short_tables tables o) (λ e. subst P (sym (standard_short e)) (claim_short e))
      (λ e. either (formed_tables tables counts)
      (λ f. either (ltb atoms (standard p).atoms)
      (λ t. let l : atoms < (standard p).atoms = ltb-true atoms (standard p).atoms t in subst P (sym (standard_over e f l)) (claim_over e f l))
      (λ t. let l : (standard p).atoms ≤ atoms = ltb-false atoms (standard p).atoms t in subst P (sym (standard_good e f l)) (claim_good e f l)))
      (λ f. subst P (sym (standard_ill e f)) (claim_ill e f)))
