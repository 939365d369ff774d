-- The outcomes of the call.
-- Assumes nothing.
use mathlib.Core.Path.{◌≡◌, sym, ap, ◌∙◌, subst}
use mathlib.Core.Bool.{Bool, true, false, ◌||◌}
use mathlib.Core.List.{List}
use Prim.Native.Nat.{ℕ, ◌+◌, ◌*◌, ◌≤◌, ◌<◌}
use native.Mathlib.Omega.{arith}
use lib.ListN.{length, get_or}
use Rattle.limits.specs.Book.{names, rules, atoms, word_bits, row_words, body_words, row_area}
use Rattle.sets.specs.Set.{Set, count, only, empty_set}
use Rattle.sets.proofs.Logic.{or_left, or_right}
use Rattle.sets.proofs.Counting.{count_le}
use Rattle.areas.specs.Area.{part, filled}
use Rattle.words.specs.Row.{row, pack}
use Rattle.program.specs.Program.{Program}
use Rattle.program.specs.Standard.{all_row, any_row, start_set, standard}
use Rattle.program.proofs.Theorems.{kinds}
use Rattle.tables.specs.Areas.{RuleTables, Counts, program_in}
use Rattle.areas.proofs.Filled.{length_filled, filled_begun, filled_again}
use Rattle.systems.specs.Rows.{RowAreas, packed}
use Rattle.systems.specs.Rounds.{with_model, short_system}
use Rattle.systems.specs.Standardise.{StandardOutcome, short_rules, short_tables, formed_tables, standard_refusal, standard_rows, standard_call}
use Rattle.systems.specs.Claims.{RoundsLong, StandardLong}
use Rattle.systems.proofs.Packed.{length_packed}
use Rattle.systems.proofs.Bridge.{formed_limits, formed_program}
use Rattle.systems.proofs.Running.{length_model, model_again, long_at}
use Rattle.systems.proofs.Standard.{standard_well, long_tables, standard_short, standard_ill, standard_over, standard_good}
use Rattle.ways.specs.Ways.{several_names}
use Rattle.ways.proofs.Counts.{heads_below, row_atoms, row_h}
use Rattle.placing.specs.Partial.{PlacingReady, Filled}
use mathlib.Core.Logic.{⊎_elim}
use Rattle.limits.specs.declared.Refusal.{Refusal}
use Rattle.limits.specs.Refusal.{number_of}
use Rattle.areas.proofs.Parts.{part_whole}
use Rattle.words.proofs.Rows.{length_pack}
use Rattle.rowcheck.specs.Short.{short_rows}
use Rattle.ways.specs.Tables.{tables_cause}
use Rattle.ways.proofs.Judged.{refused_tables}

-- Areas filled and then begun again.

-- outcomes that are the same in every part
same_outcome : {k k' c c' h h' : ℕ} {x x' y y' z z' : List ℕ} → k ≡ k' → c ≡ c' → h ≡ h' → x ≡ x' → y ≡ y' → z ≡ z'
    → ◌≡◌ {A = StandardOutcome} (record { number = 0; atoms = k; c = c; h = h; areas = record { all = x; any = y; model = z } })
    (record { number = 0; atoms = k'; c = c'; h = h'; areas = record { all = x'; any = y'; model = z' } })
same_outcome p q r s t u = cc

-- the tables are in order
module _ (tables : RuleTables) (counts : Counts) (formed : formed_tables tables counts ≡ true) where
  abbrev heads : List ℕ
  heads = tables.heads

  abbrev n : ℕ
  n = counts.names

  abbrev m : ℕ
  m = counts.rules

  abbrev p : Program
  p = program_in tables counts

  -- tables in order are within the limits
  pub in_limits : (n ≤ names) × (m ≤ rules)
  in_limits = formed_limits tables counts formed

  -- and their heads are names
  pub head_names : (j : ℕ) → j < m → get_or heads j 0 < names
  head_names = heads_below tables counts formed

  -- the names with several rules are marked, and `helpers` rules are theirs; `named` is how many names there are
  module _ {marked : List ℕ} (s : marked ≡ pack body_words (several_names heads m)) {helpers : ℕ}
      (q : helpers ≡ count m (λ j. row (part 0 body_words marked) (get_or heads j 0))) {named : ℕ} (r : named ≡ n) where
    marked_long : length marked ≡ body_words
    marked_long = ap length s ∙ length_pack body_words (several_names heads m)

    pub helpers_few : named + helpers ≤ names + rules
    helpers_few =
        let b : count m (λ j. row (part 0 body_words marked) (get_or heads j 0)) ≤ m =
        count_le m (λ j. row (part 0 body_words marked) (get_or heads j 0))
        in
        omega (arith, r, in_limits.0, in_limits.1)

    -- that many atoms
    atoms_are : named + helpers ≡ (standard p).atoms
    atoms_are = ap (λ (k : ℕ). k + helpers) r ∙ ap (λ (k : ℕ). n + k) q ∙ row_atoms tables counts formed marked s

    -- not over 256: the rows before any rule
    module _ (l : named + helpers ≤ atoms) where
      few : (standard p).atoms ≤ atoms
      few = subst (λ (k : ℕ). k ≤ atoms) atoms_are l

      by_atoms : (rows : ℕ → Set) (old new : List ℕ) → new ≡ filled row_area (packed row_words (named + helpers) rows) old
          → new ≡ filled row_area (packed row_words (standard p).atoms rows) old
      by_atoms rows old new u = u ∙ ap (λ (k : ℕ). filled row_area (packed row_words k rows) old) atoms_are

      filled_long : (rows : ℕ → Set) (old new : List ℕ) → row_area ≤ length old → new ≡ filled row_area (packed row_words (standard p).atoms rows) old
          → row_area ≤ length new
      filled_long rows old new b u =
          let k : length (packed row_words (standard p).atoms rows) ≡ (standard p).atoms * row_words =
          length_packed row_words (standard p).atoms rows
          in
          omega (arith, ap length u, length_filled row_area (packed row_words (standard p).atoms rows) old (omega (arith, few)) b)

      -- the areas o before, and o₁ with those rows
      module _ (o o₁ : RowAreas) (x : o₁.all ≡ filled row_area (packed row_words (named + helpers) only) o.all)
          (y : o₁.any ≡ filled row_area (packed row_words (named + helpers) (λ i. empty_set)) o.any)
          (z : o₁.model ≡ with_model empty_set o.model) where
        -- the rules can be placed
        pub rows_ready : StandardLong tables o → PlacingReady tables counts marked o₁
        rows_ready long =
            let u : o₁.all ≡ filled row_area (packed row_words (standard p).atoms only) o.all = by_atoms only o.all o₁.all x in
            let v : o₁.any ≡ filled row_area (packed row_words (standard p).atoms (λ i. empty_set)) o.any =
            by_atoms (λ i. empty_set) o.any o₁.any y
            in
            record {
              formed = formed;
              few = few;
              long = (
                long.0,
                (
                  filled_long only o.all o₁.all long.1.0 u,
                  filled_long (λ i. empty_set) o.any o₁.any long.1.1 v,
                  omega (arith, long.1.2, ap length z, length_model empty_set o.model long.1.2),
                ),
              );
              marks = s;
              all_rows = filled_begun row_area (packed row_words (standard p).atoms only) o.all o₁.all u;
              any_rows = filled_begun row_area (packed row_words (standard p).atoms (λ i. empty_set)) o.any o₁.any v;
              start_row = z ∙ sym (model_again empty_set empty_set o.model) ∙ ap (with_model empty_set) (sym z);
            }

        -- with them placed, the outcome is the definition's
        rows_well : (c h : ℕ) (o₂ : RowAreas) → Filled p c o₁ o₂ → h ≡ count (length marked * word_bits) (row marked)
            → record { number = 0; atoms = named + helpers; c = c; h = h; areas = o₂ } ≡ standard_well p o
        unfolding standard_rows
        rows_well c h o₂ f many =
            let as_many : (rows next : ℕ → Set) → length (packed row_words (standard p).atoms next) ≡ length (packed row_words (standard p).atoms rows) =
            λ rows next. length_packed row_words (standard p).atoms next ∙ sym (length_packed row_words (standard p).atoms rows)
            in
            same_outcome atoms_are
            (f.counted ∙ sym (kinds p (formed_program tables counts formed)).c_rules)
            (many
            ∙ ap (λ (k : ℕ). count (k * word_bits) (row marked)) marked_long
            ∙ ap (λ (ws : List ℕ). count (body_words * word_bits) (row ws)) (sym (part_whole body_words marked marked_long))
            ∙ row_h tables counts formed marked s)
            (filled_again row_area (packed row_words (standard p).atoms only) (packed row_words (standard p).atoms (all_row p))
            o.all o₁.all o₂.all (as_many only (all_row p)) (by_atoms only o.all o₁.all x) f.all_rows)
            (filled_again row_area (packed row_words (standard p).atoms (λ i. empty_set)) (packed row_words (standard p).atoms (any_row p))
            o.any o₁.any o₂.any (as_many (λ i. empty_set) (any_row p)) (by_atoms (λ i. empty_set) o.any o₁.any y) f.any_rows)
            (f.start_row ∙ ap (with_model (start_set p)) z ∙ model_again (start_set p) empty_set o.model)

-- `low` is whether an area of rows is too short
pub short_is : (o : RowAreas) (low : Bool) → low ≡ short_rows (length o.all) (length o.any) (length o.model) → low ≡ short_system o
unfolding short_system
short_is o low e = e

-- areas of rows that are not too short are long enough
pub long_rows : (o : RowAreas) (low : Bool) → low ≡ short_rows (length o.all) (length o.any) (length o.model) → low ≡ false → RoundsLong o
long_rows o low e f = long_at o (sym (short_is o low e) ∙ f)

module _ (tables : RuleTables) (counts : Counts) (o : RowAreas) (low : Bool)
    (short : low ≡ short_rows (length o.all) (length o.any) (length o.model)) where
  -- an area of rows too short: 1
  pub call_short : low ≡ true → standard_refusal 1 o ≡ standard_call tables counts o
  unfolding short_tables
  call_short f = sym (standard_short tables counts o (or_right (short_rules tables) (sym (short_is o low short) ∙ f)))

  -- the tables' own: 1 or 10
  pub call_refused : low ≡ false → (cause : Refusal) → number_of cause ≡ tables_cause (record { tables = tables; counts = counts })
      → standard_refusal (number_of cause) o ≡ standard_call tables counts o
  unfolding short_tables
  call_refused f cause g =
      ⊎_elim
      (λ q. ap (λ (k : ℕ). standard_refusal k o) q.1 ∙ sym (standard_short tables counts o (or_left (short_system o) q.0)))
      (λ q. ap (λ (k : ℕ). standard_refusal k o) q.2 ∙ sym (standard_ill tables counts o (or_make q.0 (sym (short_is o low short) ∙ f)) q.1))
      (refused_tables (record { tables = tables; counts = counts }) cause g)
    where
      or_make : {a b : Bool} → a ≡ false → b ≡ false → a || b ≡ false
      or_make p q = rw (p, q)

-- each test of judging
pub ruleset judging = (call_short, call_refused, long_rows)

-- the areas are long enough and the tables in order; the names with several rules are marked, and `helpers` rules are theirs
module _ (tables : RuleTables) (counts : Counts) (o : RowAreas) (long : StandardLong tables o) (formed : formed_tables tables counts ≡ true)
    {marked : List ℕ} (s : marked ≡ pack body_words (several_names tables.heads counts.rules)) {helpers : ℕ}
    (q : helpers ≡ count counts.rules (λ j. row (part 0 body_words marked) (get_or tables.heads j 0)))
    {named : ℕ} (r : named ≡ counts.names) where
  abbrev k : ℕ
  k = named + helpers

  -- over 256 atoms: 8
  pub call_over : atoms < k → standard_refusal 8 o ≡ standard_call tables counts o
  call_over l =
      sym
      (standard_over tables counts o (long_tables tables o long) formed
      (subst (λ (x : ℕ). atoms < x) (atoms_are tables counts formed s q r) l))

  -- the rows: 0
  pub call_done : k ≤ atoms → (o₁ : RowAreas) → o₁.all ≡ filled row_area (packed row_words k only) o.all
      → o₁.any ≡ filled row_area (packed row_words k (λ i. empty_set)) o.any → o₁.model ≡ with_model empty_set o.model
      → (c h : ℕ) (o₂ : RowAreas) → Filled (program_in tables counts) c o₁ o₂
      → h ≡ count (length marked * word_bits) (row marked)
      → record { number = 0; atoms = k; c = c; h = h; areas = o₂ } ≡ standard_call tables counts o
  call_done l o₁ x y z c h o₂ f many =
      rows_well tables counts formed s q r l o o₁ x y z c h o₂ f many
      ∙ sym (standard_good tables counts o (long_tables tables o long) formed (few tables counts formed s q r l))

-- an outcome over areas that are handed back
pub handed_back : {k c h : ℕ} {x x' y y' z z' : List ℕ} {r : StandardOutcome} → x ≡ x' → y ≡ y' → z ≡ z'
    → record { number = 0; atoms = k; c = c; h = h; areas = record { all = x'; any = y'; model = z' } } ≡ r
    → record { number = 0; atoms = k; c = c; h = h; areas = record { all = x; any = y; model = z } } ≡ r
handed_back p q s e = cc
