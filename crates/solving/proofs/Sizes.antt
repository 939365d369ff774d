-- What lies past the stated sizes of the solver's areas is neither judged nor touched.
-- Assumes nothing.
use mathlib.Core.Path.{◌≡◌, refl, ap, ap₂, ◌∙◌}
use mathlib.Core.Bool.{Bool, ◌||◌}
use mathlib.Core.List.{List, [], map}
use Prim.Native.Nat.{ℕ}
use lib.Dec.{eqb}
use lib.ListN.{take}
use Rattle.limits.specs.Book.{letter_bytes, rules, body_area, row_words, row_area, listing_bytes}
use Rattle.sets.specs.Set.{pick, count}
use Rattle.program.specs.Program.{Program, plain_held, plain_rounds}
use Rattle.program.specs.System.{System, folded, rounds_of, held_by}
use Rattle.program.specs.Standard.{standard}
use Rattle.grammar.specs.Bytes.{Bytes, letters}
use Rattle.grammar.specs.Letters.{letters_cause}
use Rattle.grammar.specs.Grammar.{Clause, joined}
use Rattle.grammar.proofs.Letters.{letters_first, cause_first}
use Rattle.tables.specs.Numbering.{names_of, numbered, program_of}
use Rattle.tables.specs.Reading.{Reading, read, refused, book_of}
use Rattle.tables.specs.Areas.{Areas, Outcome, tables_of, refusal, program_in}
use Rattle.tables.specs.Sizes.{stated_tables, tables_with_rest}
use Rattle.areas.proofs.First.{both_parts, filled_first}
use Rattle.tables.proofs.Sizes.{short_first, pick_first, tables_short, tables_both, tables_filled, refusal_first}
use Rattle.systems.specs.Rows.{packed, below}
use Rattle.systems.specs.Standardise.{short_rules}
use Rattle.systems.proofs.Bridge.{formed_limits}
use Rattle.systems.proofs.Sizes.{with_model_first, formed_tables_first, program_first}
use Rattle.solving.specs.Plain.{PlainOutcome, short_plain, plain_refusal, plain_of, plain_call}
use Rattle.solving.specs.Listing.{listing_lines, listed}
use Rattle.solving.specs.Solve.{SolveAreas, SolveOutcome, short_areas, refusal_answer, solve_refusal, answer_of, solved_areas, solve_read, solve_text, solve_call}
use Rattle.solving.specs.Sizes.{cut_areas, areas_with_rest, solve_with_rest, SolveSizes, plain_with_rest, PlainSizes}

module _ (old : SolveAreas) where
  -- the tests of the lengths
  areas_short : short_areas old ≡ short_areas (cut_areas old)
  unfolding short_areas
  areas_short =
      ap₂ ◌||◌ (tables_short old.tables)
      (ap₂ ◌||◌ (short_first row_area old.all)
      (ap₂ ◌||◌ (short_first row_area old.any)
      (ap₂ ◌||◌ (short_first row_area old.spare) (ap₂ ◌||◌ (short_first row_words old.model) (short_first listing_bytes old.listing)))))

  -- a refusal
  refused_first : (number line : ℕ) (left cut : Areas) → left ≡ tables_with_rest old.tables cut
      → solve_refusal number line left old ≡ solve_with_rest old (solve_refusal number line cut (cut_areas old))
  refused_first number line left cut e i =
      record {
        answer = refusal_answer number line;
        areas =
            record {
              tables = e i;
              all = both_parts row_area old.all i;
              any = both_parts row_area old.any i;
              spare = both_parts row_area old.spare i;
              model = both_parts row_words old.model i;
              listing = both_parts listing_bytes old.listing i;
            };
      }

  -- the areas after a book
  book_first : (cs : List Clause) → tables_of cs old.tables ≡ tables_with_rest old.tables (tables_of cs (stated_tables old.tables))
  unfolding tables_of
  book_first cs = tables_filled old.tables (names_of cs) (map (numbered (names_of cs)) cs)

  solved_first : (cs : List Clause) (k : ℕ) → solved_areas cs k old ≡ areas_with_rest old (solved_areas cs k (cut_areas old))
  unfolding solved_areas listed
  solved_first cs k i =
      let s : System = folded k (standard (program_of cs)) in
      record {
        tables = book_first cs i;
        all = filled_first row_area (packed row_words s.atoms s.all) old.all i;
        any = filled_first row_area (packed row_words s.atoms s.any) old.any i;
        spare = filled_first row_area [] old.spare i;
        model = with_model_first (below s.atoms (held_by s)) old.model i;
        listing = filled_first listing_bytes (joined (listing_lines (names_of cs) (held_by s) k (rounds_of s))) old.listing i;
      }

  -- what a text comes to
  read_first : (x : Reading) (k : ℕ) → solve_read x k old ≡ solve_with_rest old (solve_read x k (cut_areas old))
  unfolding solve_read
  read_first (refused a b) k =
      refused_first a b (refusal a b old.tables).areas (refusal a b (stated_tables old.tables)).areas
      (ap (λ (x : Outcome). x.areas) (refusal_first old.tables a b))
  read_first (read cs) k =
      pick_first (solve_with_rest old) refl
      (λ t. refused_first 8 0 (tables_of cs old.tables) (tables_of cs (stated_tables old.tables)) (book_first cs))
      (ap (λ (o : SolveAreas). record { answer = answer_of (program_of cs) k; areas = o }) (solved_first cs k))

module _ (table : List ℕ) (t : Bytes) (k : ℕ) (old : SolveAreas) where
  abbrev rest : SolveOutcome → SolveOutcome
  rest = solve_with_rest old

  kept_first : (n : ℕ) → solve_refusal n 0 old.tables old ≡ rest (solve_refusal n 0 (stated_tables old.tables) (cut_areas old))
  kept_first n = refused_first old n 0 old.tables (stated_tables old.tables) (tables_both old.tables)

  -- the call on areas cut to their sizes, under the same table
  pub areas_first : solve_call table t k old ≡ rest (solve_call table t k (cut_areas old))
  unfolding solve_call solve_text
  areas_first =
      let same : letters_cause (short_areas old) table ≡ letters_cause (short_areas (cut_areas old)) table =
      ap (λ (s : Bool). letters_cause s table) (areas_short old) in
      pick_first rest (ap (λ (q : ℕ). eqb q 0) same)
      (λ e.
      pick_first rest refl (λ s. kept_first 2) (pick_first rest refl (λ s. kept_first 9) (read_first old (book_of (letters table) t) k)))
      (kept_first (letters_cause (short_areas old) table)
      ∙ ap (λ (q : ℕ). rest (solve_refusal q 0 (stated_tables old.tables) (cut_areas old))) same)

  -- and under the table's first 256 bytes
  table_first : solve_call table t k old ≡ solve_call (take letter_bytes table) t k old
  unfolding solve_call
  table_first =
      ap₂ (λ (q : ℕ) (f : ℕ → ℕ). pick (eqb q 0) (solve_text f t k old) (solve_refusal q 0 old.tables old))
      (cause_first table (short_areas old)) (letters_first table)

-- both
pub solve_sizes : (table : List ℕ) → SolveSizes table
solve_sizes table t k old = areas_first table t k old ∙ ap (solve_with_rest old) (table_first table t k (cut_areas old))

-- the plain route
module _ (model : List ℕ) where
  abbrev cut : List ℕ
  cut = take row_words model

  plain_refused : (k : ℕ) → plain_refusal k model ≡ plain_with_rest model (plain_refusal k cut)
  plain_refused k i = plain_refusal k (both_parts row_words model i)

  plain_of_lem : (p : Program) → plain_of p model ≡ plain_with_rest model (plain_of p cut)
  unfolding plain_of
  plain_of_lem p i =
      record {
        number = 0;
        held = count p.names (plain_held p);
        rounds = plain_rounds p;
        model = with_model_first (below p.names (plain_held p)) model i;
      }

pub plain_sizes : PlainSizes
unfolding plain_call short_plain short_rules
plain_sizes tables counts model =
    let rest : PlainOutcome → PlainOutcome = plain_with_rest model in
    pick_first rest
    (ap₂ ◌||◌ (ap₂ ◌||◌ (short_first rules tables.heads) (short_first body_area tables.bodies)) (short_first row_words model))
    (λ t. plain_refused model 1)
    (pick_first rest (formed_tables_first tables counts)
    (λ t. plain_of_lem model (program_in tables counts)
    ∙ ap (λ (p : Program). rest (plain_of p (take row_words model))) (program_first tables counts (formed_limits tables counts t).1))
    (plain_refused model 10))
