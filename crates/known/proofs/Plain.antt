-- What is judged of calls that are in order need not be computed: our table passes, the areas are long enough, and on the tables of a book the
-- plain route is not refused. So the table of books is computed with the text, by our letters, and with the rounds over the rules alone.
-- Assumes nothing.
use mathlib.Core.Path.{◌≡◌, refl, sym, ap, ap₂, ◌∙◌, subst, fun_ext}
use mathlib.Core.Bool.{Bool, true, false, ◌&&◌}
use mathlib.Core.Logic.{◌⊎◌, inl, inr}
use mathlib.Core.List.{List, [], ◌∷◌, map}
use Prim.Native.Nat.{ℕ, ◌≤◌}
use lib.Dec.{eqb}
use borrow.Author.Tests.{eqb-true}
use lib.ListN.{length}
use Rattle.limits.specs.Book.{row_words}
use Rattle.sets.proofs.Logic.{and_left, and_right, and_make}
use Rattle.grammar.specs.Bytes.{Bytes, bytes, our_letters}
use Rattle.grammar.specs.Grammar.{Clause}
use Rattle.grammar.specs.Letters.{our_table}
use Rattle.grammar.proofs.Letters.{our_letters_lem, our_table_lem}
use Rattle.tables.specs.Numbering.{names_of}
use Rattle.tables.specs.Reading.{Fits, reading}
use Rattle.tables.specs.Areas.{Areas, RuleTables, Outcome, counts_of, rules_of, short, tables_of, refusal, outcome, read_call, program_in}
use Rattle.tables.specs.Claims.{accepted}
use Rattle.tables.proofs.Calls.{read_ready}
use Rattle.tables.proofs.Theorems.{books_read}
use Rattle.systems.proofs.Bridge.{tables_formed}
use Rattle.solving.specs.Plain.{PlainOutcome, plain_of, plain_call}
use Rattle.solving.specs.Solve.{SolveAreas, SolveOutcome, solve_text, solve_call}
use Rattle.solving.specs.SolveClaims.{SolveLong}
use Rattle.solving.proofs.Judging.{long_tables, solve_ready}
use Rattle.solving.proofs.Staged.{book_formed, book_long}
use Rattle.solving.proofs.Plain.{long_plain, plain_good}
use Rattle.known.specs.Known.{Known}
use Rattle.known.specs.Test.{Route, Calls, our_calls, plain_on, plain_holds, answers_plain, answers_all, agrees, all_agree}

-- Table and areas not judged.

module _ (old : SolveAreas) (long : SolveLong old) where
  pub solves_unjudged : ◌≡◌ {A = Bytes → ℕ → SolveOutcome} (λ t k. solve_call our_table t k old) (λ t k. solve_text our_letters t k old)
  solves_unjudged =
      fun_ext (λ t. fun_ext (λ k. solve_ready our_table t k old (long, our_table_lem) ∙ ap (λ (f : ℕ → ℕ). solve_text f t k old) our_letters_lem))

  pub reads_unjudged : ◌≡◌ {A = Bytes → Outcome} (λ t. read_call our_table t old.tables) (λ t. outcome (reading our_letters t) old.tables)
  reads_unjudged =
      fun_ext
      (λ t. read_ready our_table t old.tables (long_tables old long, our_table_lem)
      ∙ ap (λ (f : ℕ → ℕ). outcome (reading f t) old.tables) our_letters_lem)

-- Rule tables not judged.

-- the rounds over the rules alone
abbrev pub unjudged : Route
unjudged tables counts model = plain_of (program_in tables counts) model

module _ (model : List ℕ) (long : row_words ≤ length model) where
  -- on the tables of a book, the call is the rounds
  on_book : (cs : List Clause) (old : Areas) → Fits cs → short old ≡ false
      → plain_call (rules_of (tables_of cs old)) (counts_of cs) model ≡ unjudged (rules_of (tables_of cs old)) (counts_of cs) model
  on_book cs old fits s =
      let tables : RuleTables = rules_of (tables_of cs old) in
      plain_good tables (counts_of cs) model (long_plain tables model (book_long cs old fits s, long))
      (tables_formed tables (counts_of cs) (book_formed cs old fits))

  -- and so on what the reader leaves where it accepts
  abbrev Alike : Outcome → Type 0
  Alike x = plain_on plain_call x model ≡ plain_on unjudged x model

  on_outcome : (t : Bytes) (old : Areas)
      → ((n : ℕ) × (m : ℕ) × (o : Areas) × (read_call our_table t old ≡ accepted n m o))
      ⊎ ((k : ℕ) × (line : ℕ) × (k ≡ 0 → ⊥) × (read_call our_table t old ≡ refusal k line old))
      → (read_call our_table t old).answer.number ≡ 0 → Alike (read_call our_table t old)
  unfolding refusal
  on_outcome t old (inl (n, m, o, e)) z =
      let (cs, s, passes, fits, book, a, b, c) = ((books_read our_table).accepts t old o n m).0 e in
      subst Alike
      (sym (((books_read our_table).accepts t old (tables_of cs old) (length (names_of cs)) (length cs)).1 (cs, s, passes, fits, book, refl, refl, refl)))
      (on_book cs old book.fits s)
  on_outcome t old (inr (k, line, other, e)) z = absurd (other (sym (ap (λ (x : Outcome). x.answer.number) e) ∙ z))

  -- what the table says with the rounds alone, it says with the call
  answers_plain_lem : (xs : List Bytes) (t : Bytes) (old : Areas)
      → answers_plain unjudged xs (read_call our_table t old) model ≡ true → answers_plain plain_call xs (read_call our_table t old) model ≡ true
  unfolding answers_plain
  answers_plain_lem xs t old e =
      let o : Outcome = read_call our_table t old in
      let z : eqb o.answer.number 0 ≡ true = and_left (eqb o.answer.number 0) (plain_holds xs o (plain_on unjudged o model)) e in
      ap (λ (r : PlainOutcome). eqb o.answer.number 0 && plain_holds xs o r)
      (on_outcome t old ((books_read our_table).every_call t old) (eqb-true o.answer.number 0 z))
      ∙ e

-- The calls with nothing judged.
abbrev pub unjudged_calls : SolveAreas → Calls
unjudged_calls old =
    record { solves = λ t k. solve_text our_letters t k old; reads = λ t. outcome (reading our_letters t) old.tables; plain = unjudged }

module _ (old : SolveAreas) (long : SolveLong old) where
  abbrev model : List ℕ
  model = old.model

  -- by the plain route alone
  rounds_agree : (bs : List Known) → all_agree (record { solves = (our_calls old).solves; reads = (our_calls old).reads; plain = unjudged }) model bs ≡ true
      → all_agree (our_calls old) model bs ≡ true
  unfolding all_agree agrees
  rounds_agree [] e = refl
  rounds_agree (b ∷ bs) e =
      let t : Bytes = bytes b.text in
      let xs : List Bytes = map bytes b.held in
      let solver : Bool = answers_all ((our_calls old).solves t) xs b.runs in
      let plain : Route → Bool = λ (p : Route). answers_plain p xs (read_call our_table t old.tables) model in
      let rest : Bool = all_agree (record { solves = (our_calls old).solves; reads = (our_calls old).reads; plain = unjudged }) model bs in
      let first : solver && plain unjudged ≡ true = and_left (solver && plain unjudged) rest e in
      and_make
      (and_make (and_left solver (plain unjudged) first)
      (answers_plain_lem model long.model xs t old.tables (and_right solver (plain unjudged) first)))
      (rounds_agree bs (and_right (solver && plain unjudged) rest e))

  -- every book of a table answers as said by the calls, where it does with nothing judged
  pub all_agree_lem : (bs : List Known) → all_agree (unjudged_calls old) model bs ≡ true → all_agree (our_calls old) model bs ≡ true
  all_agree_lem bs e =
      rounds_agree bs
      (ap₂ (λ (s : Bytes → ℕ → SolveOutcome) (r : Bytes → Outcome). all_agree (record { solves = s; reads = r; plain = unjudged }) model bs)
      (solves_unjudged old long) (reads_unjudged old long)
      ∙ e)
