-- The test that a known book answers as said: from the text's bytes, through the solver's own definition, with areas of the stated sizes
-- that hold something else before.
-- Assumes nothing.
use Rattle.std.specs.Prelude.{Bool, true, false, ◌&&◌, List, [], ◌∷◌, map, ℕ, eqb, length, take, replicate}
use Rattle.limits.specs.Book.{row_words, listing_bytes}
use Rattle.sets.specs.Set.{Set, members}
use Rattle.grammar.specs.Bytes.{Bytes, bytes}
use Rattle.grammar.specs.Letters.{our_table}
use Rattle.grammar.specs.Lines.{run, lines}
use Rattle.tables.specs.Numbering.{same_bytes, place}
use Rattle.areas.specs.Area.{filled}
use Rattle.tables.specs.Areas.{RuleTables, Counts, Outcome, rules_of, nonzero, look_up, read_call}
use Rattle.systems.specs.Rows.{row_in}
use Rattle.systems.specs.Rounds.{model_in}
use Rattle.solving.specs.Plain.{PlainOutcome, plain_call}
use Rattle.solving.specs.Solve.{SolveAreas, SolveOutcome, solve_call}
use Rattle.solving.specs.Stated.{stated_areas}
use Rattle.known.specs.Known.{Fact, rounds, counts, has, lists, Runs, Known}

-- areas of the stated sizes, each word and byte 7
abbrev pub old_areas : SolveAreas
old_areas = stated_areas 7 (replicate listing_bytes 7)

-- Held names, read from the areas.

-- the same names in the same order
unfoldable pub same_names : List Bytes → List Bytes → Bool
same_names [] [] = true
same_names [] (y ∷ ys) = false
same_names (x ∷ xs) [] = false
same_names (x ∷ xs) (y ∷ ys) = same_bytes x y && same_names xs ys

-- the look-up's spellings of the members of f below n, by rising number
unfoldable pub held_spelt : Bytes → ℕ → Set → List Bytes
held_spelt area n f = map (look_up area n) (members n f 0)

-- the lines of a listing area up to its first zero byte
unfoldable pub listing_in : Bytes → List Bytes
listing_in area = lines (run nonzero area)

-- a head line, then these names
unfoldable pub head_then : List Bytes → List Bytes → Bool
head_then [] xs = false
head_then (head ∷ ys) xs = same_bytes (take 15 head) (bytes "DPL 0001 names=") && same_names ys xs

-- number 0; so many names held; the model area holds these; the listing has these after its head line
unfoldable pub holds : List Bytes → SolveOutcome → Bool
holds xs r =
    eqb r.answer.number 0
    && (eqb r.answer.held (length xs)
    && (same_names (held_spelt r.areas.tables.spellings r.answer.names (model_in r.areas.model)) xs
    && head_then (listing_in r.areas.listing) xs))

-- A plain route: what it answers and leaves for rule tables, their counts and a model area.
abbrev pub Route : Type 0
Route = RuleTables → Counts → List ℕ → PlainOutcome

-- on what the reader leaves
abbrev pub plain_on : Route → Outcome → List ℕ → PlainOutcome
plain_on plain o model = plain (rules_of o.areas) (record { names = o.answer.names; rules = o.answer.rules }) model

-- number 0; so many names held; the model area holds these
unfoldable pub plain_holds : List Bytes → Outcome → PlainOutcome → Bool
plain_holds xs o r =
    eqb r.number 0
    && (eqb r.held (length xs) && same_names (held_spelt o.areas.spellings o.answer.names (model_in r.model)) xs)

-- one fact
unfoldable pub says : SolveOutcome → Fact → Bool
says r (rounds n) = eqb r.answer.rounds n
says r (counts c h) = eqb r.answer.c c && eqb r.answer.h h
says r (has x ys) =
    let ns : List Bytes = held_spelt r.areas.tables.spellings r.answer.names (λ a. true) in
    same_names (held_spelt r.areas.tables.spellings r.answer.names (row_in row_words r.areas.all (place ns (bytes x)))) (map bytes ys)
says r (lists s) = same_bytes r.areas.listing (filled listing_bytes (bytes s) [])

-- each of them
unfoldable pub says_all : SolveOutcome → List Fact → Bool
says_all r [] = true
says_all r (x ∷ xs) = says r x && says_all r xs

-- the held names and the facts, after k folds
unfoldable pub answers : List Bytes → List Fact → SolveOutcome → Bool
answers xs facts r = holds xs r && says_all r facts

-- and after each of the fold numbers, by what the solver answers and leaves for each
unfoldable pub answers_each : (ℕ → SolveOutcome) → List Bytes → List Fact → List ℕ → Bool
answers_each solves xs facts [] = true
answers_each solves xs facts (k ∷ ks) = answers xs facts (solves k) && answers_each solves xs facts ks

-- all runs
unfoldable pub answers_all : (ℕ → SolveOutcome) → List Bytes → List Runs → Bool
answers_all solves xs [] = true
answers_all solves xs (r ∷ rs) = answers_each solves xs r.facts r.folds && answers_all solves xs rs

-- the reader accepts the text, and the plain route answers as said
unfoldable pub answers_plain : Route → List Bytes → Outcome → List ℕ → Bool
answers_plain plain xs o model = eqb o.answer.number 0 && plain_holds xs o (plain_on plain o model)

-- The calls that are tried, in given areas: the solver for a text and a fold number, the reader for a text, and the plain route.
pub record Calls : Type 0 where
  pub solves : Bytes → ℕ → SolveOutcome
  pub reads : Bytes → Outcome
  pub plain : Route

-- the engine's, lent our table
abbrev pub our_calls : SolveAreas → Calls
our_calls old =
    record { solves = λ t k. solve_call our_table t k old; reads = λ t. read_call our_table t old.tables; plain = plain_call }

-- the book answers as said, by the solver under each fold number and by the plain route with that model area
unfoldable pub agrees : Calls → List ℕ → Known → Bool
agrees calls model b =
    answers_all (calls.solves (bytes b.text)) (map bytes b.held) b.runs
    && answers_plain calls.plain (map bytes b.held) (calls.reads (bytes b.text)) model

-- every book of a table
unfoldable pub all_agree : Calls → List ℕ → List Known → Bool
all_agree calls model [] = true
all_agree calls model (b ∷ bs) = agrees calls model b && all_agree calls model bs
