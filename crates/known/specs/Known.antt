-- What document 01 says of a known book.
-- Assumes nothing.
use Rattle.std.specs.Prelude.{List, [], ◌∷◌, ℕ}
use Prim.Native.String.{String}

-- something that document 01 says of a book under one fold number, besides its held names
pub data Fact : Type 0 where
  -- the rounds
  rounds : ℕ → Fact
  -- c and h
  counts : ℕ → ℕ → Fact
  -- the "all" row of the name has these names
  has : String → List String → Fact
  -- the listing's text
  lists : String → Fact

-- fold numbers, and what is said for each of them
pub record Runs : Type 0 where
  pub folds : List ℕ
  pub facts : List Fact

-- a book's text, its held names in number order, and its runs
pub record Known : Type 0 where
  pub text : String
  pub held : List String
  pub runs : List Runs

-- for these fold numbers, these facts
abbrev pub for : List ℕ → List Fact → Runs
for ks facts = record { folds = ks; facts = facts }

-- a known book by its text, held names and runs
abbrev pub book : String → List String → List Runs → Known
book text held runs = record { text = text; held = held; runs = runs }

-- every fold number
abbrev pub zero_to_eight : List ℕ
zero_to_eight = 0 ∷ 1 ∷ 2 ∷ 3 ∷ 4 ∷ 5 ∷ 6 ∷ 7 ∷ 8 ∷ []
