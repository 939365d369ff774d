-- Small programs whose answers document 01 prints, numbered by first appearance: one table and one test that computes.
-- Assumes nothing.
use Rattle.std.specs.Prelude.{Bool, true, false, ◌&&◌, ◌||◌, List, [], ◌∷◌, ℕ, zero, suc, eqb}
use Rattle.sets.specs.Set.{Set, same}
use Rattle.program.specs.Program.{Rule, Program, plain_held}
use Rattle.program.specs.System.{System, c, h, folded, rounds_of, held_by}
use Rattle.program.specs.Standard.{standard}

-- the set of the numbers listed
unfoldable pub set_of : List ℕ → Set
set_of [] k = false
set_of (x ∷ xs) k = eqb x k || set_of xs k

-- a rule by its head and the names of its body
abbrev pub rule : ℕ → List ℕ → Rule ℕ
rule a b = record { head = a; body = set_of b }

-- what a book answers after some folds
pub record Run : Type 0 where
  pub folds : ℕ
  pub rounds : ℕ

-- k folds take r rounds
abbrev pub taking : ℕ → ℕ → Run
taking k r = record { folds = k; rounds = r }

-- the same number of rounds for every fold number from k down to 0
unfoldable pub up_to : ℕ → ℕ → List Run
up_to zero r = taking 0 r ∷ []
up_to (suc k) r = taking (suc k) r ∷ up_to k r

-- a book's rules, its held names, its runs, c and h
pub record Sample : Type 0 where
  pub book : Program
  pub held : List ℕ
  pub runs : List Run
  pub counted : ℕ
  pub heads : ℕ

-- the rounds and the held names of one run
unfoldable pub run_agrees : Sample → Run → Bool
run_agrees b r =
    let s : System = folded r.folds (standard b.book) in
    eqb (rounds_of s) r.rounds && same b.book.names (held_by s) (set_of b.held)

-- those of each run
unfoldable pub runs_agree : Sample → List Run → Bool
runs_agree b [] = true
runs_agree b (r ∷ rs) = run_agrees b r && runs_agree b rs

-- rounds and held names of every run, held names by the plain route, c and h
unfoldable pub agrees : Sample → Bool
agrees b =
    runs_agree b b.runs && (same b.book.names (plain_held b.book) (set_of b.held)
    && (eqb (c (standard b.book)) b.counted && eqb (h (standard b.book)) b.heads))

-- every sample of a table
unfoldable pub all_agree : List Sample → Bool
all_agree [] = true
all_agree (b ∷ bs) = agrees b && all_agree bs

-- a sample by its names, rules, held names, runs, c and h
abbrev pub sample : ℕ → List (Rule ℕ) → List ℕ → List Run → ℕ → ℕ → Sample
sample n rules held runs c h =
    record { book = record { names = n; rules = rules }; held = held; runs = runs; counted = c; heads = h }
