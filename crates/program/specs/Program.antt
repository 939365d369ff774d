-- Definite programs over names, their models, and the plain route.
-- Document 01: "A model .. is a set of the book's names that has the head of each rule whose body lies within it."
-- Assumes nothing.
use Rattle.std.specs.Prelude.{◌≡◌, Bool, true, ◌&&◌, List, ℕ, ◌<◌, eqb, length, get_or}
use Rattle.sets.specs.Set.{Set, Within, within, exists, empty_set}
use Rattle.sets.specs.Steps.{rounds, reached}

-- head and body set, over names of any kind A: numbers here, spellings in a book
pub record Rule (A : Type 0) : Type 0 where
  pub head : A
  pub body : A → Bool

-- names 0 to names - 1; rules in order, repeats counted separately
pub record Program : Type 0 where
  pub names : ℕ
  pub rules : List (Rule ℕ)

-- what stands past the last rule
abbrev pub no_rule : Rule ℕ
no_rule = record { head = 0; body = empty_set }

-- the number of rules
abbrev pub size : Program → ℕ
size p = length p.rules

-- the head of rule j
abbrev pub head_at : Program → ℕ → ℕ
head_at p j = (get_or p.rules j no_rule).head

-- the body of rule j
abbrev pub body_at : Program → ℕ → Set
body_at p j = (get_or p.rules j no_rule).body

-- heads and body members are names of the program: what document 01 asks of tables that are not ill formed
pub record WellFormed (p : Program) : Type 0 where
  pub heads : (j : ℕ) → j < size p → head_at p j < p.names
  pub bodies : (j a : ℕ) → j < size p → body_at p j a ≡ true → a < p.names

-- M has the head of each rule whose body lies within it
abbrev pub Model : Program → Set → Type 0
Model p M = (j : ℕ) → j < size p → Within p.names (body_at p j) M → M (head_at p j) ≡ true

-- name a lies in every model
abbrev pub InEveryModel : Program → ℕ → Type 0
InEveryModel p a = (M : Set) → Model p M → M a ≡ true

-- the immediate consequences of v: the heads of rules whose body lies in v
unfoldable pub consequence : Program → Set → Set
consequence p v a = exists (size p) (λ j. eqb (head_at p j) a && within p.names (body_at p j) v)

-- the plain route: its rounds from the empty set
unfoldable pub plain_rounds : Program → ℕ
plain_rounds p = rounds p.names (consequence p) empty_set

-- and the set that they reach
unfoldable pub plain_held : Program → Set
plain_held p = reached p.names (consequence p) empty_set
