-- "A rule with the head and body set of an earlier one is dropped while reading" (document 02, 2.3): the rules kept of the clauses that lines say.
-- Assumes nothing.
use Rattle.std.specs.Prelude.{◌≡◌, Bool, true, false, ◌&&◌, ◌||◌, ◌⊎◌, ◌↔◌, List, [], ◌∷◌, ◌++◌, ℕ, ◌<◌, length, get_or}
use Rattle.sets.specs.Set.{pick}
use Rattle.grammar.specs.Bytes.{Bytes, Among}
use Rattle.grammar.specs.Grammar.{Clause}
use Rattle.tables.specs.Numbering.{same_bytes, names_of}

-- Stated.

-- c and d have the same head, and their bodies the same names: "A body is a set"
pub record SameRule (c d : Clause) : Type 0 where
  pub head : c.head ≡ d.head
  pub there : (x : Bytes) → Among x c.body → Among x d.body
  pub back : (x : Bytes) → Among x d.body → Among x c.body

-- c is one of the clauses cs
unfoldable pub ClauseIn : Clause → List Clause → Type 0
ClauseIn c [] = ⊥
ClauseIn c (d ∷ ds) = (d ≡ c) ⊎ ClauseIn c ds

-- what stands for a clause past the last
abbrev pub no_clause : Clause
no_clause = record { head = []; body = [] }

-- one of the clauses cs gives the rule that c gives
abbrev pub Repeat : List Clause → Clause → Type 0
Repeat cs c = (d : Clause) × ClauseIn d cs × SameRule d c

-- Computed.

-- x is one of ys
unfoldable pub among : Bytes → List Bytes → Bool
among x [] = false
among x (y ∷ ys) = same_bytes y x || among x ys

-- each of xs is one of ys
unfoldable pub all_among : List Bytes → List Bytes → Bool
all_among [] ys = true
all_among (x ∷ xs) ys = among x ys && all_among xs ys

-- the test for SameRule
unfoldable pub same_rule : Clause → Clause → Bool
same_rule c d = same_bytes c.head d.head && (all_among c.body d.body && all_among d.body c.body)

-- the test for Repeat
unfoldable pub repeats : List Clause → Clause → Bool
repeats [] c = false
repeats (d ∷ cs) c = same_rule d c || repeats cs c

-- the rules after one more clause is said: a repeat is dropped, any other comes last
unfoldable pub keep : List Clause → Clause → List Clause
keep cs c = pick (repeats cs c) cs (cs ++ (c ∷ []))

-- the rules cs, and after them those kept of the clauses said
unfoldable pub kept_after : List Clause → List Clause → List Clause
kept_after cs [] = cs
kept_after cs (c ∷ said) = kept_after (keep cs c) said

-- the rules kept of the clauses that a book's lines say, in order
abbrev pub kept : List Clause → List Clause
kept said = kept_after [] said

-- Claimed; proved in proofs/Repeats.antt.

-- the rules kept of the clauses said
pub record Keeps (said : List Clause) : Type 0 where
  -- the test by which they are kept is "the head and body set of an earlier one"
  pub repeat : (cs : List Clause) (c : Clause) → (repeats cs c ≡ true) ↔ Repeat cs c
  -- each clause said is kept, or its rule is that of a kept one; and nothing else is kept
  pub twin : (c : Clause) → ClauseIn c said → Repeat (kept said) c
  pub from : (c : Clause) → ClauseIn c (kept said) → ClauseIn c said
  -- no two kept ones are the same rule
  pub apart : (i j : ℕ) → i < j → j < length (kept said) → SameRule (get_or (kept said) i no_clause) (get_or (kept said) j no_clause) → ⊥
  -- names and their numbers are those of all clauses, those dropped too
  pub names : names_of (kept said) ≡ names_of said
  -- what is kept is kept again; clauses said twice over leave what they leave once
  pub again : kept (kept said) ≡ kept said
  pub twice : kept (said ++ said) ≡ kept said
