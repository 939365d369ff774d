-- "Names are numbered from 0 by first appearance, head before body, left to right."
-- Assumes nothing.
use Rattle.std.specs.Prelude.{Bool, true, false, ◌&&◌, ◌||◌, List, [], ◌∷◌, ◌++◌, map, ℕ, zero, suc, eqb, ltb, length}
use Rattle.sets.specs.Set.{Set, pick}
use Rattle.program.specs.Program.{Rule, Program}
use Rattle.grammar.specs.Bytes.{Bytes}
use Rattle.grammar.specs.Grammar.{Clause}

-- the same bytes
unfoldable pub same_bytes : Bytes → Bytes → Bool
same_bytes [] [] = true
same_bytes [] (b ∷ t) = false
same_bytes (a ∷ s) [] = false
same_bytes (a ∷ s) (b ∷ t) = eqb a b && same_bytes s t

-- the first place of x among the names, their number where it is none of them
unfoldable pub place : List Bytes → Bytes → ℕ
place [] x = zero
place (n ∷ ns) x = pick (same_bytes n x) zero (suc (place ns x))

-- x after the names, where it is not yet one of them
unfoldable pub meet : List Bytes → Bytes → List Bytes
meet ns x = pick (ltb (place ns x) (length ns)) ns (ns ++ (x ∷ []))

unfoldable pub meet_all : List Bytes → List Bytes → List Bytes
meet_all ns [] = ns
meet_all ns (x ∷ xs) = meet_all (meet ns x) xs

-- every name of the clauses as it stands, head before body
unfoldable pub standing : List Clause → List Bytes
standing [] = []
standing (c ∷ cs) = (c.head ∷ c.body) ++ standing cs

-- the book's names in the order of their numbers
unfoldable pub names_of : List Clause → List Bytes
names_of cs = meet_all [] (standing cs)

-- the numbers of the names xs, as a set: "A body is a set"
unfoldable pub places : List Bytes → List Bytes → Set
places ns [] a = false
places ns (x ∷ xs) a = eqb (place ns x) a || places ns xs a

-- the clause by numbers
unfoldable pub numbered : List Bytes → Clause → Rule ℕ
numbered ns c = record { head = place ns c.head; body = places ns c.body }

-- the book by numbers
unfoldable pub program_of : List Clause → Program
program_of cs = record { names = length (names_of cs); rules = map (numbered (names_of cs)) cs }
