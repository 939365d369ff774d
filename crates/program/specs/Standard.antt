-- Standardising, document 01: names are atoms 0 to n - 1, and each rule whose head has two or more rules gets a further atom,
-- its helper, in book order. Each rule thus has one home: its helper where it has one, else its head.
-- Assumes nothing.
use Rattle.std.specs.Prelude.{◌≡◌, true, false, not, ◌&&◌, ℕ, ◌+◌, eqb, leb}
use Rattle.sets.specs.Set.{Set, pick, exists, count, only, image}
use Rattle.program.specs.Program.{Program, size, head_at, body_at}
use Rattle.program.specs.System.{System}

-- the number of rules for name a
unfoldable pub ways : Program → ℕ → ℕ
ways p a = count (size p) (λ j. eqb (head_at p j) a)

-- the head of rule j has two or more rules
unfoldable pub several : Program → Set
several p j = leb 2 (ways p (head_at p j))

-- the further atom of rule j, where it has one
unfoldable pub helper : Program → ℕ → ℕ
helper p j = p.names + count j (several p)

-- where rule j's body stands
unfoldable pub home : Program → ℕ → ℕ
home p j = pick (several p j) (helper p j) (head_at p j)

-- rule j has a body that is not empty
unfoldable pub has_body : Program → Set
has_body p j = exists p.names (body_at p j)

-- the atoms at which a rule with a body stands: those that c counts
unfoldable pub counted_atoms : Program → Set
counted_atoms p = image (size p) (home p) (has_body p)

-- the "all" row: the body that stands there, else the atom alone
unfoldable pub all_row : Program → ℕ → Set
all_row p i k = pick (counted_atoms p i) (image (size p) (home p) (λ j. body_at p j k) i) (only i k)

-- the "any" row of a name: its helpers
unfoldable pub any_row : Program → ℕ → Set
any_row p i k = exists (size p) (λ j. several p j && (eqb (head_at p j) i && eqb (helper p j) k))

-- the start set: the homes of rules with an empty body
unfoldable pub start_set : Program → Set
start_set p = image (size p) (home p) (λ j. not (has_body p j))

-- the rows, the start set and the counted atoms of a program
abbrev pub standard : Program → System
standard p =
    record {
      atoms = helper p (size p);
      all = all_row p;
      any = any_row p;
      start = start_set p;
      counted = counted_atoms p;
    }

-- Atom i bears the body of rule j: its row is that body; if the body is empty, itself alone, and it is in the start set.
pub record Bears (p : Program) (j i : ℕ) : Type 0 where
  pub row : has_body p j ≡ true → (k : ℕ) → all_row p i k ≡ body_at p j k
  pub fact : has_body p j ≡ false → (k : ℕ) → all_row p i k ≡ only i k
  pub start : start_set p i ≡ not (has_body p j)

-- Atom i has itself alone as its row and is not in the start set.
pub record Alone (p : Program) (i : ℕ) : Type 0 where
  pub row : (k : ℕ) → all_row p i k ≡ only i k
  pub start : start_set p i ≡ false
