-- What is claimed of programs and of and-or systems; proved in proofs/Theorems.antt.
-- Assumes nothing.
use Rattle.std.specs.Prelude.{◌≡◌, ◌↔◌, true, false, ℕ, suc, ◌≤◌, ◌<◌, ◌+◌, ◌*◌, ◌^◌, leb}
use Rattle.sets.specs.Set.{Set, Within, Same, count}
use Rattle.sets.specs.Steps.{First, Least, after}
use Rattle.program.specs.Program.{Program, Model, InEveryModel, size, head_at, plain_held, plain_rounds}
use Rattle.program.specs.System.{System, all_step, round, unfold_once, rows_after, folded, rounds_of, held_by, c, h}
use Rattle.program.specs.Standard.{ways, several, helper, has_body, any_row, standard, Bears, Alone}

-- The plain route reaches a model that lies in every model, in at most n + 1 rounds.
pub record PlainRoute (p : Program) : Type 0 where
  pub model : Model p (plain_held p)
  pub least : (M : Set) → Model p M → Within p.names (plain_held p) M
  pub bound : plain_rounds p ≤ p.names + 1

-- One fold composes the step over rows with itself, row by row, and k folds are 2 to the power k steps: for any rows.
pub record Composes (m : ℕ) (rows : ℕ → Set) : Type 0 where
  pub once : (v : Set) (i : ℕ) → all_step m (unfold_once m rows) v i ≡ all_step m rows (all_step m rows v) i
  pub times : (k : ℕ) (v : Set) (i : ℕ) → all_step m (rows_after k m rows) v i ≡ after (2 ^ k) (all_step m rows) v i

-- A system after k folds holds what it holds without, loses no start atom, and keeps the two bounds.
pub record AfterFolds (s : System) (k : ℕ) : Type 0 where
  pub held : Same s.atoms (held_by (folded k s)) (held_by s)
  pub start : Within s.atoms s.start (round (folded k s) s.start)
  pub first : (q : ℕ) × (rounds_of (folded k s) ≡ suc q) × First s.atoms (round (folded k s)) s.start q
  pub least : Least s.atoms (round (folded k s)) s.start (held_by (folded k s))
  pub bound : rounds_of (folded k s) ≤ c s + h s + 1
  pub enough : c s ≤ 2 ^ k → rounds_of (folded k s) ≤ 2 * h s + 2

-- The four kinds of rows of document 01, and c and h by the rules.
pub record Kinds (p : Program) : Type 0 where
  pub undefined : (a : ℕ) → a < p.names → ways p a ≡ 0 → Alone p a × ((k : ℕ) → any_row p a k ≡ false)
  pub single : (a j : ℕ) → j < size p → head_at p j ≡ a → ways p a ≡ 1 → Bears p j a × ((k : ℕ) → any_row p a k ≡ false)
  pub several_rules : (a : ℕ) → a < p.names → 2 ≤ ways p a
      → Alone p a × ((k : ℕ) → (any_row p a k ≡ true) ↔ ((j : ℕ) × (j < size p) × (head_at p j ≡ a) × (helper p j ≡ k)))
  pub helpers : (j : ℕ) → j < size p → several p j ≡ true → Bears p j (helper p j) × ((k : ℕ) → any_row p (helper p j) k ≡ false)
  pub c_rules : c (standard p) ≡ count (size p) (has_body p)
  pub h_names : h (standard p) ≡ count p.names (λ a. leb 2 (ways p a))

-- Demand 3 for programs, after k folds: a name is held exactly where every model has it, so alike for all k and by the plain route;
-- the rounds are those defined, within both bounds.
pub record LeastModel (p : Program) (k : ℕ) : Type 0 where
  pub held : (a : ℕ) → a < p.names → (held_by (folded k (standard p)) a ≡ true) ↔ InEveryModel p a
  pub plain : Same p.names (held_by (folded k (standard p))) (plain_held p)
  pub rounds : AfterFolds (standard p) k
