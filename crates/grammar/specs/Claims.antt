-- What is claimed of lines and their forms. The theorems are in proofs/Theorems.antt.
-- Assumes nothing.
use Rattle.std.specs.Prelude.{◌≡◌, ◌↔◌, List, ℕ, length, drop}
use Rattle.limits.specs.Cause.{OneOf, fault_causes}
use Rattle.grammar.specs.Bytes.{Bytes}
use Rattle.grammar.specs.Grammar.{Listed, FaultAt, Form, fault, Says, Text, mark, Marked, Ended}
use Rattle.grammar.specs.Lines.{lines, form_of}

-- the computed form of a line is the one form that it is of; a fault has one of the numbers of a line's fault
pub record Classified (fold : ℕ → ℕ) : Type 0 where
  pub forms : (s : Bytes) (f : Form) → Says fold s f ↔ (form_of fold s ≡ f)
  pub causes : (s : Bytes) (k : ℕ) → Says fold s (fault k) → OneOf k fault_causes
  -- a line has a fault exactly where it is of no listed form: then one, under one number, and at one byte unless it is known by the line's end
  pub faulty : (s : Bytes) → (Listed fold s → ⊥) ↔ ((k : ℕ) × Says fold s (fault k))
  pub one_number : (s : Bytes) (j k : ℕ) → Says fold s (fault j) → Says fold s (fault k) → j ≡ k
  pub one_place : (s p q : Bytes) (b c : ℕ) → FaultAt fold s p b → FaultAt fold s q c → (p ≡ q) × (b ≡ c)

-- a text that is marked and ended has exactly the lines that cutting it gives
pub record Cut : Type 0 where
  pub only : (t : Bytes) (ls : List Bytes) → Text t ls → ls ≡ lines (drop (length mark) t)
  pub whole : (t : Bytes) → Marked t → Ended t → Text t (lines (drop (length mark) t))
  pub marked : (t : Bytes) (ls : List Bytes) → Text t ls → Marked t × Ended t
