-- Which lines are silent: remarks, and those with nothing after their blanks. Any other has the form from its head on.
-- Assumes nothing.
use mathlib.Core.Path.{◌≡◌, refl, sym, ap, ◌∙◌, subst}
use mathlib.Core.Bool.{Bool, true, false}
use mathlib.Core.List.{[]}
use Prim.Native.Nat.{ℕ}
use native.Mathlib.Omega.{arith}
use lib.ListN.{drop}
use Rattle.sets.specs.Set.{pick}
use Rattle.sets.proofs.Logic.{either, pick_true, pick_false}
use Rattle.grammar.specs.Bytes.{Bytes, Folding, blank, name_byte, colon, hash, line_end}
use Rattle.grammar.specs.Grammar.{Clause, Form, silent, rule, fault, spelling}
use Rattle.grammar.specs.Lines.{past, words_of, is_name, all_names, starts, byte_fault, word_fault, words_fault}
use Rattle.grammar.specs.Lines.{from_body, from_colon, from_head, form_of}
use Rattle.grammar.proofs.Words.{form_remark, uncolon}
use Rattle.grammar.proofs.Sorts.{byte_some, word_some, words_some}
use Rattle.scan.specs.Places.{name_run}
use Rattle.clause.specs.Line.{LineEnds, line_at, form_from, unblank, fault_of}
use Rattle.clause.proofs.Places.{sees_line, sees_end}
use Rattle.clause.proofs.Forms.{line_unblank, headless, with_head}
use Rattle.reader.specs.State.{form_at}

-- a line that has its end
module _ (fold : ℕ → ℕ) (law : Folding fold) (t : Bytes) (i : ℕ) (k : LineEnds t i) where
  -- a remark is silent
  pub remark : starts hash (drop i t) ≡ true → form_at fold t i ≡ silent
  remark e = form_remark fold (line_at t i) (sym (sees_line t i k hash refl) ∙ e)

  -- any other line is of the form from its head on
  pub headed : starts hash (drop i t) ≡ false → form_at fold t i ≡ form_from fold t (unblank t i)
  unfolding form_of
  headed e =
      pick_false silent (from_head fold (past blank (line_at t i))) (sym (sees_line t i k hash refl) ∙ e)
      ∙ ap (from_head fold) (sym (line_unblank fold law t i k))

  -- silent, where the line ends there
  pub headed_end : starts line_end (drop i t) ≡ true → form_from fold t i ≡ silent
  unfolding from_head
  headed_end e = ap (from_head fold) (sees_end t i k e)

-- a form that says something, or has a fault with a number
abbrev pub Loud : Form → Type 0
Loud f = (f ≡ silent → ⊥) × (f ≡ fault 0 → ⊥)

-- a rule or a fault
picked_loud : (b : Bool) (x : Clause) (k : ℕ) → (b ≡ false → k ≡ 0 → ⊥) → Loud (pick b (rule x) (fault k))
unfolding pick fault_of
picked_loud true x k n = (λ e. let z : ◌≡◌ {A = ℕ} 0 1 = cc in omega arith, λ e. let z : ◌≡◌ {A = ℕ} 0 1 = cc in omega arith)
picked_loud false x k n = (λ e. let z : ◌≡◌ {A = ℕ} 0 1 = cc in omega arith, λ e. n refl (ap fault_of e))

fault_loud : (k : ℕ) → (k ≡ 0 → ⊥) → Loud (fault k)
unfolding pick
fault_loud k n = picked_loud false (record { head = []; body = [] }) k (λ e. n)

body_loud : (fold : ℕ → ℕ) (h u : Bytes) → Loud (from_body fold h u)
unfolding from_body
body_loud fold h u =
    picked_loud (all_names fold (words_of u)) (spelling fold h (words_of u)) (words_fault fold (words_of u)) (words_some fold (words_of u))

colon_loud : (fold : ℕ → ℕ) (h u : Bytes) → Loud (from_colon fold h u)
unfolding from_colon
colon_loud fold h u =
    either (starts colon u)
    (λ c. subst Loud (sym (pick_true (from_body fold h (drop 1 u)) (fault (byte_fault fold u)) c)) (body_loud fold h (drop 1 u)))
    (λ c. subst Loud (sym (uncolon fold h u c)) (fault_loud (byte_fault fold u) (byte_some fold u)))

-- so is every line with bytes, from its head on
pub head_loud : (fold : ℕ → ℕ) → Folding fold → (t : Bytes) (i : ℕ) → LineEnds t i → starts line_end (drop i t) ≡ false → Loud (form_from fold t i)
head_loud fold law t i k e =
    either (is_name fold (name_run fold t i))
    (λ n.
    subst Loud (sym (with_head fold law t i k e n)) (colon_loud fold (name_run fold t i) (past blank (past (name_byte fold) (line_at t i)))))
    (λ n. subst Loud (sym (headless fold law t i k e n)) (fault_loud (word_fault fold (line_at t i)) (word_some fold (line_at t i))))
