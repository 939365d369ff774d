-- The claims of specs/Claims.antt.
-- Assumes nothing.
use mathlib.Core.Path.{◌≡◌, sym, ap, ◌∙◌}
use mathlib.Core.Logic.{inl, inr}
use mathlib.Core.List.{List, [], ◌∷◌, ◌++◌}
use Prim.Native.Nat.{ℕ}
use lib.ListN.{length, drop}
use Rattle.grammar.specs.Bytes.{Bytes, Folding}
use Rattle.grammar.specs.Grammar.{Text, mark, joined, Marked, Ended}
use Rattle.grammar.specs.Lines.{lines}
use Rattle.grammar.specs.Claims.{Classified, Cut}
use Rattle.grammar.proofs.Cutting.{Closed, lines_joined, unbroken_lines, ended_drop, joined_closed, joined_lines}
use Rattle.grammar.proofs.Faults.{one_place}
use Rattle.grammar.proofs.Classes.{form_is, is_form, unlisted_fault, says_unlisted, says_one, fault_cause}

-- each line is of exactly one form, and it is the computed one
pub classified : (fold : ℕ → ℕ) → Folding fold → Classified fold
classified fold law =
    record {
      forms = λ s f. (form_is fold law s f, is_form fold law s f);
      causes = fault_cause fold;
      faulty = λ s. (unlisted_fault fold law s, λ d. says_unlisted fold law s d.0 d.1);
      one_number = says_one fold law;
      one_place = one_place fold;
    }

-- what follows the mark
body_of : (t rest : Bytes) → t ≡ mark ++ rest → drop (length mark) t ≡ rest
body_of t rest e = ap (drop (length mark)) e

-- the mark itself ends in a line end
mark_ended : (rest : Bytes) → Closed rest → Ended (mark ++ rest)
mark_ended rest (inl e) = (68 ∷ 80 ∷ 66 ∷ 32 ∷ 48 ∷ 48 ∷ 48 ∷ 49 ∷ [], ap (λ (x : Bytes). mark ++ x) e)
mark_ended rest (inr (s, e)) = (mark ++ s, ap (λ (x : Bytes). mark ++ x) e)

-- a text's lines are the cut ones
only_lines : (t : Bytes) (ls : List Bytes) → Text t ls → ls ≡ lines (drop (length mark) t)
only_lines t ls x = sym (ap lines (body_of t (joined ls) x.shape) ∙ lines_joined ls x.unbroken)

-- marked and ended, it is a text of them
whole_text : (t : Bytes) → Marked t → Ended t → Text t (lines (drop (length mark) t))
whole_text t (rest, e) d =
    record {
      shape =
          e ∙ ap (λ (x : Bytes). mark ++ x)
          (sym (body_of t rest e) ∙ sym (joined_lines (drop (length mark) t) (ended_drop (length mark) t d)));
      unbroken = unbroken_lines (drop (length mark) t);
    }

-- and every text is marked and ended
both : (t : Bytes) (ls : List Bytes) → Text t ls → Marked t × Ended t
both t ls x =
    let d : Ended (mark ++ joined ls) = mark_ended (joined ls) (joined_closed ls) in
    ((joined ls, x.shape), (d.0, x.shape ∙ d.1))

-- a text that is marked and ended is cut into exactly its lines
pub cut : Cut
cut = record { only = only_lines; whole = whole_text; marked = both }
