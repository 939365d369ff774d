-- Each line is of the form that is computed, and of no other.
-- Assumes nothing.
use mathlib.Core.Path.{◌≡◌, refl, sym, ap, ◌∙◌, subst}
use mathlib.Core.Logic.{◌⊎◌, inl, inr}
use mathlib.Core.Bool.{true, false}
use mathlib.Core.List.{List, ◌∷◌}
use Prim.Native.Nat.{ℕ}
use native.Mathlib.Omega.{arith}
use lib.ListN.{drop}
use Rattle.limits.specs.Cause.{OneOf, fault_causes}
use Rattle.limits.proofs.Causes.{without, one_found}
use Rattle.sets.proofs.Logic.{either}
use Rattle.grammar.specs.Bytes.{Bytes, Folding, blank, name_byte, colon, hash}
use Rattle.grammar.specs.Grammar.{Blanks, RuleLine, Remark, Listed, Fault, spelling, Form, silent, rule, fault, Says}
use Rattle.grammar.specs.Lines.{run, past, words_of, is_name, all_names, starts, word_fault, byte_fault, words_fault, form_of}
use Rattle.grammar.proofs.Spans.{past_all}
use Rattle.grammar.proofs.Words.{starts_is, form_remark, form_blank, form_headless, form_uncolon, form_rule, form_body}
use Rattle.grammar.proofs.Bodies.{split}
use Rattle.grammar.proofs.Forms.{rule_form, line_rule, silent_form}
use Rattle.grammar.proofs.Faults.{fault_one, fault_unlisted}
use Rattle.grammar.proofs.Ways.{head_fault, colon_fault, body_fault}

module _ (fold : ℕ → ℕ) (law : Folding fold) where
  -- what the computed form of a line tells of it
  abbrev Told : Bytes → Type 0
  Told s =
      ((form_of fold s ≡ silent) × (Blanks s ⊎ Remark s))
      ⊎ (((h : Bytes) × (ns : List Bytes) × (form_of fold s ≡ rule (spelling fold h ns)) × RuleLine fold s h ns)
      ⊎ ((k : ℕ) × (form_of fold s ≡ fault k) × Fault fold s k))

  module _ (s : Bytes) (b : ℕ) (t : Bytes) (q : starts hash s ≡ false) (e : past blank s ≡ b ∷ t) where
    -- behind the colon
    told_body : (rest : Bytes) → is_name fold (run (name_byte fold) (past blank s)) ≡ true
        → past blank (past (name_byte fold) (past blank s)) ≡ colon ∷ rest → Told s
    told_body rest n c =
        either (all_names fold (words_of rest))
        (λ a.
        inr (inl (run (name_byte fold) (past blank s), words_of rest, form_rule fold s b t q e n rest c a, line_rule fold law s rest n c a)))
        (λ a.
        inr (inr (words_fault fold (words_of rest), form_body fold s b t q e n rest c a, body_fault fold law s b t q e n rest c a)))

    -- behind the head
    told_head : is_name fold (run (name_byte fold) (past blank s)) ≡ true → Told s
    told_head n =
        let w : Bytes = past blank (past (name_byte fold) (past blank s)) in
        either (starts colon w) (λ c. told_body (drop 1 w) n (starts_is colon w c))
        (λ c. inr (inr (byte_fault fold w, form_uncolon fold s b t q e n c, colon_fault fold law s b t q e n c)))

    -- at the first byte that is no blank
    told_first : Told s
    told_first =
        either (is_name fold (run (name_byte fold) (past blank s))) told_head
        (λ n. inr (inr (word_fault fold (past blank s), form_headless fold s b t q e n, head_fault fold law s b t q e n)))

  -- of any line
  told : (s : Bytes) → Told s
  told s =
      either (starts hash s) (λ q. inl (form_remark fold s q, inr (drop 1 s, starts_is hash s q)))
      (λ q.
      split (past blank s) (λ e. inl (form_blank fold s e, inl (past_all blank s e)))
      (λ b t e. told_first s b t q e))

  -- complete and unambiguous: the form that a line is of is the computed one
  pub form_is : (s : Bytes) (f : Form) → Says fold s f → form_of fold s ≡ f
  unfolding Says
  form_is s silent d = silent_form fold law s d
  form_is s (rule c) (h, ns, l, e) = rule_form fold law s h ns l ∙ ap rule (sym e)
  form_is s (fault k) d = at (told s)
    where
      at : Told s → form_of fold s ≡ fault k
      at (inl (e, inl x)) = absurd (fault_unlisted fold s k d (inl x))
      at (inl (e, inr x)) = absurd (fault_unlisted fold s k d (inr (inl x)))
      at (inr (inl (h, ns, e, x))) = absurd (fault_unlisted fold s k d (inr (inr (h, ns, x))))
      at (inr (inr (j, e, x))) = e ∙ ap fault (fault_one fold s j k x d)

  -- sound: a line is of its computed form
  pub is_form : (s : Bytes) (f : Form) → form_of fold s ≡ f → Says fold s f
  unfolding Says
  is_form s silent e = at (told s)
    where
      at : Told s → Blanks s ⊎ Remark s
      at (inl (q, x)) = x
      at (inr (inl (h, ns, q, x))) = let o : ◌≡◌ {A = ℕ} 0 1 = cc in absurd (omega arith)
      at (inr (inr (k, q, x))) = let o : ◌≡◌ {A = ℕ} 0 1 = cc in absurd (omega arith)
  is_form s (rule c) e = at (told s)
    where
      at : Told s → (h : Bytes) × (ns : List Bytes) × RuleLine fold s h ns × (c ≡ spelling fold h ns)
      at (inl (q, x)) = let o : ◌≡◌ {A = ℕ} 0 1 = cc in absurd (omega arith)
      at (inr (inl (h, ns, q, x))) = (h, ns, x, cc)
      at (inr (inr (k, q, x))) = let o : ◌≡◌ {A = ℕ} 0 1 = cc in absurd (omega arith)
  is_form s (fault k) e = at (told s)
    where
      at : Told s → Fault fold s k
      at (inl (q, x)) = let o : ◌≡◌ {A = ℕ} 0 1 = cc in absurd (omega arith)
      at (inr (inl (h, ns, q, x))) = let o : ◌≡◌ {A = ℕ} 0 1 = cc in absurd (omega arith)
      at (inr (inr (j, q, x))) = let i : j ≡ k = cc in subst (Fault fold s) i x

  -- a line is of no listed form exactly where it has a fault
  pub unlisted_fault : (s : Bytes) → (Listed fold s → ⊥) → (k : ℕ) × Says fold s (fault k)
  unfolding Says
  unlisted_fault s n = at (told s)
    where
      at : Told s → (k : ℕ) × Fault fold s k
      at (inl (e, inl x)) = absurd (n (inl x))
      at (inl (e, inr x)) = absurd (n (inr (inl x)))
      at (inr (inl (h, ns, e, x))) = absurd (n (inr (inr (h, ns, x))))
      at (inr (inr (k, e, x))) = (k, x)

  pub says_unlisted : (s : Bytes) (k : ℕ) → Says fold s (fault k) → Listed fold s → ⊥
  unfolding Says
  says_unlisted s k d = fault_unlisted fold s k d

  -- and then under one number
  pub says_one : (s : Bytes) (j k : ℕ) → Says fold s (fault j) → Says fold s (fault k) → j ≡ k
  unfolding Says
  says_one s j k d d' = fault_one fold s j k d d'

-- a fault's number is one of the list
pub fault_cause : (fold : ℕ → ℕ) (s : Bytes) (k : ℕ) → Says fold s (fault k) → OneOf k fault_causes
unfolding Says without
fault_cause fold s k (inl (p, b, a, inl (e, x))) = one_found 14 k fault_causes refl e
fault_cause fold s k (inl (p, b, a, inr (inl (e, x)))) = one_found 13 k fault_causes refl e
fault_cause fold s k (inl (p, b, a, inr (inr (e, x, y)))) = one_found 5 k fault_causes refl e
fault_cause fold s k (inr (e, x, y)) = one_found 5 k fault_causes refl e
