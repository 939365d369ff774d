-- The form of a line, computed, against the forms that document 01 lists: a line of a listed form has it, and a line at fault is of none.
-- Assumes nothing.
use mathlib.Core.Path.{◌≡◌, refl, sym, ap, ◌∙◌}
use mathlib.Core.Logic.{◌⊎◌, inl, inr}
use mathlib.Core.Bool.{true, false}
use mathlib.Core.List.{List, [], ◌∷◌, ◌++◌}
use Prim.Native.Nat.{ℕ, zero}
use native.Mathlib.Omega.{arith}
use lib.Dec.{eqb}
use borrow.Author.Tests.{eqb-true}
use Rattle.sets.proofs.Logic.{clash, not-true}
use Rattle.grammar.specs.Bytes.{Bytes, Folding, blank, name_byte, colon, hash}
use Rattle.grammar.specs.Grammar.{Blanks, Name, RuleLine, Remark, Listed, spelling, silent, rule, fault}
use Rattle.grammar.specs.Lines.{span, run, past, words_of, is_name, all_names, starts, form_of}
use Rattle.grammar.proofs.Spans.{span_nil, span_no, past_none, all_head, all_run, run_past, past_over}
use Rattle.grammar.proofs.Words.{test_name, name_blank, name_colon, name_hash, form_remark, form_blank, form_uncolon, form_rule, form_body}
use Rattle.grammar.proofs.Bodies.{split, blanks_past, name_test, no_name, name_first, name_run_lem, name_past, body_words_lem, words_body}

-- a colon and a remark's first byte are no blanks
pub colon_solid : blank colon ≡ false
unfolding blank
colon_solid = refl

hash_solid : blank hash ≡ false
unfolding blank
hash_solid = refl

-- a remark starts so
remark_starts : (s : Bytes) → Remark s → starts hash s ≡ true
unfolding starts
remark_starts s (rest, e) = ap (starts hash) e

starts_cons : (x b : ℕ) (s : Bytes) → starts x (b ∷ s) ≡ eqb b x
unfolding starts
starts_cons x b s = refl

module _ (fold : ℕ → ℕ) (law : Folding fold) where
  -- a line that starts with blanks and a name is no remark
  pub no_remark : (front h r : Bytes) → Blanks front → Name fold h → starts hash (front ++ (h ++ r)) ≡ false
  no_remark [] [] r f n = absurd (omega (arith, n.some))
  no_remark [] (b ∷ h) r f n =
      starts_cons hash b (h ++ r)
      ∙ not-true (eqb b hash)
      (λ q. clash (ap (name_byte fold) (sym (eqb-true b hash q)) ∙ all_head (name_byte fold) b h n.bytes) (name_hash fold law))
  no_remark (b ∷ front) h r f n =
      starts_cons hash b (front ++ (h ++ r))
      ∙ not-true (eqb b hash) (λ q. clash (ap blank (sym (eqb-true b hash q)) ∙ all_head blank b front f) hash_solid)

  -- blanks and a colon start with no name byte
  pub gap_stop : (gap rest : Bytes) → Blanks gap → span (name_byte fold) (gap ++ (colon ∷ rest)) ≡ zero
  gap_stop [] rest g = span_no (name_byte fold) colon rest (name_colon fold law)
  gap_stop (b ∷ gap) rest g = span_no (name_byte fold) b (gap ++ (colon ∷ rest)) (name_blank fold law b (all_head blank b gap g))

  -- a line of blanks, a name and what no name byte begins: what its first steps find
  module _ (f h v : Bytes) (bl : Blanks f) (m : Name fold h) (z : span (name_byte fold) v ≡ zero) where
    head_first : past blank (f ++ (h ++ v)) ≡ h ++ v
    head_first = past_over blank f (h ++ v) bl ∙ past_none blank (h ++ v) (name_first fold law h v m)

    head_run : run (name_byte fold) (past blank (f ++ (h ++ v))) ≡ h
    head_run = ap (run (name_byte fold)) head_first ∙ name_run_lem fold law h v m z

    head_past : past (name_byte fold) (past blank (f ++ (h ++ v))) ≡ v
    head_past = ap (past (name_byte fold)) head_first ∙ name_past fold law h v m z

    head_name : is_name fold (run (name_byte fold) (past blank (f ++ (h ++ v)))) ≡ true
    head_name = ap (is_name fold) head_run ∙ name_test fold h m

    -- it has bytes that are no blanks
    with_head : {X : Type 0} → ((b : ℕ) (t : Bytes) → past blank (f ++ (h ++ v)) ≡ b ∷ t → X) → X
    with_head g =
        split (past blank (f ++ (h ++ v)))
        (λ e. clash head_name (no_name fold (past blank (f ++ (h ++ v))) (ap (span (name_byte fold)) e ∙ span_nil (name_byte fold)))) g

    -- no colon behind the blanks: at fault
    pub lacks_colon : starts colon (past blank v) ≡ false → (k : ℕ) × (form_of fold (f ++ (h ++ v)) ≡ fault k)
    lacks_colon c =
        with_head
        (λ b t e. (
          _,
          form_uncolon fold (f ++ (h ++ v)) b t (no_remark f h v bl m) e head_name (ap (λ (u : Bytes). starts colon (past blank u)) head_past ∙ c),
        ))

    module _ (rest : Bytes) (c : past blank v ≡ colon ∷ rest) where
      at_colon : past blank (past (name_byte fold) (past blank (f ++ (h ++ v)))) ≡ colon ∷ rest
      at_colon = ap (past blank) head_past ∙ c

      -- words behind the colon that are not all names: at fault
      pub lacks_names : all_names fold (words_of rest) ≡ false → (k : ℕ) × (form_of fold (f ++ (h ++ v)) ≡ fault k)
      lacks_names a =
          with_head
          (λ b t e. (_, form_body fold (f ++ (h ++ v)) b t (no_remark f h v bl m) e head_name rest at_colon a))

      -- names: a rule
      has_names : all_names fold (words_of rest) ≡ true → form_of fold (f ++ (h ++ v)) ≡ rule (spelling fold h (words_of rest))
      has_names a =
          with_head
          (λ b t e. form_rule fold (f ++ (h ++ v)) b t (no_remark f h v bl m) e head_name rest at_colon a
          ∙ ap (λ (x : Bytes). rule (spelling fold x (words_of rest))) head_run)

  -- past blanks to a colon
  pub gap_past : (gap rest : Bytes) → Blanks gap → past blank (gap ++ (colon ∷ rest)) ≡ colon ∷ rest
  gap_past gap rest g = past_over blank gap (colon ∷ rest) g ∙ past_none blank (colon ∷ rest) (span_no blank colon rest colon_solid)

  -- a rule line has the form of that rule
  pub rule_form : (s h : Bytes) (ns : List Bytes) → RuleLine fold s h ns → form_of fold s ≡ rule (spelling fold h ns)
  rule_form s h ns l =
      let w : (words_of l.rest ≡ ns) × (all_names fold ns ≡ true) = body_words_lem fold law ns l.rest l.names in
      ap (form_of fold) l.shape
      ∙ has_names l.front h (l.gap ++ (colon ∷ l.rest)) l.before l.name (gap_stop l.gap l.rest l.between) l.rest
      (gap_past l.gap l.rest l.between) (ap (all_names fold) w.0 ∙ w.1)
      ∙ ap (λ (xs : List Bytes). rule (spelling fold h xs)) w.0

  -- the rule line that a head, a colon and words spell
  pub line_rule : (s rest : Bytes) → is_name fold (run (name_byte fold) (past blank s)) ≡ true
      → past blank (past (name_byte fold) (past blank s)) ≡ colon ∷ rest → all_names fold (words_of rest) ≡ true
      → RuleLine fold s (run (name_byte fold) (past blank s)) (words_of rest)
  line_rule s rest n c a =
      let v : Bytes = past (name_byte fold) (past blank s) in
      record {
        front = run blank s;
        gap = run blank v;
        rest = rest;
        shape =
            sym (run_past blank s)
            ∙ ap (λ (x : Bytes). run blank s ++ x)
            (sym (run_past (name_byte fold) (past blank s))
            ∙ ap (λ (x : Bytes). run (name_byte fold) (past blank s) ++ x) (sym (run_past blank v) ∙ ap (λ (x : Bytes). run blank v ++ x) c));
        before = all_run blank s;
        name = test_name fold (run (name_byte fold) (past blank s)) n;
        between = all_run blank v;
        names = words_body fold law (words_of rest) rest refl a;
      }

  -- a line that says nothing
  pub silent_form : (s : Bytes) → Blanks s ⊎ Remark s → form_of fold s ≡ silent
  silent_form s (inl b) = form_blank fold s (blanks_past s b)
  silent_form s (inr r) = form_remark fold s (remark_starts s r)

  -- a line that is computed to be at fault is of no listed form
  pub formless : (s : Bytes) (k : ℕ) → form_of fold s ≡ fault k → Listed fold s → ⊥
  formless s k e (inl b) = let q = silent_form s (inl b) in let o : ◌≡◌ {A = ℕ} 0 1 = cc in omega arith
  formless s k e (inr (inl r)) = let q = silent_form s (inr r) in let o : ◌≡◌ {A = ℕ} 0 1 = cc in omega arith
  formless s k e (inr (inr (h, ns, l))) = let q = rule_form s h ns l in let o : ◌≡◌ {A = ℕ} 0 1 = cc in omega arith
