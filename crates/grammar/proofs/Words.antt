-- Words of a line against names, for any folding that keeps its rule; the form of a line by the steps that reading it takes.
-- Assumes nothing.
use mathlib.Core.Path.{◌≡◌, refl, sym, ap, ap₂, ◌∙◌}
use mathlib.Core.Bool.{Bool, true, false, not, ◌&&◌}
use mathlib.Core.List.{List, [], ◌∷◌, ◌++◌, append-nil}
use Prim.Native.Nat.{ℕ, zero}
use lib.Dec.{eqb, leb}
use lib.ListN.{length, take, drop}
use borrow.Author.Tests.{eqb-true, leb-true}
use Rattle.limits.specs.Book.{name_bytes}
use Rattle.sets.specs.Set.{pick}
use Rattle.sets.proofs.Logic.{either, clash, not-true, and_left, and_right, or_left, or_right, not_of_false, pick_true, pick_false}
use Rattle.grammar.specs.Bytes.{Bytes, Folding, blank, name_byte, all_of, colon, hash, line_end, reserved}
use Rattle.grammar.specs.Grammar.{Name, Form, silent, rule, fault, spelling}
use Rattle.grammar.specs.Lines.{span, run, past, grown, goes_on, words_of, is_name, all_names, starts, byte_fault, word_fault, words_fault}
use Rattle.grammar.specs.Lines.{from_body, from_colon, from_head, form_of}
use Rattle.grammar.proofs.Spans.{span_nil, span_yes, span_no, run_yes, past_yes, past_no, run_none, past_none, all_no, all_append, all_wider, all_run}
use Rattle.grammar.proofs.Spans.{run_past, span_past_run, head_fails, past_head, run_over, past_over}

-- blanks and the line end are reserved
pub blank_reserved : (b : ℕ) → blank b ≡ true → reserved b ≡ true
unfolding reserved
blank_reserved b e = or_right (eqb b 0) (or_left _ e)

pub end_reserved : reserved line_end ≡ true
unfolding reserved blank
end_reserved = refl

-- a byte of a word
abbrev pub solid : ℕ → Bool
solid b = not (blank b)

-- a line end is no blank
pub blank_end : blank line_end ≡ false
unfolding blank
blank_end = refl

-- a blank before the words
words_blank : (b : ℕ) (s : Bytes) → blank b ≡ true → words_of (b ∷ s) ≡ words_of s
unfolding words_of
words_blank b s e = pick_true _ _ e

-- a word's last byte
words_last : (b : ℕ) (s : Bytes) → blank b ≡ false → goes_on s ≡ false → words_of (b ∷ s) ≡ (b ∷ []) ∷ words_of s
unfolding words_of
words_last b s e g = pick_false _ _ e ∙ pick_false _ _ g

-- a byte before others of its word
words_grown : (b : ℕ) (s : Bytes) → blank b ≡ false → goes_on s ≡ true → words_of (b ∷ s) ≡ grown b (words_of s)
unfolding words_of
words_grown b s e g = pick_false _ _ e ∙ pick_true _ _ g

pub goes_nil : goes_on [] ≡ false
unfolding goes_on
goes_nil = refl

pub goes_blank : (b : ℕ) (s : Bytes) → blank b ≡ true → goes_on (b ∷ s) ≡ false
unfolding goes_on
goes_blank b s e = pick_true false true e

goes_solid : (b : ℕ) (s : Bytes) → blank b ≡ false → goes_on (b ∷ s) ≡ true
unfolding goes_on
goes_solid b s e = pick_false false true e

pub words_nil : words_of [] ≡ []
unfolding words_of
words_nil = refl

-- the words are those past the blanks
pub words_past : (s : Bytes) → words_of s ≡ words_of (past blank s)
words_past [] = ap (λ (n : ℕ). words_of (drop n [])) (sym (span_nil blank))
words_past (b ∷ s) =
    either (blank b) (λ e. words_blank b s e ∙ words_past s ∙ ap words_of (sym (past_yes blank b s e)))
    (λ e. ap words_of (sym (past_no blank b s e)))

-- the first word is the run up to a blank, where it has further bytes
words_on : (b c : ℕ) (s : Bytes) → blank b ≡ false → blank c ≡ false
    → words_of (c ∷ s) ≡ (c ∷ run solid s) ∷ words_of (past solid s)
    → words_of (b ∷ c ∷ s) ≡ (b ∷ run solid (c ∷ s)) ∷ words_of (past solid (c ∷ s))
unfolding grown
words_on b c s e q h =
    words_grown b (c ∷ s) e (goes_solid c s q) ∙ ap (grown b) h
    ∙ ap (λ (n : ℕ). (b ∷ take n (c ∷ s)) ∷ words_of (drop n (c ∷ s))) (sym (span_yes solid c s (ap not q)))

-- where a blank follows
words_here : (b c : ℕ) (s : Bytes) → blank b ≡ false → blank c ≡ true
    → words_of (b ∷ c ∷ s) ≡ (b ∷ run solid (c ∷ s)) ∷ words_of (past solid (c ∷ s))
words_here b c s e q =
    words_last b (c ∷ s) e (goes_blank c s q)
    ∙ ap (λ (n : ℕ). (b ∷ take n (c ∷ s)) ∷ words_of (drop n (c ∷ s))) (sym (span_no solid c s (ap not q)))

words_first : (b : ℕ) (s : Bytes) → blank b ≡ false → words_of (b ∷ s) ≡ (b ∷ run solid s) ∷ words_of (past solid s)
words_first b [] e =
    words_last b [] e goes_nil ∙ ap (λ (n : ℕ). (b ∷ take n []) ∷ words_of (drop n [])) (sym (span_nil solid))
words_first b (c ∷ s) e =
    either (blank c) (λ q. words_here b c s e q) (λ q. words_on b c s e q (words_first c s q))

-- in any case
pub words_run : (b : ℕ) (s : Bytes) → blank b ≡ false → words_of (b ∷ s) ≡ run solid (b ∷ s) ∷ words_of (past solid (b ∷ s))
words_run b s e =
    words_first b s e ∙ ap (λ (n : ℕ). take n (b ∷ s) ∷ words_of (drop n (b ∷ s))) (sym (span_yes solid b s (ap not e)))

-- where no word goes on there is no run of one
goes_none : (s : Bytes) → goes_on s ≡ false → span solid s ≡ zero
goes_none [] e = span_nil solid
goes_none (b ∷ s) e =
    either (blank b) (λ q. span_no solid b s (ap not q)) (λ q. clash (goes_solid b s q) e)

-- no words in blanks
pub words_none : (s : Bytes) → past blank s ≡ [] → words_of s ≡ []
words_none s e = words_past s ∙ ap words_of e ∙ words_nil

module _ (fold : ℕ → ℕ) where
  -- what passes the test is a name
  pub test_name : (s : Bytes) → is_name fold s ≡ true → Name fold s
  unfolding is_name
  test_name s e =
      let more = and_right (leb 1 (length s)) (leb (length s) name_bytes && all_of (name_byte fold) s) e in
      record {
        some = leb-true 1 (length s) (and_left (leb 1 (length s)) (leb (length s) name_bytes && all_of (name_byte fold) s) e);
        fits = leb-true (length s) name_bytes (and_left (leb (length s) name_bytes) (all_of (name_byte fold) s) more);
        bytes = and_right (leb (length s) name_bytes) (all_of (name_byte fold) s) more;
      }

  -- a name is of name bytes
  pub name_bytes_lem : (s : Bytes) → is_name fold s ≡ true → all_of (name_byte fold) s ≡ true
  name_bytes_lem s e = (test_name s e).bytes

  -- a first word that is no name
  pub names_no : (w : Bytes) (ws : List Bytes) → is_name fold w ≡ false → all_names fold (w ∷ ws) ≡ false
  unfolding all_names
  names_no w ws e = rw e

  -- where they are all names, the first is one
  pub names_head : (w : Bytes) (ws : List Bytes) → all_names fold (w ∷ ws) ≡ true → is_name fold w ≡ true
  unfolding all_names
  names_head w ws e = and_left (is_name fold w) (all_names fold ws) e

  -- a first word that is one
  pub names_yes : (w : Bytes) (ws : List Bytes) → is_name fold w ≡ true → all_names fold (w ∷ ws) ≡ all_names fold ws
  unfolding all_names
  names_yes w ws e = rw e

  pub names_nil : all_names fold [] ≡ true
  unfolding all_names
  names_nil = refl

  -- a word that starts with no name byte is no name
  names_stray : (s : Bytes) → goes_on s ≡ true → span (name_byte fold) s ≡ zero → all_of (name_byte fold) (run solid s) ≡ false
  names_stray [] g z = clash g goes_nil
  names_stray (b ∷ s) g z =
      either (blank b) (λ q. clash g (goes_blank b s q))
      (λ q. ap (all_of (name_byte fold)) (run_yes solid b s (ap not q)) ∙ all_no (name_byte fold) b (run solid s) (head_fails (name_byte fold) b s z))

  -- so its words are not all names
  words_stray : (s : Bytes) → goes_on s ≡ true → span (name_byte fold) s ≡ zero → all_names fold (words_of s) ≡ false
  words_stray [] g z = clash g goes_nil
  words_stray (b ∷ s) g z =
      either (blank b) (λ q. clash g (goes_blank b s q))
      (λ q. ap (all_names fold) (words_run b s q)
      ∙ names_no (run solid (b ∷ s)) (words_of (past solid (b ∷ s)))
      (not-true (is_name fold (run solid (b ∷ s))) (λ e. clash (name_bytes_lem (run solid (b ∷ s)) e) (names_stray (b ∷ s) g z))))

  module _ (law : Folding fold) where
    -- a reserved byte is no name byte
    pub reserved_name : (b : ℕ) → reserved b ≡ true → name_byte fold b ≡ false
    unfolding name_byte
    reserved_name b e = ap (λ (n : ℕ). not (eqb n 0)) (law.none b e)

    pub name_blank : (b : ℕ) → blank b ≡ true → name_byte fold b ≡ false
    name_blank b e = reserved_name b (blank_reserved b e)

    pub name_end : name_byte fold line_end ≡ false
    name_end = reserved_name line_end end_reserved

    pub name_colon : name_byte fold colon ≡ false
    unfolding reserved blank
    name_colon = reserved_name colon refl

    pub name_hash : name_byte fold hash ≡ false
    unfolding reserved blank
    name_hash = reserved_name hash refl

    -- a name byte is no blank
    name_solid : (b : ℕ) → name_byte fold b ≡ true → solid b ≡ true
    name_solid b e = not_of_false (blank b) (not-true (blank b) (λ q. clash e (name_blank b q)))

    -- the first word starts with the run of name bytes
    pub run_solid : (s : Bytes) → run solid s ≡ run (name_byte fold) s ++ run solid (past (name_byte fold) s)
    run_solid s =
        ap (run solid) (sym (run_past (name_byte fold) s))
        ∙ run_over solid (run (name_byte fold) s) (past (name_byte fold) s)
        (all_wider (name_byte fold) solid name_solid (run (name_byte fold) s) (all_run (name_byte fold) s))

    past_solid : (s : Bytes) → past solid s ≡ past solid (past (name_byte fold) s)
    past_solid s =
        ap (past solid) (sym (run_past (name_byte fold) s))
        ∙ past_over solid (run (name_byte fold) s) (past (name_byte fold) s)
        (all_wider (name_byte fold) solid name_solid (run (name_byte fold) s) (all_run (name_byte fold) s))

    -- the first word is that run, where no word goes on behind it
    pub word_clean : (s : Bytes) → goes_on (past (name_byte fold) s) ≡ false → run solid s ≡ run (name_byte fold) s
    word_clean s g =
        run_solid s
        ∙ ap (λ (r : Bytes). run (name_byte fold) s ++ r) (run_none solid (past (name_byte fold) s) (goes_none (past (name_byte fold) s) g))
        ∙ append-nil (run (name_byte fold) s)

    pub words_clean : (b : ℕ) (t : Bytes) → blank b ≡ false → goes_on (past (name_byte fold) (b ∷ t)) ≡ false
        → words_of (b ∷ t) ≡ run (name_byte fold) (b ∷ t) ∷ words_of (past (name_byte fold) (b ∷ t))
    words_clean b t e g =
        let v : Bytes = past (name_byte fold) (b ∷ t) in
        words_run b t e
        ∙ ap₂ (λ (w r : Bytes). w ∷ words_of r) (word_clean (b ∷ t) g) (past_solid (b ∷ t) ∙ past_none solid v (goes_none v g))

    -- and no name, where one does
    pub word_broken : (s : Bytes) → goes_on (past (name_byte fold) s) ≡ true → is_name fold (run solid s) ≡ false
    word_broken s g =
        let v : Bytes = past (name_byte fold) s in
        let w : Bytes = run (name_byte fold) s in
        ap (is_name fold) (run_solid s)
        ∙ not-true (is_name fold (w ++ run solid v))
        (λ q. clash
        (and_right (all_of (name_byte fold) w) (all_of (name_byte fold) (run solid v))
        (sym (all_append (name_byte fold) w (run solid v)) ∙ name_bytes_lem (w ++ run solid v) q))
        (names_stray v g (span_past_run (name_byte fold) s)))

    words_broken : (b : ℕ) (t : Bytes) → blank b ≡ false → goes_on (past (name_byte fold) (b ∷ t)) ≡ true → all_names fold (words_of (b ∷ t)) ≡ false
    words_broken b t e g =
        ap (all_names fold) (words_run b t e) ∙ names_no (run solid (b ∷ t)) (words_of (past solid (b ∷ t))) (word_broken (b ∷ t) g)

    -- the three laws at the first byte that is no blank
    fault_at : (b : ℕ) (t : Bytes) → blank b ≡ false → is_name fold (run (name_byte fold) (b ∷ t)) ≡ false → all_names fold (words_of (b ∷ t)) ≡ false
    fault_at b t e n =
        either (goes_on (past (name_byte fold) (b ∷ t))) (λ g. words_broken b t e g)
        (λ g. ap (all_names fold) (words_clean b t e g) ∙ names_no (run (name_byte fold) (b ∷ t)) (words_of (past (name_byte fold) (b ∷ t))) n)

    sound_at : (b : ℕ) (t : Bytes) → blank b ≡ false → is_name fold (run (name_byte fold) (b ∷ t)) ≡ true
        → all_names fold (words_of (b ∷ t)) ≡ all_names fold (words_of (past (name_byte fold) (b ∷ t)))
    sound_at b t e n =
        either (goes_on (past (name_byte fold) (b ∷ t)))
        (λ g. words_broken b t e g ∙ sym (words_stray (past (name_byte fold) (b ∷ t)) g (span_past_run (name_byte fold) (b ∷ t))))
        (λ g. ap (all_names fold) (words_clean b t e g) ∙ names_yes (run (name_byte fold) (b ∷ t)) (words_of (past (name_byte fold) (b ∷ t))) n)

    more_at : (b : ℕ) (t : Bytes) → blank b ≡ false → all_names fold (words_of (b ∷ t)) ≡ true
        → words_of (b ∷ t) ≡ run (name_byte fold) (b ∷ t) ∷ words_of (past (name_byte fold) (b ∷ t))
    more_at b t e a =
        either (goes_on (past (name_byte fold) (b ∷ t))) (λ g. clash a (words_broken b t e g)) (λ g. words_clean b t e g)

    -- no name at the first byte that is no blank: the words are not all names
    pub words_fault_lem : (s : Bytes) (b : ℕ) (t : Bytes) → past blank s ≡ b ∷ t
        → is_name fold (run (name_byte fold) (past blank s)) ≡ false → all_names fold (words_of s) ≡ false
    words_fault_lem s b t e n =
        ap (all_names fold) (words_past s ∙ ap words_of e)
        ∙ fault_at b t (past_head blank s b t e) (ap (λ (u : Bytes). is_name fold (run (name_byte fold) u)) (sym e) ∙ n)

    -- a name there: they are all names where those behind it are
    pub words_sound : (s : Bytes) (b : ℕ) (t : Bytes) → past blank s ≡ b ∷ t
        → is_name fold (run (name_byte fold) (past blank s)) ≡ true
        → all_names fold (words_of s) ≡ all_names fold (words_of (past (name_byte fold) (past blank s)))
    words_sound s b t e n =
        ap (all_names fold) (words_past s ∙ ap words_of e)
        ∙ sound_at b t (past_head blank s b t e) (ap (λ (u : Bytes). is_name fold (run (name_byte fold) u)) (sym e) ∙ n)
        ∙ ap (λ (u : Bytes). all_names fold (words_of (past (name_byte fold) u))) (sym e)

    -- and then they are that name and those behind it
    pub words_more : (s : Bytes) (b : ℕ) (t : Bytes) → past blank s ≡ b ∷ t → all_names fold (words_of s) ≡ true
        → words_of s ≡ run (name_byte fold) (past blank s) ∷ words_of (past (name_byte fold) (past blank s))
    words_more s b t e a =
        words_past s ∙ ap words_of e
        ∙ more_at b t (past_head blank s b t e) (ap (all_names fold) (sym (words_past s ∙ ap words_of e)) ∙ a)
        ∙ ap (λ (u : Bytes). run (name_byte fold) u ∷ words_of (past (name_byte fold) u)) (sym e)

-- the first byte in a line is the line's, and not its end
pub starts_before : (x : ℕ) (s : Bytes) (y : ℕ) (r : Bytes) → eqb y x ≡ false → starts x (s ++ (y ∷ r)) ≡ starts x s
unfolding starts
starts_before x [] y r e = e
starts_before x (b ∷ s) y r e = refl

-- and where it is x, the rest follows it
pub starts_is : (x : ℕ) (s : Bytes) → starts x s ≡ true → s ≡ x ∷ drop 1 s
unfolding starts
starts_is x [] e = clash e refl
starts_is x (b ∷ s) e = ap (λ (y : ℕ). y ∷ s) (eqb-true b x e)

-- no colon behind a head
pub uncolon : (fold : ℕ → ℕ) (h u : Bytes) → starts colon u ≡ false → from_colon fold h u ≡ fault (byte_fault fold u)
unfolding from_colon
uncolon fold h u e = pick_false (from_body fold h (drop 1 u)) (fault (byte_fault fold u)) e

-- a colon: the words behind it tell
pub with_colon : (fold : ℕ → ℕ) (h u : Bytes) → from_colon fold h (colon ∷ u) ≡ from_body fold h u
unfolding from_colon starts pick
with_colon fold h u = refl

module _ (fold : ℕ → ℕ) (h u : Bytes) where
  -- all of them names: a rule
  pub all_named : all_names fold (words_of u) ≡ true → from_body fold h u ≡ rule (spelling fold h (words_of u))
  unfolding from_body
  all_named e = pick_true _ (fault (words_fault fold (words_of u))) e

  -- not all: the first that is none is the fault
  pub not_named : all_names fold (words_of u) ≡ false → from_body fold h u ≡ fault (words_fault fold (words_of u))
  unfolding from_body
  not_named e = pick_false _ (fault (words_fault fold (words_of u))) e

module _ (fold : ℕ → ℕ) (s : Bytes) where
  -- a line with bytes that are no blanks, by its head
  abbrev headed : Bytes → Form
  headed u =
      pick (is_name fold (run (name_byte fold) u)) (from_colon fold (run (name_byte fold) u) (past blank (past (name_byte fold) u)))
      (fault (word_fault fold u))

  form_head : (b : ℕ) (t : Bytes) → starts hash s ≡ false → past blank s ≡ b ∷ t → form_of fold s ≡ headed (past blank s)
  unfolding form_of from_head
  form_head b t q e = pick_false silent (from_head fold (past blank s)) q ∙ ap (from_head fold) e ∙ ap headed (sym e)

  -- a remark says nothing
  pub form_remark : starts hash s ≡ true → form_of fold s ≡ silent
  unfolding form_of
  form_remark e = pick_true silent (from_head fold (past blank s)) e

  -- nor do blanks
  pub form_blank : past blank s ≡ [] → form_of fold s ≡ silent
  unfolding form_of from_head
  form_blank e =
      either (starts hash s) (λ q. pick_true silent (from_head fold (past blank s)) q)
      (λ q. pick_false silent (from_head fold (past blank s)) q ∙ ap (from_head fold) e)

  -- no name at the head
  pub form_headless : (b : ℕ) (t : Bytes) → starts hash s ≡ false → past blank s ≡ b ∷ t
      → is_name fold (run (name_byte fold) (past blank s)) ≡ false → form_of fold s ≡ fault (word_fault fold (past blank s))
  form_headless b t q e n = form_head b t q e ∙ pick_false _ (fault (word_fault fold (past blank s))) n

  module _ (b : ℕ) (t : Bytes) (q : starts hash s ≡ false) (e : past blank s ≡ b ∷ t) (n : is_name fold (run (name_byte fold) (past blank s)) ≡ true) where
    -- a name there: by what stands behind it and its blanks
    form_named : form_of fold s ≡ from_colon fold (run (name_byte fold) (past blank s)) (past blank (past (name_byte fold) (past blank s)))
    form_named = form_head b t q e ∙ pick_true _ (fault (word_fault fold (past blank s))) n

    -- no colon
    pub form_uncolon : starts colon (past blank (past (name_byte fold) (past blank s))) ≡ false
        → form_of fold s ≡ fault (byte_fault fold (past blank (past (name_byte fold) (past blank s))))
    form_uncolon c =
        form_named ∙ uncolon fold (run (name_byte fold) (past blank s)) (past blank (past (name_byte fold) (past blank s))) c

    module _ (rest : Bytes) (c : past blank (past (name_byte fold) (past blank s)) ≡ colon ∷ rest) where
      -- a colon: the words of the body tell
      form_colon : form_of fold s ≡ from_body fold (run (name_byte fold) (past blank s)) rest
      form_colon =
          form_named ∙ ap (from_colon fold (run (name_byte fold) (past blank s))) c
          ∙ with_colon fold (run (name_byte fold) (past blank s)) rest

      -- all of them names: a rule
      pub form_rule : all_names fold (words_of rest) ≡ true → form_of fold s ≡ rule (spelling fold (run (name_byte fold) (past blank s)) (words_of rest))
      form_rule w = form_colon ∙ all_named fold (run (name_byte fold) (past blank s)) rest w

      -- not all: a fault
      pub form_body : all_names fold (words_of rest) ≡ false → form_of fold s ≡ fault (words_fault fold (words_of rest))
      form_body w = form_colon ∙ not_named fold (run (name_byte fold) (past blank s)) rest w
