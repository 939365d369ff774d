-- The number of a line's fault over its words: that of the first run of name bytes that is no name, however the words behind it are cut.
-- Assumes nothing.
use mathlib.Core.Path.{◌≡◌, refl, sym, ap, ap₂, ◌∙◌}
use mathlib.Core.Bool.{Bool, true, false, not}
use mathlib.Core.List.{List, [], ◌∷◌}
use Prim.Native.Nat.{ℕ, zero, ◌≤◌, ◌<◌}
use native.Mathlib.Omega.{arith}
use lib.Dec.{ltb}
use lib.ListN.{length, take}
use borrow.Author.Tests.{le-leb, le-ltb, ltb-false}
use Rattle.limits.specs.Book.{name_bytes}
use Rattle.sets.specs.Set.{pick}
use Rattle.sets.proofs.Logic.{either, clash, not-true, and_make, pick_true, pick_false}
use Rattle.grammar.specs.Bytes.{Bytes, Folding, blank, name_byte}
use Rattle.grammar.specs.Lines.{span, run, past, goes_on, words_of, is_name, all_names, barred, byte_fault, word_fault, words_fault}
use Rattle.grammar.proofs.Spans.{run_size, span_nil, span_no, run_yes, run_no, past_none, all_run, span_past_run, head_fails, past_head}
use Rattle.grammar.proofs.Spans.{span_over, past_over}
use Rattle.grammar.proofs.Words.{solid, goes_nil, goes_blank, words_past, words_run, run_solid, word_clean, words_clean, word_broken, test_name}
use Rattle.grammar.proofs.Words.{names_nil, names_head, names_yes}

-- a byte that fails in front fails in front of a part
span_part : (p q : ℕ → Bool) (s : Bytes) → span p s ≡ zero → span p (run q s) ≡ zero
span_part p q [] z = ap (λ (n : ℕ). span p (take n [])) (span_nil q) ∙ span_nil p
span_part p q (b ∷ s) z =
    either (q b) (λ e. ap (span p) (run_yes q b s e) ∙ span_no p b (run q s) (head_fails p b s z))
    (λ e. ap (span p) (run_no q b s e) ∙ span_nil p)

module _ (fold : ℕ → ℕ) where
  -- a run of 1 to 32 name bytes is a name
  pub run_name : (s : Bytes) → 1 ≤ span (name_byte fold) s → span (name_byte fold) s ≤ name_bytes → is_name fold (run (name_byte fold) s) ≡ true
  unfolding is_name
  run_name s l m =
      let n = run_size (name_byte fold) s in
      and_make (le-leb 1 (length (run (name_byte fold) s)) (omega arith))
      (and_make (le-leb (length (run (name_byte fold) s)) name_bytes (omega arith)) (all_run (name_byte fold) s))

  -- a longer one is none
  pub run_long : (s : Bytes) → name_bytes < span (name_byte fold) s → is_name fold (run (name_byte fold) s) ≡ false
  run_long s l =
      not-true (is_name fold (run (name_byte fold) s))
      (λ e. omega (arith, l, run_size (name_byte fold) s, (test_name fold (run (name_byte fold) s) e).fits))

  -- a name is no overlong run
  pub name_short : (s : Bytes) → is_name fold (run (name_byte fold) s) ≡ true → span (name_byte fold) s ≤ name_bytes
  name_short s e = omega (arith, run_size (name_byte fold) s, (test_name fold (run (name_byte fold) s) e).fits)

  -- the first byte tells
  pub byte_first : (b : ℕ) (s t : Bytes) → byte_fault fold (b ∷ s) ≡ byte_fault fold (b ∷ t)
  unfolding byte_fault
  byte_first b s t = refl

  pub byte_nil : byte_fault fold [] ≡ 5
  unfolding byte_fault
  byte_nil = refl

  pub byte_barred : (b : ℕ) (s : Bytes) → barred fold b ≡ true → byte_fault fold (b ∷ s) ≡ 14
  unfolding byte_fault
  byte_barred b s e = pick_true 14 5 e

  pub byte_free : (b : ℕ) (s : Bytes) → barred fold b ≡ false → byte_fault fold (b ∷ s) ≡ 5
  unfolding byte_fault
  byte_free b s e = pick_false 14 5 e

  -- a blank is no barred byte
  pub blank_free : (b : ℕ) → blank b ≡ true → barred fold b ≡ false
  unfolding barred
  blank_free b e = either (name_byte fold b) (λ q. rw q) (λ q. rw (q, e))

  -- what stands behind a word does not count
  byte_cut : (s : Bytes) → byte_fault fold (run solid s) ≡ byte_fault fold s
  byte_cut [] = ap (λ (n : ℕ). byte_fault fold (take n [])) (span_nil solid)
  byte_cut (b ∷ s) =
      either (blank b)
      (λ q. ap (byte_fault fold) (run_no solid b s (ap not q)) ∙ byte_nil ∙ sym (byte_free b s (blank_free b q)))
      (λ q. ap (byte_fault fold) (run_yes solid b s (ap not q)) ∙ byte_first b (run solid s) s)

  -- an overlong run
  pub word_long : (s : Bytes) → ltb name_bytes (span (name_byte fold) s) ≡ true → word_fault fold s ≡ 13
  unfolding word_fault
  word_long s e = pick_true 13 (byte_fault fold (past (name_byte fold) s)) e

  -- a run that is not: by the byte behind it
  pub word_byte : (s : Bytes) → span (name_byte fold) s ≤ name_bytes → word_fault fold s ≡ byte_fault fold (past (name_byte fold) s)
  unfolding word_fault
  word_byte s l = pick_false 13 (byte_fault fold (past (name_byte fold) s)) (le-ltb name_bytes (span (name_byte fold) s) l)

  -- no run at all: by the first byte
  pub word_none : (s : Bytes) → span (name_byte fold) s ≡ zero → word_fault fold s ≡ byte_fault fold s
  word_none s z = word_byte s (omega (arith, z)) ∙ ap (byte_fault fold) (past_none (name_byte fold) s z)

  pub words_nil : words_fault fold [] ≡ 0
  unfolding words_fault
  words_nil = refl

  -- a first word that is a name, and one that is none
  pub words_name : (w : Bytes) (ws : List Bytes) → is_name fold w ≡ true → words_fault fold (w ∷ ws) ≡ words_fault fold ws
  unfolding words_fault
  words_name w ws e = pick_true (words_fault fold ws) (word_fault fold w) e

  pub words_other : (w : Bytes) (ws : List Bytes) → is_name fold w ≡ false → words_fault fold (w ∷ ws) ≡ word_fault fold w
  unfolding words_fault
  words_other w ws e = pick_false (words_fault fold ws) (word_fault fold w) e

  -- a fault has a number
  pub byte_some : (s : Bytes) → byte_fault fold s ≡ 0 → ⊥
  byte_some [] e = omega (arith, byte_nil, e)
  byte_some (b ∷ s) e =
      either (barred fold b) (λ q. omega (arith, byte_barred b s q, e)) (λ q. omega (arith, byte_free b s q, e))

  pub word_some : (s : Bytes) → word_fault fold s ≡ 0 → ⊥
  word_some s e =
      either (ltb name_bytes (span (name_byte fold) s)) (λ q. omega (arith, word_long s q, e))
      (λ q. byte_some (past (name_byte fold) s) (sym (word_byte s (ltb-false name_bytes (span (name_byte fold) s) q)) ∙ e))

  -- names have none, and words of which one is none have one
  pub all_sound : (ws : List Bytes) → all_names fold ws ≡ true → words_fault fold ws ≡ 0
  all_sound [] a = words_nil
  all_sound (w ∷ ws) a =
      let n : is_name fold w ≡ true = names_head fold w ws a in
      words_name w ws n ∙ all_sound ws (sym (names_yes fold w ws n) ∙ a)

  pub words_some : (ws : List Bytes) → all_names fold ws ≡ false → words_fault fold ws ≡ 0 → ⊥
  words_some [] a e = clash (names_nil fold) a
  words_some (w ∷ ws) a e =
      either (is_name fold w) (λ n. words_some ws (sym (names_yes fold w ws n) ∙ a) (sym (words_name w ws n) ∙ e))
      (λ n. word_some w (sym (words_other w ws n) ∙ e))

  module _ (law : Folding fold) where
    -- the fault of a word is that of the line from it on
    word_cut : (s : Bytes) → word_fault fold (run solid s) ≡ word_fault fold s
    unfolding word_fault
    word_cut s =
        let v : Bytes = past (name_byte fold) s in
        let w : Bytes = run (name_byte fold) s in
        let z : span (name_byte fold) (run solid v) ≡ zero = span_part (name_byte fold) solid v (span_past_run (name_byte fold) s) in
        let o = span_over (name_byte fold) w (run solid v) (all_run (name_byte fold) s) in
        let size : span (name_byte fold) (run solid s) ≡ span (name_byte fold) s =
        ap (span (name_byte fold)) (run_solid fold law s) ∙ omega (arith, o, z, run_size (name_byte fold) s) in
        let rest : past (name_byte fold) (run solid s) ≡ run solid v =
        ap (past (name_byte fold)) (run_solid fold law s) ∙ past_over (name_byte fold) w (run solid v) (all_run (name_byte fold) s)
        ∙ past_none (name_byte fold) (run solid v) z in
        ap₂ (λ (n k : ℕ). pick (ltb name_bytes n) 13 k) size (ap (byte_fault fold) rest ∙ byte_cut v)

    -- where no name stands in front, the first word is none
    word_other : (s : Bytes) → is_name fold (run (name_byte fold) s) ≡ false → is_name fold (run solid s) ≡ false
    word_other s n =
        either (goes_on (past (name_byte fold) s)) (λ g. word_broken fold law s g) (λ g. ap (is_name fold) (word_clean fold law s g) ∙ n)

    at_fault : (b : ℕ) (t : Bytes) → blank b ≡ false → is_name fold (run solid (b ∷ t)) ≡ false → words_fault fold (words_of (b ∷ t)) ≡ word_fault fold (b ∷ t)
    at_fault b t q n =
        ap (words_fault fold) (words_run b t q) ∙ words_other (run solid (b ∷ t)) (words_of (past solid (b ∷ t))) n ∙ word_cut (b ∷ t)

    -- a run in front that is no name: its fault is that of the words
    pub fault_words : (s : Bytes) (b : ℕ) (t : Bytes) → past blank s ≡ b ∷ t
        → is_name fold (run (name_byte fold) (past blank s)) ≡ false → words_fault fold (words_of s) ≡ word_fault fold (past blank s)
    fault_words s b t e n =
        ap (words_fault fold) (words_past s ∙ ap words_of e)
        ∙ at_fault b t (past_head blank s b t e) (word_other (b ∷ t) (ap (λ (u : Bytes). is_name fold (run (name_byte fold) u)) (sym e) ∙ n))
        ∙ ap (word_fault fold) (sym e)

    -- behind a name a word goes on: both have the fault of the byte there
    broken_words : (b : ℕ) (t : Bytes) (v : Bytes) → blank b ≡ false → is_name fold (run (name_byte fold) (b ∷ t)) ≡ true
        → past (name_byte fold) (b ∷ t) ≡ v → goes_on v ≡ true → words_fault fold (words_of v) ≡ words_fault fold (words_of (b ∷ t))
    broken_words b t [] q n e g = clash g goes_nil
    broken_words b t (c ∷ v) q n e g =
        let z : span (name_byte fold) (c ∷ v) ≡ zero = ap (span (name_byte fold)) (sym e) ∙ span_past_run (name_byte fold) (b ∷ t) in
        let o : blank c ≡ false = not-true (blank c) (λ x. clash g (goes_blank c v x)) in
        let none : is_name fold (run (name_byte fold) (c ∷ v)) ≡ false =
        not-true (is_name fold (run (name_byte fold) (c ∷ v)))
        (λ x. omega (arith, z, run_size (name_byte fold) (c ∷ v), (test_name fold (run (name_byte fold) (c ∷ v)) x).some)) in
        at_fault c v o (word_other (c ∷ v) none) ∙ word_none (c ∷ v) z
        ∙ sym (at_fault b t q (word_broken fold law (b ∷ t) (ap goes_on e ∙ g)) ∙ word_byte (b ∷ t) (name_short (b ∷ t) n) ∙ ap (byte_fault fold) e)

    on_words : (b : ℕ) (t : Bytes) → blank b ≡ false → is_name fold (run (name_byte fold) (b ∷ t)) ≡ true
        → words_fault fold (words_of (past (name_byte fold) (b ∷ t))) ≡ words_fault fold (words_of (b ∷ t))
    on_words b t q n =
        either (goes_on (past (name_byte fold) (b ∷ t))) (λ g. broken_words b t (past (name_byte fold) (b ∷ t)) q n refl g)
        (λ g. sym (ap (words_fault fold) (words_clean fold law b t q g)
        ∙ words_name (run (name_byte fold) (b ∷ t)) (words_of (past (name_byte fold) (b ∷ t))) n))

    -- a name in front: the fault is that of the words behind it
    pub sound_words : (s : Bytes) (b : ℕ) (t : Bytes) → past blank s ≡ b ∷ t
        → is_name fold (run (name_byte fold) (past blank s)) ≡ true
        → words_fault fold (words_of (past (name_byte fold) (past blank s))) ≡ words_fault fold (words_of s)
    sound_words s b t e n =
        ap (λ (u : Bytes). words_fault fold (words_of (past (name_byte fold) u))) e
        ∙ on_words b t (past_head blank s b t e) (ap (λ (u : Bytes). is_name fold (run (name_byte fold) u)) (sym e) ∙ n)
        ∙ ap (words_fault fold) (sym (words_past s ∙ ap words_of e))
