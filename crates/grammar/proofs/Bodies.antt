-- A body is its words, and each of them is a name.
-- Assumes nothing.
use mathlib.Core.Path.{◌≡◌, refl, sym, ap, ap₂, ◌∙◌}
use mathlib.Core.Logic.{inl, inr}
use mathlib.Core.Bool.{true, false}
use mathlib.Core.List.{List, [], ◌∷◌, ◌++◌, append-nil}
use Prim.Native.Nat.{ℕ, zero}
use native.Mathlib.Omega.{arith}
use lib.ListN.{length, drop}
use lib.Seq.{drop-length}
use borrow.Author.Tests.{le-leb}
use Rattle.limits.specs.Book.{name_bytes}
use Rattle.sets.proofs.Logic.{either, clash, not-true, and_make}
use Rattle.grammar.specs.Bytes.{Bytes, Folding, blank, name_byte}
use Rattle.grammar.specs.Grammar.{Blanks, Name, Parted, Body}
use Rattle.grammar.specs.Lines.{span, run, past, words_of, is_name, all_names}
use Rattle.grammar.proofs.Spans.{span_nil, span_no, run_none, past_none, all_head, all_run, run_past, span_all, span_past_run, past_over, run_over}
use Rattle.grammar.proofs.Spans.{past_all, past_no}
use Rattle.grammar.proofs.Words.{test_name, words_none, words_fault_lem, words_sound, words_more, name_blank, names_nil, names_yes, names_head}

-- a list, with its equation
pub split : {X : Type 0} (s : Bytes) → (s ≡ [] → X) → ((b : ℕ) (t : Bytes) → s ≡ b ∷ t → X) → X
split [] n c = n refl
split (b ∷ t) n c = c b t refl

-- nothing follows blanks
pub blanks_past : (s : Bytes) → Blanks s → past blank s ≡ []
blanks_past s e = ap (λ (n : ℕ). drop n s) (span_all blank s e) ∙ drop-length s

module _ (fold : ℕ → ℕ) where
  -- the test for a name
  pub name_test : (s : Bytes) → Name fold s → is_name fold s ≡ true
  unfolding is_name
  name_test s n = and_make (le-leb 1 (length s) n.some) (and_make (le-leb (length s) name_bytes n.fits) n.bytes)

  -- no name where no run starts
  pub no_name : (s : Bytes) → span (name_byte fold) s ≡ zero → is_name fold (run (name_byte fold) s) ≡ false
  unfolding is_name
  no_name s z = ap (is_name fold) (run_none (name_byte fold) s z)

  module _ (law : Folding fold) where
    -- a name starts with no blank
    pub name_first : (n r : Bytes) → Name fold n → span blank (n ++ r) ≡ zero
    name_first [] r n = absurd (omega (arith, n.some))
    name_first (b ∷ s) r n =
        span_no blank b (s ++ r)
        (not-true (blank b) (λ q. clash (all_head (name_byte fold) b s n.bytes) (name_blank fold law b q)))

    -- a name ends where no name byte follows
    pub name_run_lem : (n r : Bytes) → Name fold n → span (name_byte fold) r ≡ zero → run (name_byte fold) (n ++ r) ≡ n
    name_run_lem n r e z =
        run_over (name_byte fold) n r e.bytes ∙ ap (λ (x : Bytes). n ++ x) (run_none (name_byte fold) r z) ∙ append-nil n

    pub name_past : (n r : Bytes) → Name fold n → span (name_byte fold) r ≡ zero → past (name_byte fold) (n ++ r) ≡ r
    name_past n r e z = past_over (name_byte fold) n r e.bytes ∙ past_none (name_byte fold) r z

    -- so it does where it is parted from what follows
    parted_stop : (r : Bytes) → Parted r → span (name_byte fold) r ≡ zero
    parted_stop r (inl e) = ap (span (name_byte fold)) e ∙ span_nil (name_byte fold)
    parted_stop r (inr (b, t, e, q)) = ap (span (name_byte fold)) e ∙ span_no (name_byte fold) b t (name_blank fold law b q)

    -- one name more
    body_more : (s front n rest : Bytes) (ns : List Bytes) → s ≡ front ++ (n ++ rest) → Blanks front → Name fold n → Parted rest
        → (words_of rest ≡ ns) × (all_names fold ns ≡ true) → (words_of s ≡ n ∷ ns) × (all_names fold (n ∷ ns) ≡ true)
    body_more s front n rest ns e f m d (w, a) =
        let z : span (name_byte fold) rest ≡ zero = parted_stop rest d in
        let u : past blank s ≡ n ++ rest =
        ap (past blank) e ∙ past_over blank front (n ++ rest) f ∙ past_none blank (n ++ rest) (name_first n rest m) in
        let x : run (name_byte fold) (past blank s) ≡ n = ap (run (name_byte fold)) u ∙ name_run_lem n rest m z in
        let y : past (name_byte fold) (past blank s) ≡ rest = ap (past (name_byte fold)) u ∙ name_past n rest m z in
        let k : is_name fold (run (name_byte fold) (past blank s)) ≡ true = ap (is_name fold) x ∙ name_test n m in
        split (past blank s)
        (λ q. clash k (no_name (past blank s) (ap (span (name_byte fold)) q ∙ span_nil (name_byte fold))))
        (λ b t q.
        let good : all_names fold (words_of s) ≡ true =
        words_sound fold law s b t q k ∙ ap (λ (v : Bytes). all_names fold (words_of v)) y ∙ ap (all_names fold) w ∙ a in (
          words_more fold law s b t q good ∙ ap₂ (λ (v : Bytes) (vs : List Bytes). v ∷ vs) x (ap words_of y ∙ w),
          names_yes fold n ns (name_test n m) ∙ a,
        ))

    -- a body has those words, and they are names
    pub body_words_lem : (ns : List Bytes) (s : Bytes) → Body fold s ns → (words_of s ≡ ns) × (all_names fold ns ≡ true)
    unfolding Body
    body_words_lem [] s b = (words_none s (blanks_past s b), names_nil fold)
    body_words_lem (n ∷ ns) s (front, rest, e, f, m, d, b) = body_more s front n rest ns e f m d (body_words_lem ns rest b)

    -- words that are names are parted: what follows a run of name bytes is nothing, or a blank
    pub stop_parted : (r : Bytes) → span (name_byte fold) r ≡ zero → all_names fold (words_of r) ≡ true → Parted r
    stop_parted [] z a = inl refl
    stop_parted (b ∷ t) z a =
        either (blank b) (λ q. inr (b, t, refl, q))
        (λ q.
        let u : past blank (b ∷ t) ≡ b ∷ t = past_no blank b t q in
        clash a (words_fault_lem fold law (b ∷ t) b t u (ap (λ (v : Bytes). is_name fold (run (name_byte fold) v)) u ∙ no_name (b ∷ t) z)))

    -- words that are names are a body
    pub words_body : (ws : List Bytes) (s : Bytes) → words_of s ≡ ws → all_names fold ws ≡ true → Body fold s ws
    unfolding Body
    words_body [] s e a =
        split (past blank s) (λ q. past_all blank s q)
        (λ b t q.
        let m = words_more fold law s b t q (ap (all_names fold) e ∙ a) in
        let o : ◌≡◌ {A = ℕ} 0 1 = cc in absurd (omega arith))
    words_body (w ∷ ws) s e a =
        split (past blank s) (λ q. let o : ◌≡◌ {A = ℕ} 0 1 = cc (words_none s q) in absurd (omega arith))
        (λ b t q.
        let m = words_more fold law s b t q (ap (all_names fold) e ∙ a) in
        let x : run (name_byte fold) (past blank s) ≡ w = cc in
        let y : words_of (past (name_byte fold) (past blank s)) ≡ ws = cc in
        let n : is_name fold w ≡ true = names_head fold w ws a in
        let r : all_names fold ws ≡ true = sym (names_yes fold w ws n) ∙ a in (
          run blank s,
          past (name_byte fold) (past blank s),
          sym (run_past blank s) ∙ ap (λ (v : Bytes). run blank s ++ v) (sym (run_past (name_byte fold) (past blank s))
              ∙ ap (λ (v : Bytes). v ++ past (name_byte fold) (past blank s)) x),
          all_run blank s,
          test_name fold w n,
          stop_parted (past (name_byte fold) (past blank s)) (span_past_run (name_byte fold) (past blank s)) (ap (all_names fold) y ∙ r),
          words_body ws (past (name_byte fold) (past blank s)) y r,
        ))
