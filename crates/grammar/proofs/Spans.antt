-- Runs of bytes that pass a test: their length, the run and what follows it, by place and over joins.
-- Assumes nothing.
use mathlib.Core.Path.{◌≡◌, refl, sym, ap, ◌∙◌, subst}
use mathlib.Core.Bool.{Bool, true, false, ◌&&◌}
use mathlib.Core.List.{[], ◌∷◌, ◌++◌}
use Prim.Native.Nat.{ℕ, zero, suc, ◌+◌, ◌≤◌, ◌<◌}
use native.Mathlib.Numerals.{add-one}
use native.Mathlib.Omega.{arith}
use lib.ListN.{length, get_or, take, drop, take-append-drop, drop_of_length-le}
use lib.Seq.{drop-cons, length-take-le, take-append-le, drop-append-le, take-append-add, drop-append-add}
use Rattle.sets.proofs.Logic.{either, and_left, and_right, and_make, pick_true, pick_false}
use Rattle.grammar.specs.Bytes.{Bytes, not_end, all_of, line_end}
use Rattle.grammar.specs.Lines.{span, run, past}

-- no bytes, no run
pub span_nil : (p : ℕ → Bool) → span p [] ≡ zero
unfolding span
span_nil p = refl

-- a byte that passes is one more
pub span_yes : (p : ℕ → Bool) (b : ℕ) (s : Bytes) → p b ≡ true → span p (b ∷ s) ≡ suc (span p s)
unfolding span
span_yes p b s e = pick_true (suc (span p s)) zero e

-- a byte that fails ends the run
pub span_no : (p : ℕ → Bool) (b : ℕ) (s : Bytes) → p b ≡ false → span p (b ∷ s) ≡ zero
unfolding span
span_no p b s e = pick_false (suc (span p s)) zero e

pub run_yes : (p : ℕ → Bool) (b : ℕ) (s : Bytes) → p b ≡ true → run p (b ∷ s) ≡ b ∷ run p s
run_yes p b s e = ap (λ (n : ℕ). take n (b ∷ s)) (span_yes p b s e)

pub run_no : (p : ℕ → Bool) (b : ℕ) (s : Bytes) → p b ≡ false → run p (b ∷ s) ≡ []
run_no p b s e = ap (λ (n : ℕ). take n (b ∷ s)) (span_no p b s e)

pub past_yes : (p : ℕ → Bool) (b : ℕ) (s : Bytes) → p b ≡ true → past p (b ∷ s) ≡ past p s
past_yes p b s e = ap (λ (n : ℕ). drop n (b ∷ s)) (span_yes p b s e)

-- what follows no run is the whole
pub past_no : (p : ℕ → Bool) (b : ℕ) (s : Bytes) → p b ≡ false → past p (b ∷ s) ≡ b ∷ s
past_no p b s e = ap (λ (n : ℕ). drop n (b ∷ s)) (span_no p b s e)

-- a run of no bytes
pub run_none : (p : ℕ → Bool) (s : Bytes) → span p s ≡ zero → run p s ≡ []
run_none p s e = ap (λ (n : ℕ). take n s) e

pub past_none : (p : ℕ → Bool) (s : Bytes) → span p s ≡ zero → past p s ≡ s
past_none p s e = ap (λ (n : ℕ). drop n s) e

-- a run lies in its text
pub span_le : (p : ℕ → Bool) (s : Bytes) → span p s ≤ length s
span_le p [] = omega (arith, span_nil p)
span_le p (b ∷ s) =
    either (p b) (λ e. omega (arith, span_yes p b s e, span_le p s)) (λ e. omega (arith, span_no p b s e))

-- how long a run is
pub run_size : (p : ℕ → Bool) (s : Bytes) → length (run p s) ≡ span p s
run_size p s = length-take-le (span p s) s (span_le p s)

-- a scan at place i: the byte there passes
pub span_on : (p : ℕ → Bool) (t : Bytes) (i : ℕ)
    → i < length t → p (get_or t i 0) ≡ true → span p (drop i t) ≡ suc (span p (drop (i + 1) t))
span_on p t i l e =
    ap (span p) (drop-cons t i 0 l) ∙ span_yes p (get_or t i 0) (drop (suc i) t) e
    ∙ ap (λ (n : ℕ). suc (span p (drop n t))) (sym (add-one i))

-- the byte there fails
pub span_stop : (p : ℕ → Bool) (t : Bytes) (i : ℕ) → i < length t → p (get_or t i 0) ≡ false → span p (drop i t) ≡ 0
span_stop p t i l e = ap (span p) (drop-cons t i 0 l) ∙ span_no p (get_or t i 0) (drop (suc i) t) e

-- there is no byte there
pub span_past : (p : ℕ → Bool) (t : Bytes) (i : ℕ) → length t ≤ i → span p (drop i t) ≡ 0
span_past p t i l = ap (span p) (drop_of_length-le t l) ∙ span_nil p

-- a run ends at the latest before a byte x that fails, as a line end does
pub span_before : (p : ℕ → Bool) (s : Bytes) (x : ℕ) (r : Bytes) → p x ≡ false → span p (s ++ (x ∷ r)) ≡ span p s
span_before p [] x r e = span_no p x r e ∙ sym (span_nil p)
span_before p (b ∷ s) x r e =
    either (p b) (λ q. span_yes p b (s ++ (x ∷ r)) q ∙ ap suc (span_before p s x r e) ∙ sym (span_yes p b s q))
    (λ q. span_no p b (s ++ (x ∷ r)) q ∙ sym (span_no p b s q))

pub run_before : (p : ℕ → Bool) (s : Bytes) (x : ℕ) (r : Bytes) → p x ≡ false → run p (s ++ (x ∷ r)) ≡ run p s
run_before p s x r e =
    ap (λ (n : ℕ). take n (s ++ (x ∷ r))) (span_before p s x r e) ∙ take-append-le (span p s) s (x ∷ r) (span_le p s)

pub past_before : (p : ℕ → Bool) (s : Bytes) (x : ℕ) (r : Bytes) → p x ≡ false → past p (s ++ (x ∷ r)) ≡ past p s ++ (x ∷ r)
past_before p s x r e =
    ap (λ (n : ℕ). drop n (s ++ (x ∷ r))) (span_before p s x r e) ∙ drop-append-le (span p s) s (x ∷ r) (span_le p s)

-- the first byte, and the others
pub all_head : (p : ℕ → Bool) (b : ℕ) (s : Bytes) → all_of p (b ∷ s) ≡ true → p b ≡ true
unfolding all_of
all_head p b s e = and_left (p b) (all_of p s) e

pub all_tail : (p : ℕ → Bool) (b : ℕ) (s : Bytes) → all_of p (b ∷ s) ≡ true → all_of p s ≡ true
unfolding all_of
all_tail p b s e = and_right (p b) (all_of p s) e

pub all_nil : (p : ℕ → Bool) → all_of p [] ≡ true
unfolding all_of
all_nil p = refl

pub all_cons : (p : ℕ → Bool) (b : ℕ) (s : Bytes) → p b ≡ true → all_of p s ≡ true → all_of p (b ∷ s) ≡ true
unfolding all_of
all_cons p b s e f = and_make e f

-- a byte that fails, in front
pub all_no : (p : ℕ → Bool) (b : ℕ) (s : Bytes) → p b ≡ false → all_of p (b ∷ s) ≡ false
unfolding all_of
all_no p b s e = rw e

-- of a join: of both parts
pub all_append : (p : ℕ → Bool) (s t : Bytes) → all_of p (s ++ t) ≡ all_of p s && all_of p t
unfolding all_of
all_append p [] t = refl
all_append p (b ∷ s) t = either (p b) (λ e. rw e (all_append p s t)) (λ e. rw e)

-- two runs that pass, one after the other
pub all_both : (p : ℕ → Bool) (s t : Bytes) → all_of p s ≡ true → all_of p t ≡ true → all_of p (s ++ t) ≡ true
all_both p s t a b = all_append p s t ∙ and_make a b

-- bytes that pass one test pass a wider one
pub all_wider : (p q : ℕ → Bool) → ((b : ℕ) → p b ≡ true → q b ≡ true) → (s : Bytes) → all_of p s ≡ true → all_of q s ≡ true
all_wider p q h [] e = all_nil q
all_wider p q h (b ∷ s) e = all_cons q b s (h b (all_head p b s e)) (all_wider p q h s (all_tail p b s e))

-- of a part
pub all_drop : (p : ℕ → Bool) (n : ℕ) (s : Bytes) → all_of p s ≡ true → all_of p (drop n s) ≡ true
all_drop p zero s e = e
all_drop p (suc n) [] e = e
all_drop p (suc n) (b ∷ s) e = all_drop p n s (all_tail p b s e)

-- what follows a run in a line has no line end
pub past_line_lem : (p : ℕ → Bool) (s : Bytes) → all_of not_end s ≡ true → all_of not_end (past p s) ≡ true
past_line_lem p s e = all_drop not_end (span p s) s e

-- the bytes of a run pass
pub all_run : (p : ℕ → Bool) (s : Bytes) → all_of p (run p s) ≡ true
all_run p [] = ap (λ (n : ℕ). all_of p (take n [])) (span_nil p) ∙ all_nil p
all_run p (b ∷ s) =
    either (p b) (λ e. ap (all_of p) (run_yes p b s e) ∙ all_cons p b (run p s) e (all_run p s))
    (λ e. ap (all_of p) (run_no p b s e) ∙ all_nil p)

-- the run and what follows it are the whole
pub run_past : (p : ℕ → Bool) (s : Bytes) → run p s ++ past p s ≡ s
run_past p s = take-append-drop (span p s) s

-- what follows a run starts no run
pub span_past_run : (p : ℕ → Bool) (s : Bytes) → span p (past p s) ≡ zero
span_past_run p [] = ap (λ (n : ℕ). span p (drop n [])) (span_nil p) ∙ span_nil p
span_past_run p (b ∷ s) =
    either (p b) (λ e. ap (span p) (past_yes p b s e) ∙ span_past_run p s)
    (λ e. ap (span p) (past_no p b s e) ∙ span_no p b s e)

pub past_past : (p : ℕ → Bool) (s : Bytes) → past p (past p s) ≡ past p s
past_past p s = past_none p (past p s) (span_past_run p s)

-- where no run starts, the first byte fails
pub head_fails : (p : ℕ → Bool) (b : ℕ) (t : Bytes) → span p (b ∷ t) ≡ zero → p b ≡ false
head_fails p b t z =
    either (p b) (λ e. let q : ◌≡◌ {A = ℕ} 0 1 = omega (arith, span_yes p b t e) in absurd (omega arith)) (λ e. e)

-- the byte behind a run fails
pub past_head : (p : ℕ → Bool) (s : Bytes) (b : ℕ) (t : Bytes) → past p s ≡ b ∷ t → p b ≡ false
past_head p s b t e = head_fails p b t (subst (λ (u : Bytes). span p u ≡ zero) e (span_past_run p s))

-- a run goes on over bytes that pass
pub span_over : (p : ℕ → Bool) (s t : Bytes) → all_of p s ≡ true → span p (s ++ t) ≡ length s + span p t
span_over p [] t e = omega arith
span_over p (b ∷ s) t e =
    omega (arith, span_yes p b (s ++ t) (all_head p b s e), span_over p s t (all_tail p b s e))

pub run_over : (p : ℕ → Bool) (s t : Bytes) → all_of p s ≡ true → run p (s ++ t) ≡ s ++ run p t
run_over p s t e = ap (λ (n : ℕ). take n (s ++ t)) (span_over p s t e) ∙ take-append-add s t (span p t)

pub past_over : (p : ℕ → Bool) (s t : Bytes) → all_of p s ≡ true → past p (s ++ t) ≡ past p t
past_over p s t e = ap (λ (n : ℕ). drop n (s ++ t)) (span_over p s t e) ∙ drop-append-add s t (span p t)

-- where every byte passes, the run is the whole
pub span_all : (p : ℕ → Bool) (s : Bytes) → all_of p s ≡ true → span p s ≡ length s
span_all p [] e = span_nil p
span_all p (b ∷ s) e = span_yes p b s (all_head p b s e) ∙ ap suc (span_all p s (all_tail p b s e))

-- where the run is the whole, every byte passes
pub past_all : (p : ℕ → Bool) (s : Bytes) → past p s ≡ [] → all_of p s ≡ true
past_all p [] e = all_nil p
past_all p (b ∷ s) e =
    either (p b) (λ q. all_cons p b s q (past_all p s (sym (past_yes p b s q) ∙ e)))
    (λ q. let z : ◌≡◌ {A = ℕ} 1 0 = cc (past_no p b s q) in absurd (omega arith))

-- a line end is the one byte that ends no line
pub end_ends : not_end line_end ≡ false
unfolding not_end
end_ends = refl

-- the first line's end
pub span_end : (s r : Bytes) → all_of not_end s ≡ true → span not_end (s ++ (line_end ∷ r)) ≡ length s
span_end s r e = span_before not_end s line_end r end_ends ∙ span_all not_end s e
