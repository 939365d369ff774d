-- Cutting a text at its line ends, and joining lines with theirs.
-- Assumes nothing.
use mathlib.Core.Path.{◌≡◌, refl, sym, ap, ap₂, ◌∙◌, subst}
use mathlib.Core.Logic.{◌⊎◌, inl, inr}
use mathlib.Core.Bool.{true, false}
use mathlib.Core.List.{List, [], ◌∷◌, ◌++◌, append_assoc}
use Prim.Native.Nat.{ℕ, zero, suc, ◌+◌, ◌<◌}
use native.Mathlib.Numerals.{add-one}
use native.Mathlib.Omega.{arith}
use lib.Dec.{eqb}
use borrow.Author.Tests.{eqb-true, eq-eqb, not-false}
use lib.ListN.{length, get_or, drop, length-append}
use lib.Seq.{drop-cons, drop-nil}
use Rattle.sets.proofs.Logic.{either, clash, of_not, pick_true, pick_false}
use Rattle.grammar.specs.Bytes.{Bytes, not_end, all_of, line_end}
use Rattle.grammar.specs.Grammar.{joined, Unbroken, Ended}
use Rattle.grammar.specs.Lines.{span, run, past, grown, lines}
use Rattle.grammar.proofs.Spans.{span_le, span_before, all_head, all_tail, all_nil, all_cons, all_run, run_past, past_head, end_ends}

-- a byte that is no line end, by the test
open_byte : (b : ℕ) → not_end b ≡ true → eqb b line_end ≡ false
unfolding not_end
open_byte b e = of_not (eqb b line_end) e

-- and one that is
end_byte : (b : ℕ) → not_end b ≡ false → b ≡ line_end
unfolding not_end
end_byte b e = eqb-true b line_end (not-false (eqb b line_end) e)

lines_nil : lines [] ≡ []
unfolding lines
lines_nil = refl

-- a line end in front: an empty line
lines_end : (b : ℕ) (s : Bytes) → not_end b ≡ false → lines (b ∷ s) ≡ [] ∷ lines s
unfolding lines
lines_end b s e = pick_true ([] ∷ lines s) (grown b (lines s)) (eq-eqb b line_end (end_byte b e))

-- another byte in front: the first line is longer by it
lines_byte : (b : ℕ) (s : Bytes) → not_end b ≡ true → lines (b ∷ s) ≡ grown b (lines s)
unfolding lines
lines_byte b s e = pick_false ([] ∷ lines s) (grown b (lines s)) (open_byte b e)

-- the lines of a line, its end and more
pub lines_line : (s r : Bytes) → all_of not_end s ≡ true → lines (s ++ (line_end ∷ r)) ≡ s ∷ lines r
unfolding grown
lines_line [] r e = lines_end line_end r end_ends
lines_line (b ∷ s) r e =
    lines_byte b (s ++ (line_end ∷ r)) (all_head not_end b s e) ∙ ap (grown b) (lines_line s r (all_tail not_end b s e))

-- joined lines are cut into those lines
pub lines_joined : (ls : List Bytes) → Unbroken ls → lines (joined ls) ≡ ls
unfolding joined Unbroken
lines_joined [] u = lines_nil
lines_joined (s ∷ ls) u = lines_line s (joined ls) u.0 ∙ ap (λ (x : List Bytes). s ∷ x) (lines_joined ls u.1)

-- no line holds a line end: one byte more
unbroken_grown : (b : ℕ) (ls : List Bytes) → not_end b ≡ true → Unbroken ls → Unbroken (grown b ls)
unfolding grown Unbroken
unbroken_grown b [] e u = (all_cons not_end b [] e (all_nil not_end), tt)
unbroken_grown b (l ∷ ls) e u = (all_cons not_end b l e u.0, u.1)

unbroken_empty : (ls : List Bytes) → Unbroken ls → Unbroken ([] ∷ ls)
unfolding Unbroken
unbroken_empty ls u = (all_nil not_end, u)

-- no line of a cut text holds a line end
pub unbroken_lines : (r : Bytes) → Unbroken (lines r)
unfolding Unbroken
unbroken_lines [] = rw lines_nil tt
unbroken_lines (b ∷ s) =
    either (not_end b)
    (λ e. subst Unbroken (sym (lines_byte b s e)) (unbroken_grown b (lines s) e (unbroken_lines s)))
    (λ e. subst Unbroken (sym (lines_end b s e)) (unbroken_empty (lines s) (unbroken_lines s)))

-- empty, or the last byte is a line end
abbrev pub Closed : Bytes → Type 0
Closed r = (r ≡ []) ⊎ Ended r

-- what is left of a text that ends in a line end
drop_closed : (n : ℕ) (s : Bytes) → Closed (drop n (s ++ (line_end ∷ [])))
drop_closed zero s = inr (s, refl)
drop_closed (suc n) [] = inl (drop-nil n)
drop_closed (suc n) (b ∷ s) = drop_closed n s

-- is closed again
pub ended_drop : (n : ℕ) (r : Bytes) → Ended r → Closed (drop n r)
ended_drop n r e = subst (λ (x : Bytes). Closed (drop n x)) (sym e.1) (drop_closed n e.0)

-- joined lines are closed
pub joined_ended : (s : Bytes) (ls : List Bytes) → Ended (joined (s ∷ ls))
unfolding joined
joined_ended s [] = (s, refl)
joined_ended s (l ∷ ls) =
    let h : Ended (joined (l ∷ ls)) = joined_ended l ls in
    (s ++ (line_end ∷ h.0), ap (λ (x : Bytes). s ++ (line_end ∷ x)) h.1 ∙ sym (append_assoc s (line_end ∷ h.0) (line_end ∷ [])))

pub joined_closed : (ls : List Bytes) → Closed (joined ls)
unfolding joined
joined_closed [] = inl refl
joined_closed (s ∷ ls) = inr (joined_ended s ls)

-- a byte that is no line end does not end a text
ended_more : (b : ℕ) (s : Bytes) → not_end b ≡ true → Closed (b ∷ s) → s ≡ [] → ⊥
ended_more b s e (inl q) z = let o : ◌≡◌ {A = ℕ} 0 1 = cc in omega arith
ended_more b s e (inr (u, q)) z = more u q
  where
    more : (u : Bytes) → b ∷ s ≡ u ++ (line_end ∷ []) → ⊥
    more [] q = clash e (ap not_end (ap (λ (l : Bytes). get_or l 0 0) q) ∙ end_ends)
    more (c ∷ []) q = let o : ◌≡◌ {A = ℕ} 0 1 = cc in omega arith
    more (c ∷ d ∷ u) q = let o : ◌≡◌ {A = ℕ} 0 1 = cc in omega arith

grown_some : (b : ℕ) (ls : List Bytes) → grown b ls ≡ [] → ⊥
unfolding grown
grown_some b [] e = let o : ◌≡◌ {A = ℕ} 0 1 = cc in omega arith
grown_some b (l ∷ ls) e = let o : ◌≡◌ {A = ℕ} 0 1 = cc in omega arith

-- a text with bytes has lines
lines_some : (s : Bytes) → (s ≡ [] → ⊥) → lines s ≡ [] → ⊥
lines_some [] n e = n refl
lines_some (b ∷ s) n e =
    either (not_end b) (λ q. grown_some b (lines s) (sym (lines_byte b s q) ∙ e))
    (λ q. let o : ◌≡◌ {A = ℕ} 0 1 = cc (lines_end b s q) in omega arith)

-- joining lines that are longer by a byte
joined_grown : (b : ℕ) (ls : List Bytes) → (ls ≡ [] → ⊥) → joined (grown b ls) ≡ b ∷ joined ls
unfolding joined grown
joined_grown b [] n = absurd (n refl)
joined_grown b (l ∷ ls) n = refl

joined_nil : joined [] ≡ []
unfolding joined
joined_nil = refl

joined_empty : (ls : List Bytes) → joined ([] ∷ ls) ≡ line_end ∷ joined ls
unfolding joined
joined_empty ls = refl

closed_tail : (b : ℕ) (s : Bytes) → Closed (b ∷ s) → Closed s
closed_tail b s (inl q) = let o : ◌≡◌ {A = ℕ} 0 1 = cc in absurd (omega arith)
closed_tail b s (inr e) = ended_drop 1 (b ∷ s) e

-- a closed text is its lines, joined
pub joined_lines : (r : Bytes) → Closed r → joined (lines r) ≡ r
joined_lines [] c = ap joined lines_nil ∙ joined_nil
joined_lines (b ∷ s) c =
    let h : joined (lines s) ≡ s = joined_lines s (closed_tail b s c) in
    either (not_end b)
    (λ e. ap joined (lines_byte b s e) ∙ joined_grown b (lines s) (lines_some s (ended_more b s e c)) ∙ ap (λ (x : Bytes). b ∷ x) h)
    (λ e. ap joined (lines_end b s e) ∙ joined_empty (lines s) ∙ ap₂ (λ (x : ℕ) (y : Bytes). x ∷ y) (sym (end_byte b e)) h)

module _ (r : Bytes) (e : Ended r) where
  -- the first line of a text that ends in a line end has its end in the text
  pub line_within : span not_end r < length r
  line_within =
      let q : length r ≡ length e.0 + 1 = ap length e.1 ∙ length-append e.0 (line_end ∷ []) in
      let z : span not_end r ≡ span not_end e.0 = ap (span not_end) e.1 ∙ span_before not_end e.0 line_end [] end_ends in
      omega (arith, q, z, span_le not_end e.0)

  -- which stands behind it
  pub line_end_lem : past not_end r ≡ line_end ∷ drop (span not_end r + 1) r
  line_end_lem =
      let n : ℕ = span not_end r in
      let d : past not_end r ≡ get_or r n 0 ∷ drop (suc n) r = drop-cons r n 0 line_within in
      d
      ∙ ap₂ (λ (x k : ℕ). x ∷ drop k r) (end_byte (get_or r n 0) (past_head not_end r (get_or r n 0) (drop (suc n) r) d)) (sym (add-one n))

  -- the lines are that line and those of the rest
  pub line_next : lines r ≡ run not_end r ∷ lines (drop (span not_end r + 1) r)
  line_next =
      ap lines (sym (run_past not_end r) ∙ ap (λ (x : Bytes). run not_end r ++ x) line_end_lem)
      ∙ lines_line (run not_end r) (drop (span not_end r + 1) r) (all_run not_end r)

  -- and the rest is closed again
  pub line_rest : Closed (drop (span not_end r + 1) r)
  line_rest = ended_drop (span not_end r + 1) r e

-- a closed text with bytes ends in a line end
pub closed_some : (r : Bytes) → Closed r → 0 < length r → Ended r
closed_some r (inl q) l = absurd (omega (arith, ap length q))
closed_some r (inr e) l = e
