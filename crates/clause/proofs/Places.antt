-- Scans at a place of a text, where the line there has its end: they stay in the line.
-- Assumes nothing.
use mathlib.Core.Path.{◌≡◌, refl, sym, ap, ◌∙◌, subst}
use mathlib.Core.Bool.{Bool, true, false}
use mathlib.Core.List.{[], ◌∷◌, ◌++◌}
use Prim.Native.Nat.{ℕ, suc, ◌+◌, ◌<◌}
use native.Mathlib.Omega.{arith}
use lib.Dec.{eqb}
use lib.ListN.{length, take, drop, length-append, length-drop}
use lib.Seq.{drop-drop, take_at}
use borrow.Author.Tests.{eqb-true, eq-eqb}
use Rattle.sets.proofs.Logic.{clash}
use Rattle.grammar.specs.Bytes.{Bytes, not_end, all_of, line_end}
use Rattle.grammar.specs.Lines.{span, run, past, starts}
use Rattle.grammar.proofs.Spans.{span_le, run_size, run_before, past_before, span_end, past_line_lem, all_tail}
use Rattle.grammar.proofs.Words.{starts_before}
use Rattle.grammar.proofs.Bodies.{split}
use Rattle.scan.specs.Places.{past_at}
use Rattle.clause.specs.Line.{Begins, LineEnds, line_at}

-- a first byte is the one that is seen
pub starts_eq : (x : ℕ) (r : Bytes) → starts x r ≡ true → (u : Bytes) × (r ≡ x ∷ u)
unfolding starts
starts_eq x [] e = clash e refl
starts_eq x (b ∷ u) e = (u, ap (λ (y : ℕ). y ∷ u) (eqb-true b x e))

-- what r begins with
module _ (r s rest : Bytes) (k : Begins r s rest) where
  -- the line is the run up to the line end
  line_is : run not_end r ≡ s
  line_is =
      ap (λ (x : Bytes). take (span not_end x) x) k.shape ∙ ap (λ (n : ℕ). take n (s ++ (line_end ∷ rest))) (span_end s rest k.unbroken)
      ∙ take_at s (line_end ∷ rest) (length s) refl

  -- a run that the line end stops lies in the line
  run_in_lem : (p : ℕ → Bool) → p line_end ≡ false → run p r ≡ run p s
  run_in_lem p e = ap (run p) k.shape ∙ run_before p s line_end rest e

  past_in : (p : ℕ → Bool) → p line_end ≡ false → Begins (past p r) (past p s) rest
  past_in p e =
      record { shape = ap (past p) k.shape ∙ past_before p s line_end rest e; unbroken = past_line_lem p s k.unbroken }

  -- another byte than the line end is the line's
  starts_in : (x : ℕ) → eqb line_end x ≡ false → starts x r ≡ starts x s
  starts_in x e = ap (starts x) k.shape ∙ starts_before x s line_end rest e

-- the line's end, where nothing is left of the line
end_of : (s rest : Bytes) → all_of not_end s ≡ true → starts line_end (s ++ (line_end ∷ rest)) ≡ true → s ≡ []
unfolding starts all_of not_end
end_of [] rest u e = refl
end_of (b ∷ s) rest u e = clash u (rw e)

-- one byte more of the line
next_of : (r : Bytes) (b : ℕ) (s rest : Bytes) → Begins r (b ∷ s) rest → Begins (drop 1 r) s rest
next_of r b s rest k =
    record { shape = ap (λ (x : Bytes). drop 1 x) k.shape; unbroken = all_tail not_end b s k.unbroken }

module _ (t : Bytes) (i : ℕ) (k : LineEnds t i) where
  abbrev s : Bytes
  s = k.0

  -- what is at the place begins with the line there
  pub here : Begins (drop i t) (line_at t i) k.1
  here = subst (λ (x : Bytes). Begins (drop i t) x k.1) (sym (line_is (drop i t) s k.1 k.2)) k.2

  -- past a run that the line end stops the line goes on
  module _ (p : ℕ → Bool) (e : p line_end ≡ false) where
    past_place : drop (past_at p t i) t ≡ past p (drop i t)
    past_place = sym (drop-drop (span p (drop i t)) i t)

    past_here : Begins (drop (past_at p t i) t) (past p (line_at t i)) k.1
    past_here =
        subst (λ (x : Bytes). Begins x (past p (line_at t i)) k.1) (sym past_place) (past_in (drop i t) (line_at t i) k.1 here p e)

    pub closed_past : LineEnds t (past_at p t i)
    closed_past = (past p (line_at t i), k.1, past_here)

    pub line_past : line_at t (past_at p t i) ≡ past p (line_at t i)
    line_past = line_is (drop (past_at p t i) t) (past p (line_at t i)) k.1 past_here

    -- the run is the line's
    pub run_line : run p (drop i t) ≡ run p (line_at t i)
    run_line = run_in_lem (drop i t) (line_at t i) k.1 here p e

    -- and the line's end stays where it is
    pub end_past : past_at not_end t (past_at p t i) ≡ past_at not_end t i
    end_past =
        omega (
          arith,
          run_size not_end (drop (past_at p t i) t),
          ap length line_past,
          length-drop (span p (line_at t i)) (line_at t i),
          run_size not_end (drop i t),
          run_size p (drop i t),
          ap length run_line,
          run_size p (line_at t i),
          span_le p (line_at t i),
        )

  -- a byte that is seen is the line's
  pub sees_line : (x : ℕ) → eqb line_end x ≡ false → starts x (drop i t) ≡ starts x (line_at t i)
  sees_line x e = starts_in (drop i t) (line_at t i) k.1 here x e

  -- at the line's end nothing is left of it
  pub sees_end : starts line_end (drop i t) ≡ true → line_at t i ≡ []
  sees_end e = end_of (line_at t i) k.1 here.unbroken (ap (starts line_end) (sym here.shape) ∙ e)

  end_seen : line_at t i ≡ [] → starts line_end (drop i t) ≡ true
  unfolding starts
  end_seen e =
      ap (starts line_end) (here.shape ∙ ap (λ (x : Bytes). x ++ (line_end ∷ k.1)) e) ∙ eq-eqb line_end line_end refl

  -- and the place is the line's end
  pub end_here : starts line_end (drop i t) ≡ true → i ≡ past_at not_end t i
  end_here e = omega (arith, run_size not_end (drop i t), ap length (sees_end e))

  -- before it something is
  pub sees_more : {X : Type 0} → starts line_end (drop i t) ≡ false → ((b : ℕ) (u : Bytes) → line_at t i ≡ b ∷ u → X) → X
  sees_more e g = split (line_at t i) (λ q. clash (end_seen q) e) g

  -- one byte on
  module _ (b : ℕ) (u : Bytes) (e : line_at t i ≡ b ∷ u) where
    next_here : Begins (drop (i + 1) t) u k.1
    next_here =
        subst (λ (x : Bytes). Begins x u k.1) (drop-drop 1 i t)
        (next_of (drop i t) b u k.1 (subst (λ (x : Bytes). Begins (drop i t) x k.1) e here))

    pub closed_next : LineEnds t (i + 1)
    closed_next = (u, k.1, next_here)

    pub line_next : line_at t (i + 1) ≡ u
    line_next = line_is (drop (i + 1) t) u k.1 next_here

    pub end_next : past_at not_end t (i + 1) ≡ past_at not_end t i
    end_next =
        omega (arith, run_size not_end (drop (i + 1) t), ap length line_next, run_size not_end (drop i t), ap length e)

  -- the place and the run at it lie in the text
  pub in_text : (p : ℕ → Bool) → p line_end ≡ false → past_at p t i < length t
  in_text p e =
      let n : length (drop (past_at p t i) t) ≡ length (past p (line_at t i)) + suc (length k.1) =
      ap length (past_here p e).shape ∙ length-append (past p (line_at t i)) (line_end ∷ k.1)
      in
      omega (arith, length-drop (past_at p t i) t)
