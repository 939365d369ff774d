-- Scans by place in a text: what is left to do equals what there was to do.
-- Assumes nothing.
use mathlib.Core.Path.{◌≡◌, sym, ap, ap₂, ◌∙◌}
use mathlib.Core.Bool.{Bool, true, false}
use mathlib.Core.List.{◌∷◌}
use Prim.Native.Nat.{ℕ, ◌+◌, ◌<◌, ◌≤◌, max}
use native.Mathlib.Omega.{arith}
use native.Mathlib.Numerals.{add-one}
use lib.Dec.{eqb, leb}
use lib.ListN.{length, get_or, take, drop, drop_of_length-le}
use lib.Seq.{drop-cons}
use borrow.Author.Tests.{leb-true, leb-false}
use denote.Ref.{Bor}
use Rattle.std.specs.Option.{MatchOption, option_map, option_eq, unwrap_or}
use Rattle.std.proofs.Common.{Option, None, Some}
use Rattle.sets.proofs.Logic.{either}
use Rattle.grammar.specs.Bytes.{Bytes}
use Rattle.grammar.specs.Lines.{span, run, starts}
use Rattle.grammar.proofs.Spans.{span_on, span_stop, span_past}
use Rattle.scan.specs.Places.{past_at}
use Rattle.scan.specs.declared.cursor.Cursor.{Cursor}
use Rattle.scan.proofs.Steps.{set_to}

-- whether what a place has, the byte there or none past the end, is b
pub sees_get : (t : Bytes) (i : ℕ) (b : Bor ℕ) (C : Bor ℕ → Type 0) (r : Option (Bor ℕ)) → MatchOption r (length t ≤ i) (λ x. (i < length t) × C x)
    → unwrap_or (option_map (λ x. x.now) r) 0 ≡ get_or t i 0 → option_eq (λ x y. eqb x.now y.now) r (Some b) ≡ starts b.now (drop i t)
unfolding starts
sees_get t i b C None l e = sym (ap (starts b.now) (drop_of_length-le t l))
sees_get t i b C (Some x) l e = ap (λ (n : ℕ). eqb n b.now) e ∙ sym (ap (starts b.now) (drop-cons t i 0 l.0))

module _ (p : ℕ → Bool) (t : Bytes) (i : ℕ) where
  -- a byte that passes is the first of the run
  pub run_on : i < length t → p (get_or t i 0) ≡ true → run p (drop i t) ≡ get_or t i 0 ∷ run p (drop (i + 1) t)
  run_on l h =
      ap₂ take (span_on p t i l h) (drop-cons t i 0 l ∙ ap (λ (n : ℕ). get_or t i 0 ∷ drop n t) (sym (add-one i)))

  -- a scan goes on over it
  pub on : (e : ℕ) → i < length t → p (get_or t i 0) ≡ true → i + span p (drop i t) ≡ e → i + 1 + span p (drop (i + 1) t) ≡ e
  on e l h q = let s = span_on p t i l h in omega arith

-- A scan that began at the cursor stands at place j: where it would end from there, it ends.
module _ (p : ℕ → Bool) (t : Bytes) (from : Cursor) (j : ℕ) (so : j + span p (drop j t) ≡ from.at + span p (drop from.at t)) where
  -- at a byte that does not pass it is done
  pub stopped : j < length t → p (get_or t j 0) ≡ false → {here : Cursor} → here ≡ record { at = j; line = from.line }
      → here ≡ record { at = past_at p t from.at; line = from.line }
  stopped l h e =
      let s : span p (drop j t) ≡ 0 = span_stop p t j l h in
      let done : j ≡ past_at p t from.at = omega arith in
      e ∙ set_to from.line _ _ done

  -- and past the text, at its end or where it began
  past_end : (from.at ≤ length t → j ≤ length t) → from.at ≤ j → length t ≤ j → max from.at (length t) ≡ past_at p t from.at
  past_end high low l =
      let s : span p (drop j t) ≡ 0 = span_past p t j l in
      either (leb from.at (length t)) (λ e. let k : j ≤ length t = high (leb-true from.at (length t) e) in omega arith)
      (λ e.
      let k : length t < from.at = leb-false from.at (length t) e in
      let n : span p (drop from.at t) ≡ 0 = span_past p t from.at (omega arith) in
      omega arith)

  pub ran_out : (from.at ≤ length t → j ≤ length t) → from.at ≤ j → length t ≤ j → {m : ℕ} → m ≡ max from.at (length t)
      → {here : Cursor} → here ≡ record { at = m; line = from.line } → here ≡ record { at = past_at p t from.at; line = from.line }
  ran_out high low l q e = e ∙ set_to from.line _ _ (q ∙ past_end high low l)
