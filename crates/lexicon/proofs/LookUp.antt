-- The name in a name's row, as far as its first zero, and the part that the look-up hands back.
-- Assumes nothing.
use mathlib.Core.Path.{◌≡◌, sym, ap, ap₂, ◌∙◌}
use mathlib.Core.Bool.{Bool, true, false, not, ◌&&◌, and-false}
use mathlib.Core.List.{[], ◌∷◌}
use Prim.Native.Nat.{ℕ, ◌+◌, ◌-◌, ◌*◌, ◌<◌, ◌≤◌}
use native.Mathlib.Omega.{arith}
use lib.Dec.{eqb, leb, ltb}
use lib.ListN.{length, take, drop}
use borrow.Author.Tests.{le-ltb, lt-leb, lt-ltb, le-leb}
use Rattle.std.specs.Prelude.{take_while}
use Rattle.std.specs.List.{prefix_len}
use Rattle.std.proofs.lemmas.List.Folds.{length-prefix_len}
use Rattle.limits.specs.Book.{names, name_bytes, name_area}
use Rattle.sets.proofs.Logic.{either, and_make, pick_true, pick_false}
use Rattle.areas.specs.Area.{part}
use Rattle.grammar.specs.Bytes.{Bytes}
use Rattle.grammar.specs.Lines.{span, run}
use Rattle.grammar.proofs.Spans.{span_nil, span_yes, span_no}
use Rattle.tables.specs.Areas.{nonzero, name_at, look_up}
use Rattle.lexicon.specs.Place.{look_up_at}

-- what belongs to a name in its row
abbrev filled : ℕ → Bool
filled b = not (eqb b 0)

-- a name goes as far as its row's first zero
span_prefix : (s : Bytes) → prefix_len filled s ≡ span nonzero s
unfolding nonzero
span_prefix [] = sym (span_nil nonzero)
span_prefix (b ∷ s) =
    either (filled b) (λ e. rw e (sym (span_yes nonzero b s e ∙ omega (arith, span_prefix s)))) (λ e. rw e (sym (span_no nonzero b s e)))

-- so they are the row's run of bytes that are not zero
pub name_run : (row : Bytes) → take_while filled row ≡ run nonzero row
name_run row = ap (λ (i : ℕ). take i row) (span_prefix row)

-- as many bytes from the front as a name has are the name
pub name_front : (row : Bytes) (len : ℕ) → len ≡ length (take_while filled row) → take len row ≡ take_while filled row
name_front row len e = ap (λ (i : ℕ). take i row) (e ∙ length-prefix_len filled row)

module _ (area : Bytes) (n a : ℕ) where
  -- the test of the look-up
  abbrev known : Bool
  known = ltb a n && (leb n names && leb name_area (length area))

  none : known ≡ false → [] ≡ look_up area n a
  unfolding look_up
  none e = sym (pick_false (name_at area a) [] e)

  start : known ≡ false → look_up_at area n a ≡ 0
  unfolding look_up_at
  start e = pick_false _ _ e

  short : length area < name_area → known ≡ false
  short l = rw (lt-leb name_area (length area) l, and-false (leb n names), and-false (ltb a n))

  many : names < n → known ≡ false
  many l = rw (lt-leb n names l, and-false (ltb a n))

  high : n ≤ a → known ≡ false
  high l = rw (le-ltb a n l)

  -- where it fails, the part is empty
  pub none_short : length area < name_area → [] ≡ look_up area n a
  none_short l = none (short l)

  pub none_many : names < n → [] ≡ look_up area n a
  none_many l = none (many l)

  pub none_high : n ≤ a → [] ≡ look_up area n a
  none_high l = none (high l)

  -- and at the area's start
  pub start_short : length area < name_area → look_up_at area n a ≡ 0
  start_short l = start (short l)

  pub start_many : names < n → look_up_at area n a ≡ 0
  start_many l = start (many l)

  pub start_high : n ≤ a → look_up_at area n a ≡ 0
  start_high l = start (high l)

  -- where it passes, the part is the name, at the name's row
  passes : a < n → n ≤ names → name_area ≤ length area → known ≡ true
  passes l m r = and_make (lt-ltb a n l) (and_make (le-leb n names m) (le-leb name_area (length area) r))

  pub hands : (at : ℕ) (r : Bytes) → at ≡ a * name_bytes → a < n → n ≤ names → name_area ≤ length area
      → r ≡ take_while filled (take (at + name_bytes - at) (drop at area)) → r ≡ look_up area n a
  unfolding look_up name_at
  hands at r q l m k e =
      let w : at + name_bytes - at ≡ name_bytes = omega arith in
      let p : take (at + name_bytes - at) (drop at area) ≡ part (a * name_bytes) name_bytes area = ap₂ (λ (i j : ℕ). take i (drop j area)) w q in
      e ∙ ap (take_while filled) p ∙ name_run (part (a * name_bytes) name_bytes area) ∙ sym (pick_true (name_at area a) [] (passes l m k))

  pub at_row : a < n → n ≤ names → name_area ≤ length area → look_up_at area n a ≡ a * name_bytes
  unfolding look_up_at
  at_row l m r = pick_true (a * name_bytes) 0 (passes l m r)

-- what proves that a name is taken from its row, and the look-up
pub ruleset looks = (hands, at_row, none_short, none_many, none_high, start_short, start_many, start_high)
