-- Rows that keep an atom count, for any width: a row below the count by its first atom at or past it, the rows past it as one long row.
-- Assumes nothing.
use mathlib.Core.Path.{◌≡◌, refl, sym, ap, ap₂, ◌∙◌}
use mathlib.Core.List.{List}
use mathlib.Core.Bool.{Bool, true, false, not, ◌&&◌, ◌||◌, or_comm, or-false}
use Prim.Native.Nat.{ℕ, zero, suc, ◌+◌, ◌-◌, ◌*◌, ◌/◌, ◌%◌, ◌≤◌, ◌<◌}
use native.Mathlib.Nat.{mul_assoc, add-mul, suc-mul, mul-le-mul_right}
use native.Mathlib.Omega.{arith}
use lib.Dec.{leb, ltb}
use lib.ListN.{length, get_or}
use borrow.Author.Tests.{lt-ltb, le-ltb, leb-true, le-leb, lt-leb}
use Rattle.limits.specs.Book.{atoms, word_bits, row_words, row_area}
use Rattle.sets.specs.Set.{Set, every, exists, within}
use Rattle.sets.proofs.Logic.{and_left, and_right}
use Rattle.sets.proofs.Tests.{every_same, exists_same, not_exists}
use Rattle.sets.proofs.Ranges.{every_add, exists_add}
use Rattle.areas.specs.Area.{part}
use Rattle.areas.proofs.Parts.{length_part}
use Rattle.words.specs.Row.{bit, row}
use Rattle.words.proofs.Rows.{row_part}
use Rattle.systems.specs.Rows.{row_in, formed_rows}
use Rattle.systems.specs.Fold.{formed_all}

-- some number below n * k, by runs of k
exists_runs : (n k : ℕ) (f : Set) → exists (n * k) f ≡ exists n (λ i. exists k (λ a. f (i * k + a)))
unfolding exists
exists_runs zero k f = ap (λ (x : ℕ). exists x f) (none k)
  where
    none : (k : ℕ) → 0 * k ≡ 0
    none k = omega arith
exists_runs (suc n) k f =
    let e : suc n * k ≡ n * k + k = omega arith in
    ap (λ (x : ℕ). exists x f) e ∙ exists_add (n * k) k f
    ∙ or_comm (exists (n * k) f) (exists k (λ a. f (n * k + a)))
    ∙ ap (λ (b : Bool). exists k (λ a. f (n * k + a)) || b) (exists_runs n k f)

-- rows of w words, under the count m
module _ (w m : ℕ) (area : List ℕ) where
  -- row i has no bit at or past the count, and where i is itself at or past it no bit at all
  abbrev pub kept : Set
  kept i = within (w * word_bits) (row_in w area i) (λ k. ltb i m && ltb k m)

  -- below the count the row's own number plays no part
  kept_low : (i : ℕ) → i < m → kept i ≡ within (w * word_bits) (row_in w area i) (λ k. ltb k m)
  kept_low i l = ap (λ (b : Bool). within (w * word_bits) (row_in w area i) (λ k. b && ltb k m)) (lt-ltb i m l)

  -- past it, the row is to be empty
  kept_high : (i : ℕ) → m ≤ i → kept i ≡ not (exists (w * word_bits) (row_in w area i))
  unfolding within
  kept_high i l =
      ap (λ (b : Bool). within (w * word_bits) (row_in w area i) (λ k. b && ltb k m)) (le-ltb i m l)
      ∙ every_same (w * word_bits) (λ k. not (row_in w area i k) || false) (λ k. not (row_in w area i k)) (λ k h. or-false _)
      ∙ sym (not_exists (w * word_bits) (row_in w area i))

  -- bit a of row m + i is bit a of run i in the long row from row m on
  same_bit : (n i a : ℕ) → i < n → a < w * word_bits
      → row (part (m * w) (n * w) area) (i * (w * word_bits) + a) ≡ row_in w area (m + i) a
  same_bit n i a l h =
      let at : i * (w * word_bits) ≡ i * w * word_bits = omega arith in
      let up : i * w + w ≤ n * w = omega (arith, mul-le-mul_right w l, suc-mul i w) in
      let ok : i * (w * word_bits) + a < n * w * word_bits = omega arith in
      let d : m * w + (i * (w * word_bits) + a) / word_bits ≡ (m + i) * w + a / word_bits = omega (arith, add-mul m i w) in
      let r : (i * (w * word_bits) + a) % word_bits ≡ a % word_bits = omega arith in
      row_part (m * w) (n * w) area (i * (w * word_bits) + a) ok
      ∙ ap₂ (λ (x y : ℕ). bit (get_or area x 0) y) d r
      ∙ sym (row_part ((m + i) * w) w area a h)

  -- the long row is empty exactly where each of its n rows is
  long_row : (n : ℕ) → not (exists (n * w * word_bits) (row (part (m * w) (n * w) area))) ≡ every n (λ i. kept (m + i))
  long_row n =
      ap (λ (k : ℕ). not (exists k (row (part (m * w) (n * w) area)))) (mul_assoc n w word_bits)
      ∙ ap not (exists_runs n (w * word_bits) (row (part (m * w) (n * w) area)))
      ∙ not_exists n (λ i. exists (w * word_bits) (λ a. row (part (m * w) (n * w) area) (i * (w * word_bits) + a)))
      ∙ every_same n _ (λ i. kept (m + i))
      (λ i l.
      ap not
      (exists_same (w * word_bits) (λ a. row (part (m * w) (n * w) area) (i * (w * word_bits) + a)) (row_in w area (m + i))
      (λ a h. same_bit n i a l h))
      ∙ sym (kept_high (m + i) (omega arith)))

  -- n rows, those below the count each for itself, and those past them as one long row
  rows_split : (n : ℕ) → m ≤ n
      → formed_rows w n m area
      ≡ every m (λ i. within (w * word_bits) (row_in w area i) (λ k. ltb k m))
      && not (exists ((n * w - m * w) * word_bits) (row (part (m * w) (n * w - m * w) area)))
  unfolding formed_rows
  rows_split n l =
      let k : ℕ = n - m in
      let total : n ≡ m + k = omega arith in
      let len : k * w ≡ n * w - m * w = omega (arith, add-mul m k w, ap (λ (j : ℕ). j * w) total) in
      ap (λ (j : ℕ). every j kept) total
      ∙ every_add m k kept
      ∙ ap₂ ◌&&◌ (every_same m kept (λ i. within (w * word_bits) (row_in w area i) (λ k. ltb k m)) (λ i h. kept_low i h))
      (sym (long_row k) ∙ ap (λ (j : ℕ). not (exists (j * word_bits) (row (part (m * w) j area)))) len)

-- The count and the rows together.

module _ (all : List ℕ) (m : ℕ) where
  -- a count over its limit settles it
  pub count_over : atoms < m → false ≡ formed_all all m
  unfolding formed_all
  count_over l = sym (ap (λ (b : Bool). b && formed_rows row_words atoms m all) (lt-leb m atoms l))

  -- else the rows below the count decide, with the words past them
  module _ (l : m ≤ atoms) (long : row_area ≤ length all) where
    abbrev below : Bool
    below = every m (λ i. within atoms (row_in row_words all i) (λ k. ltb k m))

    abbrev past : List ℕ
    past = part (m * row_words) (row_area - m * row_words) all

    decided : below && not (exists (length past * word_bits) (row past)) ≡ formed_all all m
    unfolding formed_all
    decided =
        ap (λ (x : ℕ). below && not (exists (x * word_bits) (row past)))
        (length_part (m * row_words) (row_area - m * row_words) all (omega arith))
        ∙ sym (rows_split row_words m all atoms l)
        ∙ sym (ap (λ (b : Bool). b && formed_rows row_words atoms m all) (le-leb m atoms l))

    -- those below pass, so the words past them settle it
    pub rows_kept : (b : Bool) → b ≡ below → b ≡ true → (r : Bool) (at : ℕ) → at ≡ m * row_words
        → r ≡ not (exists (length (part at (row_area - at) all) * word_bits) (row (part at (row_area - at) all))) → r ≡ formed_all all m
    rows_kept b e t r at ea f =
        f ∙ ap (λ (x : ℕ). not (exists (length (part x (row_area - x) all) * word_bits) (row (part x (row_area - x) all)))) ea
        ∙ ap (λ (c : Bool). c && not (exists (length past * word_bits) (row past))) (sym t ∙ e) ∙ decided

    -- one of those below does not pass
    pub rows_lost : (b : Bool) → b ≡ below → b ≡ false → b ≡ formed_all all m
    rows_lost b e t =
        t ∙ ap (λ (c : Bool). c && not (exists (length past * word_bits) (row past))) (sym t ∙ e) ∙ decided

  -- an area that keeps its count has it within the limit, and its rows keep it
  pub keeps : formed_all all m ≡ true → (formed_all all m ≡ formed_all all m) × (m ≤ atoms) × (formed_rows row_words atoms m all ≡ true)
  unfolding formed_all
  keeps t = (
    refl,
    leb-true m atoms (and_left (leb m atoms) (formed_rows row_words atoms m all) t),
    and_right (leb m atoms) (formed_rows row_words atoms m all) t,
  )
