-- A folded row made a word of the old row at a time: the rows of the atoms that each word names are united, lowest first. For any width.
-- Assumes nothing.
use mathlib.Core.Path.{◌≡◌, refl, sym, ap, ◌∙◌}
use mathlib.Core.List.{List, ◌++◌}
use mathlib.Core.Bool.{Bool, false, ◌&&◌, ◌||◌, or-false, or_assoc}
use Prim.Native.Nat.{ℕ, ◌+◌, ◌-◌, ◌*◌, ◌^◌, ◌<◌}
use native.Mathlib.Omega.{arith}
use native.Mathlib.Numerals.{add-one}
use lib.Bits.{bit_and, and_le_r}
use lib.Count.{count_trailing_zeros}
use lib.ListN.{length, get_or, replicate, take, drop}
use Rattle.std.proofs.lemmas.List.{drop-drop}
use Rattle.limits.specs.Book.{word_bits}
use Rattle.sets.specs.Set.{Set, exists, empty_set, union}
use Rattle.sets.proofs.Logic.{clash, not-true, and_left}
use Rattle.sets.proofs.Tests.{exists_find, exists_same, exists_one}
use Rattle.sets.proofs.Ranges.{exists_add}
use Rattle.areas.specs.Area.{part, begun}
use Rattle.words.specs.Row.{bit, row, pack}
use Rattle.words.proofs.Bits.{bit_zero, bit_lowest, trailing_lt}
use Rattle.words.proofs.Rows.{row_word, row_pack, length_pack, pack_same, pack_row, pack_empty}
use Rattle.rows.proofs.Reading.{Known, in_range}
use Rattle.rows.proofs.Walking.{trailing_fits}
use Rattle.program.specs.System.{unfold_once}
use Rattle.systems.specs.Rows.{row_in, packed}
use Rattle.systems.proofs.Packed.{packed_none, put_next}

-- One word.

-- the union of the rows, w words each, of the atoms that x names as word k of a row
abbrev pub named : ℕ → List ℕ → ℕ → ℕ → Set
named w from k x a = exists word_bits (λ b. bit x b && row_in w from (k * word_bits + b) a)

-- 0 names none
named_none : (w : ℕ) (from : List ℕ) (k a : ℕ) → named w from k 0 a ≡ false
named_none w from k a =
    not-true (named w from k 0 a)
    (λ e.
    let q = exists_find word_bits (λ b. bit 0 b && row_in w from (k * word_bits + b) a) e in
    clash (and_left (bit 0 q.0) (row_in w from (k * word_bits + q.0) a) q.2) (bit_zero q.0))

-- the atom of the lowest bit
abbrev pub lowest : ℕ → ℕ → ℕ
lowest k x = k * word_bits + count_trailing_zeros word_bits x

-- it is one of those that word k can name
pub lowest_lt : (k w x : ℕ) → k < w → x < 2 ^ word_bits → (x ≡ 0 → ⊥) → lowest k x < w * word_bits
lowest_lt k w x l h n = let t : count_trailing_zeros word_bits x < word_bits = trailing_lt word_bits x h n in omega arith

-- without it the word is smaller
pub rest_less : (x : ℕ) → (x ≡ 0 → ⊥) → bit_and x (x - 1) < x
rest_less x n = omega (arith, and_le_r x (x - 1), n)

-- the words of the row `to` with the rows that x names united into it
pub uniting : ℕ → List ℕ → ℕ → ℕ → List ℕ → List ℕ
uniting w from k x to = pack w (union (row to) (named w from k x))

pub uniting_is : (w : ℕ) (from : List ℕ) (k x : ℕ) (to : List ℕ) → uniting w from k x to ≡ pack w (union (row to) (named w from k x))
unfolding uniting
uniting_is w from k x to = refl

-- x as word k is not 0: its lowest atom and the rest
module _ (w : ℕ) (from : List ℕ) (k x : ℕ) (h : x < 2 ^ word_bits) (n : x ≡ 0 → ⊥) where
  named_more : (a : ℕ) → named w from k x a ≡ row_in w from (lowest k x) a || named w from k (bit_and x (x - 1)) a
  named_more a =
      exists_one word_bits (count_trailing_zeros word_bits x) (bit x) (bit (bit_and x (x - 1))) (λ b. row_in w from (k * word_bits + b) a)
      (trailing_lt word_bits x h n) (λ b. bit_lowest word_bits x b h n)

  -- with the row of the lowest united, the rest is left to unite, and the union of all is the same
  pub uniting_on : (to : List ℕ) → length to ≡ w
      → uniting w from k x to ≡ uniting w from k (bit_and x (x - 1)) (pack (length to) (union (row to) (row (part (lowest k x * w) w from))))
  unfolding uniting
  uniting_on to e =
      let f : Set = union (row to) (row_in w from (lowest k x)) in
      let new : List ℕ = pack (length to) f in
      let is : new ≡ pack w f = ap (λ (n : ℕ). pack n f) e in
      sym (pack_same w (union (row new) (named w from k (bit_and x (x - 1)))) (union (row to) (named w from k x))
      (λ a l.
      ap (λ (b : Bool). b || named w from k (bit_and x (x - 1)) a) (ap (λ (ws : List ℕ). row ws a) is ∙ row_pack w f a l)
      ∙ or_assoc (row to a) (row_in w from (lowest k x) a) (named w from k (bit_and x (x - 1)) a)
      ∙ ap (λ (b : Bool). row to a || b) (sym (named_more a))))

-- 0 leaves nothing to unite
pub uniting_end : (w : ℕ) (from : List ℕ) (k x : ℕ) (to : List ℕ) → length to ≡ w → Known to → x ≡ 0 → uniting w from k x to ≡ to
unfolding uniting
uniting_end w from k x to e p z =
    pack_same w (union (row to) (named w from k x)) (row to)
    (λ a l. ap (λ (b : Bool). row to a || b) (ap (λ (y : ℕ). named w from k y a) z ∙ named_none w from k a) ∙ or-false (row to a))
    ∙ ap (λ (v : ℕ). pack v (row to)) (sym e) ∙ pack_row to (in_range to p)

-- the laws of `fold_word`
pub ruleset uniting_words = (trailing_fits, lowest_lt, rest_less, uniting_on, uniting_end, uniting_is)

-- The words of row i.

module _ (w : ℕ) (from : List ℕ) (i : ℕ) where
  -- the fold over the atoms of the words below k
  abbrev pub folded_below : ℕ → List ℕ
  folded_below k = pack w (unfold_once (k * word_bits) (row_in w from) i)

  -- of no word
  pub folded_none : replicate w 0 ≡ folded_below 0
  unfolding unfold_once exists
  folded_none = sym (pack_same w (unfold_once (0 * word_bits) (row_in w from) i) empty_set (λ a l. refl) ∙ pack_empty w)

  -- of one word more
  unfold_word : (k a : ℕ) → k < w
      → unfold_once ((k + 1) * word_bits) (row_in w from) i a
      ≡ unfold_once (k * word_bits) (row_in w from) i a || named w from k (get_or (part (i * w) w from) k 0) a
  unfolding unfold_once
  unfold_word k a l =
      let m : (k + 1) * word_bits ≡ k * word_bits + word_bits = omega arith in
      let p : Set = λ j. row_in w from i j && row_in w from j a in
      ap (λ (n : ℕ). exists n p) m ∙ exists_add (k * word_bits) word_bits p
      ∙ ap (λ (b : Bool). exists (k * word_bits) p || b)
      (exists_same word_bits (λ b. p (k * word_bits + b)) (λ b. bit (get_or (part (i * w) w from) k 0) b && row_in w from (k * word_bits + b) a)
      (λ b g. ap (λ (c : Bool). c && row_in w from (k * word_bits + b) a) (row_word (part (i * w) w from) k b g)))

  -- word k is read off the row
  pub folded_on : (k : ℕ) (ws : List ℕ) → ws ≡ part (i * w) w from → k < w
      → folded_below (k + 1) ≡ pack w (union (row (folded_below k)) (named w from k (get_or ws k 0)))
  folded_on k ws e l =
      let f : Set = unfold_once (k * word_bits) (row_in w from) i in
      let x : ℕ = get_or (part (i * w) w from) k 0 in
      sym (pack_same w (union (row (pack w f)) (named w from k x)) (unfold_once ((k + 1) * word_bits) (row_in w from) i)
      (λ a b. ap (λ (c : Bool). c || named w from k x a) (row_pack w f a b) ∙ sym (unfold_word k a l)))
      ∙ ap (λ (ys : List ℕ). pack w (union (row (folded_below k)) (named w from k (get_or ys k 0)))) (sym e)

-- the laws of `fold_row`
pub ruleset folding = (folded_none, folded_on)

-- The rows one after another.

-- row m put after those below it, as its slice comes back
pub put_row : (w m : ℕ) (rows : ℕ → Set) (old : List ℕ)
    → begun (packed w (m + 1) rows) old
    ≡ take (m * w) (begun (packed w m rows) old) ++ (pack w (rows m) ++ drop w (drop (m * w) (begun (packed w m rows) old)))
put_row w m rows old =
    let b : List ℕ = begun (packed w m rows) old in
    ap (λ (k : ℕ). begun (packed w k rows) old) (add-one m) ∙ sym (put_next w m rows old)
    ∙ ap (λ (ys : List ℕ). take (m * w) b ++ (pack w (rows m) ++ ys))
    (ap (λ (k : ℕ). drop (m * w + k) b) (length_pack w (rows m)) ∙ sym (drop-drop w (m * w) b))

-- the laws of the fold of all rows
pub ruleset putting = (packed_none, put_row)
