-- A row in its place in an area: reading it, writing it, and what writing leaves as it was.
-- Assumes nothing.
use mathlib.Core.Path.{◌≡◌, ap, subst, ◌∙◌}
use mathlib.Core.List.{List, [], ◌∷◌, ◌++◌}
use Prim.Native.Nat.{ℕ, zero, suc, ◌+◌, ◌*◌, ◌≤◌}
use native.Mathlib.Omega.{arith}
use lib.Pow.{pow_pos}
use lib.ListN.{length, take, drop}
use lib.Seq.{get_or-drop}
use Rattle.sets.specs.Set.{Set, Same}
use Rattle.limits.specs.Book.{word_bits}
use Rattle.areas.specs.Area.{part, put}
use Rattle.areas.proofs.Parts.{part_put}
use Rattle.words.specs.Row.{row, Words, pack}
use Rattle.words.proofs.Rows.{length_pack, row_pack}

-- the words taken, left by a drop, and of two lists joined, are in range where those they come from are
words_take : (w : ℕ) (ws : List ℕ) → Words ws → Words (take w ws)
words_take zero ws h k = pow_pos word_bits
words_take (suc w) [] h k = pow_pos word_bits
words_take (suc w) (x ∷ ws) h zero = h zero
words_take (suc w) (x ∷ ws) h (suc k) = words_take w ws (λ i. h (suc i)) k

pub words_drop : (at : ℕ) (ws : List ℕ) → Words ws → Words (drop at ws)
words_drop at ws h k = rw get_or-drop (h (at + k))

pub words_append : (xs ys : List ℕ) → Words xs → Words ys → Words (xs ++ ys)
words_append [] ys p q k = q k
words_append (x ∷ xs) ys p q zero = p zero
words_append (x ∷ xs) ys p q (suc k) = words_append xs ys (λ i. p (suc i)) q k

-- so the words of a part are in range
pub words_part : (at w : ℕ) (area : List ℕ) → Words area → Words (part at w area)
words_part at w area h = words_take w (drop at area) (words_drop at area h)

-- the set packed and put into an area is read back from its place
pub row_put : (at w : ℕ) (f : Set) (area : List ℕ)
    → at + w ≤ length area → Same (w * word_bits) (row (part at w (put at (pack w f) area))) f
row_put at w f area h a l =
    let n : length (pack w f) ≡ w = length_pack w f in
    let there : part at w (put at (pack w f) area) ≡ pack w f =
    subst (λ (k : ℕ). part at k (put at (pack w f) area) ≡ pack w f) n (part_put at (pack w f) area (omega arith))
    in
    ap (λ (ws : List ℕ). row ws a) there ∙ row_pack w f a l
