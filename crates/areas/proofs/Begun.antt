-- An area while it is written: the used part, and the rest as it was.
-- Assumes nothing.
use mathlib.Core.Path.{◌≡◌, refl, sym, ap, ap₂, ◌∙◌}
use mathlib.Core.List.{List, [], ◌++◌, append_assoc, append-nil}
use Prim.Native.Nat.{ℕ, ◌+◌, ◌-◌, ◌≤◌}
use native.Mathlib.Omega.{arith}
use native.Mathlib.Nat.{zero-add}
use lib.ListN.{length, take, drop, replicate, length-append, length-drop, length-replicate, drop_of_length-le}
use lib.Seq.{take-append_seam, drop-append_seam, drop-append-add, drop-drop}
use Rattle.areas.specs.Area.{put, begun}

-- nothing used yet
pub begun_none : (old : List ℕ) → begun [] old ≡ old
unfolding begun
begun_none old = refl

-- an area begun is as long as it was
pub length_begun : (xs old : List ℕ) → length xs ≤ length old → length (begun xs old) ≡ length old
unfolding begun
length_begun xs old h = simp (length-append, length-drop) (omega arith)

-- what lies past the used part is as it was
pub drop_begun : (k : ℕ) (xs old : List ℕ) → length xs ≤ k → drop k (begun xs old) ≡ drop k old
unfolding begun
drop_begun k xs old h =
    let q : k ≡ length xs + (k - length xs) = omega arith in
    ap (λ (i : ℕ). drop i (xs ++ drop (length xs) old)) q ∙ drop-append-add xs (drop (length xs) old) (k - length xs)
    ∙ drop-drop (k - length xs) (length xs) old ∙ ap (λ (i : ℕ). drop i old) (sym q)

-- the used part
pub used : (xs old : List ℕ) → take (length xs) (begun xs old) ≡ xs
unfolding begun
used xs old = take-append_seam xs (drop (length xs) old)

-- more put after the used part is used
pub put_begun : (xs ys old : List ℕ) → put (length xs) ys (begun xs old) ≡ begun (xs ++ ys) old
unfolding begun
put_begun xs ys old =
    ap₂ (λ (s t : List ℕ). s ++ (ys ++ t)) (used xs old) (drop_begun (length xs + length ys) xs old (omega arith))
    ∙ ap (λ (i : ℕ). xs ++ (ys ++ drop i old)) (sym (length-append xs ys)) ∙ sym (append_assoc xs ys (drop (length (xs ++ ys)) old))

-- rows begun stay begun
pub begun_again : (xs old : List ℕ) → begun xs (begun xs old) ≡ begun xs old
unfolding begun
begun_again xs old = ap (λ (r : List ℕ). xs ++ r) (drop-append_seam xs (drop (length xs) old))

-- begun again with as many words
pub begun_begun : (xs ys old : List ℕ) → length xs ≡ length ys → begun xs (begun ys old) ≡ begun xs old
unfolding begun
begun_begun xs ys old e = ap (λ (t : List ℕ). xs ++ t) (drop_begun (length xs) ys old (omega arith))

-- words put there
pub put_front : (xs old : List ℕ) → put 0 xs old ≡ begun xs old
unfolding begun
put_front xs old = ap (λ (k : ℕ). xs ++ drop k old) (zero-add (length xs))

-- words put over the whole of it
pub begun_whole : (xs old : List ℕ) → length old ≤ length xs → begun xs old ≡ xs
unfolding begun
begun_whole xs old h = ap (λ (t : List ℕ). xs ++ t) (drop_of_length-le old h) ∙ append-nil xs

-- zeros
pub zeros_front : (u : ℕ) (old : List ℕ) → replicate u 0 ++ drop u old ≡ begun (replicate u 0) old
unfolding begun
zeros_front u old = ap (λ (k : ℕ). replicate u 0 ++ drop k old) (sym (length-replicate u 0))

-- more rows after those begun
pub begun_more : (xs ys old new : List ℕ) (at : ℕ) → at ≡ length xs → old ≡ begun xs old → new ≡ put at ys old → new ≡ begun (xs ++ ys) new
begun_more xs ys old new at p e q =
    let b : new ≡ begun (xs ++ ys) old = q ∙ ap₂ (λ (i : ℕ) (zs : List ℕ). put i ys zs) p e ∙ put_begun xs ys old in
    b ∙ sym (begun_again (xs ++ ys) old) ∙ ap (begun (xs ++ ys)) (sym b)
