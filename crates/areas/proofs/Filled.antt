-- An area once it is written, zeros up to its stated size; and one that is cleared.
-- Assumes nothing.
use mathlib.Core.Path.{◌≡◌, refl, sym, ap, ap₂, ◌∙◌}
use mathlib.Core.List.{List, [], ◌++◌, append_assoc}
use Prim.Native.Nat.{ℕ, ◌+◌, ◌-◌, ◌≤◌}
use native.Mathlib.Omega.{arith}
use lib.ListN.{length, take, drop, replicate, length-append, length-drop, length-replicate, take-append-drop, replicate-append-replicate}
use lib.Seq.{take_at, drop_at, take-append_seam, drop-drop, take_all}
use borrow.Rule.Slice.PartMut.{mid_of, put_mid, mid_len, Post-is}
use Rattle.areas.specs.Area.{begun, filled, cleared_to, cleared, Clear}
use Rattle.areas.proofs.Begun.{drop_begun, used, zeros_front}

-- a filled area is as long as it was
pub length_filled : (size : ℕ) (xs old : List ℕ) → length xs ≤ size → size ≤ length old → length (filled size xs old) ≡ length old
unfolding filled
length_filled size xs old h g = simp (length-append, length-replicate, length-drop) (omega arith)

-- past its stated size it is as it was
pub drop_filled : (size : ℕ) (xs old : List ℕ) → length xs ≤ size → drop size (filled size xs old) ≡ drop size old
unfolding filled
drop_filled size xs old h =
    let z : List ℕ = replicate (size - length xs) 0 in
    let n : length (xs ++ z) ≡ size = simp (length-append, length-replicate) (omega arith) in
    ap (drop size) (sym (append_assoc xs z (drop size old))) ∙ drop_at (xs ++ z) (drop size old) size n

-- what follows the used part
pub filled_is : (size : ℕ) (xs old : List ℕ) → filled size xs old ≡ xs ++ (replicate (size - length xs) 0 ++ drop size old)
unfolding filled
filled_is size xs old = refl

-- zeros put from the used part to the stated size: the area is filled
pub begun_filled : (size : ℕ) (xs old : List ℕ) → length xs ≤ size
    → take (length xs) (begun xs old) ++ (replicate (size - length xs) 0 ++ drop size (begun xs old)) ≡ filled size xs old
unfolding filled
begun_filled size xs old h =
    ap₂ (λ (s t : List ℕ). s ++ (replicate (size - length xs) 0 ++ t)) (used xs old) (drop_begun size xs old h)

-- the used part
pub take_filled : (size : ℕ) (w area : List ℕ) → take (length w) (filled size w area) ≡ w
unfolding filled
take_filled size w area = take-append_seam w (replicate (size - length w) 0 ++ drop size area)

-- an area filled with xs: over the stated size what another one filled with xs has
pub over_filled : (size : ℕ) (xs mine old : List ℕ) → length xs ≤ size → mine ≡ filled size xs mine → take size mine ++ drop size old ≡ filled size xs old
unfolding filled
over_filled size xs mine old h e =
    let zs : List ℕ = replicate (size - length xs) 0 in
    let l : length (xs ++ zs) ≡ size = simp (length-append, length-replicate) (omega arith) in
    ap (λ (s : List ℕ). s ++ drop size old)
    (ap (take size) (e ∙ sym (append_assoc xs zs (drop size mine))) ∙ take_at (xs ++ zs) (drop size mine) size l)
    ∙ append_assoc xs zs (drop size old)

-- as many other elements in front
pub begun_over : (size : ℕ) (xs ys old : List ℕ) → length xs ≡ length ys → begun xs (filled size ys old) ≡ filled size xs old
unfolding begun
begun_over size xs ys old e =
    ap (λ (t : List ℕ). xs ++ drop (length xs) t) (filled_is size ys old)
    ∙ ap (λ (t : List ℕ). xs ++ t) (drop_at ys (replicate (size - length ys) 0 ++ drop size old) (length xs) (sym e))
    ∙ ap (λ (j : ℕ). xs ++ (replicate (size - j) 0 ++ drop size old)) (sym e)
    ∙ sym (filled_is size xs old)

-- an area filled with xs is begun with them
pub filled_begun : (size : ℕ) (xs old area : List ℕ) → area ≡ filled size xs old → area ≡ begun xs area
unfolding begun
filled_begun size xs old area e =
    let rest : List ℕ = replicate (size - length xs) 0 ++ drop size old in
    let q : area ≡ xs ++ rest = e ∙ filled_is size xs old in
    q ∙ ap (λ (t : List ℕ). xs ++ t) (sym (ap (drop (length xs)) q ∙ drop_at xs rest (length xs) refl))

-- begun with as many other words, it is filled with those
pub filled_again : (size : ℕ) (xs ys old area new : List ℕ) → length ys ≡ length xs → area ≡ filled size xs old → new ≡ begun ys area
    → new ≡ filled size ys old
unfolding begun
filled_again size xs ys old area new l e q =
    let rest : List ℕ = replicate (size - length xs) 0 ++ drop size old in
    q ∙ ap (λ (t : List ℕ). ys ++ t) (ap (drop (length ys)) (e ∙ filled_is size xs old) ∙ drop_at xs rest (length ys) (sym l))
    ∙ ap (λ (k : ℕ). ys ++ (replicate (size - k) 0 ++ drop size old)) (sym l) ∙ sym (filled_is size ys old)

-- cleared from its front, an area is begun with zeros
pub front_cleared : (u : ℕ) (old new : List ℕ) → new ≡ cleared 0 u old → new ≡ begun (replicate u 0) old
front_cleared u old new p =
    let all : u - 0 ≡ u = omega arith in
    p ∙ ap (λ (k : ℕ). replicate k 0 ++ drop u old) all ∙ zeros_front u old

-- an area filled with zeros holds nothing
pub filled_zeros : (size u : ℕ) (old : List ℕ) → u ≤ size → filled size (replicate u 0) old ≡ filled size [] old
filled_zeros size u old l =
    let n : length (replicate {A = ℕ} u 0) ≡ u = length-replicate u 0 in
    let k : u + (size - u) ≡ size - 0 = omega arith in
    filled_is size (replicate u 0) old
    ∙ ap (λ (m : ℕ). replicate u 0 ++ (replicate (size - m) 0 ++ drop size old)) n
    ∙ sym (append_assoc (replicate u 0) (replicate (size - u) 0) (drop size old))
    ∙ ap (λ (zs : List ℕ). zs ++ drop size old) (replicate-append-replicate u (size - u) 0 ∙ ap (λ (m : ℕ). replicate m 0) k)
    ∙ sym (filled_is size [] old)

-- a part that comes back all zero
pub part_cleared : {A : Type 0} (z : A) (a e : ℕ) (xs ys : List A) → a ≤ e → e ≤ length xs
    → ys ≡ replicate (length (mid_of a (e - a) xs)) z → put_mid a (e - a) xs ys ≡ cleared_to z a e xs
part_cleared z a e xs ys h g q =
    ap (λ zs. take a xs ++ (zs ++ drop (e - a) (drop a xs))) (q ∙ ap (λ (k : ℕ). replicate k z) (mid_len a e xs g))
    ∙ ap (λ zs. take a xs ++ (replicate (e - a) z ++ zs)) (Post-is a e xs h)

-- an area that was clear, and has changed below place a alone: from there on nothing is to be cleared
pub still_clear : (a e : ℕ) (old new : List ℕ) → Clear e old → drop a new ≡ drop a old → a ≤ e → cleared a e new ≡ new
still_clear a e old new z q l =
    let k : a + (e - a) ≡ e = omega arith in
    let past : (xs : List ℕ) → drop e xs ≡ drop (e - a) (drop a xs) = λ xs. sym (drop-drop (e - a) a xs ∙ ap (λ (n : ℕ). drop n xs) k) in
    let zs : ℕ → List ℕ = λ n. replicate n 0 in
    let parts : zs e ≡ zs a ++ zs (e - a) = sym (replicate-append-replicate a (e - a) 0 ∙ ap zs k) in
    let whole : zs a ++ (zs (e - a) ++ drop e old) ≡ old =
    sym (append_assoc (zs a) (zs (e - a)) (drop e old)) ∙ ap (λ (xs : List ℕ). xs ++ drop e old) (sym (z ∙ parts)) ∙ take-append-drop e old in
    let tail : zs (e - a) ++ drop e old ≡ drop a old =
    sym (drop_at (zs a) (zs (e - a) ++ drop e old) a (length-replicate {A = ℕ} a 0)) ∙ ap (drop a) whole in
    ap (λ (xs : List ℕ). take a new ++ (replicate (e - a) 0 ++ xs)) (past new ∙ ap (drop (e - a)) q ∙ sym (past old))
    ∙ ap (λ (xs : List ℕ). take a new ++ xs) (tail ∙ sym q) ∙ take-append-drop a new

-- zeros are clear
pub zeros_clear : (n : ℕ) → Clear n (replicate n 0)
zeros_clear n = take_all n (replicate n 0) (omega (arith, length-replicate {A = ℕ} n 0))
