-- The first entries of an area, up to its stated size, and the rest after them.
-- Assumes nothing.
use mathlib.Core.Path.{◌≡◌, refl, sym, ap, ◌∙◌}
use mathlib.Core.List.{List, [], ◌∷◌, ◌++◌, append_assoc, append-nil}
use Prim.Native.Nat.{ℕ, zero, suc, ◌+◌, ◌-◌, ◌≤◌}
use native.Mathlib.Omega.{arith}
use lib.ListN.{length, take, drop, replicate, take-append-drop}
use lib.Seq.{take-take, slice_empty}
use Rattle.areas.specs.Area.{part, begun, filled}

-- they and what follows them
pub both_parts : (size : ℕ) (area : List ℕ) → area ≡ take size area ++ drop size area
both_parts size area = sym (take-append-drop size area)

-- a part that lies within them
pub part_first : (at w size : ℕ) (area : List ℕ) → at + w ≤ size → part at w area ≡ part at w (take size area)
part_first zero w size area h = sym (take-take w size area (omega arith))
part_first (suc at) w zero area h = absurd (omega arith)
part_first (suc at) w (suc size) [] h = refl
part_first (suc at) w (suc size) (x ∷ area) h = part_first at w size area (omega arith)

-- an area filled to their end has the rest after it
pub filled_first : (size : ℕ) (xs old : List ℕ) → filled size xs old ≡ filled size xs (take size old) ++ drop size old
unfolding filled
filled_first size xs old =
    let z : List ℕ = replicate (size - length xs) 0 in
    sym (ap (λ (t : List ℕ). (xs ++ (z ++ t)) ++ drop size old) (slice_empty size old)
    ∙ ap (λ (t : List ℕ). (xs ++ t) ++ drop size old) (append-nil z) ∙ append_assoc xs z (drop size old))

-- what follows n of them, with the rest after it
pub drop_first : (n size : ℕ) (area : List ℕ) → n ≤ size → drop n (take size area) ++ drop size area ≡ drop n area
drop_first zero size area h = take-append-drop size area
drop_first (suc n) zero area h = absurd (omega arith)
drop_first (suc n) (suc size) [] h = refl
drop_first (suc n) (suc size) (x ∷ area) h = drop_first n size area (omega arith)

-- an area begun within them has the rest after it
pub begun_first : (size : ℕ) (xs old : List ℕ) → length xs ≤ size → begun xs old ≡ begun xs (take size old) ++ drop size old
unfolding begun
begun_first size xs old h =
    ap (λ (t : List ℕ). xs ++ t) (sym (drop_first (length xs) size old h))
    ∙ sym (append_assoc xs (drop (length xs) (take size old)) (drop size old))
