-- A part of an area, and elements put into it: what is there then, and what is as it was.
-- Assumes nothing.
use mathlib.Core.Path.{◌≡◌, sym, ap, ap₂, ◌∙◌}
use mathlib.Core.List.{List, [], ◌∷◌, ◌++◌, append_assoc, append-nil}
use Prim.Native.Nat.{ℕ, zero, suc, ◌+◌, ◌-◌, ◌≤◌, ◌<◌}
use native.Mathlib.Omega.{arith}
use native.Mathlib.Nat.{add-zero}
use lib.ListN.{length, take, drop, set, length-append, length-take, length-drop, take-append-drop, drop_of_length-le}
use lib.Seq.{length-take-le, take_all, take_at, take-append_seam, take-append-le, drop-append-le, drop_at, drop-drop}
use Rattle.areas.specs.Area.{part, put}

-- a part that fits has its words
pub length_part : (at w : ℕ) (area : List ℕ) → at + w ≤ length area → length (part at w area) ≡ w
length_part at w area h = simp (length-take, length-drop) (omega arith)

-- an area is as long after a row that fits is put into it
pub length_put : (at : ℕ) (ys area : List ℕ) → at + length ys ≤ length area → length (put at ys area) ≡ length area
length_put at ys area h = simp (length-append, length-take, length-drop) (omega arith)

-- the words put are there
pub part_put : (at : ℕ) (ys area : List ℕ) → at + length ys ≤ length area → part at (length ys) (put at ys area) ≡ ys
part_put at ys area h =
    let l : length (take at area) ≡ at = length-take-le at area (omega arith) in
    ap (take (length ys)) (drop_at (take at area) (ys ++ drop (at + length ys) area) at l)
    ∙ take-append_seam ys (drop (at + length ys) area)

-- all of an area as a part of it
pub part_whole : (w : ℕ) (area : List ℕ) → length area ≡ w → part 0 w area ≡ area
part_whole w area e = take_all w area (omega arith)

-- words put over all of an area
pub put_whole : (ys area : List ℕ) → length area ≡ length ys → put 0 ys area ≡ ys
put_whole ys area e = ap (λ (zs : List ℕ). ys ++ zs) (drop_of_length-le area {i = 0 + length ys} (omega arith)) ∙ append-nil ys

-- nothing put into an area leaves it as it was
pub put_none : (at : ℕ) (area : List ℕ) → area ≡ put at [] area
put_none at area = sym (ap (λ (n : ℕ). take at area ++ drop n area) (add-zero at) ∙ take-append-drop at area)

-- the first of the elements put by itself, and then the others
pub put_set : (at v : ℕ) (ys area : List ℕ) → at < length area → put (suc at) ys (set area at v) ≡ put at (v ∷ ys) area
put_set at v ys [] l = absurd (omega arith)
put_set zero v ys (x ∷ xs) l =
    let e : 1 + length ys ≡ suc (length ys) = omega arith in
    let q : suc (length ys) ≡ 0 + suc (length ys) = omega arith in
    ap (λ (k : ℕ). v ∷ (ys ++ drop k (v ∷ xs))) e ∙ ap (λ (k : ℕ). v ∷ (ys ++ drop k (x ∷ xs))) q
put_set (suc at) v ys (x ∷ xs) l =
    let e : suc (suc at) + length ys ≡ suc (suc at + length ys) = omega arith in
    let q : suc (at + suc (length ys)) ≡ suc at + suc (length ys) = omega arith in
    ap (λ (k : ℕ). x ∷ (take (suc at) (set xs at v) ++ (ys ++ drop k (x ∷ set xs at v)))) e
    ∙ ap (λ (zs : List ℕ). x ∷ zs) (put_set at v ys xs (omega arith))
    ∙ ap (λ (k : ℕ). x ∷ (take at xs ++ (v ∷ (ys ++ drop k (x ∷ xs))))) q

-- a part of the front of an area
pub part_front : (p w : ℕ) (xs ys : List ℕ) → p + w ≤ length xs → part p w (xs ++ ys) ≡ part p w xs
part_front p w xs ys h =
    let l : w ≤ length (drop p xs) = simp length-drop (omega arith) in
    ap (take w) (drop-append-le p xs ys (omega arith)) ∙ take-append-le w (drop p xs) ys l

-- a part wholly before the words put is as it was
pub part_put_before : (at : ℕ) (ys area : List ℕ) (p w : ℕ)
    → at + length ys ≤ length area → p + w ≤ at → part p w (put at ys area) ≡ part p w area
part_put_before at ys area p w h l =
    let m : p + w ≤ length (take at area) = simp length-take (omega arith) in
    part_front p w (take at area) (ys ++ drop (at + length ys) area) m ∙ sym (part_front p w (take at area) (drop at area) m)
    ∙ ap (part p w) (take-append-drop at area)

-- what lies past the words put is as it was
pub drop_put : (at : ℕ) (ys area : List ℕ) → at + length ys ≤ length area
    → drop (at + length ys) (put at ys area) ≡ drop (at + length ys) area
drop_put at ys area h =
    let l : length (take at area ++ ys) ≡ at + length ys = simp (length-append, length-take) (omega arith) in
    ap (drop (at + length ys)) (sym (append_assoc (take at area) ys (drop (at + length ys) area)))
    ∙ drop_at (take at area ++ ys) (drop (at + length ys) area) (at + length ys) l

-- from any place past them on
pub put_past : (at : ℕ) (ys area : List ℕ) → at + length ys ≤ length area
    → (k : ℕ) → at + length ys ≤ k → drop k (put at ys area) ≡ drop k area
put_past at ys area h k l =
    let q : k ≡ at + length ys + (k - (at + length ys)) = omega arith in
    let past : (l : List ℕ) → drop k l ≡ drop (k - (at + length ys)) (drop (at + length ys) l) =
    λ l. ap (λ (n : ℕ). drop n l) q ∙ sym (drop-drop (k - (at + length ys)) (at + length ys) l) in
    past (put at ys area) ∙ ap (drop (k - (at + length ys))) (drop_put at ys area h) ∙ sym (past area)

-- so a part wholly after them is as it was
pub part_put_after : (at : ℕ) (ys area : List ℕ) (p w : ℕ)
    → at + length ys ≤ length area → at + length ys ≤ p → part p w (put at ys area) ≡ part p w area
part_put_after at ys area p w h l = ap (take w) (put_past at ys area h p l)

-- words put over as many leave nothing of them
pub put_over : (at : ℕ) (xs ys zs rest : List ℕ) → length xs ≡ at → length zs ≡ length ys
    → put at zs (xs ++ (ys ++ rest)) ≡ xs ++ (zs ++ rest)
put_over at xs ys zs rest e q =
    let l : length (xs ++ ys) ≡ at + length zs = omega (arith, length-append xs ys) in
    ap₂ (λ (s t : List ℕ). s ++ (zs ++ t)) (take_at xs (ys ++ rest) at e)
    (ap (drop (at + length zs)) (sym (append_assoc xs ys rest)) ∙ drop_at (xs ++ ys) rest (at + length zs) l)

-- nor do words put where as many were put
pub put_again : (at : ℕ) (xs ys area : List ℕ) → at + length xs ≤ length area → length ys ≡ length xs
    → put at ys (put at xs area) ≡ put at ys area
put_again at xs ys area h e =
    put_over at (take at area) xs ys (drop (at + length xs) area) (length-take-le at area (omega arith)) e
    ∙ ap (λ (k : ℕ). take at area ++ (ys ++ drop (at + k) area)) (sym e)

-- a part put back where it stood changes nothing
pub put_part : (at w : ℕ) (area : List ℕ) → at + w ≤ length area → put at (part at w area) area ≡ area
put_part at w area h =
    rw (length_part at w area h, ← drop-drop w at area, take-append-drop w (drop at area)) (take-append-drop at area)
