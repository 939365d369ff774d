-- The words in which contracts and definitions speak of a lent area, for elements of any width.
-- Assumes nothing.
use Rattle.std.specs.Prelude.{◌≡◌, List, ◌++◌, ℕ, ◌+◌, ◌-◌, length, take, drop, replicate}

-- the w elements from place `at`
abbrev pub part : ℕ → ℕ → List ℕ → List ℕ
part at w area = take w (drop at area)

-- the area with ys from place `at` on
abbrev pub put : ℕ → List ℕ → List ℕ → List ℕ
put at ys area = take at area ++ (ys ++ drop (at + length ys) area)

-- while it is written: the used part, and the rest as it was
unfoldable pub begun : List ℕ → List ℕ → List ℕ
begun xs old = xs ++ drop (length xs) old

-- once it is written: the used part, zeros to the stated size, and what lies past that as it was
unfoldable pub filled : ℕ → List ℕ → List ℕ → List ℕ
filled size xs old = xs ++ (replicate (size - length xs) 0 ++ drop size old)

-- z in each place from a up to e, the rest as it was
abbrev pub cleared_to : {A : Type 0} → A → ℕ → ℕ → List A → List A
cleared_to z a e xs = take a xs ++ (replicate (e - a) z ++ drop e xs)

-- zeros there
abbrev pub cleared : ℕ → ℕ → List ℕ → List ℕ
cleared a e xs = cleared_to 0 a e xs

-- zero over its first `size` elements
abbrev pub Clear : ℕ → List ℕ → Type 0
Clear size xs = take size xs ≡ replicate size 0
