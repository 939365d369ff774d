-- A finite set is a Bool function on the numbers; everything said of it is said below a bound n.
-- Assumes nothing.
use Rattle.std.specs.Prelude.{◌≡◌, Bool, true, false, not, ◌&&◌, ◌||◌, List, [], ◌∷◌, ℕ, zero, suc, ◌<◌, eqb}
use Rattle.std.specs.Bool.{beq}

-- i is a member of f where f i is true
abbrev pub Set : Type 0
Set = ℕ → Bool

-- each member of f below n is one of g
abbrev pub Within : ℕ → Set → Set → Type 0
Within n f g = (i : ℕ) → i < n → f i ≡ true → g i ≡ true

-- f and g have the same members below n
abbrev pub Same : ℕ → Set → Set → Type 0
Same n f g = (i : ℕ) → i < n → f i ≡ g i

-- a number: 1 for true
abbrev pub one : Bool → ℕ
one true = 1
one false = 0

-- the first of the two where the test holds, else the second
unfoldable pub pick : {A : Type 0} → Bool → A → A → A
pick true a b = a
pick false a b = b

-- the test holds of every number below n
unfoldable pub every : ℕ → Set → Bool
every zero p = true
every (suc n) p = p n && every n p

-- the test holds of some number below n
unfoldable pub exists : ℕ → Set → Bool
exists zero p = false
exists (suc n) p = p n || exists n p

-- the number of members below n
unfoldable pub count : ℕ → Set → ℕ
count zero f = zero
count (suc n) f = pick (f n) (suc (count n f)) (count n f)

-- the test for Within
unfoldable pub within : ℕ → Set → Set → Bool
within n f g = every n (λ i. not (f i) || g i)

-- f and g have a common member below n
unfoldable pub meets : ℕ → Set → Set → Bool
meets n f g = exists n (λ i. f i && g i)

-- the test for Same
unfoldable pub same : ℕ → Set → Set → Bool
same n f g = every n (λ i. beq (f i) (g i))

-- the empty set
abbrev pub empty_set : Set
empty_set i = false

-- the set of i alone
abbrev pub only : ℕ → Set
only i k = eqb i k

-- the members of f and those of g
abbrev pub union : Set → Set → Set
union f g i = f i || g i

-- the places g j of the members j of f below r
unfoldable pub image : ℕ → (ℕ → ℕ) → Set → Set
image r g f i = exists r (λ j. eqb (g j) i && f j)

-- the first member of f among the k numbers from i on, else i + k
unfoldable pub next : ℕ → Set → ℕ → ℕ
next zero f i = i
next (suc k) f i = pick (f i) i (next k f (suc i))

-- the members among the k numbers from i on, rising
unfoldable pub members : ℕ → Set → ℕ → List ℕ
members zero f i = []
members (suc k) f i = pick (f i) (i ∷ members k f (suc i)) (members k f (suc i))
