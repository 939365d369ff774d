-- A step on sets, its rounds from a start, and the least closed set.
-- Document 01: "Rounds start from the start set and stop at the first round that changes nothing. That last round is counted."
-- Assumes nothing.
use Rattle.std.specs.Prelude.{true, false, ℕ, zero, suc, ◌<◌}
use Rattle.sets.specs.Set.{Set, Within, Same, same}

-- a larger set goes to a larger set
abbrev pub Monotone : ℕ → (Set → Set) → Type 0
Monotone n F = (f g : Set) → Within n f g → Within n (F f) (F g)

-- the step adds nothing to f
abbrev pub Closed : ℕ → (Set → Set) → Set → Type 0
Closed n F f = Within n (F f) f

-- the set after t rounds
unfoldable pub after : ℕ → (Set → Set) → Set → Set
after zero F f = f
after (suc t) F f = F (after t F f)

-- rounds up to and with the first that changes nothing, at most `fuel`
unfoldable pub rounds_in : ℕ → ℕ → (Set → Set) → Set → ℕ
rounds_in zero n F f = zero
rounds_in (suc fuel) n F f = elim (same n (F f) f) [ true ↦ 1 | false ↦ suc (rounds_in fuel n F (F f)) ]

-- the rounds over n atoms: n + 1 always suffice
unfoldable pub rounds : ℕ → (Set → Set) → Set → ℕ
unfolding rounds_in
rounds n F f = rounds_in (suc n) n F f

-- the set that the rounds reach
unfoldable pub reached : ℕ → (Set → Set) → Set → Set
unfolding rounds after
reached n F f = after (rounds n F f) F f

-- g is the least set that has f and is closed under the step
pub record Least (n : ℕ) (F : Set → Set) (f g : Set) : Type 0 where
  pub contains : Within n f g
  pub closed : Closed n F g
  pub least : (k : Set) → Within n f k → Closed n F k → Within n g k

-- q rounds change something, and the next one nothing: the rounds are q + 1
pub record First (n : ℕ) (F : Set → Set) (f : Set) (q : ℕ) : Type 0 where
  pub still : Same n (F (after q F f)) (after q F f)
  pub before : (t : ℕ) → t < q → Same n (F (after t F f)) (after t F f) → ⊥
