-- What is claimed of numbers in base ten and of the listing. Proved in proofs/Decimal.antt and proofs/Lists.antt.
-- Assumes nothing.
use Rattle.std.specs.Prelude.{◌≡◌, ◌↔◌, true, List, [], ◌∷◌, ℕ, ◌+◌, ◌-◌, ◌*◌, ◌≤◌, ◌<◌, length, get_or}
use Rattle.limits.specs.Book.{names, name_bytes, listing_bytes}
use Rattle.grammar.specs.Bytes.{Bytes, all_of, Among}
use Rattle.grammar.specs.Grammar.{Unbroken, joined}
use Rattle.areas.specs.Area.{filled}
use Rattle.tables.specs.Areas.{look_up, nonzero}
use Rattle.systems.specs.Rounds.{model_in}
use Rattle.solving.specs.Listing.{head_line}
use Rattle.solving.specs.Solve.{SolveOutcome}
use Rattle.solving.specs.Held.{Held}

-- the number that figures go on to from n, the first of them highest
unfoldable pub value_from : ℕ → Bytes → ℕ
value_from n [] = n
value_from n (b ∷ s) = value_from (n * 10 + (b - 48)) s

-- The figures s of n: n is read back from them, and none leads with a zero but zero itself, a single figure.
pub record Decimal (n : ℕ) (s : Bytes) : Type 0 where
  pub value : value_from 0 s ≡ n
  pub figures : (i : ℕ) → i < length s → (48 ≤ get_or s i 0) × (get_or s i 0 ≤ 57)
  pub leading : 1 ≤ n → 49 ≤ get_or s 0 0
  pub zero : n ≡ 0 → length s ≡ 1
  pub some : 1 ≤ length s

-- the head line for what the solver returns
abbrev pub head_of : SolveOutcome → ℕ → Bytes
head_of r k = head_line r.answer.names r.answer.held k r.answer.rounds

-- The most bytes that a listing's text has: the head line, which takes 46 where the folds have one figure and each other number three, and the
-- most names, each of the longest; with their line ends. That is 4,271.
abbrev pub longest_listing : ℕ
longest_listing = (46 + 1) + names * (name_bytes + 1)

-- The listing: its lines are the head line and the held names, one line for each and for no other, in number order; zeros follow.
pub record Lists (r : SolveOutcome) (k : ℕ) (old : Bytes) : Type 0 where
  pub held : List Bytes
  pub area : r.areas.listing ≡ filled listing_bytes (joined (head_of r k ∷ held)) old
  -- the text has no zero byte and is shorter than the area: so a zero follows it
  pub fits : length (joined (head_of r k ∷ held)) ≤ longest_listing
  pub text : all_of nonzero (joined (head_of r k ∷ held)) ≡ true
  pub lines : Unbroken (head_of r k ∷ held)
  pub only : (x : Bytes) → Among x held ↔ Held r x
  pub one_each : length held ≡ r.answer.held
  pub once : (i j : ℕ) → i < j → j < length held → get_or held i [] ≡ get_or held j [] → ⊥
  -- the numbers of the lines rise
  pub numbers : ℕ → ℕ
  pub spelt : (i : ℕ) → i < length held
      → (numbers i < r.answer.names) × (model_in r.areas.model (numbers i) ≡ true)
      × (get_or held i [] ≡ look_up r.areas.tables.spellings r.answer.names (numbers i))
  pub rising : (i j : ℕ) → i < j → j < length held → numbers i < numbers j
