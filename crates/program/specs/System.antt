-- And-or systems: rounds and folds over "all" rows and "any" rows, as document 01 has them under "Folds and rounds".
-- Assumes nothing.
use Rattle.std.specs.Prelude.{◌≡◌, true, false, ◌&&◌, ℕ, zero, suc, ◌<◌}
use Rattle.sets.specs.Set.{Set, Same, pick, exists, within, meets, only, count}
use Rattle.sets.specs.Steps.{rounds, reached}

-- the rows of each atom, the start set, and the atoms that c counts
pub record System : Type 0 where
  pub atoms : ℕ
  pub all : ℕ → Set
  pub any : ℕ → Set
  pub start : Set
  pub counted : Set

-- an atom whose "any" row is not empty
unfoldable pub any_head : System → Set
any_head s i = exists s.atoms (s.any i)

-- the atoms whose row lies within v
unfoldable pub all_step : ℕ → (ℕ → Set) → Set → Set
all_step m rows v i = within m (rows i) v

-- One round over v: an atom with a non-empty "any" row is in the next set if that row meets v;
-- another atom is in it if its "all" row lies within v.
unfoldable pub round : System → Set → Set
round s v i = pick (any_head s i) (meets s.atoms (s.any i) v) (all_step s.atoms s.all v i)

-- One fold: new row i is the union of the old rows j for all j in old row i.
unfoldable pub unfold_once : ℕ → (ℕ → Set) → ℕ → Set
unfold_once m rows i k = exists m (λ j. rows i j && rows j k)

-- "All" rows after k folds. "Any" rows are not folded.
unfoldable pub rows_after : ℕ → ℕ → (ℕ → Set) → ℕ → Set
rows_after zero m rows = rows
rows_after (suc k) m rows = unfold_once m (rows_after k m rows)

-- the system after k folds
abbrev pub folded : ℕ → System → System
folded k s =
    record { atoms = s.atoms; all = rows_after k s.atoms s.all; any = s.any; start = s.start; counted = s.counted }

-- the rounds from the start set
unfoldable pub rounds_of : System → ℕ
rounds_of s = rounds s.atoms (round s) s.start

-- the set that they reach
unfoldable pub held_by : System → Set
held_by s = reached s.atoms (round s) s.start

-- document 01's c: how many atoms are counted
unfoldable pub c : System → ℕ
c s = count s.atoms s.counted

-- document 01's h: how many "any" rows are not empty
unfoldable pub h : System → ℕ
h s = count s.atoms (any_head s)

-- What the mathematics asks of a system. Nothing here looks into an "any" row beyond whether it is empty.
pub record Regular (s : System) : Type 0 where
  -- an atom that is not counted has itself alone as its row
  pub kept : (i : ℕ) → i < s.atoms → s.counted i ≡ false → Same s.atoms (s.all i) (only i)
  -- "any" heads are not counted
  pub heads : (i : ℕ) → i < s.atoms → any_head s i ≡ true → s.counted i ≡ false
  -- start atoms are neither counted nor "any" heads
  pub starts : (i : ℕ) → i < s.atoms → s.start i ≡ true → (s.counted i ≡ false) × (any_head s i ≡ false)
