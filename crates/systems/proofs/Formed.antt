-- Rows with no bit and no row past a count, as they are tested and as they are used: folds and rounds over more atoms than the
-- count are those over the count, and depend on nothing past it.
-- Assumes nothing.
use mathlib.Core.Path.{◌≡◌, ap, ap₂, ◌∙◌}
use mathlib.Core.Bool.{Bool, true, ◌&&◌}
use mathlib.Core.List.{List}
use Prim.Native.Nat.{ℕ, zero, suc, ◌*◌, ◌≤◌, ◌<◌}
use native.Mathlib.Nat.{le_trans}
use lib.Dec.{ltb}
use borrow.Author.Tests.{lt-ltb, ltb-true, ltb-false}
use Rattle.limits.specs.Book.{word_bits}
use Rattle.sets.specs.Set.{Set, Same, pick, exists, within, meets}
use Rattle.sets.proofs.Logic.{either, clash, iff, and_left, and_right, and_make}
use Rattle.sets.proofs.Tests.{every_at, every_make, exists_make, exists_find, exists_same, within_at, within_make, within_same, meets_make, meets_find, meets_same}
use Rattle.program.specs.System.{System, any_head, all_step, round, unfold_once, rows_after}
use Rattle.systems.specs.Rows.{row_in, formed_rows}
use Rattle.systems.proofs.Packed.{row_in_past}

-- of n rows, those below m have members below m only, and the others none
abbrev pub Below : ℕ → ℕ → (ℕ → Set) → Type 0
Below n m rows = (i k : ℕ) → i < n → rows i k ≡ true → (i < m) × (k < m)

-- The test on an area.

pub formed_at : (w r m : ℕ) (area : List ℕ) → formed_rows w r m area ≡ true → Below r m (row_in w area)
unfolding formed_rows
formed_at w r m area e i k l t =
    let width : k < w * word_bits =
    either (ltb k (w * word_bits)) (λ b. ltb-true k (w * word_bits) b)
    (λ b. clash t (row_in_past w area i k (ltb-false k (w * word_bits) b)))
    in
    let inside : ltb i m && ltb k m ≡ true =
    within_at (w * word_bits) (row_in w area i) (λ k. ltb i m && ltb k m)
    (every_at r (λ i. within (w * word_bits) (row_in w area i) (λ k. ltb i m && ltb k m)) e i l) k width t
    in
    (ltb-true i m (and_left (ltb i m) (ltb k m) inside), ltb-true k m (and_right (ltb i m) (ltb k m) inside))

pub formed_make : (w r m : ℕ) (area : List ℕ) → Below r m (row_in w area) → formed_rows w r m area ≡ true
unfolding formed_rows
formed_make w r m area h =
    every_make r (λ i. within (w * word_bits) (row_in w area i) (λ k. ltb i m && ltb k m))
    (λ i l. within_make (w * word_bits) (row_in w area i) (λ k. ltb i m && ltb k m)
    (λ k b t. and_make (lt-ltb i m (h i k l t).0) (lt-ltb k m (h i k l t).1)))

-- Folds.

-- a member of a folded row, by the two rows that it comes from
pub unfold_find : (m : ℕ) (rows : ℕ → Set) (i k : ℕ) → unfold_once m rows i k ≡ true
    → (j : ℕ) × (j < m) × (rows i j ≡ true) × (rows j k ≡ true)
unfolding unfold_once
unfold_find m rows i k e =
    let q = exists_find m (λ j. rows i j && rows j k) e in
    let j : ℕ = q.0 in
    (j, q.1, and_left (rows i j) (rows j k) q.2, and_right (rows i j) (rows j k) q.2)

pub unfold_make : (m : ℕ) (rows : ℕ → Set) (i j k : ℕ) → j < m → rows i j ≡ true → rows j k ≡ true → unfold_once m rows i k ≡ true
unfolding unfold_once
unfold_make m rows i j k l p q = exists_make m (λ j. rows i j && rows j k) j l (and_make p q)

-- folded rows stay below the count
pub unfold_in : (n m : ℕ) (rows : ℕ → Set) → m ≤ n → Below n m rows → Below n m (unfold_once m rows)
unfold_in n m rows b h i k l e =
    let q = unfold_find m rows i k e in
    ((h i q.0 l q.2).0, (h q.0 k (le_trans q.1 b) q.3).1)

pub after_in : (k n m : ℕ) (rows : ℕ → Set) → m ≤ n → Below n m rows → Below n m (rows_after k m rows)
unfolding rows_after
after_in zero n m rows b h = h
after_in (suc k) n m rows b h = unfold_in n m (rows_after k m rows) b (after_in k n m rows b h)

-- rows that are the same below m are folded alike
pub unfold_same : (m : ℕ) (f g : ℕ → Set) → ((i : ℕ) → i < m → Same m (f i) (g i))
    → (i : ℕ) → i < m → Same m (unfold_once m f i) (unfold_once m g i)
unfolding unfold_once
unfold_same m f g h i l a b =
    exists_same m (λ j. f i j && f j a) (λ j. g i j && g j a) (λ j c. ap₂ ◌&&◌ (h i l j c) (h j c a b))

pub after_same : (k m : ℕ) (f g : ℕ → Set) → ((i : ℕ) → i < m → Same m (f i) (g i))
    → (i : ℕ) → i < m → Same m (rows_after k m f i) (rows_after k m g i)
unfolding rows_after
after_same zero m f g h = h
after_same (suc k) m f g h = unfold_same m (rows_after k m f) (rows_after k m g) (after_same k m f g h)

-- Rounds.

-- the tests over more atoms than the row has members
pub exists_fewer : (n m : ℕ) (f : Set) → m ≤ n → ((k : ℕ) → f k ≡ true → k < m) → exists n f ≡ exists m f
exists_fewer n m f b h =
    iff (exists n f) (exists m f) (λ e. let q = exists_find n f e in exists_make m f q.0 (h q.0 q.2) q.2)
    (λ e. let q = exists_find m f e in exists_make n f q.0 (le_trans q.1 b) q.2)

pub meets_fewer : (n m : ℕ) (f v : Set) → m ≤ n → ((k : ℕ) → f k ≡ true → k < m) → meets n f v ≡ meets m f v
meets_fewer n m f v b h =
    iff (meets n f v) (meets m f v) (λ e. let q = meets_find n f v e in meets_make m f v q.0 (h q.0 q.2) q.2 q.3)
    (λ e. let q = meets_find m f v e in meets_make n f v q.0 (le_trans q.1 b) q.2 q.3)

pub within_fewer : (n m : ℕ) (f v : Set) → m ≤ n → ((k : ℕ) → f k ≡ true → k < m) → within n f v ≡ within m f v
within_fewer n m f v b h =
    iff (within n f v) (within m f v)
    (λ e. within_make m f v (λ k l t. within_at n f v e k (le_trans l b) t))
    (λ e. within_make n f v (λ k l t. within_at m f v e k (h k t) t))

-- two rounds that agree in each part
round_parts : (s s' : System) (v v' : Set) (i : ℕ) → exists s.atoms (s.any i) ≡ exists s'.atoms (s'.any i)
    → meets s.atoms (s.any i) v ≡ meets s'.atoms (s'.any i) v'
    → within s.atoms (s.all i) v ≡ within s'.atoms (s'.all i) v' → round s v i ≡ round s' v' i
unfolding round any_head all_step
round_parts s s' v v' i p q r =
    ap (λ (b : Bool). pick b (meets s.atoms (s.any i) v) (within s.atoms (s.all i) v)) p
    ∙ ap₂ (pick (exists s'.atoms (s'.any i))) q r

-- a round over more atoms than the rows have members
pub round_fewer : (n m : ℕ) (all any : ℕ → Set) (start counted : Set) → m ≤ n → Below n m all → Below n m any
    → (v : Set) (i : ℕ) → i < m
    → round (record { atoms = n; all = all; any = any; start = start; counted = counted }) v i
    ≡ round (record { atoms = m; all = all; any = any; start = start; counted = counted }) v i
round_fewer n m all any start counted b p q v i l =
    let below : (k : ℕ) → any i k ≡ true → k < m = λ k e. (q i k (le_trans l b) e).1 in
    round_parts (record { atoms = n; all = all; any = any; start = start; counted = counted })
    (record { atoms = m; all = all; any = any; start = start; counted = counted }) v v i
    (exists_fewer n m (any i) b below) (meets_fewer n m (any i) v b below)
    (within_fewer n m (all i) v b (λ k e. (p i k (le_trans l b) e).1))

-- rounds of two systems with the same rows, over the same atoms
pub round_same : (s s' : System) → s.atoms ≡ s'.atoms
    → ((i : ℕ) → i < s.atoms → Same s.atoms (s.all i) (s'.all i))
    → ((i : ℕ) → i < s.atoms → Same s.atoms (s.any i) (s'.any i))
    → (v v' : Set) → Same s.atoms v v' → Same s.atoms (round s v) (round s' v')
round_same s s' e p q v v' h i l =
    round_parts s s' v v' i
    (exists_same s.atoms (s.any i) (s'.any i) (q i l) ∙ ap (λ (n : ℕ). exists n (s'.any i)) e)
    (meets_same s.atoms (s.any i) (s'.any i) v v' (q i l) h ∙ ap (λ (n : ℕ). meets n (s'.any i) v') e)
    (within_same s.atoms (s.all i) (s'.all i) v v' (p i l) h ∙ ap (λ (n : ℕ). within n (s'.all i) v') e)
