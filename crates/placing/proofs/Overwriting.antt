-- Rows that are cleared and then written, areas that are cleared past their used part, and one row changed among the rows of a program.
-- Assumes nothing.
use mathlib.Core.Path.{◌≡◌, sym, ap, ap₂, ◌∙◌}
use mathlib.Core.Bool.{Bool, ◌||◌}
use mathlib.Core.List.{List, ◌++◌}
use Prim.Native.Nat.{ℕ, ◌+◌, ◌-◌, ◌*◌, ◌≤◌, ◌<◌}
use native.Mathlib.Omega.{arith}
use borrow.Author.Tests.{eqb-true, eqb-false}
use lib.Dec.{eqb}
use lib.ListN.{length, take, drop, replicate, length-replicate}
use Rattle.std.proofs.lemmas.List.{drop-replicate}
use lib.Seq.{length-take-le}
use Rattle.limits.specs.Book.{atoms, word_bits, row_words, row_area}
use Rattle.sets.specs.Set.{Set, pick, only, union, empty_set}
use Rattle.sets.proofs.Logic.{either, pick_true, pick_false}
use Rattle.areas.specs.Area.{part, put, begun, filled, cleared, Clear}
use Rattle.words.specs.Row.{row, pack}
use borrow.Rule.Slice.PartMut.{mid_of, put_mid, mid_len, Post-is}
use Rattle.words.proofs.Rows.{length_pack, pack_same, pack_row, row_past, row_zero}
use Rattle.rows.proofs.Reading.{Known, in_range}
use Rattle.areas.proofs.Begun.{length_begun}
use Rattle.areas.proofs.Filled.{front_cleared}
use Rattle.program.specs.Program.{Program}
use Rattle.program.specs.Standard.{standard}
use Rattle.systems.specs.Rows.{row_in, packed}
use Rattle.systems.specs.Rounds.{with_model}
use Rattle.systems.proofs.Packed.{length_packed, packed_same, packed_empty, wide_pack, row_begun, rows_next, put_row}
use Rattle.systems.proofs.Clearing.{tail_cleared, tail_clear}
use Rattle.placing.specs.Partial.{with_row, with_rows}

-- A row of zeros in which one atom joins is that atom alone.
pub alone_row : (i : ℕ) (old zeros new : List ℕ) → zeros ≡ replicate (length old) 0 → new ≡ pack (length zeros) (union (row zeros) (only i))
    → new ≡ pack (length old) (only i)
alone_row i old zeros new e q =
    q ∙ ap (λ (k : ℕ). pack k (union (row zeros) (only i))) (ap length e ∙ length-replicate (length old) 0)
    ∙ pack_same (length old) (union (row zeros) (only i)) (only i)
    (λ a l. ap (λ (ws : List ℕ). row ws a || eqb i a) e ∙ ap (λ (b : Bool). b || eqb i a) (row_zero (length old) a))

-- A row of w words whose first are those of a body, and the others zero, is the body's.
pub widened_row : (w : ℕ) (body : List ℕ) → Known body → length body ≤ w → body ++ replicate (w - length body) 0 ≡ pack w (row body)
widened_row w body known l =
    let n : length body + (w - length body) ≡ w = omega arith in
    ap (λ (ws : List ℕ). ws ++ replicate (w - length body) 0) (sym (pack_row body (in_range body known)))
    ∙ sym (wide_pack (length body) (w - length body) (row body) (row_past body))
    ∙ ap (λ (k : ℕ). pack k (row body)) n

pub widened : (old zeros first body : List ℕ) → Known body → length body ≤ length old → zeros ≡ replicate (length old) 0 → first ≡ body
    → first ++ drop (length body) zeros ≡ pack (length old) (row body)
widened old zeros first body known l e f =
    ap₂ (λ (xs zs : List ℕ). xs ++ drop (length body) zs) f e
    ∙ ap (λ (zs : List ℕ). body ++ zs) (drop-replicate (length body) (length old) 0)
    ∙ widened_row (length old) body known l

-- A row that was lent and comes back with a set stands in its place.
module _ (i at : ℕ) (area : List ℕ) (h : i < atoms) (l : row_area ≤ length area) (e : at ≡ i * row_words) where
  lent_long : length (mid_of at (at + row_words - at) area) ≡ row_words
  lent_long = mid_len at (at + row_words) area (omega arith) ∙ omega arith

  pub row_back : (f : Set) (ys : List ℕ) → ys ≡ pack (length (mid_of at (at + row_words - at) area)) f
      → put_mid at (at + row_words - at) area ys ≡ with_row i f area
  row_back f ys q =
      let n : ys ≡ pack row_words f = q ∙ ap (λ (k : ℕ). pack k f) lent_long in
      ap (λ (zs : List ℕ). take at area ++ (ys ++ zs)) (Post-is at (at + row_words) area (omega arith))
      ∙ ap (λ (zs : List ℕ). take at area ++ (zs ++ drop (at + row_words) area)) n
      ∙ ap (λ (k : ℕ). take at area ++ (pack row_words f ++ drop (at + k) area)) (sym (length_pack row_words f))
      ∙ ap (λ (k : ℕ). put k (pack row_words f) area) e

  -- one in which an atom has joined
  pub row_joined : (a : ℕ) (ys : List ℕ)
      → ys ≡ pack (length (mid_of at (at + row_words - at) area)) (union (row (mid_of at (at + row_words - at) area)) (only a))
      → put_mid at (at + row_words - at) area ys ≡ with_row i (union (row_in row_words area i) (only a)) area
  row_joined a ys q =
      let n : at + row_words - at ≡ row_words = omega arith in
      row_back (union (row (mid_of at (at + row_words - at) area)) (only a)) ys q
      ∙ ap₂ (λ (k w : ℕ). with_row i (union (row (part k w area)) (only a)) area) e n

-- the same for the set in a model area
pub model_back : (f : Set) (model ys : List ℕ) → row_words ≤ length model → ys ≡ pack (length (take row_words model)) f
    → ys ++ drop row_words model ≡ with_model f model
unfolding with_model begun
model_back f model ys l q =
    let n : ys ≡ pack row_words f = q ∙ ap (λ (k : ℕ). pack k f) (length-take-le row_words model l) in
    ap (λ (zs : List ℕ). zs ++ drop row_words model) n ∙ ap (λ (k : ℕ). pack row_words f ++ drop k model) (sym (length_pack row_words f))

-- one row more that is its own atom alone
pub alone_next : (i : ℕ) (old area new : List ℕ) → area ≡ begun (packed row_words i only) old → new ≡ with_row i (only i) area
    → new ≡ begun (packed row_words (i + 1) only) old
alone_next i old area new e q = rows_next row_words only old area i e new q

-- the "all" rows alone, and zeros past them
pub all_begun : (k u : ℕ) (old mid new : List ℕ) → k ≤ atoms → u ≡ k * row_words → mid ≡ begun (packed row_words k only) old → new ≡ cleared u row_area mid
    → new ≡ filled row_area (packed row_words k only) old
all_begun k u old mid new l e p =
    tail_cleared row_area u (packed row_words k only) old mid (e ∙ sym (length_packed row_words k only))
    (omega (arith, length_packed row_words k only)) p new

-- the "any" rows empty, and zeros past them
pub any_begun : (k u : ℕ) (old mid new : List ℕ) → k ≤ atoms → u ≡ k * row_words → mid ≡ cleared 0 u old → new ≡ cleared u row_area mid
    → new ≡ filled row_area (packed row_words k (λ i. empty_set)) old
any_begun k u old mid new l e p q =
    let none : ℕ → Set = λ i. empty_set in
    tail_cleared row_area u (packed row_words k none) old mid (e ∙ sym (length_packed row_words k none))
    (omega (arith, length_packed row_words k none))
    (front_cleared u old mid p ∙ ap (λ (xs : List ℕ). begun xs old) (ap (λ (n : ℕ). replicate n 0) e ∙ sym (packed_empty row_words k))) new q

-- neither area has a stale row past them, where it was clear before
pub all_clear : (k u : ℕ) (old mid : List ℕ) → k ≤ atoms → u ≡ k * row_words → mid ≡ begun (packed row_words k only) old → Clear row_area old
    → cleared u row_area mid ≡ mid
all_clear k u old mid l e =
    tail_clear row_area u (packed row_words k only) old mid (e ∙ sym (length_packed row_words k only)) (omega (arith, length_packed row_words k only))

pub any_clear : (k u : ℕ) (old mid : List ℕ) → k ≤ atoms → u ≡ k * row_words → mid ≡ cleared 0 u old → Clear row_area old → cleared u row_area mid ≡ mid
any_clear k u old mid l e p =
    let n : length (replicate {A = ℕ} u 0) ≡ u = length-replicate u 0 in
    tail_clear row_area u (replicate u 0) old mid (sym n) (omega arith) (front_cleared u old mid p)

-- the areas before any rule
pub ruleset beginning = (all_begun, any_begun)

-- Areas with the rows of a program's atoms.

module _ (p : Program) (few : (standard p).atoms ≤ atoms) (old area : List ℕ) (rows : ℕ → Set) (e : area ≡ with_rows p rows old) where
  -- as long as they were
  pub rows_long : row_area ≤ length old → length area ≡ length old
  rows_long h =
      let k : length (packed row_words (standard p).atoms rows) ≡ (standard p).atoms * row_words = length_packed row_words (standard p).atoms rows in
      ap length e ∙ length_begun (packed row_words (standard p).atoms rows) old (omega arith)

  -- rows that are the same
  pub rows_kept : (next : ℕ → Set) → ((i a : ℕ) → next i a ≡ rows i a) → area ≡ with_rows p next old
  rows_kept next h =
      e ∙ ap (λ (ws : List ℕ). begun ws old) (packed_same row_words (standard p).atoms rows next (λ i l a b. sym (h i a)))

  -- one row changed
  pub rows_changed : (i : ℕ) (f : Set) (new : List ℕ) (next : ℕ → Set) → i < (standard p).atoms → new ≡ with_row i f area
      → ((a : ℕ) → a < row_words * word_bits → next i a ≡ f a) → ((k : ℕ) → (i ≡ k → ⊥) → (a : ℕ) → next k a ≡ rows k a)
      → new ≡ with_rows p next old
  rows_changed i f new next l q here other =
      q ∙ ap (with_row i f) e ∙ put_row row_words (standard p).atoms i f rows old l
      ∙ ap (λ (ws : List ℕ). begun ws old)
      (packed_same row_words (standard p).atoms (λ k. pick (eqb i k) f (rows k)) next
      (λ k m a b.
      either (eqb i k)
      (λ t.
      ap (λ (g : Set). g a) (pick_true f (rows k) t) ∙ sym (here a b) ∙ ap (λ (x : ℕ). next x a) (eqb-true i k t))
      (λ t. ap (λ (g : Set). g a) (pick_false f (rows k) t) ∙ sym (other k (eqb-false i k t) a))))

  -- an atom joins a row
  pub rows_joined : (i b : ℕ) (new : List ℕ) (next : ℕ → Set) → i < (standard p).atoms
      → new ≡ with_row i (union (row_in row_words area i) (only b)) area
      → ((a : ℕ) → next i a ≡ union (rows i) (only b) a) → ((k : ℕ) → (i ≡ k → ⊥) → (a : ℕ) → next k a ≡ rows k a)
      → new ≡ with_rows p next old
  rows_joined i b new next l q here other =
      rows_changed i (union (row_in row_words area i) (only b)) new next l q
      (λ a h.
      here a
      ∙ ap (λ (x : Bool). x || only b a)
      (sym (ap (λ (ws : List ℕ). row_in row_words ws i a) e ∙ row_begun row_words (standard p).atoms rows old i a l h))) other
