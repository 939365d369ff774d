-- The two tests of a lent table's entries, as the code goes, one after the other; and the number by them.
-- Assumes nothing.
use mathlib.Core.Path.{◌≡◌, refl, sym, ap, ◌∙◌}
use mathlib.Core.Bool.{Bool, true, false, not, ◌&&◌, ◌||◌}
use mathlib.Core.List.{List, [], ◌∷◌, reverse}
use Prim.Native.Nat.{ℕ, zero, suc, ◌<◌, ◌≤◌}
use native.Mathlib.Numerals.{add-one}
use native.Mathlib.Omega.{arith}
use lib.Dec.{eqb}
use lib.ListN.{length, get_or, take, length-take}
use lib.Seq.{take-length}
use borrow.Author.Tests.{lt-ltb, le-ltb}
use Rattle.std.specs.List.{list_any}
use Rattle.std.proofs.Math.Bool.{or_comm}
use Rattle.std.proofs.lemmas.List.Folds.{list_any_more}
use Rattle.std.proofs.lemmas.List.Sorted.{list_any-IsPermutation, IsPermutation-reverse}
use Rattle.limits.specs.Book.{letter_bytes}
use Rattle.sets.specs.Set.{pick, exists}
use Rattle.sets.proofs.Logic.{pick_true, pick_false}
use Rattle.sets.proofs.Tests.{exists_same}
use Rattle.grammar.specs.Bytes.{reserved, blank, letters}
use Rattle.grammar.proofs.Letters.{cause_fold, cause_low, cause_first}
use Rattle.grammar.specs.Letters.{FoldTable, has_entry, any_reserved, any_unsettled, table_cause, letters_cause}

-- so many elements from the front on, tested by place and one after the other
exists_take : (p : ℕ → Bool) (xs : List ℕ) (n : ℕ) → n ≤ length xs → exists n (λ k. p (get_or xs k 0)) ≡ list_any p (take n xs)
unfolding exists
exists_take p xs zero l = refl
exists_take p xs (suc n) l =
    ap (λ (b : Bool). p (get_or xs n 0) || b) (exists_take p xs n (omega arith))
    ∙ or_comm (p (get_or xs n 0)) (list_any p (take n xs))
    ∙ sym (list_any_more p xs n 0 (omega arith))
    ∙ ap (λ (k : ℕ). list_any p (take k xs)) (add-one n)

-- the reserved bytes, rising
abbrev pub listed : List ℕ
listed = 0 ∷ 9 ∷ 10 ∷ 13 ∷ 32 ∷ 33 ∷ 35 ∷ 58 ∷ 64 ∷ []

module _ (table : List ℕ) where
  -- the entry of a byte
  pub at_byte : (b : ℕ) → b < letter_bytes → get_or table b 0 ≡ letters table b
  unfolding letters
  at_byte b l = sym (pick_true (get_or table b 0) 0 (lt-ltb b letter_bytes l))

  -- an entry of a reserved byte
  abbrev pub taken : ℕ → Bool
  taken b = not (eqb (get_or table b 0) 0)

  pub any_listed : (r : Bool) → r ≡ list_any taken listed → r ≡ any_reserved table
  unfolding any_reserved exists reserved blank letters pick
  any_listed r e =
      let turned : list_any taken (reverse listed) ≡ any_reserved table = refl in
      e ∙ list_any-IsPermutation taken listed (reverse listed) (IsPermutation-reverse listed) ∙ turned

  -- an entry, not zero, that is not its own
  abbrev pub stray : ℕ → Bool
  stray e = not (eqb e 0) && not (eqb (get_or table e 0) e)

  pub any_stray : (r : Bool) → length table ≡ letter_bytes → ((b : ℕ) → get_or table b 0 < letter_bytes)
      → r ≡ list_any stray table → r ≡ any_unsettled table
  unfolding any_unsettled
  any_stray r l m e =
      e ∙ ap (list_any stray) (sym (take-length table) ∙ ap (λ (n : ℕ). take n table) l)
      ∙ sym (exists_take stray table letter_bytes (omega arith))
      ∙ exists_same letter_bytes (λ b. stray (get_or table b 0))
      (λ b. has_entry table b && not (eqb (letters table (letters table b)) (letters table b)))
      (λ b k.
      ap (λ (n : ℕ). not (eqb (get_or table b 0) 0) && not (eqb n (get_or table b 0))) (at_byte (get_or table b 0) (m b))
      ∙ ap (λ (n : ℕ). not (eqb n 0) && not (eqb (letters table n) n)) (at_byte b k))

-- What is judged of a table whose other areas are long enough: its first 256 entries, one test after the other.
abbrev judged : List ℕ → ℕ
judged = letters_cause false

pub cause_short : (table : List ℕ) → length table < letter_bytes → 1 ≡ judged table
unfolding letters_cause
cause_short table l = sym (pick_true 1 (table_cause table) (lt-ltb (length table) letter_bytes l))

module _ (table entries : List ℕ) (long : letter_bytes ≤ length table) (first : entries ≡ take letter_bytes table) where
  by_entries : judged table ≡ table_cause entries
  unfolding letters_cause
  by_entries =
      let size : length entries ≡ letter_bytes = omega (arith, ap length first, length-take letter_bytes table) in
      cause_first table false ∙ ap judged (sym first)
      ∙ pick_false 1 (table_cause entries) (le-ltb (length entries) letter_bytes (omega arith))

  pub cause_reserved : any_reserved entries ≡ true → 20 ≡ judged table
  unfolding table_cause
  cause_reserved e = sym (by_entries ∙ pick_true 20 (pick (any_unsettled entries) 21 0) e)

  module _ (none : any_reserved entries ≡ false) where
    cause_entries : judged table ≡ pick (any_unsettled entries) 21 0
    unfolding table_cause
    cause_entries = by_entries ∙ pick_false 20 (pick (any_unsettled entries) 21 0) none

    pub cause_unsettled : any_unsettled entries ≡ true → 21 ≡ judged table
    cause_unsettled e = sym (cause_entries ∙ pick_true 21 0 e)

    pub cause_none : any_unsettled entries ≡ false → 0 ≡ judged table
    cause_none e = sym (cause_entries ∙ pick_false 21 0 e)

    -- a table of which none is true passes
    pub table_passes : any_unsettled entries ≡ false → FoldTable table
    unfolding letters_cause
    table_passes e =
        let same : table_cause table ≡ 0 =
        sym (pick_false 1 (table_cause table) (le-ltb (length table) letter_bytes long)) ∙ sym (cause_none e) in
        (long, cause_fold table same)

-- A caller that is lent other areas too asks first whether one of them is too short: then nothing is judged, else what is judged of the table
-- alone is judged of all.
pub short_first : (low : Bool) (table : List ℕ) → low ≡ true → 1 ≡ letters_cause low table
short_first low table e = sym (cause_low low table e)

pub table_next : (low : Bool) (table : List ℕ) (k : ℕ) → low ≡ false → k ≡ letters_cause false table → k ≡ letters_cause low table
table_next low table k e q = q ∙ ap (λ (b : Bool). letters_cause b table) (sym e)
