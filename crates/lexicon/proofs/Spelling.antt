-- A row against a name, a byte at a time, and the row written.
-- Assumes nothing.
use mathlib.Core.Path.{◌≡◌, refl, sym, ap, ap₂, ◌∙◌}
use mathlib.Core.List.{[], ◌∷◌, ◌++◌, map, append_assoc}
use mathlib.Core.Bool.{Bool, true, false, not, ◌&&◌, ◌||◌, and_assoc}
use Prim.Native.Nat.{ℕ, suc, ◌+◌, ◌-◌, ◌≤◌, ◌<◌}
use native.Mathlib.Numerals.{add-one}
use native.Mathlib.Omega.{arith}
use lib.Dec.{eqb, leb, eqb-suc-zero}
use lib.ListN.{length, get_or, take, set, replicate, length-map}
use lib.Seq.{length-take-le, take_all, take-suc, set-append_seam}
use borrow.Author.Tests.{eq-eqb, ne_eqb, eqb-true, eqb-false, leb-true}
use Rattle.std.specs.Prelude.{zip}
use Rattle.std.proofs.lemmas.List.{get_or-map}
use Rattle.std.specs.List.{list_all}
use Rattle.limits.specs.Book.{name_bytes}
use Rattle.sets.specs.Set.{pick}
use Rattle.sets.proofs.Logic.{either, clash, and_left, and_right, and_make, of_not}
use Rattle.grammar.specs.Bytes.{Bytes, name_byte, all_of}
use Rattle.grammar.specs.Lines.{span, run, is_name}
use Rattle.grammar.proofs.Words.{name_bytes_lem}
use Rattle.tables.specs.Numbering.{same_bytes}
use Rattle.tables.specs.Areas.{nonzero, padded}
use Rattle.tables.proofs.Encoding.{Fine}

-- a row's bytes up to its first zero against a word whose first byte is not zero
same_step : (x y : ℕ) (r w : Bytes) → (y ≡ 0 → ⊥) → same_bytes (run nonzero (x ∷ r)) (y ∷ w) ≡ eqb x y && same_bytes (run nonzero r) w
unfolding span nonzero same_bytes pick
same_step x y r w h =
    either (eqb x 0)
    (λ e.
    let q : x ≡ 0 = eqb-true x 0 e in
    rw e (sym (ap (λ (b : Bool). b && same_bytes (run nonzero r) w) (ne_eqb x y (λ f. h (sym f ∙ q))))))
    (λ e. rw e)

-- and against the empty word
same_end : (r : Bytes) → same_bytes (run nonzero r) [] ≡ eqb (length r) 0 || eqb (get_or r 0 0) 0
unfolding span nonzero same_bytes pick
same_end [] = refl
same_end (x ∷ r) = either (eqb x 0) (λ e. rw (e, eqb-suc-zero)) (λ e. rw (e, eqb-suc-zero))

-- a name has at most 32 bytes
pub name_fits : (fold : ℕ → ℕ) (s : Bytes) → is_name fold s ≡ true → length s ≤ name_bytes
unfolding is_name
name_fits fold s h =
    leb-true (length s) name_bytes
    (and_left (leb (length s) name_bytes) (all_of (name_byte fold) s) (and_right (leb 1 (length s)) (leb (length s) name_bytes && all_of (name_byte fold) s) h))

-- folded bytes that names have are not zero
all_folded : (fold : ℕ → ℕ) (s : Bytes) → all_of (name_byte fold) s ≡ true → all_of nonzero (map fold s) ≡ true
unfolding all_of name_byte nonzero
all_folded fold [] h = refl
all_folded fold (b ∷ s) h =
    and_make (and_left (not (eqb (fold b) 0)) (all_of (name_byte fold) s) h)
    (all_folded fold s (and_right (not (eqb (fold b) 0)) (all_of (name_byte fold) s) h))

-- so a folded name is fit for the name area
pub word_fine : (fold : ℕ → ℕ) (s : Bytes) → is_name fold s ≡ true → Fine (map fold s)
word_fine fold s h = (omega (arith, length-map s fold, name_fits fold s h), all_folded fold s (name_bytes_lem fold s h))

-- a row begins with the folded bytes s
abbrev agrees : (ℕ → ℕ) → Bytes → Bytes → Bool
agrees fold s row = list_all (λ p. eqb p.1 (fold p.0)) (zip s (take (length s) row))

module _ (fold : ℕ → ℕ) where
  -- no byte of a name's folds to zero
  first_some : (b : ℕ) (s : Bytes) → all_of (name_byte fold) (b ∷ s) ≡ true → fold b ≡ 0 → ⊥
  unfolding all_of name_byte
  first_some b s h e =
      clash (eq-eqb (fold b) 0 e) (of_not (eqb (fold b) 0) (and_left (not (eqb (fold b) 0)) (all_of (name_byte fold) s) h))

  rest_some : (b : ℕ) (s : Bytes) → all_of (name_byte fold) (b ∷ s) ≡ true → all_of (name_byte fold) s ≡ true
  unfolding all_of
  rest_some b s h = and_right (name_byte fold b) (all_of (name_byte fold) s) h

  -- a row as long as the bytes is they where it begins with them
  whole : (s row : Bytes) → all_of (name_byte fold) s ≡ true → length s ≡ length row
      → same_bytes (run nonzero row) (map fold s) ≡ agrees fold s row
  whole [] [] h l = same_end []
  whole [] (x ∷ row) h l = absurd (omega arith)
  whole (b ∷ s) [] h l = absurd (omega arith)
  whole (b ∷ s) (x ∷ row) h l =
      same_step x (fold b) row (map fold s) (first_some b s h)
      ∙ ap (λ (r : Bool). eqb x (fold b) && r) (whole s row (rest_some b s h) (omega arith))

  -- a longer one, where a zero follows
  padded_lem : (s row : Bytes) → all_of (name_byte fold) s ≡ true → length s < length row
      → same_bytes (run nonzero row) (map fold s) ≡ agrees fold s row && eqb (get_or row (length s) 0) 0
  padded_lem s [] h l = absurd (omega arith)
  padded_lem [] (x ∷ row) h l = same_end (x ∷ row) ∙ rw eqb-suc-zero refl
  padded_lem (b ∷ s) (x ∷ row) h l =
      same_step x (fold b) row (map fold s) (first_some b s h)
      ∙ ap (λ (r : Bool). eqb x (fold b) && r) (padded_lem s row (rest_some b s h) (omega arith))
      ∙ sym (and_assoc (eqb x (fold b)) (agrees fold s row) (eqb (get_or row (length s) 0) 0))

module _ (fold : ℕ → ℕ) (s row : Bytes) (h : is_name fold s ≡ true) (size : length row ≡ name_bytes) (r : Bool) (e : r ≡ agrees fold s row) where
  -- a name of 32 bytes
  pub fills_full : r ≡ true → length s ≡ name_bytes → eqb (length s) name_bytes ≡ same_bytes (run nonzero row) (map fold s)
  fills_full t l =
      eq-eqb (length s) name_bytes l ∙ sym (whole fold s row (name_bytes_lem fold s h) (omega arith) ∙ sym e ∙ t)

  -- a shorter one
  pub fills_less : r ≡ true → (length s ≡ name_bytes → ⊥) → eqb (get_or row (length s) 0) 0 ≡ same_bytes (run nonzero row) (map fold s)
  fills_less t l =
      let m : length s ≤ name_bytes = name_fits fold s h in
      sym (padded_lem fold s row (name_bytes_lem fold s h) (omega arith) ∙ ap (λ (b : Bool). b && eqb (get_or row (length s) 0) 0) (sym e ∙ t))

  -- a row that begins otherwise
  pub fills_off : r ≡ false → r ≡ same_bytes (run nonzero row) (map fold s)
  fills_off f =
      let m : length s ≤ name_bytes = name_fits fold s h in
      let n : all_of (name_byte fold) s ≡ true = name_bytes_lem fold s h in
      either (eqb (length s) name_bytes)
      (λ t. let l : length s ≡ name_bytes = eqb-true (length s) name_bytes t in e ∙ sym (whole fold s row n (omega arith)))
      (λ t.
      let l : length s ≡ name_bytes → ⊥ = eqb-false (length s) name_bytes t in
      f ∙ sym (padded_lem fold s row n (omega arith) ∙ ap (λ (b : Bool). b && eqb (get_or row (length s) 0) 0) (sym e ∙ f)))

-- a row that takes the first i bytes of a folded name, and is clear past them
unfoldable pub written : Bytes → ℕ → Bytes
written w i = take i w ++ replicate (name_bytes - i) 0

module _ (fold : ℕ → ℕ) (s : Bytes) (h : is_name fold s ≡ true) where
  -- none of them yet
  pub write_none : (row : Bytes) → row ≡ replicate name_bytes 0 → row ≡ written (map fold s) 0
  unfolding written
  write_none row e = e

  -- one byte more
  pub write_on : (row : Bytes) (i x : ℕ) → i < length s → x ≡ fold (get_or s i 0)
      → row ≡ written (map fold s) i → set row i x ≡ written (map fold s) (i + 1)
  unfolding written
  write_on row i x l e p =
      let m : length s ≤ name_bytes = name_fits fold s h in
      let n : length (map fold s) ≡ length s = length-map s fold in
      let k : length (take i (map fold s)) ≡ i = length-take-le i (map fold s) (omega arith) in
      let z : name_bytes - i ≡ suc (name_bytes - (i + 1)) = omega arith in
      let q : x ≡ get_or (map fold s) i 0 = e ∙ sym (get_or-map fold s i 0 0 l) in
      let front : Bytes = take i (map fold s) in
      let rest : Bytes = replicate (name_bytes - (i + 1)) 0 in
      ap (λ (r : Bytes). set r i x) (p ∙ ap (λ (j : ℕ). front ++ replicate j 0) z)
      ∙ ap (λ (j : ℕ). set (front ++ (0 ∷ rest)) j x) (sym k) ∙ set-append_seam front 0 rest x
      ∙ ap (λ (y : ℕ). front ++ (y ∷ rest)) q
      ∙ sym (append_assoc front (get_or (map fold s) i 0 ∷ []) rest)
      ∙ ap (λ (xs : Bytes). xs ++ rest) (sym (take-suc (map fold s) i 0 (omega arith)) ∙ ap (λ (j : ℕ). take j (map fold s)) (sym (add-one i)))

-- all of them
pub write_all : (fold : ℕ → ℕ) (s row w : Bytes) (i : ℕ) → w ≡ map fold s → i ≤ length s → length s ≤ i → row ≡ written w i → row ≡ padded w
unfolding written padded
write_all fold s row w i q l m p =
    let n : length w ≡ length s = ap length q ∙ length-map s fold in
    let e : i ≡ length w = omega arith in
    p ∙ ap₂ (λ (xs : Bytes) (k : ℕ). xs ++ replicate (name_bytes - k) 0) (take_all i w (omega arith)) e

-- what proves that a row is compared, and that it is written
pub ruleset compares = (name_fits, fills_off, fills_full, fills_less)

pub ruleset writes = (name_fits, write_none, write_on, write_all)
