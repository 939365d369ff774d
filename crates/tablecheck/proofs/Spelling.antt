-- The names of a name area: what is found for one, and when a row holds a folded name.
-- Assumes nothing.
use mathlib.Core.Path.{◌≡◌, sym, ap, ap₂, ◌∙◌}
use mathlib.Core.Bool.{true, false, ◌&&◌}
use mathlib.Core.List.{[], map}
use Prim.Native.Nat.{ℕ, ◌+◌, ◌-◌, ◌*◌, ◌≤◌, ◌<◌}
use native.Mathlib.Omega.{arith}
use lib.Dec.{eqb, leb, ltb}
use lib.ListN.{length, take, drop, get_or, get_or-eq_default}
use borrow.Author.Tests.{le-leb, lt-leb, ltb-true, ltb-false}
use Rattle.std.specs.Prelude.{take_while, not}
use Rattle.std.proofs.lemmas.List.{take_all, length-drop, length-take}
use Rattle.limits.specs.Book.{names, name_bytes, name_area}
use Rattle.sets.proofs.Logic.{either, pick_true, pick_false}
use Rattle.areas.specs.Area.{part}
use Rattle.grammar.specs.Bytes.{Bytes, all_of}
use Rattle.grammar.specs.Lines.{span}
use Rattle.grammar.proofs.Spans.{span_le}
use Rattle.tables.specs.Areas.{nonzero, name_at, names_in, look_up}
use Rattle.tables.specs.Writing.{own, good_name, zero_from}
use Rattle.tables.proofs.Encoding.{name_fits, length_names_from, get_or_names_from}
use Rattle.lexicon.proofs.LookUp.{name_run}
use Rattle.tablecheck.proofs.Words.{zeros_of}

-- a row's bytes before its first zero are the name
pub name_found : (area : Bytes) (a : ℕ) (row : Bytes) → row ≡ part (a * name_bytes) name_bytes area
    → (name : Bytes) → name ≡ take_while (λ b. not (eqb b 0)) row → name ≡ name_at area a
unfolding name_at
name_found area a row e name f = f ∙ ap (take_while (λ b. not (eqb b 0))) e ∙ name_run (part (a * name_bytes) name_bytes area)

-- what the look-up finds is the name with that number, and nothing where there is none
pub look_up_is : (area : Bytes) (n a : ℕ) → n ≤ names → name_area ≤ length area → look_up area n a ≡ get_or (names_in area n) a []
unfolding look_up
look_up_is area n a l k =
    let e : 0 + a ≡ a = omega arith in
    either (ltb a n)
    (λ t. pick_true _ _ (rw (t, le-leb n names l, le-leb name_area (length area) k))
    ∙ sym (get_or_names_from area n 0 a (ltb-true a n t) ∙ ap (name_at area) e))
    (λ t. pick_false _ _ (rw t) ∙ sym (get_or-eq_default (names_in area n) [] {n = a} (omega (arith, length_names_from area n 0, ltb-false a n t))))

pub look_up_fits : (area : Bytes) (n a : ℕ) → length (look_up area n a) ≤ name_bytes
unfolding look_up
look_up_fits area n a =
    either (ltb a n && (leb n names && leb name_area (length area)))
    (λ t. omega (arith, ap length (pick_true (name_at area a) [] t), name_fits area a))
    (λ t. omega (arith, ap length (pick_false (name_at area a) [] t)))

-- the name in row a is so many bytes long
module _ (fold : ℕ → ℕ) (area : Bytes) (a : ℕ) (row : Bytes) (h : row ≡ part (a * name_bytes) name_bytes area) (len : ℕ)
    (q : len ≡ length (name_at area a)) where
  -- they are the row's first
  front : part 0 (len - 0) row ≡ name_at area a
  unfolding name_at
  front =
      let P : Bytes = part (a * name_bytes) name_bytes area in
      let n : len - 0 ≡ span nonzero P = omega (arith, q, length-take {A = ℕ}, span_le nonzero P) in
      ap₂ (λ (k : ℕ) (xs : Bytes). take k xs) n h

  -- an empty name
  pub good_none : len ≤ 0 → false ≡ good_name fold area a
  unfolding good_name
  good_none t = let l : length (name_at area a) < 1 = omega arith in rw (lt-leb 1 (length (name_at area a)) l)

  -- a name with a strange byte
  pub good_strange : all_of (own fold) (part 0 (len - 0) row) ≡ false → false ≡ good_name fold area a
  unfolding good_name
  good_strange g =
      let z : all_of (own fold) (name_at area a) ≡ false = ap (all_of (own fold)) (sym front) ∙ g in
      either (leb 1 (length (name_at area a))) (λ t. rw (t, z)) (λ t. rw t)

  -- else the padding decides
  pub good_rest : 0 < len → all_of (own fold) (part 0 (len - 0) row) ≡ true → zero_from len (length row) (map (λ n. n) row) ≡ good_name fold area a
  unfolding good_name zero_from
  good_rest f g =
      let z : all_of (own fold) (name_at area a) ≡ true = ap (all_of (own fold)) (sym front) ∙ g in
      let l : 1 ≤ length (name_at area a) = omega arith in
      let t : take (length row - len) (drop len row) ≡ drop len row = take_all (length row - len) (drop len row) (omega (arith, length-drop {A = ℕ})) in
      zeros_of len (length row) row
      ∙ ap (all_of (λ b. eqb b 0)) (t ∙ ap₂ (λ (k : ℕ) (xs : Bytes). drop k xs) q h)
      ∙ sym (rw (le-leb 1 (length (name_at area a)) l, z))

-- each outcome of a look at row a
pub ruleset row_outcomes = (good_none, good_strange, good_rest)
