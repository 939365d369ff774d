-- The listing: the head line, then one line for each held name and for no other, by rising number.
-- Assumes nothing.
use mathlib.Core.Path.{◌≡◌, refl, sym, ap, ◌∙◌, subst}
use mathlib.Core.Logic.{inl, inr, ◌↔◌}
use mathlib.Core.Bool.{true}
use mathlib.Core.List.{List, [], ◌∷◌, map}
use Prim.Native.Nat.{ℕ, zero, suc, ◌+◌, ◌≤◌, ◌<◌}
use native.Mathlib.Omega.{arith}
use lib.ListN.{length, get_or, length-map}
use Rattle.sets.specs.Set.{Set, Same, count, members}
use Rattle.sets.proofs.Counting.{count_same}
use Rattle.sets.proofs.Walk.{Walked, members_count, walked}
use Rattle.program.specs.System.{System, folded, rounds_of, held_by}
use Rattle.program.specs.Standard.{helper, standard}
use Rattle.grammar.specs.Bytes.{Bytes, Folding, not_end, all_of, Among, letters}
use Rattle.grammar.specs.Grammar.{Unbroken}
use Rattle.tables.specs.Numbering.{place, names_of, program_of}
use Rattle.tables.specs.Areas.{tables_of, look_up}
use Rattle.tables.proofs.Numbering.{numbers}
use Rattle.tables.proofs.Good.{good_unbroken}
use Rattle.tables.proofs.Theorems.{read_good_at, read_fine}
use Rattle.systems.specs.Rounds.{model_in, with_model}
use Rattle.systems.specs.Rows.{below}
use Rattle.systems.proofs.Running.{model_below}
use Rattle.solving.specs.Listing.{held_names, listing_lines, listed}
use Rattle.solving.specs.Solve.{SolveAreas, SolveOutcome, answer_of, solved_areas, solve_call}
use Rattle.solving.specs.Held.{HeldIn}
use Rattle.solving.specs.ListingClaims.{Lists}
use Rattle.solving.proofs.Decimal.{listing_fits}
use Rattle.solving.proofs.Printable.{not_ends, head_all, listing_nonzero}
use Rattle.solving.proofs.Judging.{Solved, solved_of, look_up_read}
use Rattle.solving.proofs.Past.{rounds_limit}

-- Names by number.

-- a name that stands in the list has a place there
among_at : (g : ℕ → Bytes) (xs : List ℕ) (x : Bytes) → Among x (map g xs) → (i : ℕ) × (i < length xs) × (g (get_or xs i 0) ≡ x)
unfolding Among
among_at g [] x m = absurd m
among_at g (a ∷ xs) x (inl e) = (zero, omega arith, e)
among_at g (a ∷ xs) x (inr m) = let r = among_at g xs x m in (suc r.0, omega (arith, r.1), r.2)

-- and what has one stands there
among_make : (g : ℕ → Bytes) (xs : List ℕ) (i : ℕ) → i < length xs → Among (g (get_or xs i 0)) (map g xs)
unfolding Among
among_make g [] i l = absurd (omega arith)
among_make g (a ∷ xs) zero l = inl refl
among_make g (a ∷ xs) (suc i) l = inr (among_make g xs i (omega arith))

-- the name at a place
name_of : (g : ℕ → Bytes) (xs : List ℕ) (i : ℕ) → i < length xs → get_or (map g xs) i [] ≡ g (get_or xs i 0)
name_of g [] i l = absurd (omega arith)
name_of g (a ∷ xs) zero l = refl
name_of g (a ∷ xs) (suc i) l = name_of g xs i (omega arith)

-- Line ends.

-- names without one are lines
lines_of : (g : ℕ → Bytes) (xs : List ℕ) → ((i : ℕ) → i < length xs → all_of not_end (g (get_or xs i 0)) ≡ true) → Unbroken (map g xs)
unfolding Unbroken
lines_of g [] h = tt
lines_of g (a ∷ xs) h = (h zero (omega arith), lines_of g xs (λ i l. h (suc i) (omega arith)))

module _ (table : List ℕ) (t : Bytes) (k : ℕ) (old : SolveAreas) (s : Solved table t k old) where
  abbrev fold : ℕ → ℕ
  fold = letters table

  abbrev folding : Folding fold
  folding = s.folding

  -- the names, the folded rows, the set held, and the numbers of the names held
  abbrev ns : List Bytes
  ns = names_of s.cs

  abbrev rows : System
  rows = folded k (standard (program_of s.cs))

  abbrev f : Set
  f = held_by rows

  abbrev xs : List ℕ
  xs = members (length ns) f 0

  -- names are atoms
  names_atoms : length ns ≤ rows.atoms
  unfolding program_of helper
  names_atoms = omega arith

  -- the model area has them as they are held
  model_at : Same (length ns) (model_in (with_model (below rows.atoms f) old.model)) f
  model_at a l = model_below rows.atoms f old.model s.few a (omega (arith, names_atoms))

  -- and the look-up has their names
  name_at_lem : (a : ℕ) → a < length ns → look_up (tables_of s.cs old.tables).spellings (length ns) a ≡ get_or ns a []
  name_at_lem = look_up_read fold folding t s.cs s.reads old.tables s.range.0.0.spellings

  -- the walk over those held
  walk : Walked f 0 (length ns) xs
  walk = walked (length ns) f 0 (length ns) (omega arith)

  -- a name stands among those listed exactly where it is held
  listed_held : (x : Bytes) → Among x (held_names ns f)
      ↔ HeldIn (tables_of s.cs old.tables).spellings (length ns) (with_model (below rows.atoms f) old.model) x
  unfolding held_names
  listed_held x = (
    λ m.
        let r = among_at (λ a. get_or ns a []) xs x m in
        let a : ℕ = get_or xs r.0 0 in
        let w = walk.stop r.0 r.1 in
        (a, w.1, model_at a w.1 ∙ w.2, name_at_lem a w.1 ∙ r.2),
    λ (a, l, e, q).
        let r = walk.has a (omega arith) l (sym (model_at a l) ∙ e) in
        subst (λ (y : Bytes). Among y (map (λ a. get_or ns a []) xs))
        (ap (λ (b : ℕ). get_or ns b []) r.2 ∙ sym (name_at_lem a l) ∙ q)
        (among_make (λ a. get_or ns a []) xs r.0 r.1),
  )

  -- no name is listed twice
  listed_once : (i j : ℕ) → i < j → j < length xs → get_or (held_names ns f) i [] ≡ get_or (held_names ns f) j [] → ⊥
  unfolding held_names
  listed_once i j h l e =
      let b : i < length xs = omega arith in
      let rise : get_or xs i 0 < get_or xs j 0 = walk.rising i j h l in
      let same : get_or ns (get_or xs i 0) [] ≡ get_or ns (get_or xs j 0) [] =
      sym (name_of (λ a. get_or ns a []) xs i b) ∙ e ∙ name_of (λ a. get_or ns a []) xs j l in
      let one : get_or xs i 0 ≡ get_or xs j 0 =
      sym ((numbers s.cs).number (get_or xs i 0) (walk.stop i b).1) ∙ ap (place ns) same
      ∙ (numbers s.cs).number (get_or xs j 0) (walk.stop j l).1 in
      omega arith

  -- what an accepted call lists
  solved_lists : Lists (record { answer = answer_of (program_of s.cs) k; areas = solved_areas s.cs k old }) k old.listing
  unfolding answer_of solved_areas program_of listed listing_lines held_names
  solved_lists =
      let size : length (held_names ns f) ≡ length xs = length-map xs (λ a. get_or ns a []) in
      record {
        held = held_names ns f;
        area = refl;
        fits =
            listing_fits ns f k (rounds_of rows) s.fits.names_fit s.range.2 (rounds_limit s.cs k s.few)
            (λ a l. (read_fine fold folding t s.cs s.reads a l).0);
        text = listing_nonzero ns (read_fine fold folding t s.cs s.reads) f k (rounds_of rows);
        lines = unfold Unbroken in (
          head_all not_end not_ends (length ns) (count (length ns) f) k (rounds_of rows),
          lines_of (λ a. get_or ns a []) xs
              (λ i l. good_unbroken fold folding (read_good_at fold folding t s.cs s.reads (get_or xs i 0) (walk.stop i l).1)),
        );
        only = listed_held;
        one_each =
            size ∙ members_count (length ns) f 0 ∙ count_same (length ns) (λ j. f (0 + j)) f (λ j l. let z : 0 + j ≡ j = omega arith in ap f z);
        once = λ i j h l. listed_once i j h (omega arith);
        numbers = λ i. get_or xs i 0;
        spelt = λ i l.
            let b : i < length xs = omega arith in
            let w = walk.stop i b in (
              w.1,
              model_at (get_or xs i 0) w.1 ∙ w.2,
              name_of (λ a. get_or ns a []) xs i b ∙ sym (name_at_lem (get_or xs i 0) w.1),
            );
        rising = λ i j h l. walk.rising i j h (omega arith);
      }

-- what the solver lists where it accepts
pub solve_lists : (table : List ℕ) (t : Bytes) (k : ℕ) (old : SolveAreas) → (solve_call table t k old).answer.number ≡ 0
    → Lists (solve_call table t k old) k old.listing
solve_lists table t k old z =
    let s : Solved table t k old = solved_of table t k old z in
    subst (λ (r : SolveOutcome). Lists r k old.listing) (sym s.is) (solved_lists table t k old s)
