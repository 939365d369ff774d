-- What the lister prints, and the area in which it is laid out.
-- Assumes nothing.
use mathlib.Core.Path.{◌≡◌, refl, sym, ap, ap₂, ◌∙◌}
use mathlib.Core.Logic.{⊎_elim}
use mathlib.Core.Bool.{true}
use mathlib.Core.List.{List, [], ◌∷◌, ◌++◌}
use Prim.Native.Nat.{ℕ, suc, ◌+◌, ◌-◌, ◌≤◌}
use native.Mathlib.Omega.{arith}
use lib.Dec.{eqb}
use lib.ListN.{length, replicate, length-append, drop_of_length-le}
use borrow.Author.Tests.{eqb-true, eqb-false}
use Rattle.limits.specs.Book.{folds, listing_bytes}
use Rattle.sets.proofs.Logic.{either}
use Rattle.program.specs.System.{rounds_of, held_by}
use Rattle.grammar.specs.Bytes.{Bytes, Folding, bytes, line_end, all_of, letters, our_letters}
use Rattle.grammar.specs.Letters.{FoldTable, our_table}
use Rattle.grammar.proofs.Letters.{our_letters_lem}
use Rattle.grammar.specs.Grammar.{joined}
use Rattle.grammar.proofs.Spans.{all_both}
use Rattle.areas.specs.Area.{begun, filled, cleared}
use Rattle.tables.specs.Numbering.{names_of}
use Rattle.tables.specs.Areas.{nonzero}
use Rattle.areas.proofs.Begun.{length_begun}
use Rattle.areas.proofs.Filled.{begun_filled}
use Rattle.tables.proofs.Theorems.{read_fine}
use Rattle.solving.specs.Listing.{decimal, listing_lines, listed}
use Rattle.solving.proofs.Decimal.{figures_short}
use Rattle.solving.proofs.Printable.{decimal_all, quoted_all, not_zero, listing_nonzero}
use Rattle.hosting.specs.List.{ListOutcome, list_call}
use Rattle.hosting.specs.Print.{refusal_line, printed, PrintOutcome, print_call}
use Rattle.hosting.proofs.Range.{Ranged, ranges}
use Rattle.hosting.proofs.Ways.{Refused, Listed, rows_of, way}

-- The area of 4,608 bytes.

-- what it held before does not matter
filled_anew : (xs old : Bytes) → length old ≡ listing_bytes → filled listing_bytes xs old ≡ filled listing_bytes xs []
unfolding filled
filled_anew xs old e =
    let past : length old ≤ listing_bytes = omega arith in
    ap (λ (s : Bytes). xs ++ (replicate (listing_bytes - length xs) 0 ++ s)) (drop_of_length-le old past)

-- a refusal's line has no zero byte
refusal_nonzero : (number line : ℕ) → all_of nonzero (refusal_line number line) ≡ true
unfolding refusal_line
refusal_nonzero number line =
    all_both nonzero (bytes "DPL 0001 refused=") _ (quoted_all nonzero not_zero _ (unfold all_of in refl))
    (all_both nonzero (decimal number) _ (decimal_all nonzero not_zero number)
    (all_both nonzero (bytes " line=") (decimal line) (quoted_all nonzero not_zero _ (unfold all_of in refl)) (decimal_all nonzero not_zero line)))

-- and is short
refusal_short : (number line : ℕ) → Ranged number line → length (refusal_line number line) ≤ 40
unfolding refusal_line decimal
refusal_short number line r =
    simp length-append
    (omega (arith, figures_short (suc number) number 4 (omega (arith, r.0)), figures_short (suc line) line 4 (omega (arith, r.1))))

-- what is printed by our table is what is printed by our letters
pub print_ours : (t : Bytes) {r : PrintOutcome} → r ≡ print_call (letters our_table) t → r ≡ print_call our_letters t
print_ours t e = e ∙ ap (λ (f : ℕ → ℕ). print_call f t) our_letters_lem

-- what is printed lies in the area
pub print_within : (fold : ℕ → ℕ) (t : Bytes) (n : ℕ) (area : Bytes) → record { count = n; area = area } ≡ print_call fold t → n ≤ length area
unfolding print_call filled
print_within fold t n area e =
    let k : ℕ = listing_bytes - length (printed fold t) in
    omega (
      arith,
      ap (λ (x : PrintOutcome). x.count) e,
      ap (λ (x : PrintOutcome). length x.area) e,
      length-append (printed fold t) (replicate k 0 ++ []),
    )

module _ (table : List ℕ) (passes : FoldTable table) (t old : Bytes) (exact : length old ≡ listing_bytes) (r : ListOutcome)
    (e : r ≡ list_call table t folds old) where
  abbrev fold : ℕ → ℕ
  fold = letters table

  abbrev folding : Folding fold
  folding = passes.1

  -- no refusal: the listing
  module _ (z : r.number ≡ 0) where
    listing : Listed fold t old r
    listing = ⊎_elim (λ (w : Refused fold t old r). absurd (w.some z)) (λ (w : Listed fold t old r). w) (way table passes t old (omega arith) r e)

    -- it is what is printed
    whole : printed fold t ≡ joined (listing_lines (names_of listing.cs) (held_by (rows_of listing.cs)) folds (rounds_of (rows_of listing.cs)))
    unfolding printed
    whole = ap joined listing.lines

    nonzero_all : all_of nonzero (printed fold t) ≡ true
    nonzero_all = ap (all_of nonzero) whole ∙ listing_nonzero (names_of listing.cs) (read_fine fold folding t listing.cs listing.reads) _ folds _

    pub area_is : r.listing ≡ filled listing_bytes (printed fold t) []
    unfolding listed
    area_is = listing.left ∙ ap (λ (xs : Bytes). filled listing_bytes xs old) (sym whole) ∙ filled_anew (printed fold t) old exact

  -- a refusal: its line
  module _ (some : r.number ≡ 0 → ⊥) where
    refusal : Refused fold t old r
    refusal = ⊎_elim (λ (w : Refused fold t old r). w) (λ (w : Listed fold t old r). absurd (some w.none)) (way table passes t old (omega arith) r e)

    abbrev line : Bytes
    line = refusal_line r.number r.line ++ (line_end ∷ [])

    line_size : length line ≡ length (refusal_line r.number r.line) + 1
    line_size = length-append (refusal_line r.number r.line) (line_end ∷ [])

    pub printed_line : printed fold t ≡ line
    unfolding printed joined
    printed_line = ap joined refusal.lines

    line_nonzero : all_of nonzero (printed fold t) ≡ true
    line_nonzero =
        ap (all_of nonzero) printed_line
        ∙ all_both nonzero (refusal_line r.number r.line) (line_end ∷ []) (refusal_nonzero r.number r.line) (unfold all_of nonzero in refl)

    line_short : length (refusal_line r.number r.line) ≤ 40
    line_short = refusal_short r.number r.line (ranges table t folds old r e)

    -- there is room for it
    pub refusal_room : length (refusal_line r.number r.line) + 1 ≤ length r.listing
    refusal_room = omega (arith, exact, ap length refusal.kept, line_short)

    -- it is put, up to the end
    module _ (text : Bytes) (end : ℕ) (p : text ≡ begun line r.listing) (q : end ≡ length (refusal_line r.number r.line) + 1) where
      pub refusal_fits : end ≤ listing_bytes
      refusal_fits = omega (arith, q, line_short)

      pub refusal_area : listing_bytes ≤ length text
      refusal_area = omega (arith, ap length p, length_begun line r.listing (omega (arith, line_size, refusal_room)), exact, ap length refusal.kept)

      -- and zeros after it
      pub print_refused : (last : Bytes) → last ≡ cleared end listing_bytes text → record { count = end; area = last } ≡ print_call fold t
      unfolding print_call
      print_refused last c =
          let m : end ≡ length line = omega (arith, q, line_size) in
          let is : last ≡ filled listing_bytes line [] =
          c ∙ ap₂ (λ (i : ℕ) (s : Bytes). cleared i listing_bytes s) m p
          ∙ begun_filled listing_bytes line r.listing (omega (arith, m, refusal_fits))
          ∙ filled_anew line r.listing (ap length refusal.kept ∙ exact) in
          ap₂ (λ (i : ℕ) (a : Bytes). record { count = i; area = a }) m is
          ∙ ap (λ (xs : Bytes). record { count = length xs; area = filled listing_bytes xs [] }) (sym printed_line)

  -- whichever it is, no zero byte is printed
  pub text_nonzero : all_of nonzero (printed fold t) ≡ true
  text_nonzero = either (eqb r.number 0) (λ z. nonzero_all (eqb-true r.number 0 z)) (λ z. line_nonzero (eqb-false r.number 0 z))
