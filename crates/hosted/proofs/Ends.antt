-- A listing with its end, or the line of a refusal: what is printed.
-- Assumes nothing.
use mathlib.Core.Path.{◌≡◌, sym, ap, ap₂, ◌∙◌}
use mathlib.Core.Logic.{⊎_elim}
use mathlib.Core.List.{List, [], ◌∷◌, ◌++◌}
use Prim.Native.Nat.{ℕ, ◌+◌, ◌≤◌}
use native.Mathlib.Omega.{arith}
use lib.ListN.{length}
use borrow.Author.Tests.{eq-eqb}
use Rattle.limits.specs.Book.{folds, listing_bytes}
use Rattle.sets.proofs.Logic.{pick_true}
use Rattle.grammar.specs.Bytes.{Bytes, line_end, letters, our_letters}
use Rattle.grammar.specs.Letters.{FoldTable, our_table}
use Rattle.grammar.proofs.Letters.{our_table_lem}
use Rattle.areas.specs.Area.{begun, cleared}
use Rattle.limits.specs.Refusal.{number_of}
use Rattle.limits.specs.declared.Refusal.{Refusal as Cause}
use Rattle.limits.proofs.Numbers.{number_some}
use Rattle.grammar.specs.Grammar.{joined}
use Rattle.tables.specs.Reading.{Reading, book_of}
use Rattle.solver.specs.End.{listed_end}
use Rattle.hosting.specs.List.{ListOutcome, list_call}
use Rattle.hosting.specs.Print.{refusal_line, printed, print_call}
use Rattle.hosting.proofs.Ways.{Refused, Listed, way}
use Rattle.hosting.proofs.Printing.{area_is, refusal_room, print_refused, print_ours}

module _ (table : List ℕ) (passes : FoldTable table) (t old : Bytes) (exact : length old ≡ listing_bytes) {r : ListOutcome}
    (e : r ≡ list_call table t folds old) (none : r.number ≡ 0)
    {end : ℕ} (g : end ≡ listed_end r.number (book_of (letters table) t) folds) where
  abbrev fold : ℕ → ℕ
  fold = letters table

  -- the book is listed
  listing : Listed fold t old r
  listing = ⊎_elim (λ (w : Refused fold t old r). absurd (w.some none)) (λ (w : Listed fold t old r). w) (way table passes t old (omega arith) r e)

  -- the end of its text is that of what is printed
  end_is : end ≡ length (printed fold t)
  unfolding listed_end printed
  end_is =
      g ∙ ap (λ (x : Reading). listed_end r.number x folds) listing.reads ∙ pick_true _ 0 (eq-eqb r.number 0 none)
      ∙ sym (ap (λ (ls : List Bytes). length (joined ls)) listing.lines)

  pub print_end : record { count = end; area = r.listing } ≡ print_call fold t
  unfolding print_call
  print_end = ap₂ (λ (i : ℕ) (a : Bytes). record { count = i; area = a }) end_is (area_is table passes t old exact r e none)

-- a refusal by our table
module _ (t old : Bytes) (exact : length old ≡ listing_bytes) (cause : Cause) {place : ℕ} {area : Bytes}
    (e : record { number = number_of cause; line = place; listing = area } ≡ list_call our_table t folds old)
    {number : ℕ} (n : number ≡ number_of cause) where
  -- there is room for its line
  pub line_room : length (refusal_line number place) + 1 ≤ length area
  line_room =
      let r = refusal_room our_table our_table_lem t old exact _ e (number_some cause) in
      omega (arith, r, ap (λ (i : ℕ). length (refusal_line i place)) n)

  -- which is put, with zeros after it
  pub print_line : {end : ℕ} {new : Bytes} → end ≡ length (refusal_line number place) + 1
      → new ≡ begun (refusal_line number place ++ (line_end ∷ [])) area
      → (last : Bytes) → last ≡ cleared end listing_bytes new → record { count = end; area = last } ≡ print_call our_letters t
  print_line at p last z =
      print_ours t
      (print_refused our_table our_table_lem t old exact _ e (number_some cause) _ _
      (p ∙ ap (λ (i : ℕ). begun (refusal_line i place ++ (line_end ∷ [])) area) n)
      (at ∙ ap (λ (i : ℕ). length (refusal_line i place) + 1) n) last z)
