-- A book listed after 8 folds in a listing area of its size: it is refused, with the area as it was, or listed there; and in each case what
-- is printed of it.
-- Assumes nothing.
use mathlib.Core.Path.{◌≡◌, refl, sym, ap, ◌∙◌}
use mathlib.Core.Logic.{◌⊎◌, inl, inr}
use mathlib.Core.List.{List, [], ◌∷◌}
use Prim.Native.Nat.{ℕ, ◌≤◌}
use native.Mathlib.Omega.{arith}
use lib.Dec.{ltb}
use lib.ListN.{length, replicate, length-replicate}
use borrow.Author.Tests.{ltb-true, ltb-false}
use Rattle.limits.specs.Book.{text_bytes, rules, atoms, folds, row_words, name_area, body_area, row_area, listing_bytes}
use Rattle.sets.proofs.Logic.{either, pick_true, pick_false}
use Rattle.program.specs.System.{System, folded, rounds_of, held_by}
use Rattle.program.specs.Standard.{standard}
use Rattle.grammar.specs.Bytes.{Bytes, Folding, letters}
use Rattle.grammar.specs.Letters.{FoldTable}
use Rattle.grammar.specs.Grammar.{Clause}
use Rattle.tables.specs.Numbering.{names_of, program_of}
use Rattle.tables.specs.Reading.{Reading, read, refused, book_of, reading}
use Rattle.tables.proofs.Calls.{refusal_some}
use Rattle.tables.proofs.Judging.{reading_short}
use Rattle.tables.proofs.Theorems.{judged}
use Rattle.solving.specs.Listing.{listing_lines, listed}
use Rattle.solving.specs.Solve.{SolveOutcome, answer_of, solved_areas, solve_read, solve_call}
use Rattle.solving.specs.SolveClaims.{SolveLong, SolveReady}
use Rattle.solving.proofs.Judging.{solve_long_text, solve_in_range, solve_refused, solve_over_atoms, solve_solved}
use Rattle.hosting.specs.List.{ListOutcome, own_areas, seen, list_call}
use Rattle.hosting.specs.Print.{refusal_line, printed_lines}

-- refused under a number and a line, which are printed
pub record Refused (fold : ℕ → ℕ) (t old : Bytes) (r : ListOutcome) : Type 0 where
  pub some : r.number ≡ 0 → ⊥
  pub kept : r.listing ≡ old
  pub lines : printed_lines (reading fold t) ≡ refusal_line r.number r.line ∷ []

-- the rows of a book's rules after 8 folds
abbrev pub rows_of : List Clause → System
rows_of cs = folded folds (standard (program_of cs))

-- listed
pub record Listed (fold : ℕ → ℕ) (t old : Bytes) (r : ListOutcome) : Type 0 where
  pub cs : List Clause
  pub none : r.number ≡ 0
  pub reads : book_of fold t ≡ read cs
  pub left : r.listing ≡ listed (names_of cs) (held_by (rows_of cs)) folds (rounds_of (rows_of cs)) old
  pub lines : printed_lines (reading fold t) ≡ listing_lines (names_of cs) (held_by (rows_of cs)) folds (rounds_of (rows_of cs))

abbrev pub Way : (ℕ → ℕ) → Bytes → Bytes → ListOutcome → Type 0
Way fold t old r = Refused fold t old r ⊎ Listed fold t old r

-- as many zeros as stated
zeros_long : (n : ℕ) → n ≤ length (replicate {A = ℕ} n 0)
zeros_long n = omega (arith, length-replicate {A = ℕ} n 0)

-- areas of their own are long enough
pub own_long : (old : Bytes) → listing_bytes ≤ length old → SolveLong (own_areas old)
own_long old l = record {
  spellings = zeros_long name_area;
  heads = zeros_long rules;
  bodies = zeros_long body_area;
  all = zeros_long row_area;
  any = zeros_long row_area;
  spare = zeros_long row_area;
  model = zeros_long row_words;
  listing = l;
}

module _ (table : List ℕ) (passes : FoldTable table) (t old : Bytes) (long : listing_bytes ≤ length old) where
  abbrev fold : ℕ → ℕ
  fold = letters table

  abbrev folding : Folding fold
  folding = passes.1

  -- what the solver judges first passes
  enough : SolveReady table (own_areas old)
  enough = (own_long old long, passes)

  -- the solver refuses
  way_refused : (r : ListOutcome) (number line : ℕ) → r ≡ record { number = number; line = line; listing = old } → (number ≡ 0 → ⊥)
      → printed_lines (reading fold t) ≡ refusal_line number line ∷ [] → Way fold t old r
  way_refused r number line e some q =
      inl (record {
        some = λ z. some (sym (ap (λ (x : ListOutcome). x.number) e) ∙ z);
        kept = ap (λ (x : ListOutcome). x.listing) e;
        lines = q ∙ ap (λ (x : ListOutcome). refusal_line x.number x.line ∷ []) (sym e);
      })

  module _ (r : ListOutcome) (e : r ≡ list_call table t folds old) where
    -- by the solver's outcome
    r_is : (s : SolveOutcome) → solve_call table t folds (own_areas old) ≡ s → r ≡ seen s
    unfolding list_call
    r_is s q = e ∙ ap seen q

    -- a text within the limit, by what it comes to
    module _ (fits : length t ≤ text_bytes) where
      read_is : (x : Reading) → book_of fold t ≡ x → solve_call table t folds (own_areas old) ≡ solve_read x folds (own_areas old)
      read_is x b =
          solve_in_range table t folds (own_areas old) enough fits (omega arith) ∙ ap (λ (y : Reading). solve_read y folds (own_areas old)) b

      lines_are : (x : Reading) → book_of fold t ≡ x → printed_lines (reading fold t) ≡ printed_lines x
      lines_are x b = ap printed_lines (reading_short fold t fits ∙ b)

      by_reading : (x : Reading) → book_of fold t ≡ x → Way fold t old r
      unfolding answer_of solved_areas printed_lines
      by_reading (refused q line) b =
          way_refused r q line (r_is _ (read_is (refused q line) b ∙ solve_refused q line folds (own_areas old)))
          (refusal_some fold t q line (((judged fold folding).refuses t q line).0 b)) (lines_are (refused q line) b)
      by_reading (read cs) b =
          let m : ℕ = (standard (program_of cs)).atoms in
          either (ltb atoms m)
          (λ u.
          way_refused r 8 0 (r_is _ (read_is (read cs) b ∙ solve_over_atoms cs folds (own_areas old) (ltb-true atoms m u))) (λ z. omega arith)
          (lines_are (read cs) b ∙ pick_true _ _ u))
          (λ u.
          let s : SolveOutcome = record { answer = answer_of (program_of cs) folds; areas = solved_areas cs folds (own_areas old) } in
          let is : r ≡ seen s = r_is s (read_is (read cs) b ∙ solve_solved cs folds (own_areas old) (ltb-false atoms m u)) in
          inr (record {
            cs = cs;
            none = ap (λ (x : ListOutcome). x.number) is;
            reads = b;
            left = ap (λ (x : ListOutcome). x.listing) is;
            lines = lines_are (read cs) b ∙ pick_false _ _ u;
          }))

    -- whatever the text
    pub way : Way fold t old r
    unfolding reading printed_lines
    way =
        either (ltb text_bytes (length t))
        (λ l.
        way_refused r 2 0 (r_is _ (solve_long_text table t folds (own_areas old) enough (ltb-true text_bytes (length t) l))) (λ z. omega arith)
        (ap printed_lines (pick_true (refused 2 0) (book_of fold t) l)))
        (λ l. by_reading (ltb-false text_bytes (length t) l) (book_of fold t) refl)
