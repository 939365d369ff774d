-- The range of a refusal's number and line, so that both are read back from the one number that C gets.
-- Assumes nothing.
use mathlib.Core.Path.{◌≡◌, refl, sym, ap, subst}
use mathlib.Core.Logic.{◌⊎◌, inl, inr, ⊎_elim}
use mathlib.Core.List.{List, [], ◌∷◌, ◌++◌}
use Prim.Native.Nat.{ℕ, ◌+◌, ◌-◌, ◌*◌, ◌/◌, ◌%◌, ◌^◌, ◌≤◌, ◌<◌}
use native.Mathlib.Omega.{arith}
use lib.Arith.{digits_div, digits_mod}
use lib.Dec.{ltb}
use lib.ListN.{length, length-append}
use borrow.Author.Tests.{ltb-true, ltb-false}
use Rattle.limits.specs.Book.{text_bytes, atoms, folds}
use Rattle.limits.specs.Cause.{solve_causes}
use Rattle.limits.proofs.Causes.{up_to, one_most}
use Rattle.sets.proofs.Logic.{either}
use Rattle.program.specs.Standard.{standard}
use Rattle.grammar.specs.Bytes.{Bytes, Folding, letters, line_end, colon, blank}
use Rattle.grammar.specs.Grammar.{Clause, RuleLine, Says, mark, joined}
use Rattle.grammar.proofs.Spans.{all_nil}
use Rattle.grammar.proofs.Faults.{fault_unlisted}
use Rattle.tables.specs.Numbering.{program_of}
use Rattle.tables.specs.Reading.{Reading, read, refused, book_of, LineRefused, Refusal}
use Rattle.tables.proofs.Theorems.{judged}
use Rattle.solving.specs.Solve.{SolveAreas, SolveOutcome, answer_of, solve_read, solve_call}
use Rattle.solving.proofs.Judging.{solve_cause, ready_or, solve_long_text, solve_over_folds, solve_in_range}
use Rattle.solving.proofs.Judging.{solve_refused, solve_over_atoms, solve_solved, solve_judges}
use Rattle.hosting.specs.List.{ListOutcome, own_areas, list_call}
use Rattle.hosting.specs.Call.{refusal_unit, as_one}
use Rattle.hosting.specs.Claims.{highest_line}

-- lines up to one: each before it takes a byte at least, its end
joined_here : (ls : List Bytes) (s : Bytes) (rest : List Bytes) → length ls + (length s + 1) ≤ length (joined (ls ++ (s ∷ rest)))
unfolding joined
joined_here [] s rest = omega (arith, length-append s (line_end ∷ joined rest))
joined_here (x ∷ ls) s rest = omega (arith, length-append x (line_end ∷ joined (ls ++ (s ∷ rest))), joined_here ls s rest)

-- a line that is refused has a byte of its own
refused_some : (fold : ℕ → ℕ) (cs : List Clause) (s : Bytes) (q : ℕ) → LineRefused fold cs s q → 1 ≤ length s
unfolding LineRefused Says
refused_some fold cs [] q (inl x) = absurd (fault_unlisted fold [] q x (inl (all_nil blank)))
refused_some fold cs (b ∷ s) q (inl x) = omega arith
refused_some fold cs s q (inr x) =
    let w : RuleLine fold s x.1.0 x.1.1 = x.1.2 in
    let h : Bytes = x.1.0 in
    let end : Bytes = colon ∷ w.rest in
    omega (
      arith,
      ap length w.shape,
      length-append w.front (h ++ (w.gap ++ end)),
      length-append h (w.gap ++ end),
      length-append w.gap end,
    )

-- so a line's number is less than the text is long by the bytes of the mark at least
refused_line : (fold : ℕ → ℕ) (t : Bytes) (q line : ℕ) → Refusal fold t q line → line ≤ length t - length mark
unfolding Refusal
refused_line fold t q line (inl x) = omega (arith, x.1)
refused_line fold t q line (inr (inl x)) = omega (arith, x.1)
refused_line fold t q line (inr (inr x)) =
    let ls : List Bytes = x.above ++ (x.here ∷ x.below) in
    omega (
      arith,
      x.number,
      ap length x.text.shape,
      length-append mark (joined ls),
      joined_here x.above x.here x.below,
      refused_some fold x.cs x.here q x.refused_for,
    )

module _ (table : List ℕ) (t : Bytes) (k : ℕ) (old : SolveAreas) where
  abbrev fold : ℕ → ℕ
  fold = letters table

  -- no line, or that of a refusal of a text within the limit
  abbrev Lined : SolveOutcome → Type 0
  Lined r = (r.answer.line ≡ 0) ⊎ ((length t ≤ text_bytes) × Refusal fold t r.answer.number r.answer.line)

  -- by what a text within the limit comes to
  read_lined : Folding fold → length t ≤ text_bytes → (x : Reading) → book_of fold t ≡ x → Lined (solve_read x k old)
  unfolding answer_of
  read_lined folding fits (refused q line) e = subst Lined (sym (solve_refused q line k old)) (inr (fits, ((judged fold folding).refuses t q line).0 e))
  read_lined folding fits (read cs) e =
      let m : ℕ = (standard (program_of cs)).atoms in
      either (ltb atoms m)
      (λ u. subst Lined (sym (solve_over_atoms cs k old (ltb-true atoms m u))) (inl refl))
      (λ u. subst Lined (sym (solve_solved cs k old (ltb-false atoms m u))) (inl refl))

  -- the solver's line
  pub solve_lined : Lined (solve_call table t k old)
  solve_lined =
      ready_or table t k old
      (λ some. subst Lined (sym (solve_cause table t k old some)) (inl refl))
      (λ ready.
      either (ltb text_bytes (length t))
      (λ l. subst Lined (sym (solve_long_text table t k old ready (ltb-true text_bytes (length t) l))) (inl refl))
      (λ l.
      let fits : length t ≤ text_bytes = ltb-false text_bytes (length t) l in
      either (ltb folds k)
      (λ f. subst Lined (sym (solve_over_folds table t k old ready fits (ltb-true folds k f))) (inl refl))
      (λ f.
      subst Lined (sym (solve_in_range table t k old ready fits (ltb-false folds k f))) (read_lined ready.1.1 fits (book_of fold t) refl))))

-- a number of at most two figures, a line of at most 16,375
abbrev pub Ranged : ℕ → ℕ → Type 0
Ranged number line = (number ≤ 99) × (line ≤ highest_line)

-- a book listed
pub list_range : (table : List ℕ) (t : Bytes) (k : ℕ) (listing : Bytes)
    → Ranged (list_call table t k listing).number (list_call table t k listing).line
unfolding list_call up_to
list_range table t k listing =
    let number : ℕ = (solve_call table t k (own_areas listing)).answer.number in
    let line : ℕ = (solve_call table t k (own_areas listing)).answer.line in (
      ⊎_elim (λ (z : number ≡ 0). omega arith) (one_most 99 number solve_causes refl) (solve_judges table t k (own_areas listing)).no_other,
      ⊎_elim (λ (z : line ≡ 0). omega arith) (λ p. omega (arith, p.0, refused_line (letters table) t _ _ p.1))
          (solve_lined table t k (own_areas listing)),
    )

-- what is listed as r says, as one number: products and sums that a machine number holds
module _ (table : List ℕ) (t : Bytes) (k : ℕ) (listing : Bytes) (r : ListOutcome) (e : r ≡ list_call table t k listing) where
  -- number and line
  pub ranges : Ranged r.number r.line
  ranges = subst (λ (x : ListOutcome). Ranged x.number x.line) (sym e) (list_range table t k listing)

  pub unit_fits : r.number * refusal_unit < 2 ^ 64
  unit_fits = omega (arith, ranges.0)

  pub one_fits : as_one r.number r.line < 2 ^ 64
  one_fits = omega (arith, ranges.0, ranges.1)

-- a line below 65,536 and the number are read back
pub number_back : (number line : ℕ) → line < refusal_unit → as_one number line / refusal_unit ≡ number
number_back number line l = digits_div number l

pub line_back : (number line : ℕ) → line < refusal_unit → as_one number line % refusal_unit ≡ line
line_back number line l = digits_mod number l
