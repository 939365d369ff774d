-- The call for C, where it returns 0: its listing has exactly the names in every model of the text.
-- Assumes nothing.
use mathlib.Core.Path.{◌≡◌, sym, ap, ap₂, subst, ◌∙◌}
use mathlib.Core.List.{List, []}
use Prim.Native.Nat.{ℕ, ◌<◌}
use native.Mathlib.Omega.{arith}
use lib.ListN.{length, get_or}
use Rattle.program.specs.System.{folded, rounds_of}
use Rattle.program.specs.Standard.{standard}
use Rattle.grammar.specs.Bytes.{Bytes, letters}
use Rattle.grammar.specs.Letters.{FoldTable}
use Rattle.tables.specs.Numbering.{place, names_of, program_of}
use Rattle.tables.specs.Areas.{look_up}
use Rattle.tables.proofs.Numbering.{numbers}
use Rattle.solving.specs.Listing.{head_line}
use Rattle.solving.specs.Solve.{SolveAreas, SolveOutcome, solved_areas, solve_call}
use Rattle.solving.specs.SolveClaims.{SolveHolds, SolveRounds}
use Rattle.solving.specs.ListingClaims.{Lists, head_of}
use Rattle.solving.proofs.Judging.{Solved, solved_of, look_up_read}
use Rattle.solving.proofs.Holds.{solve_holds}
use Rattle.solving.proofs.Lists.{solve_lists}
use Rattle.solving.proofs.Rounds.{solve_rounds}
use Rattle.hosting.specs.List.{own_areas, seen, list_call}
use Rattle.hosting.specs.Call.{called, host_call}
use Rattle.hosting.specs.Claims.{CallLists}
use Rattle.hosting.proofs.Judging.{call_is, none_refused}

module _ (table : List ℕ) (t : Bytes) (k : ℕ) (old : Bytes) (z : (solve_call table t k (own_areas old)).answer.number ≡ 0) where
  abbrev fold : ℕ → ℕ
  fold = letters table

  abbrev own : SolveAreas
  own = own_areas old

  abbrev r : SolveOutcome
  r = solve_call table t k own

  s : Solved table t k own
  s = solved_of table t k own z

  list : Lists r k old
  list = solve_lists table t k own z

  holds : SolveHolds fold t r
  holds = solve_holds table t k own z

  rounds : SolveRounds s.cs k r
  rounds = solve_rounds table t k own s.cs s.book z

  abbrev ns : List Bytes
  ns = names_of s.cs

  -- the head line by what the book comes to
  head_is : head_of r k ≡ head_line (length ns) (length list.held) k (rounds_of (folded k (standard (program_of s.cs))))
  head_is =
      ap₂ (λ (n h : ℕ). head_line n h k r.answer.rounds) rounds.names (sym list.one_each)
      ∙ ap (head_line (length ns) (length list.held) k) rounds.rounds

  -- the line i has the number that the walk gave it
  number_of : (i : ℕ) → i < length list.held → place ns (get_or list.held i []) ≡ list.numbers i
  unfolding solved_areas
  number_of i l =
      let w = list.spelt i l in
      let low : list.numbers i < length ns = subst (λ (n : ℕ). list.numbers i < n) rounds.names w.0 in
      let tables : r.areas.tables.spellings ≡ (solved_areas s.cs k own).tables.spellings =
      ap (λ (x : SolveOutcome). x.areas.tables.spellings) s.is in
      ap (place ns)
      (w.2 ∙ ap₂ (λ (a : Bytes) (n : ℕ). look_up a n (list.numbers i)) tables rounds.names
      ∙ look_up_read fold s.folding t s.cs s.reads own.tables s.range.0.0.spellings (list.numbers i) low)
      ∙ (numbers s.cs).number (list.numbers i) low

  seen_lists : CallLists fold t k old (called (seen r))
  seen_lists = record {
    cs = s.cs;
    book = s.book;
    held = list.held;
    head = head_of r k;
    is_head = head_is;
    area = list.area;
    fits = list.fits;
    text = list.text;
    lines = list.lines;
    only = λ x. (λ m. (holds.holds x).0 ((list.only x).0 m), λ m. (list.only x).1 ((holds.holds x).1 m));
    rising = λ i j h l.
        omega (arith, number_of i (omega arith), number_of j l, list.rising i j h l);
  }

-- the same of the call, by the number that it returns
pub call_lists : (table : List ℕ) → FoldTable table → (t : Bytes) (k : ℕ) (old : Bytes) → (host_call table t k old).returned ≡ 0
    → CallLists (letters table) t k old (host_call table t k old)
unfolding list_call
call_lists table passes t k old z =
    subst (CallLists (letters table) t k old) (sym (call_is table passes t k old)) (seen_lists table t k old (none_refused table passes t k old z))
