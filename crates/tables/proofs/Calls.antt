-- The reader's call: what it answers and leaves, by the grammar.
-- Assumes nothing.
use mathlib.Core.Path.{◌≡◌, refl, sym, ap, ◌∙◌, subst}
use mathlib.Core.Bool.{false}
use mathlib.Core.Logic.{◌⊎◌, ◌↔◌, inl, inr, ⊎_elim}
use mathlib.Core.List.{List, []}
use Prim.Native.Nat.{ℕ, ◌≤◌, ◌<◌}
use native.Mathlib.Omega.{arith}
use lib.ListN.{length}
use lib.Dec.{eqb}
use borrow.Author.Tests.{eqb-true, eqb-false, eq-eqb, ne_eqb}
use Rattle.limits.specs.Book.{text_bytes}
use Rattle.limits.specs.Cause.{OneOf, letter_causes, fault_causes, full_causes, line_causes, whole_causes, text_causes, kept_causes}
use Rattle.limits.proofs.Causes.{without, other, one_found, inside, one_inside, apart, one_apart, one_left, one_right}
use Rattle.sets.specs.Set.{pick}
use Rattle.sets.proofs.Logic.{either, holds, fails, pick_true, pick_false}
use Rattle.grammar.specs.Bytes.{Bytes, letters}
use Rattle.grammar.specs.Letters.{FoldTable, LettersJudged, letters_cause}
use Rattle.grammar.specs.Grammar.{Clause, fault, Says}
use Rattle.grammar.proofs.Classes.{fault_cause}
use Rattle.grammar.proofs.Letters.{letters_judged, letters_pass, letters_cause_lem, letters_other}
use Rattle.tables.specs.Numbering.{names_of}
use Rattle.tables.specs.Reading.{Reading, read, refused, reading, Book, LineRefused, FirstFault, Refusal}
use Rattle.areas.specs.Area.{filled}
use Rattle.tables.specs.Areas.{Areas, Outcome, name_rows, head_rows, body_rows, filled_with, short, tables_of, refusal, outcome, read_call}
use Rattle.tables.specs.Claims.{Refuses, Reads, ReadLeaves, ReadCalls, accepted, refused_with, zeroed}

-- a refusal's number and line
refusal_number : (k line : ℕ) (old : Areas) → (refusal k line old).answer.number ≡ k
unfolding refusal
refusal_number k line old = refl

refusal_line_lem : (k line : ℕ) (old : Areas) → (refusal k line old).answer.line ≡ line
unfolding refusal
refusal_line_lem k line old = refl

-- what a book's reading answers and leaves
outcome_read : (cs : List Clause) (old : Areas) → outcome (read cs) old ≡ accepted (length (names_of cs)) (length cs) (tables_of cs old)
unfolding outcome
outcome_read cs old = refl

outcome_refused : (k line : ℕ) (old : Areas) → outcome (refused k line) old ≡ refusal k line old
unfolding outcome
outcome_refused k line old = refl

-- a line that is refused has one of the causes of a line
pub refused_cause : (fold : ℕ → ℕ) (cs : List Clause) (s : Bytes) (q : ℕ) → LineRefused fold cs s q → OneOf q line_causes
unfolding LineRefused without
refused_cause fold cs s q (inl x) = one_left q fault_causes full_causes (fault_cause fold s q x)
refused_cause fold cs s q (inr (c, says, inl x)) = one_found 7 q line_causes refl x.0
refused_cause fold cs s q (inr (c, says, inr x)) = one_found 6 q line_causes refl x.0

-- a text that is refused has one of the causes of a text
pub refusal_cause : (fold : ℕ → ℕ) (t : Bytes) (q line : ℕ) → Refusal fold t q line → OneOf q text_causes
unfolding Refusal without
refusal_cause fold t q line (inl x) = one_found 3 q text_causes refl x.0
refusal_cause fold t q line (inr (inl x)) = one_found 4 q text_causes refl x.0
refusal_cause fold t q line (inr (inr x)) = one_right q whole_causes line_causes (refused_cause fold x.cs x.here q x.refused_for)

-- so its number is not 0
pub refusal_some : (fold : ℕ → ℕ) (t : Bytes) (q line : ℕ) → Refusal fold t q line → q ≡ 0 → ⊥
unfolding without
refusal_some fold t q line x = other 0 q text_causes refl (refusal_cause fold t q line x)

-- nor where the length is judged too
cause_number : (fold : ℕ → ℕ) (t : Bytes) (k line : ℕ) → Refuses fold t k line → k ≡ 0 → ⊥
cause_number fold t k line (inl x) e = omega (arith, x.1)
cause_number fold t k line (inr x) e = refusal_some fold t k line x.1 e

-- no line and a cause that leaves all as it was, or a line and a cause of a line
abbrev pub Placed : ℕ → ℕ → Type 0
Placed k line = ((line ≡ 0) × OneOf k kept_causes) ⊎ ((line ≡ 0 → ⊥) × OneOf k line_causes)

-- a text is refused so
pub refusal_placed : (fold : ℕ → ℕ) (t : Bytes) (k line : ℕ) → Refusal fold t k line → Placed k line
unfolding Refusal without
refusal_placed fold t k line (inl x) = inl (x.1, one_found 3 k kept_causes refl x.0)
refusal_placed fold t k line (inr (inl x)) = inl (x.1, one_found 4 k kept_causes refl x.0)
refusal_placed fold t k line (inr (inr x)) = inr (λ z. omega (arith, x.number), refused_cause fold x.cs x.here k x.refused_for)

refuses_placed : (fold : ℕ → ℕ) (t : Bytes) (k line : ℕ) → Refuses fold t k line → Placed k line
unfolding without
refuses_placed fold t k line (inl x) = inl (x.2, one_found 2 k kept_causes refl x.1)
refuses_placed fold t k line (inr x) = refusal_placed fold t k line x.1

-- a fault's number comes from a fault of the first line that is refused, and from nothing else
pub refusal_fault : (fold : ℕ → ℕ) (t : Bytes) (k line : ℕ) → OneOf k fault_causes → Refusal fold t k line → FirstFault fold t k line
unfolding Refusal LineRefused without
refusal_fault fold t k line m (inl x) = absurd (other 3 k fault_causes refl m x.0)
refusal_fault fold t k line m (inr (inl x)) = absurd (other 4 k fault_causes refl m x.0)
refusal_fault fold t k line m (inr (inr x)) = (x, of_line x.refused_for)
  where
    of_line : LineRefused fold x.cs x.here k → Says fold x.here (fault k)
    of_line (inl d) = d
    of_line (inr (c, says, inl (e, full))) = absurd (other 7 k fault_causes refl m e)
    of_line (inr (c, says, inr (e, room, many))) = absurd (other 6 k fault_causes refl m e)

pub fault_refusal : (fold : ℕ → ℕ) (t : Bytes) (k line : ℕ) → FirstFault fold t k line → Refusal fold t k line
unfolding Refusal
fault_refusal fold t k line x = inr (inr x.0)

-- cleared areas are zero over their stated sizes
pub cleared_zero : (old : Areas) → filled_with [] [] old ≡ zeroed old
unfolding filled_with filled name_rows head_rows body_rows
cleared_zero old = refl

module _ (old : Areas) where
  -- what is left under a cause that leaves all as it was
  leaves_kept : (k : ℕ) → OneOf k kept_causes → ReadLeaves old (refusal k 0 old)
  unfolding refusal pick apart without
  leaves_kept k m =
      let no_line : OneOf k line_causes → ⊥ = one_apart k kept_causes line_causes refl m in
      record {
        no_other = inr (one_left k kept_causes line_causes m);
        lined = fails (λ z. z refl) no_line;
        kept = λ i. refl;
        cleared = λ i. absurd (no_line i);
      }

  -- under a cause of a line
  leaves_cleared : (k line : ℕ) → (line ≡ 0 → ⊥) → OneOf k line_causes → ReadLeaves old (refusal k line old)
  unfolding refusal apart without
  leaves_cleared k line some m =
      record {
        no_other = inr (one_right k kept_causes line_causes m);
        lined = holds some m;
        kept = λ i. absurd (one_apart k kept_causes line_causes refl i m);
        cleared = λ i. ap (refused_with k line) (pick_false old (filled_with [] [] old) (ne_eqb line 0 some) ∙ cleared_zero old);
      }

  pub leaves_refusal : (k line : ℕ) → Placed k line → ReadLeaves old (refusal k line old)
  leaves_refusal k line (inl (z, m)) = subst (λ (i : ℕ). ReadLeaves old (refusal k i old)) (sym z) (leaves_kept k m)
  leaves_refusal k line (inr (some, m)) = leaves_cleared k line some m

  -- and where the reader accepts
  leaves_accepted : (n m : ℕ) (o : Areas) → ReadLeaves old (accepted n m o)
  unfolding without
  leaves_accepted n m o =
      record {
        no_other = inl refl;
        lined = fails (λ z. z refl) (λ i. other 0 0 line_causes refl i refl);
        kept = λ i. absurd (other 0 0 kept_causes refl i refl);
        cleared = λ i. absurd (other 0 0 line_causes refl i refl);
      }

-- what is judged first, where the areas are long enough
module _ (table : List ℕ) (old : Areas) where
  abbrev cause : ℕ
  cause = letters_cause (short old) table

  abbrev Ready : Type 0
  Ready = (short old ≡ false) × FoldTable table

  same_test : (short old ≡ false) ↔ (short old ≡ false)
  same_test = (λ e. e, λ e. e)

  pub read_pass : (cause ≡ 0) ↔ Ready
  read_pass = letters_pass (short old) same_test table

  read_cause : (cause ≡ 0 → ⊥) → OneOf cause letter_causes
  read_cause = letters_cause_lem (short old) same_test table

-- an area too short or a table that does not pass; else what the text comes to
module _ (table : List ℕ) (t : Bytes) (old : Areas) where
  pub read_first : (cause table old ≡ 0 → ⊥) → read_call table t old ≡ refusal (cause table old) 0 old
  unfolding read_call
  read_first some = pick_false (outcome (reading (letters table) t) old) (refusal (cause table old) 0 old) (ne_eqb (cause table old) 0 some)

  pub read_ready : Ready table old → read_call table t old ≡ outcome (reading (letters table) t) old
  unfolding read_call
  read_ready ready =
      pick_true (outcome (reading (letters table) t) old) (refusal (cause table old) 0 old) (eq-eqb (cause table old) 0 ((read_pass table old).1 ready))

module _ (table : List ℕ) (judge : FoldTable table → Reads (letters table)) (t : Bytes) (old : Areas) where
  abbrev fold : ℕ → ℕ
  fold = letters table

  -- one or the other
  ready_or : {X : Type 0} → ((cause table old ≡ 0 → ⊥) → X) → (Ready table old → X) → X
  ready_or first then =
      either (eqb (cause table old) 0) (λ e. then ((read_pass table old).0 (eqb-true (cause table old) 0 e)))
      (λ e. first (eqb-false (cause table old) 0 e))

  -- the call on a book, and on a text that is refused
  on_read : (cs : List Clause) → Ready table old → reading fold t ≡ read cs
      → read_call table t old ≡ accepted (length (names_of cs)) (length cs) (tables_of cs old)
  on_read cs l e = read_ready table t old l ∙ ap (λ (x : Reading). outcome x old) e ∙ outcome_read cs old

  on_refused : (k line : ℕ) → Ready table old → reading fold t ≡ refused k line → read_call table t old ≡ refusal k line old
  on_refused k line l e = read_ready table t old l ∙ ap (λ (x : Reading). outcome x old) e ∙ outcome_refused k line old

  -- a refusal and another outcome have the same number
  number_of : (k line : ℕ) (x : Outcome) → read_call table t old ≡ refusal k line old → read_call table t old ≡ x → k ≡ x.answer.number
  number_of k line x e q = sym (refusal_number k line old) ∙ ap (λ (y : Outcome). y.answer.number) (sym e ∙ q)

  Accepts : Areas → ℕ → ℕ → Type 0
  Accepts o n m =
      (cs : List Clause) × (short old ≡ false) × FoldTable table × (length t ≤ text_bytes) × Book fold t cs
      × (n ≡ length (names_of cs)) × (m ≡ length cs) × (o ≡ tables_of cs old)

  -- where the call accepts, the areas are long enough and the table passes
  now_ready : (o : Areas) (n m : ℕ) → read_call table t old ≡ accepted n m o → Ready table old
  now_ready o n m e = ready_or (λ some. absurd (some (number_of (cause table old) 0 (accepted n m o) (read_first table t old some) e))) (λ l. l)

  to_book : (o : Areas) (n m : ℕ) → read_call table t old ≡ accepted n m o → Ready table old → (x : Reading) → reading fold t ≡ x → Accepts o n m
  unfolding Accepts
  to_book o n m e l (read cs) q =
      let y : accepted n m o ≡ accepted (length (names_of cs)) (length cs) (tables_of cs old) = sym e ∙ on_read cs l q in
      let j : (length t ≤ text_bytes) × Book fold t cs = ((judge l.1).accepts t cs).0 q in
      (cs, l.0, l.1, j.0, j.1, ap (λ (z : Outcome). z.answer.names) y, ap (λ (z : Outcome). z.answer.rules) y, ap (λ (z : Outcome). z.areas) y)
  to_book o n m e l (refused k line) q =
      absurd (cause_number fold t k line (((judge l.1).refuses t k line).0 q) (number_of k line (accepted n m o) (on_refused k line l q) e))

  from_book : (o : Areas) (n m : ℕ) → Accepts o n m → read_call table t old ≡ accepted n m o
  unfolding Accepts
  from_book o n m (cs, l, passes, fits, book, a, b, c) =
      on_read cs (l, passes) (((judge passes).accepts t cs).1 (fits, book))
      ∙ ap (λ (i : ℕ). accepted i (length cs) (tables_of cs old)) (sym a) ∙ ap (λ (i : ℕ). accepted n i (tables_of cs old)) (sym b)
      ∙ ap (λ (x : Areas). accepted n m x) (sym c)

  -- the number and the line of the call
  Answered : ℕ → ℕ → Type 0
  Answered k line = ((read_call table t old).answer.number ≡ k) × ((read_call table t old).answer.line ≡ line)

  answered : (k line : ℕ) → read_call table t old ≡ refusal k line old → Answered k line
  unfolding Answered
  answered k line e = (
    ap (λ (x : Outcome). x.answer.number) e ∙ refusal_number k line old,
    ap (λ (x : Outcome). x.answer.line) e ∙ refusal_line_lem k line old,
  )

  -- the numbers that are judged first: by what is judged first, or else by a number that is none of them
  apart_text : (x : Reading) → reading fold t ≡ x → Ready table old → OneOf (read_call table t old).answer.number letter_causes → ⊥
  unfolding Answered apart without
  apart_text (read cs) q l i = other 0 _ letter_causes refl i (ap (λ (x : Outcome). x.answer.number) (on_read cs l q))
  apart_text (refused k line) q l i =
      let is : Answered k line = answered k line (on_refused k line l q) in
      let here : OneOf k letter_causes = subst (λ (n : ℕ). OneOf n letter_causes) is.0 i in
      ⊎_elim (λ (x : (text_bytes < length t) × (k ≡ 2) × (line ≡ 0)). other 2 k letter_causes refl here x.1)
      (λ x. one_apart k letter_causes text_causes refl here (refusal_cause fold t k line x.1))
      (((judge l.1).refuses t k line).0 q)

  judged_first : LettersJudged (short old ≡ false) table (read_call table t old).answer.number
  unfolding Answered
  judged_first =
      ready_or
      (λ some.
      subst (LettersJudged (short old ≡ false) table) (sym (answered (cause table old) 0 (read_first table t old some)).0)
      (letters_judged (short old) (same_test table old) table))
      (λ l. letters_other table (read_call table t old).answer.number l.0 l.1 (apart_text (reading fold t) refl l))

  Refused : ℕ → ℕ → Type 0
  Refused k line = (short old ≡ false) × FoldTable table × Refuses fold t k line

  by_reading : (k line : ℕ) → (k ≡ 0 → ⊥) → Answered k line → Ready table old → (x : Reading) → reading fold t ≡ x → Refuses fold t k line
  unfolding Answered
  by_reading k line some e l (read cs) q = absurd (some (sym e.0 ∙ ap (λ (x : Outcome). x.answer.number) (on_read cs l q)))
  by_reading k line some e l (refused i j) q =
      let is : Answered i j = answered i j (on_refused i j l q) in
      let a : i ≡ k = sym is.0 ∙ e.0 in
      let b : j ≡ line = sym is.1 ∙ e.1 in
      ((judge l.1).refuses t k line).0 (q ∙ ap (λ (n : ℕ). refused n j) a ∙ ap (λ (n : ℕ). refused k n) b)

  to_cause : (k line : ℕ) → (k ≡ 0 → ⊥) → (OneOf k letter_causes → ⊥) → Answered k line → Refused k line
  unfolding Refused Answered
  to_cause k line some later e =
      ready_or
      (λ first.
      let is : Answered (cause table old) 0 = answered (cause table old) 0 (read_first table t old first) in
      absurd (later (subst (λ (n : ℕ). OneOf n letter_causes) (sym is.0 ∙ e.0) (read_cause table old first))))
      (λ l. (l.0, l.1, by_reading k line some e l (reading fold t) refl))

  from_cause : (k line : ℕ) → Refused k line → Answered k line
  unfolding Refused
  from_cause k line (l, passes, x) = answered k line (on_refused k line (l, passes) (((judge passes).refuses t k line).1 x))

  -- a fault of a line
  module _ (k line : ℕ) (m : OneOf k fault_causes) where
    to_fault : Answered k line → (short old ≡ false) × FoldTable table × (length t ≤ text_bytes) × FirstFault fold t k line
    unfolding Refused without apart
    to_fault e =
        let x : Refused k line = to_cause k line (other 0 k fault_causes refl m) (one_apart k fault_causes letter_causes refl m) e in
        ⊎_elim (λ (y : (text_bytes < length t) × (k ≡ 2) × (line ≡ 0)). absurd (other 2 k fault_causes refl m y.1))
        (λ (y : (length t ≤ text_bytes) × Refusal fold t k line). (x.0, x.1, y.0, refusal_fault fold t k line m y.1)) x.2

    from_fault : (short old ≡ false) × FoldTable table × (length t ≤ text_bytes) × FirstFault fold t k line → Answered k line
    unfolding Refused
    from_fault (l, passes, fits, x) = from_cause k line (l, passes, inr (fits, fault_refusal fold t k line x))

  -- what it returns and leaves
  leaves_reading : Ready table old → (x : Reading) → reading fold t ≡ x → ReadLeaves old (read_call table t old)
  leaves_reading l (read cs) q = subst (ReadLeaves old) (sym (on_read cs l q)) (leaves_accepted old (length (names_of cs)) (length cs) (tables_of cs old))
  leaves_reading l (refused k line) q =
      subst (ReadLeaves old) (sym (on_refused k line l q)) (leaves_refusal old k line (refuses_placed fold t k line (((judge l.1).refuses t k line).0 q)))

  leaves_call : ReadLeaves old (read_call table t old)
  unfolding inside without
  leaves_call =
      ready_or
      (λ some.
      subst (ReadLeaves old) (sym (read_first table t old some))
      (leaves_kept old (cause table old) (one_inside (cause table old) letter_causes kept_causes refl (read_cause table old some))))
      (λ l. leaves_reading l (reading fold t) refl)

  -- a call is one or the other
  Either : Type 0
  Either =
      ((n : ℕ) × (m : ℕ) × (o : Areas) × (read_call table t old ≡ accepted n m o))
      ⊎ ((k : ℕ) × (line : ℕ) × (k ≡ 0 → ⊥) × (read_call table t old ≡ refusal k line old))

  by_text : Ready table old → (x : Reading) → reading fold t ≡ x → Either
  unfolding Either
  by_text l (read cs) q = inl (length (names_of cs), length cs, tables_of cs old, on_read cs l q)
  by_text l (refused k line) q = inr (k, line, cause_number fold t k line (((judge l.1).refuses t k line).0 q), on_refused k line l q)

  one_or_other : Either
  unfolding Either
  one_or_other = ready_or (λ some. inr (cause table old, 0, some, read_first table t old some)) (λ l. by_text l (reading fold t) refl)

-- what the call accepts and refuses is what the grammar says, under a table that passes
pub read_calls : (table : List ℕ) → (FoldTable table → Reads (letters table)) → ReadCalls table
unfolding Accepts Answered Refused Either
read_calls table judge =
    record {
      accepts = λ t old o n m. (
        λ e. to_book table judge t old o n m e (now_ready table judge t old o n m e) (reading (letters table) t) refl,
        from_book table judge t old o n m,
      );
      letters_judged = judged_first table judge;
      refuses = λ t old k line some later. (to_cause table judge t old k line some later, from_cause table judge t old k line);
      faults = λ t old k line m. (to_fault table judge t old k line m, from_fault table judge t old k line m);
      leaves = leaves_call table judge;
      every_call = one_or_other table judge;
    }
