-- The writer's call: each way out, and every number exactly where documents 01 and 02 give it.
-- Assumes nothing.
use mathlib.Core.Path.{◌≡◌, refl, sym, ap₂, subst, ◌∙◌}
use mathlib.Core.Bool.{Bool, true, false, ◌||◌}
use mathlib.Core.Logic.{◌↔◌, inl, inr}
use mathlib.Core.List.{List}
use Prim.Native.Nat.{ℕ, ◌≤◌, ◌<◌}
use native.Mathlib.Omega.{arith}
use lib.Dec.{eqb, ltb}
use lib.ListN.{length}
use borrow.Author.Tests.{eqb-true, eqb-false, eq-eqb, ne_eqb, ltb-true, ltb-false, le-ltb}
use Rattle.limits.specs.Book.{text_bytes}
use Rattle.limits.specs.Cause.{OneOf, letter_causes, write_causes}
use Rattle.limits.proofs.Causes.{without, other, inside, one_found, one_inside}
use Rattle.sets.proofs.Logic.{either, clash, or_none, holds, fails, pick_true, pick_false}
use Rattle.words.specs.Row.{Words}
use Rattle.grammar.specs.Bytes.{Bytes, letters}
use Rattle.grammar.specs.Letters.{LettersJudged, letters_cause}
use Rattle.grammar.proofs.Letters.{letters_judged, letters_pass, letters_cause_lem, letters_other}
use Rattle.areas.specs.Area.{filled}
use Rattle.tables.specs.Areas.{Areas, short}
use Rattle.tables.specs.Writing.{Readable, Written, unwritten, well_formed, placed, write_call}
use Rattle.tables.proofs.Encoding.{long_enough, not_short}
use Rattle.roundtrip.specs.Claims.{written_text, wrote, WriteLong, WriteReady, WriteJudges}
use Rattle.roundtrip.proofs.Theorems.{round_trip}

-- tables that are not too short and a text area of its stated size are areas of their stated sizes, and the other way
pub to_long : (o : Areas) (area : Bytes) → short o ≡ false → text_bytes ≤ length area → WriteLong o area
to_long o area s l = let k = long_enough o s in (k.0, k.1, k.2, l)

pub of_long : (o : Areas) (area : Bytes) → WriteLong o area → short o ≡ false
of_long o area l = not_short o l.0 l.1 l.2

-- whether an area is too short, the text area among them
abbrev cramped : Areas → Bytes → Bool
cramped o area = short o || ltb (length area) text_bytes

-- none is exactly where all have their stated sizes
uncramped : (o : Areas) (area : Bytes) → (cramped o area ≡ false) ↔ WriteLong o area
uncramped o area = (
  λ e.
      let both = or_none (short o) (ltb (length area) text_bytes) e in
      to_long o area both.0 (ltb-false (length area) text_bytes both.1),
  λ l. ap₂ ◌||◌ (of_long o area l) (le-ltb (length area) text_bytes l.3),
)

-- a text too long, and one that fits
placed_long : (w area : Bytes) → ltb text_bytes (length w) ≡ true → placed w area ≡ unwritten 12 area
unfolding placed
placed_long w area e = pick_true _ _ e

placed_fits : (w area : Bytes) → ltb text_bytes (length w) ≡ false → placed w area ≡ wrote (length w) (filled text_bytes w area)
unfolding placed
placed_fits w area e = pick_false _ _ e

module _ (table : List ℕ) (o : Areas) (n m : ℕ) (area : Bytes) where
  abbrev fold : ℕ → ℕ
  fold = letters table

  -- what is judged first
  abbrev cause : ℕ
  cause = letters_cause (cramped o area) table

  abbrev Ready : Type 0
  Ready = WriteReady table o area

  -- nothing, exactly where all areas are long enough and the table passes
  passes : (cause ≡ 0) ↔ Ready
  passes = letters_pass (cramped o area) (uncramped o area) table

  -- the ways of the call
  refused_first : (cause ≡ 0 → ⊥) → write_call table o n m area ≡ unwritten cause area
  unfolding write_call
  refused_first some = pick_false _ _ (ne_eqb cause 0 some)

  module _ (ready : Ready) where
    refused_ten : well_formed fold o n m ≡ false → write_call table o n m area ≡ unwritten 10 area
    unfolding write_call
    refused_ten f = pick_true _ _ (eq-eqb cause 0 (passes.1 ready)) ∙ pick_false _ _ f

    in_place : well_formed fold o n m ≡ true → write_call table o n m area ≡ placed (written_text o n m) area
    unfolding write_call
    in_place f = pick_true _ _ (eq-eqb cause 0 (passes.1 ready)) ∙ pick_true _ _ f

  -- The ways out, each with what it is claimed to be.

  abbrev Judges : Written → Type 0
  Judges = WriteJudges table o n m area

  -- an area too short, or a table that does not pass
  way_first : (cause ≡ 0 → ⊥) → Judges (unwritten cause area)
  unfolding without inside
  way_first some =
      let one : OneOf cause letter_causes = letters_cause_lem (cramped o area) (uncramped o area) table some in
      record {
        accepts = fails some (λ p. some (passes.1 p.0));
        letters_judged = letters_judged (cramped o area) (uncramped o area) table;
        ill_formed = fails (other 10 cause letter_causes refl one) (λ p. some (passes.1 p.0));
        long_text = fails (other 12 cause letter_causes refl one) (λ p. some (passes.1 p.0));
        no_other = inr (one_inside cause letter_causes write_causes refl one);
        left = λ z. absurd (some z);
        kept = λ i. refl;
      }

  module _ (ready : Ready) where
    -- a number that is none of those
    later : (k : ℕ) → without k letter_causes ≡ true → LettersJudged (WriteLong o area) table k
    later k e = letters_other table k ready.0 ready.1 (λ i. other k k letter_causes e i refl)

    -- no book reads to the tables
    way_ill : (Readable fold o n m → ⊥) → Judges (unwritten 10 area)
    unfolding without
    way_ill h = record {
      accepts = fails (λ z. omega arith) (λ p. h p.1);
      letters_judged = later 10 refl;
      ill_formed = holds refl (ready, h);
      long_text = fails (λ z. omega arith) (λ p. h p.1);
      no_other = inr (one_found 10 10 write_causes refl refl);
      left = λ z. absurd (omega arith);
      kept = λ i. refl;
    }

    module _ (readable : Readable fold o n m) where
      -- the text is too long
      way_long : text_bytes < length (written_text o n m) → Judges (unwritten 12 area)
      unfolding without
      way_long l = record {
        accepts = fails (λ z. omega arith) (λ p. omega (arith, p.2));
        letters_judged = later 12 refl;
        ill_formed = fails (λ z. omega arith) (λ p. p.1 readable);
        long_text = holds refl (ready, readable, l);
        no_other = inr (one_found 12 12 write_causes refl refl);
        left = λ z. absurd (omega arith);
        kept = λ i. refl;
      }

      -- it fits
      way_wrote : length (written_text o n m) ≤ text_bytes → Judges (wrote (length (written_text o n m)) (filled text_bytes (written_text o n m) area))
      unfolding without
      way_wrote l = record {
        accepts = holds refl (ready, readable, l);
        letters_judged = later 0 refl;
        ill_formed = fails (λ z. omega arith) (λ p. p.1 readable);
        long_text = fails (λ z. omega arith) (λ p. omega (arith, p.2));
        no_other = inl refl;
        left = λ z. refl;
        kept = λ i. absurd (other 0 0 write_causes refl i refl);
      }

  -- what is claimed of the writer's call
  pub write_judges : Words o.bodies → Judges (write_call table o n m area)
  write_judges words =
      either (eqb cause 0)
      (λ z.
      let ready : Ready = passes.0 (eqb-true cause 0 z) in
      let exact = (round_trip fold ready.1.1).exact o n m (of_long o area ready.0, words) in
      either (well_formed fold o n m)
      (λ w.
      let is : write_call table o n m area ≡ placed (written_text o n m) area = in_place ready w in
      either (ltb text_bytes (length (written_text o n m)))
      (λ l.
      subst Judges (sym (is ∙ placed_long (written_text o n m) area l))
      (way_long ready (exact.0 w) (ltb-true text_bytes (length (written_text o n m)) l)))
      (λ l.
      subst Judges (sym (is ∙ placed_fits (written_text o n m) area l))
      (way_wrote ready (exact.0 w) (ltb-false text_bytes (length (written_text o n m)) l))))
      (λ w. subst Judges (sym (refused_ten ready w)) (way_ill ready (λ r. clash (exact.1 r) w))))
      (λ z.
      let some : cause ≡ 0 → ⊥ = eqb-false cause 0 z in
      subst Judges (sym (refused_first some)) (way_first some))
