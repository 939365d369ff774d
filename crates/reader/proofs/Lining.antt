-- The lines one after another: reading on from here gives what reading from the start gives.
-- Assumes nothing.
use mathlib.Core.Path.{◌≡◌, refl, sym, ap, ap₂, ◌∙◌, subst}
use mathlib.Core.Bool.{true}
use mathlib.Core.List.{List, [], ◌∷◌, ◌++◌}
use Prim.Native.Nat.{ℕ, suc, ◌+◌, ◌≤◌, ◌<◌}
use native.Mathlib.Omega.{arith}
use lib.ListN.{length, drop, length-drop, drop_of_length-le}
use lib.Seq.{drop-drop}
use Rattle.limits.specs.Book.{text_bytes, rules, name_area, body_area}
use Rattle.grammar.specs.Bytes.{Bytes, not_end}
use Rattle.grammar.specs.Grammar.{Clause, Ended}
use Rattle.grammar.specs.Lines.{span, run, lines}
use Rattle.grammar.proofs.Spans.{all_run, run_past}
use Rattle.grammar.proofs.Cutting as cut
use Rattle.tables.specs.Reading.{refused, taken, read_lines, marked, ended}
use Rattle.tables.proofs.Judging.{marked_find, ended_find}
use Rattle.tables.proofs.Loop.{read_end, read_on, read_stop}
use Rattle.scan.specs.Places.{past_at}
use Rattle.clause.specs.Line.{LineEnds, line_at}
use Rattle.clause.proofs.Rows.{kept_on}
use Rattle.reader.specs.State.{Tables, Booked, Stayed, Stepped, Lined, all_lines, form_at}
use Rattle.reader.proofs.Stepping.{stayed_same}

-- one change after another
pub stayed_on : (x y z : Tables) → Stayed x y → Stayed y z → Stayed x z
stayed_on x y z p q =
    record {
      kept = kept_on name_area x.lexicon.area y.lexicon.area z.lexicon.area p.kept q.kept;
      head_kept = kept_on rules x.heads y.heads z.heads p.head_kept q.head_kept;
      body_kept = kept_on body_area x.bodies y.bodies z.bodies p.body_kept q.body_kept;
    }

-- no bytes, no lines
no_lines : (r : Bytes) → r ≡ [] → lines r ≡ []
unfolding lines
no_lines r e = ap lines e

-- at place `at` and line number `line`, the clauses so far stand in the tables y, which were x
pub record Going (fold : ℕ → ℕ) (t : Bytes) (at line : ℕ) (x y : Tables) : Type 0 where
  pub cs : List Clause
  pub booked : Booked cs y
  pub rest : read_lines fold (lines (drop at t)) cs line ≡ all_lines fold t
  pub closed : cut.Closed (drop at t)
  pub size : length t ≤ text_bytes
  pub behind : line + 7 ≤ at
  pub later : 2 ≤ line
  pub stayed : Stayed x y

-- the first line after the mark
pub going_start : (fold : ℕ → ℕ) (t : Bytes) (x : Tables) → length t ≤ text_bytes → marked t ≡ true → ended t ≡ true → Booked [] x
    → Going fold t 9 2 x x
going_start fold t x l m e b =
    let f = marked_find t m in
    record {
      cs = [];
      booked = b;
      rest = refl;
      closed = cut.ended_drop 9 t (ended_find t e);
      size = l;
      behind = omega arith;
      later = omega arith;
      stayed = stayed_same x;
    }

module _ (fold : ℕ → ℕ) (t : Bytes) (at line : ℕ) (x y : Tables) (g : Going fold t at line x y) where
  -- no line is left
  pub going_end : length t ≤ at → Lined fold t 0 0 y
  going_end l =
      record {
        reads =
            λ e. (
              refl,
              (
                g.cs,
                sym g.rest ∙ ap (λ (ls : List Bytes). read_lines fold ls g.cs line) (no_lines (drop at t) (drop_of_length-le t l)) ∙ read_end fold
                    g.cs line,
                g.booked,
              ),
            );
        refuses = λ e. absurd (e refl);
      }

  module _ (l : at < length t) where
    tail_ended : Ended (drop at t)
    tail_ended = cut.closed_some (drop at t) g.closed (omega (arith, length-drop at t))

    -- the line here has its end
    pub going_closed : LineEnds t at
    going_closed = (
      run not_end (drop at t),
      drop (span not_end (drop at t) + 1) (drop at t),
      record {
        shape = sym (run_past not_end (drop at t)) ∙ ap (λ (x : Bytes). run not_end (drop at t) ++ x) (cut.line_end_lem (drop at t) tail_ended);
        unbroken = all_run not_end (drop at t);
      },
    )

    end_in : past_at not_end t at < length t
    end_in = omega (arith, cut.line_within (drop at t) tail_ended, length-drop at t)

    tail_next : drop (span not_end (drop at t) + 1) (drop at t) ≡ drop (past_at not_end t at + 1) t
    tail_next =
        let q : at + (span not_end (drop at t) + 1) ≡ past_at not_end t at + 1 = omega arith in
        drop-drop (span not_end (drop at t) + 1) at t ∙ ap (λ (i : ℕ). drop i t) q

    cut_here : lines (drop at t) ≡ line_at t at ∷ lines (drop (past_at not_end t at + 1) t)
    cut_here = cut.line_next (drop at t) tail_ended ∙ ap (λ (x : Bytes). line_at t at ∷ lines x) tail_next

    here : all_lines fold t ≡ read_lines fold (line_at t at ∷ lines (drop (past_at not_end t at + 1) t)) g.cs line
    here = sym g.rest ∙ ap (λ (ls : List Bytes). read_lines fold ls g.cs line) cut_here

    module _ (cause to next : ℕ) (w : Tables) (s : Stepped g.cs (form_at fold t at) (past_at not_end t at) line cause to next w) where
      -- it is refused
      pub going_stop : (cause ≡ 0 → ⊥) → (z : Tables) → z.lexicon.count ≡ 0 → z.count ≡ 0 → Lined fold t cause line z
      going_stop n z p q =
          record {
            reads = λ e. absurd (n e);
            refuses =
                λ e. (
                  here
                      ∙ read_stop fold (line_at t at) (lines (drop (past_at not_end t at + 1) t)) g.cs line (λ u. n (s.judged ∙ u))
                      ∙ ap (λ (k : ℕ). refused k line) (sym s.judged),
                  g.later,
                  p,
                  q,
                );
          }

      -- it is read on from
      module _ (z : cause ≡ 0) where
        pub going_on : Stayed y w → Going fold t to next x w
        going_on k =
            let d : suc line ≡ next = omega (arith, s.counts z) in
            record {
              cs = taken g.cs (form_at fold t at);
              booked = s.books z;
              rest =
                  sym (here
                  ∙ read_on fold (line_at t at) (lines (drop (past_at not_end t at + 1) t)) g.cs line (sym s.judged ∙ z)
                  ∙ ap₂ (λ (i j : ℕ). read_lines fold (lines (drop i t)) (taken g.cs (form_at fold t at)) j) (sym (s.ends z)) d);
              closed =
                  subst (λ (i : ℕ). cut.Closed (drop i t)) (sym (s.ends z))
                  (subst cut.Closed tail_next (cut.line_rest (drop at t) tail_ended));
              size = g.size;
              behind = omega (arith, g.behind, s.ends z, s.counts z);
              later = omega (arith, g.later, s.counts z);
              stayed = stayed_on x y w g.stayed k;
            }
