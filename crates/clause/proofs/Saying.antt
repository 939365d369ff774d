-- The line from its head on: what is found in a line at fault, and in a head, a colon and a body.
-- Assumes nothing.
use mathlib.Core.Path.{◌≡◌, refl, sym, ap, ◌∙◌, subst}
use mathlib.Core.Bool.{Bool, true, false}
use mathlib.Core.List.{List, ◌∷◌}
use Prim.Native.Nat.{ℕ, ◌+◌, ◌<◌}
use native.Mathlib.Omega.{arith}
use lib.Dec.{leb}
use lib.ListN.{length, drop}
use borrow.Author.Tests.{leb-false, lt-leb}
use Rattle.std.specs.Prelude.{Option, Some, None, Result, Ok, Err, is_some, IfSome, IfOk}
use Rattle.std.specs.Option.{unwrap_or}
use Rattle.limits.specs.Book.{names, body_words, name_area}
use Rattle.limits.specs.declared.Refusal.{Refusal}
use Rattle.sets.specs.Set.{empty_set}
use Rattle.sets.proofs.Logic.{either, clash}
use Rattle.words.specs.Row.{pack}
use Rattle.grammar.specs.Bytes.{Bytes, Folding, colon, line_end}
use Rattle.grammar.specs.Grammar.{Clause, fault}
use Rattle.grammar.specs.Lines.{is_name, starts}
use Rattle.grammar.proofs.Sorts.{all_sound}
use Rattle.scan.specs.Places.{name_run, name_folded}
use Rattle.tables.specs.Numbering.{place, meet, meet_all, places}
use Rattle.tables.proofs.Numbering.{meet_met, meets_le, meets_keep}
use Rattle.clause.specs.Line.{LineEnds, form_from, unword, words_at, words_folded}
use Rattle.clause.proofs.Forms.{fault_number, end_body, judged, says}
use Rattle.clause.specs.declared.Found.{Found}
use Rattle.clause.specs.Held.{room_in, head_in}
use Rattle.clause.specs.Found.{Lexicon, names_at, Named, Meeting, Joining, Onward, Bodied, Ruled, Said}
use Rattle.clause.proofs.Rows.{kept_same, kept_on, row_same}

-- no rule
pub said_fault : (fold : ℕ → ℕ) (t : Bytes) (i : ℕ) (x : Lexicon) (number at : ℕ) (room : Bool) (head : ℕ) (row : List ℕ)
    → form_from fold t i ≡ fault number → (number ≡ 0 → ⊥) → Said fold t i x number at room head x row
said_fault fold t i x number at room head row e some =
    record {
      judged = fault_number (form_from fold t i) number e;
      ends = λ o. absurd (some o);
      kept = kept_same name_area x.area;
      says = λ c q. let z : ◌≡◌ {A = ℕ} 0 1 = cc in absurd (omega arith);
    }

-- the names of a head and a body
meets_cons : (ns : List Bytes) (w : Bytes) (ws : List Bytes) → meet_all (meet ns w) ws ≡ meet_all ns (w ∷ ws)
unfolding meet_all
meets_cons ns w ws = refl

-- a head is met
module _ (w : Bytes) (r₁ : Bool) (head : ℕ) (x x₁ : Lexicon) (met : Meeting w r₁ head x x₁) where
  -- what the body leaves, in a row that was clear
  module _ (ws : List Bytes) (r₂ : Bool) (x₂ : Lexicon) (row₁ row₂ : List ℕ) (clear : row₁ ≡ pack body_words empty_set)
      (o : Onward r₁ (names_at x₁) ws r₂ x₂ row₁ row₂) where
    abbrev c : Clause
    c = record { head = w; body = ws }

    with_room : r₁ ≡ true → Ruled (names_at x) c r₂ head x₂ row₂
    with_room e =
        let ns = names_at x in
        let j : Joining (meet ns w) ws r₂ x₂ row₁ row₂ =
        subst (λ (ms : List Bytes). Joining ms ws r₂ x₂ row₁ row₂) (met.named e).there (o.joins e) in
        record {
          fits = j.fits ∙ ap (λ (ms : List Bytes). leb (length ms) names) (meets_cons ns w ws);
          named = λ r. subst (λ (ms : List Bytes). Named ms x₂) (meets_cons ns w ws) (j.named r);
          head_is =
              λ r.
              met.number_is e ∙ sym (meets_keep (meet ns w) ws w (meet_met ns w)) ∙ ap (λ (ms : List Bytes). place ms w) (meets_cons ns w ws);
          body_is =
              λ r.
              row_same row₂ (places (meet_all (meet ns w) ws) ws) (places (meet_all ns (w ∷ ws)) ws)
              (λ i. ap (λ (ms : List Bytes). places ms ws i) (meets_cons ns w ws)) (j.joins r empty_set clear);
        }

    with_none : r₁ ≡ false → Ruled (names_at x) c r₂ head x₂ row₂
    with_none e =
        let ns = names_at x in
        let many : names < length (meet ns w) = leb-false (length (meet ns w)) names (sym met.fits ∙ e) in
        record {
          fits =
              o.lost e
              ∙ sym (lt-leb (length (meet_all ns (w ∷ ws))) names (omega (arith, meets_le (meet ns w) ws, ap length (meets_cons ns w ws))));
          named = λ r. clash r (o.lost e);
          head_is = λ r. clash r (o.lost e);
          body_is = λ r. clash r (o.lost e);
        }

    pub ruled : Ruled (names_at x) c r₂ head x₂ row₂
    ruled = either r₁ with_room with_none

-- a head at place i, a colon at mid and what is behind it
module _ (fold : ℕ → ℕ) (law : Folding fold) (t : Bytes) (i mid : ℕ) (k : LineEnds t i) (e : starts line_end (drop i t) ≡ false)
    (g : is_name fold (name_run fold t i) ≡ true) (q : mid ≡ unword fold t i) (s : starts colon (drop mid t) ≡ true) where
  pub said_body : (x : Lexicon) (r₁ : Bool) (head : ℕ) (x₁ : Lexicon) → Meeting (name_folded fold t i) r₁ head x x₁
      → (number at : ℕ) (r₂ : Bool) (x₂ : Lexicon) (row₁ row₂ : List ℕ) → row₁ ≡ pack body_words empty_set
      → Bodied fold t (mid + 1) r₁ x₁ number at r₂ x₂ row₁ row₂
      → Said fold t i x number at r₂ head x₂ row₂
  said_body x r₁ head x₁ met number at r₂ x₂ row₁ row₂ clear b =
      record {
        judged = b.judged ∙ judged fold law t i k e mid q s g;
        ends = λ o. b.ends o ∙ end_body fold law t i k e mid q s;
        kept = kept_on name_area x.area x₁.area x₂.area met.kept b.kept;
        says =
            λ c p.
            let d = says fold law t i k e mid q s g c p in
            subst (λ (y : Clause). Ruled (names_at x) y r₂ head x₂ row₂) d.1
            (ruled (name_folded fold t i) r₁ head x x₁ met (words_folded fold t (mid + 1)) r₂ x₂ row₁ row₂ clear
            (b.joins (b.judged ∙ all_sound fold (words_at t (mid + 1)) d.0)));
      }

-- the head matters only where there is room
pub said_head : (fold : ℕ → ℕ) (t : Bytes) (i : ℕ) (x : Lexicon) (number at : ℕ) (room : Bool) (head head' : ℕ) (x' : Lexicon) (row : List ℕ)
    → (room ≡ true → head' ≡ head) → Said fold t i x number at room head x' row → Said fold t i x number at room head' x' row
said_head fold t i x number at room head head' x' row e s =
    record {
      judged = s.judged;
      ends = s.ends;
      kept = s.kept;
      says =
          λ c p. let r = s.says c p in record { fits = r.fits; named = r.named; head_is = λ o. e o ∙ r.head_is o; body_is = r.body_is };
    }

-- a head that is not lost is the one that was met
pub head_met : (a o : Option ℕ) → IfSome a (λ h. o ≡ Some h) → is_some a ≡ true → unwrap_or a 0 ≡ unwrap_or o 0
head_met None o h e = cc
head_met (Some g) o h e = sym (ap (λ (c : Option ℕ). unwrap_or c 0) h)

pub head_found : (r : Result Found Refusal) (o : Option ℕ) (l : ℕ) → IfOk r (λ f. (f.end.line ≡ l) × IfSome f.head (λ h. o ≡ Some h))
    → room_in r ≡ true → head_in r ≡ unwrap_or o 0
head_found (Ok f) o l h e = head_met f.head o h.1 e
head_found (Err cause) o l h e = cc
