-- The words of a body passed one after another: what is read and what is entered go together.
-- Assumes nothing.
use mathlib.Core.Path.{◌≡◌, sym, ap, ◌∙◌, subst}
use mathlib.Core.Bool.{Bool, true, false}
use mathlib.Core.List.{List, [], ◌∷◌, ◌++◌, map}
use Prim.Native.Nat.{ℕ}
use lib.ListN.{drop}
use Rattle.std.proofs.lemmas.List.{map-append}
use Rattle.limits.specs.Book.{name_area}
use Rattle.grammar.specs.Bytes.{Bytes, Folding, line_end}
use Rattle.grammar.specs.Lines.{is_name, starts, word_fault, words_fault}
use Rattle.grammar.proofs.Sorts.{word_some}
use Rattle.scan.specs.Places.{name_run, name_folded}
use Rattle.clause.specs.Line.{LineEnds, line_at, unblank, unword}
use Rattle.clause.proofs.Forms.{Walk, walk_start, same_words, same_end, walk_fault, walk_sound, walk_end, walk_all, walk_on}
use Rattle.clause.specs.Found.{Kept, Lexicon, names_at, InOrder, Onward, Bodied}
use Rattle.clause.proofs.Rows.{kept_same, kept_on}
use Rattle.clause.proofs.Joining.{onward_start, onward_more}

-- from place i the words up to j are passed: each a name, and joined to the row while there is room
pub record Passed (fold : ℕ → ℕ) (t : Bytes) (i j : ℕ) (room : Bool) (x : Lexicon) (room₁ : Bool) (x₁ : Lexicon)
    (row row₁ : List ℕ) : Type 0 where
  pub words : List Bytes
  pub walk : Walk fold t i j words
  pub kept : Kept name_area x.area x₁.area
  pub onward : Onward room (names_at x) (map (map fold) words) room₁ x₁ row row₁

module _ (fold : ℕ → ℕ) (law : Folding fold) (t : Bytes) (i j : ℕ) (room : Bool) (x : Lexicon) where
  -- none yet
  pub passed_start : (row : List ℕ) → (room ≡ true → InOrder x) → LineEnds t i → j ≡ unblank t i → Passed fold t j j room x room x row row
  passed_start row r k e =
      record {
        words = [];
        walk = walk_start fold law t i j k e;
        kept = kept_same name_area x.area;
        onward = onward_start room x row r;
      }

  module _ (room₁ : Bool) (x₁ : Lexicon) (row row₁ : List ℕ) (p : Passed fold t i j room x room₁ x₁ row row₁) where
    -- one word more, the folded name v from place a
    pub passed_more : (next : ℕ) (room₂ : Bool) (x₂ : Lexicon) (row₂ : List ℕ) → starts line_end (drop j t) ≡ false
        → (a : ℕ) → a ≡ j → is_name fold (name_run fold t a) ≡ true → (v : Bytes) → v ≡ name_folded fold t a → next ≡ unword fold t j
        → Kept name_area x₁.area x₂.area → Onward room₁ (names_at x₁) (v ∷ []) room₂ x₂ row₁ row₂
        → Passed fold t i next room x room₂ x₂ row row₂
    passed_more next room₂ x₂ row₂ e a b g v f q kept d =
        record {
          words = p.words ++ (name_run fold t j ∷ []);
          walk = walk_on fold law t i j p.words p.walk next e (subst (λ (n : ℕ). is_name fold (name_run fold t n) ≡ true) b g) q;
          kept = kept_on name_area x.area x₁.area x₂.area p.kept kept;
          onward =
              subst (λ (ws : List Bytes). Onward room (names_at x) ws room₂ x₂ row row₂) (sym (map-append (map fold) p.words (name_run fold t j ∷ [])))
              (onward_more room (names_at x) (map (map fold) p.words) room₁ x₁ row row₁ p.onward (name_folded fold t j ∷ []) room₂ x₂ row₂
              (subst (λ (u : Bytes). Onward room₁ (names_at x₁) (u ∷ []) room₂ x₂ row₁ row₂) (f ∙ ap (name_folded fold t) b) d));
        }

    -- at the start there were blanks, from place b
    module _ (b : ℕ) (k : LineEnds t b) (s : i ≡ unblank t b) where
      -- a word that is no name, from place a
      pub passed_fault : (number at : ℕ) (room₂ : Bool) → starts line_end (drop j t) ≡ false → (a : ℕ) → a ≡ j
          → is_name fold (name_run fold t a) ≡ false → number ≡ word_fault fold (line_at t a) → Bodied fold t b room x number at room₂ x₁ row row₁
      passed_fault number at room₂ e a c g q =
          let none : is_name fold (name_run fold t j) ≡ false = subst (λ (n : ℕ). is_name fold (name_run fold t n) ≡ false) c g in
          let fault : number ≡ word_fault fold (line_at t j) = q ∙ ap (λ (n : ℕ). word_fault fold (line_at t n)) c in
          record {
            judged = fault ∙ walk_fault fold law t i j p.words p.walk e none ∙ ap (words_fault fold) (same_words fold law t b i k s);
            ends = λ o. absurd (word_some fold (line_at t j) (sym fault ∙ o));
            kept = p.kept;
            joins = λ o. absurd (word_some fold (line_at t j) (sym fault ∙ o));
          }

      -- the line's end
      pub passed_end : starts line_end (drop j t) ≡ true → Bodied fold t b room x 0 j room₁ x₁ row row₁
      passed_end e =
          record {
            judged = walk_sound fold law t i j p.words p.walk e ∙ ap (words_fault fold) (same_words fold law t b i k s);
            ends = λ o. walk_end fold law t i j p.words p.walk e ∙ same_end fold law t b i k s;
            kept = p.kept;
            joins =
                λ o.
                subst (λ (ws : List Bytes). Onward room (names_at x) (map (map fold) ws) room₁ x₁ row row₁)
                (walk_all fold law t i j p.words p.walk e ∙ same_words fold law t b i k s) p.onward;
          }
