-- A written book, line by line: each line is a rule of the names that it was written from, so the whole is a book with the clauses written.
-- Assumes nothing.
use mathlib.Core.Path.{◌≡◌, refl, sym, ap₂, ◌∙◌}
use mathlib.Core.Bool.{true}
use mathlib.Core.Logic.{inl, inr}
use mathlib.Core.List.{List, [], ◌∷◌, ◌++◌, map}
use Prim.Native.Nat.{ℕ, ◌<◌}
use lib.Dec.{eqb}
use lib.ListN.{length, get_or}
use borrow.Author.Tests.{ne_eqb}
use Rattle.limits.specs.Book.{names}
use Rattle.sets.specs.Set.{members}
use Rattle.sets.proofs.Logic.{and_left, and_right, not_of_false}
use Rattle.program.specs.Program.{Rule}
use Rattle.grammar.specs.Bytes.{Bytes, Folding, blank, not_end, name_byte, all_of, colon, space}
use Rattle.grammar.specs.Grammar.{Name, Parted, Body, Clause, rule, Says, Unbroken}
use Rattle.grammar.proofs.Spans.{all_both, all_wider}
use Rattle.tables.specs.Reading.{Saying, Fits, Book}
use Rattle.tables.specs.Writing.{spaced_on, spaced, rule_text, written, own}
use Rattle.tables.proofs.Good.{Good, own_is, own_some, good_unbroken}

-- the names of these numbers
abbrev pub spelled : List Bytes → List ℕ → List Bytes
spelled ns xs = map (λ (a : ℕ). get_or ns a []) xs

-- the clause that a rule's line has
unfoldable pub clause_of : List Bytes → Rule ℕ → Clause
clause_of ns r = record { head = get_or ns r.head []; body = spelled ns (members names r.body 0) }

-- each of the numbers is below n
unfoldable pub Bounded : ℕ → List ℕ → Type 0
Bounded n [] = Unit
Bounded n (a ∷ xs) = (a < n) × Bounded n xs

-- heads and body members of the rules are below n
unfoldable pub RulesBelow : ℕ → List (Rule ℕ) → Type 0
RulesBelow n [] = Unit
RulesBelow n (r ∷ rs) = (r.head < n) × Bounded n (members names r.body 0) × RulesBelow n rs

-- folding changes no folded name
own_fold : (fold : ℕ → ℕ) (s : Bytes) → all_of (own fold) s ≡ true → map fold s ≡ s
unfolding all_of
own_fold fold [] e = refl
own_fold fold (b ∷ s) e =
    ap₂ (λ (x : ℕ) (l : Bytes). x ∷ l) (own_is fold b (and_left (own fold b) (all_of (own fold) s) e))
    (own_fold fold s (and_right (own fold b) (all_of (own fold) s) e))

-- nothing, or a space, follows a name of a list
parted : (xs : List Bytes) → Parted (spaced_on xs)
unfolding spaced_on blank
parted [] = inl refl
parted (n ∷ ns) = inr (space, n ++ spaced_on ns, refl, refl)

module _ (fold : ℕ → ℕ) (folding : Folding fold) where
  -- each of these is a folded name
  unfoldable pub AllGood : List Bytes → Type 0
  AllGood [] = Unit
  AllGood (n ∷ ns) = Good fold n × AllGood ns

  -- a byte that is its own entry is a name byte
  own_name : (b : ℕ) → own fold b ≡ true → name_byte fold b ≡ true
  unfolding name_byte
  own_name b e = not_of_false (eqb (fold b) 0) (ne_eqb (fold b) 0 (λ z. own_some fold b e (sym (own_is fold b e) ∙ z)))

  -- a folded name is a name
  good_name_lem : {s : Bytes} → Good fold s → Name fold s
  good_name_lem {s} g = record { some = g.some; fits = g.fits; bytes = all_wider (own fold) (name_byte fold) own_name s g.bytes }

  -- and stays as it is
  good_fold : {s : Bytes} → Good fold s → map fold s ≡ s
  good_fold {s} g = own_fold fold s g.bytes

  -- so do all names of a body
  all_fold : (xs : List Bytes) → AllGood xs → map (map fold) xs ≡ xs
  unfolding AllGood
  all_fold [] g = refl
  all_fold (n ∷ ns) g = ap₂ (λ (x : Bytes) (l : List Bytes). x ∷ l) (good_fold g.0) (all_fold ns g.1)

  -- names that are written after spaces, and with spaces between, are a body of them
  body_on : (xs : List Bytes) → AllGood xs → Body fold (spaced_on xs) xs
  unfolding AllGood spaced_on Body all_of blank
  body_on [] g = refl
  body_on (n ∷ ns) g = (space ∷ [], spaced_on ns, refl, refl, good_name_lem g.0, parted ns, body_on ns g.1)

  -- the first without a space before it
  body : (xs : List Bytes) → AllGood xs → Body fold (spaced xs) xs
  unfolding AllGood spaced Body all_of
  body [] g = refl
  body (n ∷ ns) g = ([], spaced_on ns, refl, refl, good_name_lem g.0, parted ns, body_on ns g.1)

  -- and hold no line end
  on_unbroken : (xs : List Bytes) → AllGood xs → all_of not_end (spaced_on xs) ≡ true
  unfolding AllGood spaced_on all_of not_end
  on_unbroken [] g = refl
  on_unbroken (n ∷ ns) g = all_both not_end n (spaced_on ns) (good_unbroken fold folding g.0) (on_unbroken ns g.1)

  -- nor does the first
  spaced_unbroken : (xs : List Bytes) → AllGood xs → all_of not_end (spaced xs) ≡ true
  unfolding AllGood spaced all_of
  spaced_unbroken [] g = refl
  spaced_unbroken (n ∷ ns) g = all_both not_end n (spaced_on ns) (good_unbroken fold folding g.0) (on_unbroken ns g.1)

  module _ (ns : List Bytes) (good : (a : ℕ) → a < length ns → Good fold (get_or ns a [])) where
    -- the names of numbers that are below their count are folded names
    good_spelled : (xs : List ℕ) → Bounded (length ns) xs → AllGood (spelled ns xs)
    unfolding Bounded AllGood
    good_spelled [] h = tt
    good_spelled (a ∷ xs) h = (good a h.0, good_spelled xs h.1)

    -- a written line says its clause
    line_says : (r : Rule ℕ) → r.head < length ns → Bounded (length ns) (members names r.body 0) → Says fold (rule_text ns r) (rule (clause_of ns r))
    unfolding Says rule_text clause_of all_of
    line_says r l b =
        let xs : List Bytes = spelled ns (members names r.body 0) in
        let h : Bytes = get_or ns r.head [] in
        let g : AllGood xs = good_spelled (members names r.body 0) b in
        let k : Good fold h = good r.head l in (
          h,
          xs,
          record {
            front = [];
            gap = [];
            rest = spaced xs;
            shape = refl;
            before = refl;
            name = good_name_lem k;
            between = refl;
            names = body xs g;
          },
          ap₂ (λ (x : Bytes) (y : List Bytes). record { head = x; body = y }) (sym (good_fold k)) (sym (all_fold xs g)),
        )

    -- it holds no line end
    line_unbroken : (r : Rule ℕ) → r.head < length ns → Bounded (length ns) (members names r.body 0) → all_of not_end (rule_text ns r) ≡ true
    unfolding rule_text all_of not_end
    line_unbroken r l b =
        let xs : List Bytes = spelled ns (members names r.body 0) in
        let h : Bytes = get_or ns r.head [] in
        all_both not_end h (colon ∷ spaced xs) (good_unbroken fold folding (good r.head l))
        (spaced_unbroken xs (good_spelled (members names r.body 0) b))

    -- all lines do
    lines_say : (rs : List (Rule ℕ)) → RulesBelow (length ns) rs → Saying fold (map (rule_text ns) rs) (map (clause_of ns) rs)
    unfolding RulesBelow Saying
    lines_say [] h = refl
    lines_say (r ∷ rs) h = inr (clause_of ns r, map (clause_of ns) rs, line_says r h.0 h.1, refl, lines_say rs h.2)

    -- none of them holds a line end
    lines_unbroken : (rs : List (Rule ℕ)) → RulesBelow (length ns) rs → Unbroken (map (rule_text ns) rs)
    unfolding RulesBelow Unbroken
    lines_unbroken [] h = tt
    lines_unbroken (r ∷ rs) h = (line_unbroken r h.0 h.1, lines_unbroken rs h.2)

    -- so what is written is a book with these clauses, where they fit
    pub written_book : (rs : List (Rule ℕ)) → RulesBelow (length ns) rs → Fits (map (clause_of ns) rs) → Book fold (written ns rs) (map (clause_of ns) rs)
    unfolding written
    written_book rs h fit =
        record {
          ls = map (rule_text ns) rs;
          text = record { shape = refl; unbroken = lines_unbroken rs h };
          says = lines_say rs h;
          fits = fit;
        }
