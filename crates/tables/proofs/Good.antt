-- Folded names: every name that stands in a book is one.
-- Assumes nothing.
use mathlib.Core.Path.{◌≡◌, refl, sym, ap, ◌∙◌, subst}
use mathlib.Core.Bool.{true}
use mathlib.Core.Logic.{inl, inr, ⊎_elim}
use mathlib.Core.List.{List, [], ◌∷◌, map}
use Prim.Native.Nat.{ℕ, ◌≤◌, ◌<◌}
use lib.Dec.{eqb}
use lib.ListN.{length, get_or, length-map}
use borrow.Author.Tests.{eq-eqb, ne_eqb, eqb-true, eqb-false}
use Rattle.limits.specs.Book.{name_bytes}
use Rattle.sets.proofs.Logic.{and_left, and_right, and_make, of_not, not_of_false}
use Rattle.grammar.specs.Bytes.{Bytes, Folding, line_end, not_end, name_byte, all_of, Among}
use Rattle.grammar.specs.Grammar.{Name, Body, Clause, rule, Says}
use Rattle.grammar.specs.Lines.{form_of}
use Rattle.grammar.specs.Claims.{Classified, Cut}
use Rattle.grammar.proofs.Spans.{all_wider}
use Rattle.grammar.proofs.Words.{end_reserved}
use Rattle.tables.specs.Numbering.{standing, names_of}
use Rattle.tables.specs.Reading.{read, Saying, Book, book_of}
use Rattle.tables.specs.Areas.{nonzero}
use Rattle.tables.specs.Writing.{own}
use Rattle.tables.proofs.Numbering.{among_split, names_from_lem}
use Rattle.tables.proofs.Encoding.{AllFine}
use Rattle.tables.proofs.Judging.{judging}

-- a folded name: 1 to 32 bytes, none of them zero, each its own entry
pub record Good (fold : ℕ → ℕ) (n : Bytes) : Type 0 where
  pub some : 1 ≤ length n
  pub fits : length n ≤ name_bytes
  pub bytes : all_of (own fold) n ≡ true

module _ (fold : ℕ → ℕ) where
  -- a byte of a folded name is its own entry
  pub own_is : (b : ℕ) → own fold b ≡ true → fold b ≡ b
  unfolding own
  own_is b e = eqb-true (fold b) b (and_right (nonzero b) (eqb (fold b) b) e)

  -- it is not zero
  own_nonzero : (b : ℕ) → own fold b ≡ true → nonzero b ≡ true
  unfolding own
  own_nonzero b e = and_left (nonzero b) (eqb (fold b) b) e

  pub own_some : (b : ℕ) → own fold b ≡ true → b ≡ 0 → ⊥
  unfolding nonzero
  own_some b e = eqb-false b 0 (of_not (eqb b 0) (own_nonzero b e))

  -- so folded names have at most 32 bytes, none of them zero
  pub good_fine : (ns : List Bytes) → ((a : ℕ) → a < length ns → Good fold (get_or ns a [])) → AllFine ns
  good_fine ns good a l = ((good a l).fits, all_wider (own fold) nonzero own_nonzero (get_or ns a []) (good a l).bytes)

module _ (fold : ℕ → ℕ) (folding : Folding fold) where
  -- a byte of a folded name ends no line
  own_on : (b : ℕ) → own fold b ≡ true → not_end b ≡ true
  unfolding not_end
  own_on b e =
      not_of_false (eqb b line_end)
      (ne_eqb b line_end (λ z. own_some fold b e (sym (own_is fold b e) ∙ ap fold z ∙ folding.none line_end end_reserved)))

  -- so a folded name holds no line end
  pub good_unbroken : {s : Bytes} → Good fold s → all_of not_end s ≡ true
  good_unbroken {s} g = all_wider (own fold) not_end own_on s g.bytes

  -- folded name bytes are their own entries
  own_folded : (s : Bytes) → all_of (name_byte fold) s ≡ true → all_of (own fold) (map fold s) ≡ true
  unfolding all_of own nonzero name_byte
  own_folded [] e = refl
  own_folded (b ∷ s) e =
      and_make (and_make (and_left (name_byte fold b) (all_of (name_byte fold) s) e) (eq-eqb (fold (fold b)) (fold b) (folding.again b)))
      (own_folded s (and_right (name_byte fold b) (all_of (name_byte fold) s) e))

  -- a name folded is a folded name
  pub name_good : (s : Bytes) → Name fold s → Good fold (map fold s)
  name_good s n = record {
    some = subst (λ (k : ℕ). 1 ≤ k) (sym (length-map s fold)) n.some;
    fits = subst (λ (k : ℕ). k ≤ name_bytes) (sym (length-map s fold)) n.fits;
    bytes = own_folded s n.bytes;
  }

  -- so are the names of a body
  body_good : (s : Bytes) (ns : List Bytes) → Body fold s ns → (x : Bytes) → Among x (map (map fold) ns) → Good fold x
  unfolding Body Among
  body_good s [] b x m = absurd m
  body_good s (n ∷ ns) (front, rest, e, blanks, name, parted, b) x (inl q) = subst (Good fold) q (name_good n name)
  body_good s (n ∷ ns) (front, rest, e, blanks, name, parted, b) x (inr m) = body_good rest ns b x m

  -- the names of a rule's line
  pub says_good : (s : Bytes) (c : Clause) → Says fold s (rule c) → (x : Bytes) → Among x (c.head ∷ c.body) → Good fold x
  unfolding Says Among
  says_good s c (h, ns, line, e) x (inl q) = subst (Good fold) (sym (ap (λ (d : Clause). d.head) e) ∙ q) (name_good h line.name)
  says_good s c (h, ns, line, e) x (inr m) =
      body_good line.rest ns line.names x (subst (λ (d : Clause). Among x d.body) e m)

  -- the names of lines
  pub saying_good : (ls : List Bytes) (cs : List Clause) → Saying fold ls cs → (x : Bytes) → Among x (standing cs) → Good fold x
  unfolding Saying standing Among
  saying_good [] cs e x m = absurd (subst (λ (ds : List Clause). Among x (standing ds)) e m)
  saying_good (s ∷ ls) cs (inl (q, says)) x m = saying_good ls cs says x m
  saying_good (s ∷ ls) cs (inr (c, rest, q, e, says)) x m =
      ⊎_elim (says_good s c q x) (saying_good ls rest says x)
      (among_split x (c.head ∷ c.body) (standing rest) (subst (λ (ds : List Clause). Among x (standing ds)) e m))

  module _ (forms : Classified fold) where
    -- the names of a line by its form
    pub form_good : (s : Bytes) (c : Clause) → form_of fold s ≡ rule c → (x : Bytes) → Among x (c.head ∷ c.body) → Good fold x
    form_good s c q = says_good s c ((forms.forms s (rule c)).1 q)

    module _ (cuts : Cut) where
      -- the names of a book
      pub read_good : (t : Bytes) (cs : List Clause) → book_of fold t ≡ read cs → (x : Bytes) → Among x (standing cs) → Good fold x
      read_good t cs q =
          let b : Book fold t cs = ((judging fold forms cuts).accepted t cs).0 q in
          saying_good b.ls cs b.says

      -- by number
      pub read_good_at : (t : Bytes) (cs : List Clause) → book_of fold t ≡ read cs
          → (a : ℕ) → a < length (names_of cs) → Good fold (get_or (names_of cs) a [])
      read_good_at t cs q a l = read_good t cs q (get_or (names_of cs) a []) (names_from_lem cs a l)
