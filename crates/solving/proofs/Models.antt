-- Models by numbers and models of the text: a name's number lies in every model of the program exactly where its spelling lies in every model
-- that is read off the lines.
-- Assumes nothing.
use mathlib.Core.Path.{◌≡◌, refl, sym, ap, ◌∙◌, subst}
use mathlib.Core.Bool.{true, ◌&&◌}
use mathlib.Core.Logic.{◌⊎◌, inl, inr, ⊎_elim, ◌↔◌}
use mathlib.Core.List.{List, [], ◌∷◌, map}
use Prim.Native.Nat.{ℕ, zero, suc, ◌<◌}
use native.Mathlib.Omega.{arith}
use lib.Dec.{eqb, ltb}
use lib.ListN.{length, get_or}
use borrow.Author.Tests.{ltb-true, lt-ltb, eqb-true}
use Rattle.sets.specs.Set.{Set, Within}
use Rattle.sets.proofs.Logic.{clash, and_left, and_right, and_make, or_elim}
use Rattle.program.specs.Program.{Rule, no_rule, Model, InEveryModel}
use Rattle.grammar.specs.Bytes.{Bytes, Folding, Among}
use Rattle.grammar.specs.Grammar.{Clause, silent, rule, Says}
use Rattle.grammar.specs.Lines.{form_of}
use Rattle.grammar.specs.Claims.{Classified}
use Rattle.grammar.proofs.Theorems.{classified, cut}
use Rattle.tables.specs.Numbering.{place, standing, names_of, places, numbered, program_of}
use Rattle.tables.specs.Reading.{Saying, Book}
use Rattle.tables.proofs.Numbering.{numbers, among_left, among_right, among_split, place_at, places_has}
use Rattle.solving.specs.Models.{RuleIn, NameIn, Spellings, ModelOf, InEveryModelOf}

-- Clauses and lines.

-- c is one of the clauses cs
unfoldable OneOf : Clause → List Clause → Type 0
OneOf c [] = ⊥
OneOf c (d ∷ ds) = (d ≡ c) ⊎ OneOf c ds

-- a rule's line says something
silent_rule : {X : Type 0} (c : Clause) → silent ≡ rule c → X
silent_rule c e = let z : ◌≡◌ {A = ℕ} 0 1 = cc in absurd (omega arith)

-- and it says one rule
one_rule : (c d : Clause) → rule c ≡ rule d → c ≡ d
one_rule c d e = cc

-- a line's clause is one of those that the lines say
said : (fold : ℕ → ℕ) → Classified fold → (ls : List Bytes) (cs : List Clause) → Saying fold ls cs
    → (s : Bytes) (c : Clause) → Among s ls → Says fold s (rule c) → OneOf c cs
unfolding Saying Among OneOf
said fold forms [] cs e s c m q = absurd m
said fold forms (l ∷ ls) cs (inl (p, says)) s c (inl e) q =
    silent_rule c (sym ((forms.forms l silent).0 p) ∙ ap (form_of fold) e ∙ (forms.forms s (rule c)).0 q)
said fold forms (l ∷ ls) cs (inl (p, says)) s c (inr m) q = said fold forms ls cs says s c m q
said fold forms (l ∷ ls) cs (inr (d, rest, p, e, says)) s c (inl f) q =
    subst (OneOf c) (sym e)
    (inl (one_rule d c (sym ((forms.forms l (rule d)).0 p) ∙ ap (form_of fold) f ∙ (forms.forms s (rule c)).0 q)))
said fold forms (l ∷ ls) cs (inr (d, rest, p, e, says)) s c (inr m) q =
    subst (OneOf c) (sym e) (inr (said fold forms ls rest says s c m q))

-- and each of those is the clause of a line
said_by : (fold : ℕ → ℕ) (ls : List Bytes) (cs : List Clause) → Saying fold ls cs
    → (c : Clause) → OneOf c cs → (s : Bytes) × Among s ls × Says fold s (rule c)
unfolding Saying Among OneOf
said_by fold [] cs e c m = absurd (subst (OneOf c) e m)
said_by fold (l ∷ ls) cs (inl (p, says)) c m =
    let r = said_by fold ls cs says c m in
    (r.0, inr r.1, r.2)
said_by fold (l ∷ ls) cs (inr (d, rest, p, e, says)) c m =
    ⊎_elim (λ f. (l, inl refl, subst (λ (x : Clause). Says fold l (rule x)) f p))
    (λ n. let r = said_by fold ls rest says c n in (r.0, inr r.1, r.2)) (subst (OneOf c) e m)

-- a name stands in the clauses where it is the head of one, or in its body
in_clause : (cs : List Clause) (x : Bytes) → Among x (standing cs) → (c : Clause) × OneOf c cs × Among x (c.head ∷ c.body)
unfolding standing Among OneOf
in_clause [] x m = absurd m
in_clause (c ∷ cs) x m =
    ⊎_elim (λ n. (c, inl refl, n)) (λ n. let r = in_clause cs x n in (r.0, inr r.1, r.2))
    (among_split x (c.head ∷ c.body) (standing cs) m)

-- and nowhere else
of_clause : (cs : List Clause) (c : Clause) (x : Bytes) → OneOf c cs → Among x (c.head ∷ c.body) → Among x (standing cs)
unfolding standing OneOf
of_clause [] c x o m = absurd o
of_clause (d ∷ ds) c x (inl e) m =
    among_left x (d.head ∷ d.body) (standing ds) (subst (λ (b : Clause). Among x (b.head ∷ b.body)) (sym e) m)
of_clause (d ∷ ds) c x (inr o) m = among_right x (d.head ∷ d.body) (standing ds) (of_clause ds c x o m)

-- Clauses by number.

-- each clause has a rule by number
rule_of : (ns : List Bytes) (cs : List Clause) (c : Clause) → OneOf c cs
    → (j : ℕ) × (j < length (map (numbered ns) cs)) × (get_or (map (numbered ns) cs) j no_rule ≡ numbered ns c)
unfolding OneOf
rule_of ns [] c o = absurd o
rule_of ns (d ∷ ds) c (inl e) = (zero, omega arith, ap (numbered ns) e)
rule_of ns (d ∷ ds) c (inr o) = let r = rule_of ns ds c o in (suc r.0, omega (arith, r.1), r.2)

-- and each rule by number is that of a clause
clause_of_lem : (ns : List Bytes) (cs : List Clause) (j : ℕ) → j < length (map (numbered ns) cs)
    → (c : Clause) × OneOf c cs × (get_or (map (numbered ns) cs) j no_rule ≡ numbered ns c)
unfolding OneOf
clause_of_lem ns [] j l = absurd (omega arith)
clause_of_lem ns (d ∷ ds) zero l = (d, inl refl, refl)
clause_of_lem ns (d ∷ ds) (suc j) l = let r = clause_of_lem ns ds j (omega arith) in (r.0, inr r.1, r.2)

-- a number of a body is that of a name in it
place_of : (ns xs : List Bytes) (a : ℕ) → places ns xs a ≡ true → (x : Bytes) × Among x xs × (place ns x ≡ a)
unfolding places Among
place_of ns [] a e = clash e refl
place_of ns (x ∷ xs) a e =
    or_elim (eqb (place ns x) a) (places ns xs a) e (λ t. (x, inl refl, eqb-true (place ns x) a t))
    (λ t. let r = place_of ns xs a t in (r.0, inr r.1, r.2))

-- Sets of numbers, spelt.

-- the spellings whose numbers are in f
unfoldable pub spelt : List Bytes → Set → Spellings
spelt ns f x = ltb (place ns x) (length ns) && f (place ns x)

-- their numbers are below, and in f
pub spelt_find : (ns : List Bytes) (f : Set) (x : Bytes) → spelt ns f x ≡ true → (place ns x < length ns) × (f (place ns x) ≡ true)
unfolding spelt
spelt_find ns f x e = (
  ltb-true (place ns x) (length ns) (and_left (ltb (place ns x) (length ns)) (f (place ns x)) e),
  and_right (ltb (place ns x) (length ns)) (f (place ns x)) e,
)

-- and no others
pub spelt_make : (ns : List Bytes) (f : Set) (x : Bytes) → place ns x < length ns → f (place ns x) ≡ true → spelt ns f x ≡ true
unfolding spelt
spelt_make ns f x l e = and_make (lt-ltb (place ns x) (length ns) l) e

-- The book with the clauses cs.
module _ (fold : ℕ → ℕ) (folding : Folding fold) (t : Bytes) (cs : List Clause) (book : Book fold t cs) where
  -- its names
  abbrev ns : List Bytes
  ns = names_of cs

  -- a rule that a line says is one of the clauses
  rule_in : (c : Clause) → RuleIn fold t c → OneOf c cs
  rule_in c (ls, s, x, m, q) =
      said fold (classified fold folding) book.ls cs book.says s c
      (subst (Among s) (cut.only t ls x ∙ sym (cut.only t book.ls book.text)) m) q

  -- and each clause is a rule that a line says
  in_rule : (c : Clause) → OneOf c cs → RuleIn fold t c
  in_rule c o = let r = said_by fold book.ls cs book.says c o in (book.ls, r.0, book.text, r.1, r.2)

  -- a spelling whose number is below is a name of the book
  name_in : (x : Bytes) → place ns x < length ns → NameIn fold t x
  name_in x l =
      let m : Among x (standing cs) = subst (λ (y : Bytes). Among y (standing cs)) (place_at ns x l) ((numbers cs).stands (place ns x) l) in
      let r = in_clause cs x m in
      (r.0, in_rule r.0 r.1, r.2)

  -- a model by numbers, spelt, is a model of the text
  pub model_spelt : (f : Set) → Model (program_of cs) f → ModelOf fold t (spelt ns f)
  unfolding program_of numbered Among
  model_spelt f model = record {
    names = λ x e. name_in x (spelt_find ns f x e).0;
    closed =
        λ c r h.
        let o : OneOf c cs = rule_in c r in
        let q = rule_of ns cs c o in
        let l : place ns c.head < length ns = (numbers cs).below c.head (of_clause cs c c.head o (inl refl)) in
        let b : Within (length ns) (get_or (map (numbered ns) cs) q.0 no_rule).body f =
        λ i m e.
        let y = place_of ns c.body i (sym (ap (λ (k : Rule ℕ). k.body i) q.2) ∙ e) in
        subst (λ (a : ℕ). f a ≡ true) y.2 (spelt_find ns f y.0 (h y.0 y.1)).1
        in
        spelt_make ns f c.head l (ap (λ (k : Rule ℕ). f k.head) (sym q.2) ∙ model q.0 q.1 b);
  }

  -- a model of the text is one by numbers
  model_numbered : (M : Spellings) → ModelOf fold t M → Model (program_of cs) (λ a. M (get_or ns a []))
  unfolding program_of numbered Among
  model_numbered M model j l h =
      let q = clause_of_lem ns cs j l in
      let c : Clause = q.0 in
      let stands : (x : Bytes) → Among x (c.head ∷ c.body) → Among x (standing cs) = λ x m. of_clause cs c x q.1 m in
      let held : M c.head ≡ true =
      model.closed c (in_rule c q.1)
      (λ x m.
      ap M (sym ((numbers cs).name x (stands x (inr m))))
      ∙ h (place ns x) ((numbers cs).below x (stands x (inr m)))
      (ap (λ (k : Rule ℕ). k.body (place ns x)) q.2 ∙ places_has ns c.body x m))
      in
      ap (λ (k : Rule ℕ). M (get_or ns k.head [])) q.2 ∙ ap M ((numbers cs).name c.head (stands c.head (inl refl))) ∙ held

-- a name's number lies in every model of the program exactly where its spelling lies in every model of the text
pub in_every_model : (fold : ℕ → ℕ) → Folding fold → (t : Bytes) (cs : List Clause) → Book fold t cs → (a : ℕ) → a < length (names_of cs)
    → InEveryModel (program_of cs) a ↔ InEveryModelOf fold t (get_or (names_of cs) a [])
in_every_model fold folding t cs book a l = (
  λ h M model. h (λ b. M (get_or (names_of cs) b [])) (model_numbered fold folding t cs book M model),
  λ h f model. subst (λ (b : ℕ). f b ≡ true) ((numbers cs).number a l)
      (spelt_find (names_of cs) f (get_or (names_of cs) a []) (h (spelt (names_of cs) f) (model_spelt fold folding t cs book f model))).1,
)
