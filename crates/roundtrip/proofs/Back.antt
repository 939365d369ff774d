-- Tables in order: their written text is a book, and that book's tables are they.
-- Assumes nothing.
use mathlib.Core.Path.{◌≡◌, refl, sym, ap, ◌∙◌, subst}
use mathlib.Core.Bool.{Bool, true, false, not, ◌&&◌}
use mathlib.Core.Logic.{◌↔◌}
use mathlib.Core.List.{List, [], ◌∷◌, map}
use Prim.Native.Nat.{ℕ, zero, suc, ◌+◌, ◌*◌, ◌≤◌, ◌<◌}
use native.Mathlib.Omega.{arith}
use lib.Dec.{eqb, leb}
use lib.ListN.{length, get_or, take, drop, length-map}
use lib.Seq.{length-take-le}
use borrow.Author.Tests.{leb-true, eqb-true}
use Rattle.limits.specs.Book.{names, name_bytes, rules, body_words, name_area, body_area}
use Rattle.sets.specs.Set.{every}
use Rattle.sets.proofs.Logic.{clash, not-true, and_left, and_right, of_not}
use Rattle.sets.proofs.Tests.{every_at, every_same}
use Rattle.areas.specs.Area.{part, filled}
use Rattle.program.specs.Program.{Rule}
use Rattle.grammar.specs.Bytes.{Bytes, Folding, all_of}
use Rattle.grammar.specs.Grammar.{Clause}
use Rattle.tables.specs.Numbering.{same_bytes, place, names_of, numbered}
use Rattle.tables.specs.Reading.{Book}
use Rattle.tables.specs.Areas.{Areas, rules_of, name_rows, head_rows, body_rows, filled_with, tables_of, name_at, names_in, rules_in}
use Rattle.tables.specs.Writing.{own, zero_from, good_name, different, numbers_in, orderly, met_in, well_formed}
use Rattle.tables.proofs.Numbering.{Distinct, same_bytes_eq, same_bytes_refl, place_here, place_on}
use Rattle.tables.proofs.Good.{Good}
use Rattle.tables.proofs.Encoding.{
  Tidy,
  length_names_from,
  get_or_names_from,
  rows_names,
  length_rules_from,
  heads_rules,
  bodies_rules,
  rules_low,
  name_fits,
  long_enough,
  filled_same,
}
use Rattle.roundtrip.specs.Claims.{Lent, written_text, OwnNames}
use Rattle.roundtrip.proofs.Written.{clause_of, RulesBelow, written_book}
use Rattle.roundtrip.proofs.Order.{met_bounds, rules_below, names_again, rules_again}

-- what tables in order are, part by part
record Formed (fold : ℕ → ℕ) (o : Areas) (n m : ℕ) : Type 0 where
  few_names : n ≤ names
  few_rules : m ≤ rules
  good : (a : ℕ) → a < n → good_name fold o.spellings a ≡ true
  unlike : different o.spellings n ≡ true
  names_end : zero_from (n * name_bytes) name_area o.spellings ≡ true
  heads_end : zero_from m rules o.heads ≡ true
  bodies_end : zero_from (m * body_words) body_area o.bodies ≡ true
  in_order : orderly 0 (numbers_in (rules_in (rules_of o) m)) ≡ true
  all_met : met_in 0 (numbers_in (rules_in (rules_of o) m)) ≡ n

-- the test says all of them
formed : (fold : ℕ → ℕ) (o : Areas) (n m : ℕ) → well_formed fold o n m ≡ true → Formed fold o n m
unfolding well_formed
formed fold o n m e =
    let a : Bool = leb n names in
    let b : Bool = leb m rules in
    let c : Bool = every n (good_name fold o.spellings) in
    let d : Bool = different o.spellings n in
    let f : Bool = zero_from (n * name_bytes) name_area o.spellings in
    let g : Bool = zero_from m rules o.heads in
    let h : Bool = zero_from (m * body_words) body_area o.bodies in
    let i : Bool = orderly 0 (numbers_in (rules_in (rules_of o) m)) in
    let j : Bool = eqb (met_in 0 (numbers_in (rules_in (rules_of o) m))) n in
    let sizes : a && b ≡ true = and_left (a && b) ((c && (d && f)) && ((g && h) && (i && j))) e in
    let rest : (c && (d && f)) && ((g && h) && (i && j)) ≡ true = and_right (a && b) ((c && (d && f)) && ((g && h) && (i && j))) e in
    let spell : c && (d && f) ≡ true = and_left (c && (d && f)) ((g && h) && (i && j)) rest in
    let tables : (g && h) && (i && j) ≡ true = and_right (c && (d && f)) ((g && h) && (i && j)) rest in
    let ends : g && h ≡ true = and_left (g && h) (i && j) tables in
    let order : i && j ≡ true = and_right (g && h) (i && j) tables in
    record {
      few_names = leb-true n names (and_left a b sizes);
      few_rules = leb-true m rules (and_right a b sizes);
      good = every_at n (good_name fold o.spellings) (and_left c (d && f) spell);
      unlike = and_left d f (and_right c (d && f) spell);
      names_end = and_right d f (and_right c (d && f) spell);
      heads_end = and_left g h ends;
      bodies_end = and_right g h ends;
      in_order = and_left i j order;
      all_met = eqb-true (met_in 0 (numbers_in (rules_in (rules_of o) m))) n (and_right i j order);
    }

-- a row in order holds a folded name
row_good : (fold : ℕ → ℕ) (area : Bytes) (a : ℕ) → good_name fold area a ≡ true → Good fold (name_at area a) × Tidy area a
unfolding good_name
row_good fold area a e =
    let s : Bytes = name_at area a in
    let x : Bool = leb 1 (length s) in
    let y : Bool = all_of (own fold) s in
    let z : Bool = all_of (λ (b : ℕ). eqb b 0) (drop (length s) (part (a * name_bytes) name_bytes area)) in (
      record {
        some = leb-true 1 (length s) (and_left x (y && z) e);
        fits = name_fits area a;
        bytes = and_left y z (and_right x (y && z) e);
      },
      and_right y z (and_right x (y && z) e),
    )

-- tables in order under one folding are so under another exactly where each name is made of bytes that are their own there
pub own_formed : (fold another : ℕ → ℕ) (o : Areas) (n m : ℕ) → well_formed fold o n m ≡ true
    → (well_formed another o n m ≡ true) ↔ OwnNames another o n
unfolding well_formed good_name
own_formed fold another o n m e =
    let area : Bytes = o.spellings in (
      λ w a l. (row_good another area a ((formed another o n m w).good a l)).0.bytes,
      λ names-own.
          let same : every n (good_name another area) ≡ every n (good_name fold area) =
          every_same n (good_name another area) (good_name fold area)
          (λ a l.
          let good = row_good fold area a ((formed fold o n m e).good a l) in
          let is : all_of (own another) (name_at area a) ≡ all_of (own fold) (name_at area a) = names-own a l ∙ sym good.0.bytes in
          rw is)
          in
          rw (same, e),
    )

-- a name that is none of those before it is first met at its own number
place_first : (ns : List Bytes) (x : Bytes) (a : ℕ) → a < length ns → get_or ns a [] ≡ x
    → ((b : ℕ) → b < a → same_bytes (get_or ns b []) x ≡ false) → place ns x ≡ a
place_first [] x a l e h = absurd (omega arith)
place_first (n ∷ ns) x zero l e h = place_here n ns x (subst (λ (y : Bytes). same_bytes n y ≡ true) e (same_bytes_refl n))
place_first (n ∷ ns) x (suc a) l e h =
    place_on n ns x (h zero (omega arith)) ∙ ap suc (place_first ns x a (omega arith) e (λ b m. h (suc b) (omega arith)))

-- what is different one way round is so the other
unlike_sym : (s t : Bytes) → same_bytes s t ≡ false → same_bytes t s ≡ false
unlike_sym s t e =
    not-true (same_bytes t s) (λ q. clash (subst (λ (x : Bytes). same_bytes s x ≡ true) (sym (same_bytes_eq t s q)) (same_bytes_refl s)) e)

-- an area that holds xs up to k, and then zeros, is filled with xs already
filled_by : (size k : ℕ) (xs old : List ℕ) → k ≤ size → size ≤ length old → xs ≡ take k old → zero_from k size old ≡ true → filled size xs old ≡ old
filled_by size k xs old l g e z =
    let q : length xs ≡ k = ap length e ∙ length-take-le k old (omega arith) in
    filled_same size xs old (omega arith) g (e ∙ ap (λ (i : ℕ). take i old) (sym q))
    (subst (λ (i : ℕ). zero_from i size old ≡ true) (sym q) z)

module _ (fold : ℕ → ℕ) (folding : Folding fold) (o : Areas) (n m : ℕ) (lent : Lent o) (well : well_formed fold o n m ≡ true) where
  -- the names of the tables
  abbrev ns : List Bytes
  ns = names_in o.spellings n

  -- their rules
  abbrev rs : List (Rule ℕ)
  rs = rules_in (rules_of o) m

  -- the clauses that are written from them
  abbrev pub written_clauses : List Clause
  written_clauses = map (clause_of ns) rs

  -- they are in order
  parts : Formed fold o n m
  parts = formed fold o n m well

  -- there are n names
  count_names : length ns ≡ n
  count_names = length_names_from o.spellings n 0

  -- name a is that of row a
  name_is : (a : ℕ) → a < n → get_or ns a [] ≡ name_at o.spellings a
  name_is a l = let q : 0 + a ≡ a = omega arith in get_or_names_from o.spellings n 0 a l ∙ ap (name_at o.spellings) q

  -- the names are folded names
  good : (a : ℕ) → a < length ns → Good fold (get_or ns a [])
  good a l =
      let k : a < n = omega (arith, count_names) in
      subst (λ (s : Bytes). Good fold s) (sym (name_is a k)) (row_good fold o.spellings a (parts.good a k)).0

  -- and no two are the same
  distinct : Distinct ns
  unfolding different
  distinct a l =
      let k : a < n = omega (arith, count_names) in
      place_first ns (get_or ns a []) a l refl
      (λ b below.
      let i : b < n = omega arith in
      let u : same_bytes (name_at o.spellings a) (name_at o.spellings b) ≡ false =
      of_not (same_bytes (name_at o.spellings a) (name_at o.spellings b))
      (every_at a (λ b. not (same_bytes (name_at o.spellings a) (name_at o.spellings b)))
      (every_at n (λ a. every a (λ b. not (same_bytes (name_at o.spellings a) (name_at o.spellings b)))) parts.unlike a k) b below)
      in
      rw (name_is a k, name_is b i) (unlike_sym (name_at o.spellings a) (name_at o.spellings b) u))

  -- heads and body members are numbers of names
  below : RulesBelow (length ns) rs
  below =
      subst (λ (k : ℕ). RulesBelow k rs) (parts.all_met ∙ sym count_names)
      (rules_below (met_in 0 (numbers_in rs)) rs (met_bounds 0 (numbers_in rs)))

  -- the names of the clauses are those of the tables
  same_names_lem : names_of written_clauses ≡ ns
  same_names_lem = names_again ns distinct rs parts.in_order (parts.all_met ∙ sym count_names)

  -- and so are the rules
  same_rules : map (numbered ns) written_clauses ≡ rs
  same_rules = rules_again ns distinct rs below (rules_low (rules_of o) m)

  -- as many names
  pub count : n ≡ length (names_of written_clauses)
  count = sym (ap length same_names_lem ∙ count_names)

  -- as many rules
  pub size : m ≡ length written_clauses
  size = sym (length-map rs (clause_of ns) ∙ length_rules_from (rules_of o) m 0)

  -- the written text is a book
  pub book : Book fold (written_text o n m) written_clauses
  book =
      written_book fold folding ns good rs below
      (record { rules_fit = omega (arith, size, parts.few_rules); names_fit = omega (arith, count, parts.few_names) })

  -- the areas are of their sizes
  roomy : (name_area ≤ length o.spellings) × (rules ≤ length o.heads) × (body_area ≤ length o.bodies)
  roomy = long_enough o lent.0

  -- so filling them with their own names and rules changes nothing
  filled_back : filled_with ns rs o ≡ o
  unfolding filled_with
  filled_back =
      let p : filled name_area (name_rows ns) o.spellings ≡ o.spellings =
      filled_by name_area (n * name_bytes) (name_rows ns) o.spellings (omega (arith, parts.few_names)) roomy.0
      (rows_names o.spellings n (omega (arith, parts.few_names, roomy.0)) (λ a l. (row_good fold o.spellings a (parts.good a l)).1))
      parts.names_end
      in
      let q : filled rules (head_rows rs) o.heads ≡ o.heads =
      filled_by rules m (head_rows rs) o.heads parts.few_rules roomy.1
      (heads_rules (rules_of o) m (omega (arith, parts.few_rules, roomy.1))) parts.heads_end
      in
      let r : filled body_area (body_rows rs) o.bodies ≡ o.bodies =
      filled_by body_area (m * body_words) (body_rows rs) o.bodies (omega (arith, parts.few_rules)) roomy.2
      (bodies_rules (rules_of o) m lent.1 (omega (arith, parts.few_rules, roomy.2))) parts.bodies_end
      in
      λ i. record { spellings = p i; heads = q i; bodies = r i }

  -- the tables of the clauses are these tables
  pub tables : o ≡ tables_of written_clauses o
  unfolding tables_of
  tables =
      sym (ap (λ (ms : List Bytes). filled_with ms (map (numbered ms) written_clauses) o) same_names_lem
      ∙ ap (λ (ss : List (Rule ℕ)). filled_with ns ss o) same_rules ∙ filled_back)
