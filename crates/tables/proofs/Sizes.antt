-- What lies past the stated sizes is neither judged nor touched: the tests and the text are those of the first entries of each area, and
-- what is written is written within them, with the rest after it.
-- Assumes nothing.
use mathlib.Core.Path.{◌≡◌, refl, sym, ap, ap₂, ◌∙◌}
use mathlib.Core.Bool.{Bool, true, false, not, ◌&&◌, ◌||◌}
use mathlib.Core.List.{List, [], ◌∷◌, map}
use Prim.Native.Nat.{ℕ, zero, suc, ◌+◌, ◌-◌, ◌*◌, ◌≤◌, ◌<◌}
use native.Mathlib.Omega.{arith}
use lib.Dec.{eqb, leb, ltb}
use lib.ListN.{length, take, drop, length-take}
use lib.Seq.{get_or-take}
use borrow.Author.Tests.{ltb-true, lt-ltb, leb-true}
use Rattle.limits.specs.Book.{text_bytes, letter_bytes, names, name_bytes, rules, body_words, name_area, body_area}
use Rattle.sets.specs.Set.{pick, every}
use Rattle.sets.proofs.Logic.{either, iff, and_left, and_right, pick_true, pick_false}
use Rattle.sets.proofs.Tests.{every_same}
use Rattle.areas.specs.Area.{part}
use Rattle.areas.proofs.First.{both_parts, part_first, filled_first}
use Rattle.words.specs.Row.{row}
use Rattle.program.specs.Program.{Rule}
use Rattle.grammar.specs.Bytes.{Bytes, letters, all_of}
use Rattle.grammar.specs.Letters.{letters_cause}
use Rattle.grammar.proofs.Letters.{letters_first, cause_first}
use Rattle.grammar.specs.Lines.{run}
use Rattle.tables.specs.Numbering.{same_bytes, names_of, numbered}
use Rattle.tables.specs.Reading.{Reading, read, refused, reading}
use Rattle.tables.specs.Areas.{Areas, name_rows, head_rows, body_rows, filled_with, tables_of, short, refusal, outcome, read_call}
use Rattle.tables.specs.Areas.{RuleTables, rules_of, nonzero, name_at, names_from, names_in, rule_at, rules_from, rules_in}
use Rattle.tables.specs.Writing.{written, own, zero_from, good_name, different, numbers_in, orderly, met_in, well_formed, Written, unwritten, placed, write_call}
use Rattle.tables.specs.Sizes.{stated_tables, stated_rules, tables_with_rest, read_with_rest, written_with_rest, TableSizes}

-- the first entries of an area are too few where it is too short
pub short_first : (size : ℕ) (area : List ℕ) → ltb (length area) size ≡ ltb (length (take size area)) size
short_first size area =
    iff (ltb (length area) size) (ltb (length (take size area)) size)
    (λ e. let l : length area < size = ltb-true (length area) size e in
    lt-ltb (length (take size area)) size (simp length-take (omega arith)))
    (λ e. let l : length (take size area) < size = ltb-true (length (take size area)) size e in
    lt-ltb (length area) size (omega (arith, length-take size area)))

-- a choice has the rest after it where the tests agree and each way out has
pub pick_first : {A : Type 0} (rest : A → A) {a b : Bool} {x y x' y' : A}
    → a ≡ b → (a ≡ true → x ≡ rest x') → y ≡ rest y' → pick a x y ≡ rest (pick b x' y')
pick_first rest {a} {b} {x} {y} {x'} {y'} e p q =
    either a (λ t. pick_true x y t ∙ p t ∙ ap rest (sym (pick_true x' y' (sym e ∙ t))))
    (λ t. pick_false x y t ∙ q ∙ ap rest (sym (pick_false x' y' (sym e ∙ t))))

-- two tests behind the same one agree where they agree if it holds
guard : (a : Bool) {x y : Bool} → (a ≡ true → x ≡ y) → a && x ≡ a && y
guard true f = f refl
guard false f = refl

-- The reader.

module _ (old : Areas) where
  -- the tests of the three lengths
  pub tables_short : short old ≡ short (stated_tables old)
  unfolding short
  tables_short =
      ap₂ ◌||◌ (short_first name_area old.spellings)
      (ap₂ ◌||◌ (short_first rules old.heads) (short_first body_area old.bodies))

  -- tables as they were, and filled
  pub tables_both : old ≡ tables_with_rest old (stated_tables old)
  tables_both i =
      record {
        spellings = both_parts name_area old.spellings i;
        heads = both_parts rules old.heads i;
        bodies = both_parts body_area old.bodies i;
      }

  pub tables_filled : (ns : List Bytes) (rs : List (Rule ℕ)) → filled_with ns rs old ≡ tables_with_rest old (filled_with ns rs (stated_tables old))
  unfolding filled_with
  tables_filled ns rs i =
      record {
        spellings = filled_first name_area (name_rows ns) old.spellings i;
        heads = filled_first rules (head_rows rs) old.heads i;
        bodies = filled_first body_area (body_rows rs) old.bodies i;
      }

  -- a refusal
  pub refusal_first : (k line : ℕ) → refusal k line old ≡ read_with_rest old (refusal k line (stated_tables old))
  unfolding refusal
  refusal_first k line =
      let left : pick (eqb line 0) old (filled_with [] [] old) ≡ tables_with_rest old (pick (eqb line 0) (stated_tables old) (filled_with [] [] (stated_tables old))) =
      pick_first (tables_with_rest old) refl (λ t. tables_both) (tables_filled [] [])
      in
      λ i. record { answer = record { number = k; line = line; names = 0; rules = 0 }; areas = left i }

  -- what a text comes to
  outcome_first : (x : Reading) → outcome x old ≡ read_with_rest old (outcome x (stated_tables old))
  unfolding outcome tables_of
  outcome_first (refused k line) = refusal_first k line
  outcome_first (read cs) =
      ap (λ (o : Areas). record { answer = record { number = 0; line = 0; names = length (names_of cs); rules = length cs }; areas = o })
      (tables_filled (names_of cs) (map (numbered (names_of cs)) cs))

  read_first : (table : List ℕ) (t : Bytes)
      → read_call table t old ≡ read_with_rest old (read_call (take letter_bytes table) t (stated_tables old))
  unfolding read_call
  read_first table t =
      let cut : List ℕ = take letter_bytes table in
      let same : letters_cause (short old) table ≡ letters_cause (short (stated_tables old)) cut =
      ap (λ (s : Bool). letters_cause s table) tables_short ∙ cause_first table (short (stated_tables old))
      in
      pick_first (read_with_rest old) (ap (λ (q : ℕ). eqb q 0) same)
      (λ e. outcome_first (reading (letters table) t)
      ∙ ap (λ (f : ℕ → ℕ). read_with_rest old (outcome (reading f t) (stated_tables old))) (letters_first table))
      (refusal_first (letters_cause (short old) table) 0
      ∙ ap (λ (q : ℕ). read_with_rest old (refusal q 0 (stated_tables old))) same)

-- The writer.

-- a name's row, and the names
name_first : (area : Bytes) (a : ℕ) → a < names → part (a * name_bytes) name_bytes area ≡ part (a * name_bytes) name_bytes (take name_area area)
name_first area a l = part_first (a * name_bytes) name_bytes name_area area (omega arith)

names_first : (area : Bytes) (k a : ℕ) → a + k ≤ names → names_from area k a ≡ names_from (take name_area area) k a
unfolding names_from name_at
names_first area zero a h = refl
names_first area (suc k) a h =
    ap₂ (λ (p : Bytes) (ns : List Bytes). run nonzero p ∷ ns) (name_first area a (omega arith)) (names_first area k (suc a) (omega arith))

-- the rules
rule_first : (tables : RuleTables) (j : ℕ) → j < rules → rule_at tables j ≡ rule_at (stated_rules tables) j
unfolding rule_at
rule_first tables j l =
    ap₂ (λ (x : ℕ) (ws : List ℕ). record { head = x; body = row ws }) (sym (get_or-take rules tables.heads j 0 l))
    (part_first (j * body_words) body_words body_area tables.bodies (omega arith))

pub rules_first : (tables : RuleTables) (k j : ℕ) → j + k ≤ rules → rules_from tables k j ≡ rules_from (stated_rules tables) k j
unfolding rules_from
rules_first tables zero j h = refl
rules_first tables (suc k) j h = ap₂ ◌∷◌ (rule_first tables j (omega arith)) (rules_first tables k (suc j) (omega arith))

-- zeros up to the stated size
zero_first : (from size : ℕ) (area : List ℕ) → from ≤ size → zero_from from size area ≡ zero_from from size (take size area)
unfolding zero_from
zero_first from size area h = ap (all_of (λ (b : ℕ). eqb b 0)) (part_first from (size - from) size area (omega arith))

module _ (fold : ℕ → ℕ) (o : Areas) (n m : ℕ) where
  -- whether a row holds a name, and whether two names are the same
  good_first : (a : ℕ) → a < names → good_name fold o.spellings a ≡ good_name fold (take name_area o.spellings) a
  unfolding good_name name_at
  good_first a l =
      ap (λ (p : Bytes). leb 1 (length (run nonzero p))
      && (all_of (own fold) (run nonzero p) && all_of (λ (b : ℕ). eqb b 0) (drop (length (run nonzero p)) p)))
      (name_first o.spellings a l)

  different_first : n ≤ names → different o.spellings n ≡ different (take name_area o.spellings) n
  unfolding different name_at
  different_first h =
      let area : Bytes = o.spellings in
      let at : Bytes → ℕ → Bytes = λ s a. part (a * name_bytes) name_bytes s in
      let alike : Bytes → ℕ → ℕ → Bool = λ s a b. not (same_bytes (run nonzero (at s a)) (run nonzero (at s b))) in
      every_same n (λ a. every a (alike area a)) (λ a. every a (alike (take name_area area) a))
      (λ a l. every_same a (alike area a) (alike (take name_area area) a)
      (λ b k. ap₂ (λ (p q : Bytes). not (same_bytes (run nonzero p) (run nonzero q))) (name_first area a (omega arith)) (name_first area b (omega arith))))

  -- the rules as numbers
  numbers_first : m ≤ rules
      → orderly 0 (numbers_in (rules_in (rules_of o) m)) && eqb (met_in 0 (numbers_in (rules_in (rules_of o) m))) n
      ≡ orderly 0 (numbers_in (rules_in (rules_of (stated_tables o)) m)) && eqb (met_in 0 (numbers_in (rules_in (rules_of (stated_tables o)) m))) n
  numbers_first h =
      ap (λ (rs : List (Rule ℕ)). orderly 0 (numbers_in rs) && eqb (met_in 0 (numbers_in rs)) n) (rules_first (rules_of o) m 0 (omega arith))

  -- whether tables are in order
  formed_first : well_formed fold o n m ≡ well_formed fold (stated_tables o) n m
  unfolding well_formed
  formed_first =
      guard (leb n names && leb m rules)
      (λ e.
      let a : n ≤ names = leb-true n names (and_left (leb n names) (leb m rules) e) in
      let b : m ≤ rules = leb-true m rules (and_right (leb n names) (leb m rules) e) in
      ap₂ ◌&&◌
      (ap₂ ◌&&◌ (every_same n (good_name fold o.spellings) (good_name fold (take name_area o.spellings)) (λ i l. good_first i (omega arith)))
      (ap₂ ◌&&◌ (different_first a) (zero_first (n * name_bytes) name_area o.spellings (omega arith))))
      (ap₂ ◌&&◌ (ap₂ ◌&&◌ (zero_first m rules o.heads b) (zero_first (m * body_words) body_area o.bodies (omega arith))) (numbers_first b)))

  -- the written text
  text_first : well_formed fold o n m ≡ true
      → written (names_in o.spellings n) (rules_in (rules_of o) m)
      ≡ written (names_in (take name_area o.spellings) n) (rules_in (rules_of (stated_tables o)) m)
  unfolding well_formed
  text_first e =
      let limits : leb n names && leb m rules ≡ true = and_left (leb n names && leb m rules) _ e in
      let a : n ≤ names = leb-true n names (and_left (leb n names) (leb m rules) limits) in
      let b : m ≤ rules = leb-true m rules (and_right (leb n names) (leb m rules) limits) in
      ap₂ written (names_first o.spellings n 0 (omega arith)) (rules_first (rules_of o) m 0 (omega arith))

-- a text placed in the area
placed_first : (w area : Bytes) → placed w area ≡ written_with_rest area (placed w (take text_bytes area))
unfolding placed
placed_first w area =
    pick_first (written_with_rest area) refl (λ t i. record { number = 12; size = 0; text = both_parts text_bytes area i })
    (λ i. record { number = 0; size = length w; text = filled_first text_bytes w area i })

write_first : (table : List ℕ) (o : Areas) (n m : ℕ) (area : Bytes)
    → write_call table o n m area ≡ written_with_rest area (write_call (take letter_bytes table) (stated_tables o) n m (take text_bytes area))
unfolding write_call
write_first table o n m area =
    let cut : List ℕ = take letter_bytes table in
    let front : Bytes = take text_bytes area in
    let rest : Written → Written = written_with_rest area in
    let same : letters_cause (short o || ltb (length area) text_bytes) table ≡ letters_cause (short (stated_tables o) || ltb (length front) text_bytes) cut =
    ap₂ (λ (a b : Bool). letters_cause (a || b) table) (tables_short o) (short_first text_bytes area)
    ∙ cause_first table (short (stated_tables o) || ltb (length front) text_bytes)
    in
    let refused : (k : ℕ) → unwritten k area ≡ rest (unwritten k front) = λ k i. record { number = k; size = 0; text = both_parts text_bytes area i } in
    let formed : well_formed (letters table) o n m ≡ well_formed (letters cut) (stated_tables o) n m =
    formed_first (letters table) o n m ∙ ap (λ (f : ℕ → ℕ). well_formed f (stated_tables o) n m) (letters_first table)
    in
    pick_first rest (ap (λ (q : ℕ). eqb q 0) same)
    (λ e.
    pick_first rest formed
    (λ t. placed_first (written (names_in o.spellings n) (rules_in (rules_of o) m)) area
    ∙ ap (λ (w : Bytes). rest (placed w front)) (text_first (letters table) o n m t))
    (refused 10))
    (refused (letters_cause (short o || ltb (length area) text_bytes) table) ∙ ap (λ (q : ℕ). rest (unwritten q front)) same)

-- the two calls
pub table_sizes : (table : List ℕ) → TableSizes table
table_sizes table = record { reader = λ t old. read_first old table t; writer = write_first table }
