-- What is judged of a lent folding table: the computed tests find what they are for, a table passes exactly where its letters obey the rule of a
-- folding, and ours does.
-- Assumes nothing.
use mathlib.Core.Path.{◌≡◌, refl, sym, ap, ap₂, subst, fun_ext, ◌∙◌}
use mathlib.Core.Bool.{Bool, true, false, not, ◌&&◌, ◌||◌}
use mathlib.Core.Logic.{◌↔◌}
use mathlib.Core.List.{List}
use Prim.Native.Nat.{ℕ, zero, suc, ◌+◌, ◌≤◌, ◌<◌}
use native.Mathlib.Omega.{arith}
use lib.Dec.{eqb, ltb}
use lib.ListN.{length, get_or, take, length-take}
use lib.Seq.{get_or-take}
use borrow.Author.Tests.{eqb-true, eqb-false, ne_eqb, ltb-true, ltb-false, lt-ltb, le-ltb}
use Rattle.limits.specs.Book.{letter_bytes}
use Rattle.limits.specs.Cause.{OneOf, letter_causes}
use Rattle.limits.proofs.Causes.{without, other, one_found}
use Rattle.sets.specs.Set.{pick, exists}
use Rattle.sets.proofs.Logic.{either, holds, fails, clash, not-true, iff, and_left, and_right, and_make, or_left, or_none, of_not, not_of_false, pick_true, pick_false}
use Rattle.sets.proofs.Tests.{exists_find, exists_make}
use Rattle.grammar.specs.Bytes.{Folding, reserved, letters, our_letters}
use Rattle.grammar.specs.Letters.{FoldTable, ReservedEntry, UnsettledEntry, LettersJudged, has_entry, any_reserved, any_unsettled, table_cause, letters_cause, entries_from, our_table}
use Rattle.grammar.proofs.Folding.{folding, past_bytes}

module _ (table : List ℕ) where
  -- a number that is no byte has no entry
  pub letters_past : (b : ℕ) → letter_bytes ≤ b → letters table b ≡ 0
  unfolding letters
  letters_past b l = pick_false (get_or table b 0) 0 (le-ltb b letter_bytes l)

  -- so what has one is a byte
  entry_byte : (b : ℕ) → (letters table b ≡ 0 → ⊥) → b < letter_bytes
  entry_byte b some =
      either (ltb b letter_bytes) (λ l. ltb-true b letter_bytes l) (λ l. absurd (some (letters_past b (ltb-false b letter_bytes l))))

  -- whether a byte has an entry
  has_some : (b : ℕ) → has_entry table b ≡ true → letters table b ≡ 0 → ⊥
  has_some b e = eqb-false (letters table b) 0 (of_not (eqb (letters table b) 0) e)

  some_has : (b : ℕ) → (letters table b ≡ 0 → ⊥) → has_entry table b ≡ true
  some_has b some = not_of_false (eqb (letters table b) 0) (ne_eqb (letters table b) 0 some)

  -- the first test finds a reserved byte that has an entry, wherever there is one
  reserved_found : any_reserved table ≡ true → ReservedEntry table
  unfolding any_reserved
  reserved_found e =
      let (b, l, q) = exists_find letter_bytes (λ b. reserved b && has_entry table b) e in
      (b, and_left (reserved b) (has_entry table b) q, has_some b (and_right (reserved b) (has_entry table b) q))

  found_reserved : ReservedEntry table → any_reserved table ≡ true
  unfolding any_reserved
  found_reserved (b, e, some) =
      exists_make letter_bytes (λ b. reserved b && has_entry table b) b (entry_byte b some) (and_make e (some_has b some))

  -- the second an entry that is not its own
  abbrev strays : ℕ → Bool
  strays b = not (eqb (letters table (letters table b)) (letters table b))

  unsettled_found : any_unsettled table ≡ true → UnsettledEntry table
  unfolding any_unsettled
  unsettled_found e =
      let (b, l, q) = exists_find letter_bytes (λ b. has_entry table b && strays b) e in
      let again : ℕ = letters table (letters table b) in (
        b,
        has_some b (and_left (has_entry table b) (strays b) q),
        eqb-false again (letters table b) (of_not (eqb again (letters table b)) (and_right (has_entry table b) (strays b) q)),
      )

  found_unsettled : UnsettledEntry table → any_unsettled table ≡ true
  unfolding any_unsettled
  found_unsettled (b, some, other) =
      let again : ℕ = letters table (letters table b) in
      exists_make letter_bytes (λ b. has_entry table b && strays b) b (entry_byte b some)
      (and_make (some_has b some) (not_of_false (eqb again (letters table b)) (ne_eqb again (letters table b) other)))

  -- Where neither finds any, the letters obey the rule of a folding.
  module _ (first : any_reserved table ≡ false) (second : any_unsettled table ≡ false) where
    none : (b : ℕ) → reserved b ≡ true → letters table b ≡ 0
    none b e =
        either (eqb (letters table b) 0) (λ z. eqb-true (letters table b) 0 z)
        (λ z. clash (found_reserved (b, e, eqb-false (letters table b) 0 z)) first)

    -- an entry is 0 or its own
    own : (b : ℕ) → (letters table b ≡ 0 → ⊥) → letters table (letters table b) ≡ letters table b
    own b some =
        let again : ℕ = letters table (letters table b) in
        either (eqb again (letters table b)) (λ z. eqb-true again (letters table b) z)
        (λ z. clash (found_unsettled (b, some, eqb-false again (letters table b) z)) second)

    again : (b : ℕ) → letters table (letters table b) ≡ letters table b
    unfolding reserved
    again b =
        either (eqb (letters table b) 0)
        (λ z. let e : letters table b ≡ 0 = eqb-true (letters table b) 0 z in ap (letters table) e ∙ none 0 refl ∙ sym e)
        (λ z. own b (eqb-false (letters table b) 0 z))

    -- so it is a byte, since it has an entry itself
    byte : (b : ℕ) → letters table b < 256
    byte b =
        either (eqb (letters table b) 0) (λ z. omega (arith, eqb-true (letters table b) 0 z))
        (λ z.
        let some : letters table b ≡ 0 → ⊥ = eqb-false (letters table b) 0 z in
        entry_byte (letters table b) (λ e. some (sym (own b some) ∙ e)))

    pub tests_fold : Folding (letters table)
    tests_fold = record { none = none; again = again; byte = byte }

  -- and the other way
  pub fold_reserved : Folding (letters table) → ReservedEntry table → ⊥
  fold_reserved rule (b, e, some) = some (rule.none b e)

  pub fold_unsettled : Folding (letters table) → UnsettledEntry table → ⊥
  fold_unsettled rule (b, some, other) = other (rule.again b)

  -- The number by the two tests.
  cause_reserved : any_reserved table ≡ true → table_cause table ≡ 20
  unfolding table_cause
  cause_reserved e = pick_true 20 (pick (any_unsettled table) 21 0) e

  cause_unsettled : any_reserved table ≡ false → any_unsettled table ≡ true → table_cause table ≡ 21
  unfolding table_cause
  cause_unsettled e q = pick_false 20 (pick (any_unsettled table) 21 0) e ∙ pick_true 21 0 q

  cause_none : any_reserved table ≡ false → any_unsettled table ≡ false → table_cause table ≡ 0
  unfolding table_cause
  cause_none e q = pick_false 20 (pick (any_unsettled table) 21 0) e ∙ pick_false 21 0 q

  -- a table that passes has none
  pub fold_cause : Folding (letters table) → table_cause table ≡ 0
  fold_cause rule =
      cause_none (not-true (any_reserved table) (λ e. fold_reserved rule (reserved_found e)))
      (not-true (any_unsettled table) (λ e. fold_unsettled rule (unsettled_found e)))

  -- what is judged of the entries, given that all areas are long enough: 20, 21, or the letters obey the rule
  by_entries : {X : Type 0} → (ReservedEntry table → table_cause table ≡ 20 → X)
      → ((ReservedEntry table → ⊥) → UnsettledEntry table → table_cause table ≡ 21 → X)
      → (Folding (letters table) → table_cause table ≡ 0 → X) → X
  by_entries on-reserved on-unsettled on-fold =
      either (any_reserved table) (λ e. on-reserved (reserved_found e) (cause_reserved e))
      (λ e.
      either (any_unsettled table)
      (λ q. on-unsettled (λ r. clash (found_reserved r) e) (unsettled_found q) (cause_unsettled e q))
      (λ q. on-fold (tests_fold e q) (cause_none e q)))

  -- where no table is refused, what is judged of its entries is 0
  pub cause_fold : table_cause table ≡ 0 → Folding (letters table)
  cause_fold z =
      by_entries (λ r e. absurd (omega (arith, z, e))) (λ n u e. absurd (omega (arith, z, e))) (λ f e. f)

-- an area too short comes first
pub cause_low : (low : Bool) (table : List ℕ) → low ≡ true → letters_cause low table ≡ 1
unfolding letters_cause
cause_low low table e = pick_true 1 (table_cause table) (or_left (ltb (length table) letter_bytes) e)

-- What is judged first, 0 or a number, and what it says. `low` is whether another lent area is too short, `long` that none is.
module _ {long : Type 0} (low : Bool) (judges : (low ≡ false) ↔ long) (table : List ℕ) where
  abbrev q : ℕ
  q = letters_cause low table

  abbrev Enough : Type 0
  Enough = long × (letter_bytes ≤ length table)

  cause_short : low || ltb (length table) letter_bytes ≡ true → q ≡ 1
  unfolding letters_cause
  cause_short e = pick_true 1 (table_cause table) e

  cause_long : Enough → q ≡ table_cause table
  unfolding letters_cause
  cause_long (a, l) = pick_false 1 (table_cause table) (rw (judges.1 a, le-ltb (length table) letter_bytes l))

  enough : low || ltb (length table) letter_bytes ≡ false → Enough
  enough e =
      let both = or_none low (ltb (length table) letter_bytes) e in
      (judges.0 both.0, ltb-false (length table) letter_bytes both.1)

  not_enough : low || ltb (length table) letter_bytes ≡ true → Enough → ⊥
  not_enough e (a, l) =
      clash e (ap₂ ◌||◌ (judges.1 a) (le-ltb (length table) letter_bytes l))

  -- the four ways
  pub by_letters : {X : Type 0} → ((Enough → ⊥) → q ≡ 1 → X)
      → (Enough → ReservedEntry table → q ≡ 20 → X)
      → (Enough → (ReservedEntry table → ⊥) → UnsettledEntry table → q ≡ 21 → X)
      → (Enough → Folding (letters table) → q ≡ 0 → X) → X
  by_letters on-short on-reserved on-unsettled on-fold =
      either (low || ltb (length table) letter_bytes) (λ e. on-short (not_enough e) (cause_short e))
      (λ e.
      let a : Enough = enough e in
      by_entries table (λ r z. on-reserved a r (cause_long a ∙ z)) (λ n u z. on-unsettled a n u (cause_long a ∙ z))
      (λ f z. on-fold a f (cause_long a ∙ z)))

  -- the three numbers, each exactly where it is given
  pub letters_judged : LettersJudged long table q
  letters_judged =
      by_letters
      (λ n e. record {
        short = holds e n;
        reserved = fails (λ z. omega (arith, z, e)) (λ p. n (p.0, p.1));
        unsettled = fails (λ z. omega (arith, z, e)) (λ p. n (p.0, p.1));
      })
      (λ a r e. record {
        short = fails (λ z. omega (arith, z, e)) (λ n. n a);
        reserved = holds e (a.0, a.1, r);
        unsettled = fails (λ z. omega (arith, z, e)) (λ p. p.2 r);
      })
      (λ a n u e. record {
        short = fails (λ z. omega (arith, z, e)) (λ m. m a);
        reserved = fails (λ z. omega (arith, z, e)) (λ p. n p.2);
        unsettled = holds e (a.0, a.1, n, u);
      })
      (λ a f e. record {
        short = fails (λ z. omega (arith, z, e)) (λ m. m a);
        reserved = fails (λ z. omega (arith, z, e)) (λ p. fold_reserved table f p.2);
        unsettled = fails (λ z. omega (arith, z, e)) (λ p. fold_unsettled table f p.3);
      })

  -- 0 exactly where all areas are long enough and the table passes
  pub letters_pass : (q ≡ 0) ↔ (long × FoldTable table)
  letters_pass = (
    λ z.
        by_letters (λ n e. absurd (omega (arith, z, e))) (λ a r e. absurd (omega (arith, z, e))) (λ a n u e. absurd (omega (arith, z, e)))
        (λ a f e. (a.0, (a.1, f))),
    λ (a, passes). cause_long (a, passes.0) ∙ fold_cause table passes.1,
  )

  -- else it is one of the three
  pub letters_cause_lem : (q ≡ 0 → ⊥) → OneOf q letter_causes
  unfolding without
  letters_cause_lem some =
      by_letters (λ n e. one_found 1 q letter_causes refl e) (λ a r e. one_found 20 q letter_causes refl e)
      (λ a n u e. one_found 21 q letter_causes refl e) (λ a f e. absurd (some e))

-- any other number, where all areas are long enough and the table passes
pub letters_other : {long : Type 0} (table : List ℕ) (k : ℕ) → long → FoldTable table → (OneOf k letter_causes → ⊥) → LettersJudged long table k
unfolding without
letters_other table k a (l, f) apart =
    record {
      short = fails (λ z. apart (one_found 1 k letter_causes refl z)) (λ m. m (a, l));
      reserved = fails (λ z. apart (one_found 20 k letter_causes refl z)) (λ p. fold_reserved table f p.2);
      unsettled = fails (λ z. apart (one_found 21 k letter_causes refl z)) (λ p. fold_unsettled table f p.3);
    }

-- What lies past 256 bytes is not looked at.
module _ (table : List ℕ) where
  pub letters_first : letters table ≡ letters (take letter_bytes table)
  unfolding letters
  letters_first =
      fun_ext
      (λ b.
      either (ltb b letter_bytes)
      (λ l. pick_true (get_or table b 0) 0 l ∙ sym (get_or-take letter_bytes table b 0 (ltb-true b letter_bytes l))
      ∙ sym (pick_true (get_or (take letter_bytes table) b 0) 0 l))
      (λ l. pick_false (get_or table b 0) 0 l ∙ sym (pick_false (get_or (take letter_bytes table) b 0) 0 l)))

  length_first : ltb (length table) letter_bytes ≡ ltb (length (take letter_bytes table)) letter_bytes
  length_first =
      iff (ltb (length table) letter_bytes) (ltb (length (take letter_bytes table)) letter_bytes)
      (λ e. let l : length table < letter_bytes = ltb-true (length table) letter_bytes e in
      lt-ltb (length (take letter_bytes table)) letter_bytes (simp length-take (omega arith)))
      (λ e. let l : length (take letter_bytes table) < letter_bytes = ltb-true (length (take letter_bytes table)) letter_bytes e in
      lt-ltb (length table) letter_bytes (omega (arith, length-take letter_bytes table)))

  pub cause_first : (low : Bool) → letters_cause low table ≡ letters_cause low (take letter_bytes table)
  unfolding letters_cause table_cause any_reserved any_unsettled
  cause_first low =
      ap₂ (λ (short : Bool) (f : ℕ → ℕ).
      pick (low || short) 1
      (pick (exists letter_bytes (λ b. reserved b && not (eqb (f b) 0))) 20
      (pick (exists letter_bytes (λ b. not (eqb (f b) 0) && not (eqb (f (f b)) (f b)))) 21 0)))
      length_first letters_first

-- Our table.

-- an entry of a folding's table
entry_from : (fold : ℕ → ℕ) (k b i : ℕ) → i < k → get_or (entries_from fold k b) i 0 ≡ fold (b + i)
unfolding entries_from
entry_from fold zero b i l = absurd (omega arith)
entry_from fold (suc k) b zero l = let e : b ≡ b + 0 = omega arith in ap fold e
entry_from fold (suc k) b (suc i) l = let e : suc b + i ≡ b + suc i = omega arith in entry_from fold k (suc b) i (omega arith) ∙ ap fold e

length_from : (fold : ℕ → ℕ) (k b : ℕ) → length (entries_from fold k b) ≡ k
unfolding entries_from
length_from fold zero b = refl
length_from fold (suc k) b = ap suc (length_from fold k (suc b))

-- its letters are document 01's
pub our_letters_lem : letters our_table ≡ our_letters
unfolding letters our_table
our_letters_lem =
    fun_ext
    (λ b.
    either (ltb b letter_bytes)
    (λ l. pick_true (get_or our_table b 0) 0 l ∙ let e : 0 + b ≡ b = omega arith in entry_from our_letters letter_bytes 0 b (ltb-true b letter_bytes l) ∙ ap our_letters e)
    (λ l. pick_false (get_or our_table b 0) 0 l ∙ sym (past_bytes b (ltb-false b letter_bytes l))))

-- it has one for each byte value
pub length_ours : length our_table ≡ letter_bytes
unfolding our_table
length_ours = length_from our_letters letter_bytes 0

-- it passes
pub our_table_lem : FoldTable our_table
our_table_lem = (omega (arith, length_ours), subst Folding (sym our_letters_lem) folding)
