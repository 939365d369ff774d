-- The program that heads and bodies give, read off the tables, and tables in order entry by entry.
-- Assumes nothing.
use mathlib.Core.Path.{◌≡◌, sym, ap, ◌∙◌, subst}
use mathlib.Core.Bool.{Bool, true, false, not, ◌&&◌}
use mathlib.Core.List.{List}
use Prim.Native.Nat.{ℕ, ◌*◌, ◌≤◌, ◌<◌}
use native.Mathlib.Nat.{zero-add}
use native.Mathlib.Omega.{arith}
use lib.Dec.{eqb, leb, ltb}
use borrow.Author.Tests.{leb-true, le-leb, ltb-true, ltb-false, lt-ltb, le-ltb, eqb-true, eq-eqb}
use lib.ListN.{get_or}
use Rattle.limits.specs.Book.{names, rules, word_bits, body_words}
use Rattle.sets.specs.Set.{Set, every, exists, within}
use Rattle.sets.proofs.Logic.{either, clash, not-true, and_left, and_right, and_make, of_not, not_of_false, pick_true, pick_false}
use Rattle.sets.proofs.Tests.{every_at, every_make, exists_find, exists_none, within_at, within_make}
use Rattle.program.specs.Program.{Rule, WellFormed, no_rule, size, head_at, body_at}
use Rattle.tables.specs.Areas.{RuleTables, Counts, rule_at, program_in}
use Rattle.tables.proofs.Encoding.{length_rules_from, get_or_rules_from}
use Rattle.systems.specs.Rows.{row_in}
use Rattle.systems.specs.Standardise.{formed_entry, formed_tables}
use Rattle.systems.specs.Claims.{StandardFormed}
use Rattle.systems.proofs.Packed.{row_in_past}

module _ (tables : RuleTables) (counts : Counts) where
  abbrev heads : List ℕ
  heads = tables.heads

  abbrev bodies : List ℕ
  bodies = tables.bodies

  abbrev n : ℕ
  n = counts.names

  abbrev m : ℕ
  m = counts.rules

  -- as many rules as are asked for
  pub size_in : size (program_in tables counts) ≡ m
  size_in = length_rules_from tables m 0

  -- rule j as it stands in its row
  rule_in : (j : ℕ) → j < m → get_or (program_in tables counts).rules j no_rule ≡ rule_at tables j
  rule_in j l = get_or_rules_from tables m 0 j l ∙ ap (rule_at tables) (zero-add j)

  pub head_in : (j : ℕ) → j < m → head_at (program_in tables counts) j ≡ get_or heads j 0
  unfolding rule_at
  head_in j l = ap (λ (r : Rule ℕ). r.head) (rule_in j l)

  pub body_in : (j : ℕ) → j < m → body_at (program_in tables counts) j ≡ row_in body_words bodies j
  unfolding rule_at
  body_in j l = ap (λ (r : Rule ℕ). r.body) (rule_in j l)

  -- An entry of the tables below the rule count, and one past it.

  pub entry_used : (j : ℕ) → j < m → formed_entry tables counts j
      ≡ ltb (get_or heads j 0) n && within (body_words * word_bits) (row_in body_words bodies j) (λ a. ltb a n)
  unfolding formed_entry
  entry_used j l =
      pick_true (ltb (get_or heads j 0) n && within (body_words * word_bits) (row_in body_words bodies j) (λ a. ltb a n))
      (eqb (get_or heads j 0) 0 && not (exists (body_words * word_bits) (row_in body_words bodies j))) (lt-ltb j m l)

  pub entry_unused : (j : ℕ) → m ≤ j → formed_entry tables counts j
      ≡ eqb (get_or heads j 0) 0 && not (exists (body_words * word_bits) (row_in body_words bodies j))
  unfolding formed_entry
  entry_unused j l =
      pick_false (ltb (get_or heads j 0) n && within (body_words * word_bits) (row_in body_words bodies j) (λ a. ltb a n))
      (eqb (get_or heads j 0) 0 && not (exists (body_words * word_bits) (row_in body_words bodies j))) (le-ltb j m l)

  -- a member of a body's row lies below its width
  body_width : (j a : ℕ) → row_in body_words bodies j a ≡ true → a < body_words * word_bits
  body_width j a e =
      either (ltb a (body_words * word_bits)) (λ t. ltb-true a (body_words * word_bits) t)
      (λ t. clash e (row_in_past body_words bodies j a (ltb-false a (body_words * word_bits) t)))

  -- Tables in order.

  module _ (formed : formed_tables tables counts ≡ true) where
    limits : leb n names && leb m rules ≡ true
    unfolding formed_tables
    limits = and_left (leb n names && leb m rules) (every rules (formed_entry tables counts)) formed

    entries : (j : ℕ) → j < rules → formed_entry tables counts j ≡ true
    unfolding formed_tables
    entries =
        every_at rules (formed_entry tables counts)
        (and_right (leb n names && leb m rules) (every rules (formed_entry tables counts)) formed)

    pub formed_limits : (n ≤ names) × (m ≤ rules)
    formed_limits = (
      leb-true n names (and_left (leb n names) (leb m rules) limits),
      leb-true m rules (and_right (leb n names) (leb m rules) limits),
    )

    -- each rule's head, and each member of its body, is a name
    pub formed_entry_lem : (j : ℕ) → j < m → (get_or heads j 0 < n) × ((a : ℕ) → row_in body_words bodies j a ≡ true → a < n)
    formed_entry_lem j l =
        let b : m ≤ rules = formed_limits.1 in
        let head : Bool = ltb (get_or heads j 0) n in
        let body : Bool = within (body_words * word_bits) (row_in body_words bodies j) (λ a. ltb a n) in
        let e : head && body ≡ true = sym (entry_used j l) ∙ entries j (omega arith) in (
          ltb-true (get_or heads j 0) n (and_left head body e),
          λ a t.
              ltb-true a n
              (within_at (body_words * word_bits) (row_in body_words bodies j) (λ a. ltb a n) (and_right head body e) a (body_width j a t) t),
        )

    -- past the rules there are zeros
    pub formed_unused : (j : ℕ) → m ≤ j → j < rules → (get_or heads j 0 ≡ 0) × ((a : ℕ) → row_in body_words bodies j a ≡ false)
    formed_unused j l b =
        let head : Bool = eqb (get_or heads j 0) 0 in
        let body : Bool = not (exists (body_words * word_bits) (row_in body_words bodies j)) in
        let e : head && body ≡ true = sym (entry_unused j l) ∙ entries j b in (
          eqb-true (get_or heads j 0) 0 (and_left head body e),
          λ a. not-true (row_in body_words bodies j a) (λ t.
              clash t (exists_none (body_words * word_bits) (row_in body_words bodies j)
              (of_not (exists (body_words * word_bits) (row_in body_words bodies j)) (and_right head body e)) a (body_width j a t))),
        )

    pub formed_tables_lem : StandardFormed tables counts
    formed_tables_lem = record {
      names_limit = formed_limits.0;
      rules_limit = formed_limits.1;
      head = λ j l. (formed_entry_lem j l).0;
      body = λ j a l. (formed_entry_lem j l).1 a;
      head_unused = λ j l b. (formed_unused j l b).0;
      body_unused = λ j a l b. (formed_unused j l b).1 a;
    }

    -- so the program's heads and bodies are of its names
    pub formed_program : WellFormed (program_in tables counts)
    formed_program = record {
      heads = λ j l.
          let b : j < m = subst (λ (k : ℕ). j < k) size_in l in
          subst (λ (x : ℕ). x < n) (sym (head_in j b)) (formed_entry_lem j b).0;
      bodies = λ j a l e.
          let b : j < m = subst (λ (k : ℕ). j < k) size_in l in
          (formed_entry_lem j b).1 a (ap (λ (f : Set). f a) (sym (body_in j b)) ∙ e);
    }

  -- and tables that are as document 01 asks are in order
  pub tables_formed : StandardFormed tables counts → formed_tables tables counts ≡ true
  unfolding formed_tables
  tables_formed f =
      and_make (and_make (le-leb n names f.names_limit) (le-leb m rules f.rules_limit))
      (every_make rules (formed_entry tables counts) (λ j b.
      either (ltb j m)
      (λ t.
      let l : j < m = ltb-true j m t in
      entry_used j l
      ∙ and_make (lt-ltb (get_or heads j 0) n (f.head j l))
      (within_make (body_words * word_bits) (row_in body_words bodies j) (λ a. ltb a n) (λ a w e. lt-ltb a n (f.body j a l e))))
      (λ t.
      let l : m ≤ j = ltb-false j m t in
      entry_unused j l
      ∙ and_make (eq-eqb (get_or heads j 0) 0 (f.head_unused j l b))
      (not_of_false (exists (body_words * word_bits) (row_in body_words bodies j))
      (not-true (exists (body_words * word_bits) (row_in body_words bodies j)) (λ e.
      let q = exists_find (body_words * word_bits) (row_in body_words bodies j) e in
      clash q.2 (f.body_unused j q.0 l b)))))))
