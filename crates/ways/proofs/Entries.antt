-- Tables in order: what each test of an entry, and of the counts, settles.
-- Assumes nothing.
use mathlib.Core.Path.{◌≡◌, sym, ap, ap₂, ◌∙◌}
use mathlib.Core.Bool.{Bool, false, not, ◌&&◌, and-false}
use mathlib.Core.List.{List}
use Prim.Native.Nat.{ℕ, ◌*◌, ◌≤◌, ◌<◌}
use lib.Dec.{leb, ltb}
use lib.ListN.{length, get_or}
use borrow.Author.Tests.{eq-eqb, ne_eqb, lt-ltb, le-ltb, le-leb, lt-leb}
use Rattle.limits.specs.Book.{names, rules, word_bits, body_words}
use Rattle.sets.specs.Set.{every, exists, within}
use Rattle.areas.specs.Area.{part}
use Rattle.words.specs.Row.{row}
use Rattle.tables.specs.Areas.{RuleTables, Counts}
use Rattle.systems.specs.Rows.{row_in}
use Rattle.systems.specs.Standardise.{formed_entry, formed_tables}
use Rattle.systems.proofs.Bridge.{entry_used, entry_unused}

module _ (tables : RuleTables) (counts : Counts) where
  abbrev heads : List ℕ
  heads = tables.heads

  abbrev bodies : List ℕ
  bodies = tables.bodies

  abbrev n : ℕ
  n = counts.names

  abbrev m : ℕ
  m = counts.rules

  module _ (j : ℕ) where
    -- a head at or past n
    pub head_over : j < m → n ≤ get_or heads j 0 → false ≡ formed_entry tables counts j
    head_over l h =
        sym (ap (λ (b : Bool). b && within (body_words * word_bits) (row_in body_words bodies j) (λ a. ltb a n)) (le-ltb (get_or heads j 0) n h))
        ∙ sym (entry_used tables counts j l)

    -- a head below n: the body decides
    pub body_decides : (body : List ℕ) → j < m → get_or heads j 0 < n → body ≡ part (j * body_words) body_words bodies → length body ≡ body_words
        → within (length body * word_bits) (row body) (λ a. ltb a n) ≡ formed_entry tables counts j
    body_decides body l h e k =
        ap₂ (λ (w : ℕ) (ws : List ℕ). within (w * word_bits) (row ws) (λ a. ltb a n)) k e
        ∙ sym (ap (λ (b : Bool). b && within (body_words * word_bits) (row_in body_words bodies j) (λ a. ltb a n)) (lt-ltb (get_or heads j 0) n h))
        ∙ sym (entry_used tables counts j l)

    -- an unused head that is not zero
    pub head_left : m ≤ j → (get_or heads j 0 ≡ 0 → ⊥) → false ≡ formed_entry tables counts j
    head_left l h =
        sym (ap (λ (b : Bool). b && not (exists (body_words * word_bits) (row_in body_words bodies j))) (ne_eqb (get_or heads j 0) 0 h))
        ∙ sym (entry_unused tables counts j l)

    -- an unused head that is zero: the body decides
    pub body_left : (at : ℕ) (b : Bool) → m ≤ j → get_or heads j 0 ≡ 0 → at ≡ j * body_words
        → b ≡ not (exists (body_words * word_bits) (row (part at body_words bodies))) → b ≡ formed_entry tables counts j
    body_left at b l h e q =
        q ∙ ap (λ (i : ℕ). not (exists (body_words * word_bits) (row (part i body_words bodies)))) e
        ∙ ap (λ (b : Bool). b && not (exists (body_words * word_bits) (row_in body_words bodies j))) (sym (eq-eqb (get_or heads j 0) 0 h))
        ∙ sym (entry_unused tables counts j l)

  -- more names or rules than there may be
  pub too_many_names : names < n → false ≡ formed_tables tables counts
  unfolding formed_tables
  too_many_names l =
      sym (ap (λ (b : Bool). (b && leb m rules) && every rules (formed_entry tables counts)) (lt-leb n names l))

  pub too_many_rules : rules < m → false ≡ formed_tables tables counts
  unfolding formed_tables
  too_many_rules l =
      sym (ap (λ (b : Bool). b && every rules (formed_entry tables counts)) (ap (λ (b : Bool). leb n names && b) (lt-leb m rules l) ∙ and-false (leb n names)))

  -- within the limits the entries decide
  pub entries : n ≤ names → m ≤ rules → every rules (formed_entry tables counts) ≡ formed_tables tables counts
  unfolding formed_tables
  entries l k = sym (rw (le-leb n names l, le-leb m rules k))

-- an entry, test by test
pub ruleset entry_tests = (head_over, head_left, body_left)
