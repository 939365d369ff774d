-- The heads that a round joins are the consequences of its set.
-- Assumes nothing.
use mathlib.Core.Path.{◌≡◌, sym, ap, ap₂, ◌∙◌}
use mathlib.Core.Bool.{Bool, true, ◌&&◌}
use mathlib.Core.List.{List}
use Prim.Native.Nat.{ℕ, ◌*◌, ◌≤◌, ◌<◌}
use native.Mathlib.Omega.{arith}
use lib.Dec.{eqb}
use lib.ListN.{get_or}
use Rattle.limits.specs.Book.{rules, word_bits, body_words}
use Rattle.sets.specs.Set.{Set, Same, exists, within, image}
use Rattle.sets.proofs.Logic.{not-true}
use Rattle.sets.proofs.Tests.{exists_same}
use Rattle.sets.proofs.Counting.{image_find}
use Rattle.program.specs.Program.{Program, head_at, body_at, consequence}
use Rattle.tables.specs.Areas.{RuleTables, Counts, program_in}
use Rattle.systems.specs.Rows.{row_in}
use Rattle.systems.specs.Standardise.{formed_tables}
use Rattle.systems.proofs.Formed.{within_fewer}
use Rattle.systems.proofs.Bridge.{size_in, head_in, body_in, formed_limits, formed_entry_lem}
use Rattle.systems.proofs.Running.{Ends}
use Rattle.plain.specs.Step.{heads_from}

-- tables in order
module _ (tables : RuleTables) (counts : Counts) (formed : formed_tables tables counts ≡ true) where
  abbrev heads : List ℕ
  heads = tables.heads

  abbrev bodies : List ℕ
  bodies = tables.bodies

  abbrev n : ℕ
  n = counts.names

  abbrev m : ℕ
  m = counts.rules

  abbrev p : Program
  p = program_in tables counts

  -- the rules are within their limit
  pub few_rules : m ≤ rules
  few_rules = (formed_limits tables counts formed).1

  -- a round with each body taken whole gives the consequences
  pub heads_are : (v : Set) (a : ℕ) → heads_from tables m v a ≡ consequence p v a
  unfolding heads_from image consequence
  heads_are v a =
      let whole : Set = λ j. eqb (get_or heads j 0) a && within (body_words * word_bits) (row_in body_words bodies j) v in
      let among : Set = λ j. eqb (head_at p j) a && within n (body_at p j) v in
      let same_rule_lem : Same m whole among =
      λ j l.
      ap₂ (λ (x y : Bool). x && y) (ap (λ (k : ℕ). eqb k a) (sym (head_in tables counts j l)))
      (within_fewer (body_words * word_bits) n (row_in body_words bodies j) v (formed_limits tables counts formed).0 (formed_entry_lem tables counts formed j l).1
      ∙ ap (λ (f : Set). within n f v) (sym (body_in tables counts j l)))
      in
      exists_same m whole among same_rule_lem ∙ ap (λ (k : ℕ). exists k among) (sym (size_in tables counts))

  -- they have nothing at or past n
  pub heads_end : (v : Set) → Ends n (heads_from tables m v)
  unfolding heads_from
  heads_end v a l =
      not-true (heads_from tables m v a) (λ t.
      let q = image_find m (λ j. get_or heads j 0) (λ j. within (body_words * word_bits) (row_in body_words bodies j) v) a t in
      let b : get_or heads q.0 0 < n = (formed_entry_lem tables counts formed q.0 q.1).0 in
      let e : get_or heads q.0 0 ≡ a = q.2 in
      omega arith)
