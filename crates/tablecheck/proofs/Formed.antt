-- Tables in order: more names or rules than there may be settle it, else the names and the rules decide.
-- Assumes nothing.
use mathlib.Core.Path.{◌≡◌, sym}
use mathlib.Core.Bool.{true, false, ◌&&◌}
use Prim.Native.Nat.{ℕ, ◌*◌, ◌≤◌, ◌<◌}
use lib.Dec.{leb}
use borrow.Author.Tests.{le-leb, lt-leb}
use Rattle.limits.specs.Book.{names, name_bytes, rules, body_words, name_area, body_area}
use Rattle.sets.specs.Set.{every}
use Rattle.sets.proofs.Logic.{either}
use Rattle.tables.specs.Areas.{Areas, rules_of, rules_in}
use Rattle.tables.specs.Writing.{zero_from, good_name, different, numbers_in, well_formed}
use Rattle.tablecheck.specs.Order.{ordered}

module _ (fold : ℕ → ℕ) (o : Areas) (n m : ℕ) where
  -- more names or rules than there may be
  pub too_many_names : names < n → false ≡ well_formed fold o n m
  unfolding well_formed
  too_many_names l = rw (lt-leb n names l)

  pub too_many_rules : rules < m → false ≡ well_formed fold o n m
  unfolding well_formed
  too_many_rules l = either (leb n names) (λ t. rw (t, lt-leb m rules l)) (λ t. rw t)

  -- the names
  pub names_off : (every n (good_name fold o.spellings) && (different o.spellings n && zero_from (n * name_bytes) name_area o.spellings)) ≡ false
      → false ≡ well_formed fold o n m
  unfolding well_formed
  names_off e = either (leb n names && leb m rules) (λ t. rw (t, e)) (λ t. rw t)

  -- else the rules decide
  pub names_on : n ≤ names → m ≤ rules
      → (every n (good_name fold o.spellings) && (different o.spellings n && zero_from (n * name_bytes) name_area o.spellings)) ≡ true
      → ((zero_from m rules o.heads && zero_from (m * body_words) body_area o.bodies) && ordered n (numbers_in (rules_in (rules_of o) m)))
      ≡ well_formed fold o n m
  unfolding well_formed ordered
  names_on l k e = sym (rw (le-leb n names l, le-leb m rules k, e))

-- each outcome of judging
pub ruleset outcomes = (too_many_names, too_many_rules, names_off, names_on)
