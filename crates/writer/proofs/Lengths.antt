-- The length of the written text, summed as the code sums it.
-- Assumes nothing.
use mathlib.Core.Path.{◌≡◌, refl, ap}
use mathlib.Core.List.{List, [], ◌∷◌, map}
use Prim.Native.Nat.{ℕ, zero, suc, ◌+◌, ◌-◌, ◌*◌, ◌≤◌}
use native.Mathlib.Omega.{arith}
use lib.ListN.{length, get_or, length-append}
use Rattle.std.specs.List.{sum_by, range_with_len}
use Rattle.std.specs.declared.ops.Range.{Range}
use Rattle.std.specs.declared.iter.Map.{Map}
use Rattle.std.specs.Fn.{Called}
use Rattle.std.specs.Iterator.{YieldsFirst}
use Rattle.std.specs.Iterator.Adapters.{map_source, map_callee}
use Rattle.std.proofs.iter.Yields.{nat_range_steps}
use Rattle.std.proofs.lemmas.Iterator.{YieldsList, YieldsList-from_map, YieldsList-from_range, maps}
use Rattle.std.proofs.lemmas.Iterator.Consumers.{YieldsList-at, YieldsList-from_first}
use Rattle.std.proofs.lemmas.List.Sums.{sum_by-cons}
use Rattle.std.proofs.lemmas.List.FromFn.{length-range_with_len}
use denote.Param.Members.{Mut}
use Rattle.rows.specs.declared.members.Members.{Members}
use Rattle.rows.specs.Members.{left}
use Rattle.limits.specs.Book.{names, name_bytes}
use Rattle.sets.specs.Set.{Set, members}
use Rattle.sets.proofs.Counting.{count_le}
use Rattle.sets.proofs.Walk.{members_count}
use Rattle.grammar.specs.Bytes.{Bytes, colon, line_end}
use Rattle.grammar.specs.Grammar.{mark, joined}
use Rattle.tables.specs.Areas.{RuleTables, names_in, rule_at, rules_in}
use Rattle.tables.specs.Writing.{spaced_on, rule_text, written}
use Rattle.tablecheck.specs.Lent.{Names}
use Rattle.tablecheck.specs.declared.Tables.{Tables}
use Rattle.writer.specs.Spelt.{name_of, rest, line, text_of, line_bytes}
use Rattle.writer.proofs.Lines.{name_small, body_text, body_bare, body_full, line_is}
use Rattle.writer.proofs.Lines.{lines_from, lines_start, written_is, lines_on, lines_end}

-- a name and the space before it
abbrev pub step : Names → ℕ → ℕ
step t a = 1 + length (name_of t a)

-- names each after a space
pub rest_sum : (t : Names) (xs : List ℕ) → sum_by (step t) xs ≡ length (rest t xs)
unfolding rest spaced_on
rest_sum t [] = omega arith
rest_sum t (a ∷ xs) = omega (arith, sum_by-cons (step t) a xs, rest_sum t xs, length-append (name_of t a) (spaced_on (map (name_of t) xs)))

pub rest_small : (t : Names) (xs : List ℕ) → sum_by (step t) xs ≤ length xs * (name_bytes + 1)
rest_small t [] = omega arith
rest_small t (a ∷ xs) = omega (arith, sum_by-cons (step t) a xs, rest_small t xs, name_small t a)

-- a walk that counts them
pub walk : {F : Type 0} {g : Mut F (ℕ × Unit {0}) ℕ} (t : Names) (members : Members) {s : Map Members F} {f : F} → map_source s ≡ members
    → map_callee s ≡ f → ((x r : ℕ) (q : F) → Called g f (x, tt) r q → (q ≡ f) × (r ≡ step t x))
    → YieldsList (maps (YieldsFirst left) g) (λ r. r) s (map (step t) (left members))
walk t members e k p = YieldsList-from_map _ (step t) (YieldsList-at e (YieldsList-from_first (λ x. x) left (left members) refl)) k p

-- what is left after the first of a body's names is no more than a body has
pub rest_few : (f : Set) (xs more : List ℕ) (a : ℕ) → xs ≡ members names f 0 → xs ≡ a ∷ more → length more ≤ names
rest_few f xs more a p e =
    let n : length xs ≡ length (members names f 0) = ap length p in
    omega (arith, ap length e, n, members_count names f 0, count_le names (λ i. f (0 + i)))

-- rule j, whose head is `head`, h bytes long, and whose body has the names xs
module _ (t : Tables) (j head h : ℕ) (xs : List ℕ) (s : head ≡ get_or t.rules.tables.heads j 0)
    (p : xs ≡ members names (rule_at t.rules.tables j).body 0) (q : h ≡ length (name_of t.names head)) where
  -- an empty body
  pub rule_bare : xs ≡ [] → h + 1 ≡ length (line t j)
  rule_bare e =
      omega (
        arith,
        ap length (line_is t j head xs s p),
        length-append (name_of t.names head) (colon ∷ body_text t.names xs),
        ap length (body_bare t.names xs e),
      )

  -- a first name and the rest
  module _ (a : ℕ) (more : List ℕ) (e : xs ≡ a ∷ more) where
    pub rule_full : (k r : ℕ) → k ≡ length (name_of t.names a) → r ≡ length (rest t.names more) → ((h + 1) + k) + r ≡ length (line t j)
    rule_full k r u v =
        omega (
          arith,
          ap length (line_is t j head xs s p),
          length-append (name_of t.names head) (colon ∷ body_text t.names xs),
          ap length (body_full t.names xs more a e),
          length-append (name_of t.names a) (rest t.names more),
        )

-- rule after rule, t bytes in all
module _ (ns : List Bytes) (tables : RuleTables) (m : ℕ) where
  -- the mark
  pub text_start : length mark + length (lines_from ns tables m 0) ≡ length (written ns (rules_in tables m))
  text_start =
      omega (
        arith,
        ap length (written_is ns tables m),
        ap length (lines_start ns tables m),
        length-append mark (joined (map (rule_text ns) (rules_in tables m))),
      )

-- a line and its end
abbrev pub line_step : Tables → ℕ → ℕ
line_step t j = length (line t j) + 1

-- no line is longer than the longest, whose body has the names xs
line_few : (t : Tables) (j : ℕ) (xs : List ℕ) → xs ≡ members names (rule_at t.rules.tables j).body 0 → length (line t j) ≤ line_bytes
line_few t j [] p =
    let head : ℕ = get_or t.rules.tables.heads j 0 in
    omega (arith, rule_bare t j head (length (name_of t.names head)) [] refl p refl refl, name_small t.names head)
line_few t j (a ∷ more) p =
    let head : ℕ = get_or t.rules.tables.heads j 0 in
    omega (
      arith,
      rule_full t j head (length (name_of t.names head)) (a ∷ more) refl p refl a more refl _ _ refl refl,
      name_small t.names head,
      name_small t.names a,
      rest_sum t.names more,
      rest_small t.names more,
      rest_few (rule_at t.rules.tables j).body (a ∷ more) more a p refl,
    )

lines_small : (t : Tables) (xs : List ℕ) → sum_by (line_step t) xs ≤ length xs * (line_bytes + 1)
lines_small t [] = omega arith
lines_small t (j ∷ xs) = omega (arith, sum_by-cons (line_step t) j xs, lines_small t xs, line_few t j _ refl)

-- k rules from j on, the last of those in use among them
lines_sum : (t : Tables) (k j : ℕ) → k ≡ t.rules.count - j
    → sum_by (line_step t) (range_with_len j k) ≡ length (lines_from (names_in t.names.area t.names.count) t.rules.tables t.rules.count j)
lines_sum t zero j e =
    omega (arith, ap length (lines_end (names_in t.names.area t.names.count) t.rules.tables t.rules.count j (omega (arith, e))))
lines_sum t (suc k) j e =
    omega (
      arith,
      sum_by-cons (line_step t) j (range_with_len (j + 1) k),
      lines_sum t k (j + 1) (omega (arith, e)),
      ap length (lines_on (names_in t.names.area t.names.count) t.rules.tables t.rules.count j (omega (arith, e))),
      length-append (line t j) (line_end ∷ lines_from (names_in t.names.area t.names.count) t.rules.tables t.rules.count (j + 1)),
    )

-- the mark and the lines of all rules in use
pub text_sum : (t : Tables) → length mark + sum_by (line_step t) (range_with_len 0 t.rules.count) ≡ length (text_of t)
text_sum t =
    omega (arith, lines_sum t t.rules.count 0 (omega arith), text_start (names_in t.names.area t.names.count) t.rules.tables t.rules.count)

pub text_small : (t : Tables) (m : ℕ) → sum_by (line_step t) (range_with_len 0 m) ≤ m * (line_bytes + 1)
text_small t m = omega (arith, lines_small t (range_with_len 0 m), length-range_with_len 0 m)

-- a walk that counts the rules below m
pub lines_walk : {F : Type 0} {g : Mut F (ℕ × Unit {0}) ℕ} (t : Tables) (m : ℕ) {s : Map (Range ℕ) F} {f : F}
    → map_source s ≡ record { start = 0; end = m } → map_callee s ≡ f
    → ((x r : ℕ) (q : F) → Called g f (x, tt) r q → (q ≡ f) × (r ≡ line_step t x))
    → YieldsList (maps nat_range_steps g) (λ r. r) s (map (line_step t) (range_with_len 0 m))
lines_walk t m e k p = YieldsList-from_map _ (line_step t) (YieldsList-from_range 0 m m e (omega arith)) k p
