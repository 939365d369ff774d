-- The written text in the order in which the code comes to it: names, rules.
-- Assumes nothing.
use mathlib.Core.Path.{◌≡◌, refl, sym, ap, ap₂, ◌∙◌}
use mathlib.Core.List.{List, [], ◌∷◌, ◌++◌, map}
use Prim.Native.Nat.{ℕ, suc, ◌+◌, ◌-◌, ◌*◌, ◌≤◌, ◌<◌}
use native.Mathlib.Numerals.{add-one}
use native.Mathlib.Omega.{arith}
use lib.Dec.{ltb}
use lib.ListN.{length, get_or, get_or-eq_default}
use borrow.Author.Tests.{ltb-true, ltb-false}
use Rattle.limits.specs.Book.{names, name_bytes, body_words, word_bits}
use Rattle.sets.specs.Set.{members}
use Rattle.sets.proofs.Logic.{either}
use Rattle.areas.specs.Area.{part}
use Rattle.words.specs.Row.{row}
use Rattle.rows.specs.Members.{atoms_from}
use Rattle.grammar.specs.Bytes.{Bytes, colon, space, line_end}
use Rattle.grammar.specs.Grammar.{mark, joined}
use Rattle.tables.specs.Areas.{RuleTables, names_in, rule_at, rules_from, rules_in}
use Rattle.tables.specs.Writing.{spaced_on, spaced, rule_text, written}
use Rattle.tables.proofs.Encoding.{name_fits, length_names_from, get_or_names_from}
use Rattle.tablecheck.specs.Lent.{Names}
use Rattle.tablecheck.specs.declared.Tables.{Tables}
use Rattle.writer.specs.Spelt.{name_spelt, rest_of, name_of, rest, line}

-- no name is longer than its row
pub name_small : (t : Names) (a : ℕ) → length (name_of t a) ≤ name_bytes
name_small t a =
    either (ltb a t.count)
    (λ l. omega (arith, ap length (get_or_names_from t.area t.count 0 a (ltb-true a t.count l)), name_fits t.area (0 + a)))
    (λ l. omega (
      arith,
      ap length (get_or-eq_default (names_in t.area t.count) [] {n = a}
          (omega (arith, length_names_from t.area t.count 0, ltb-false a t.count l))),
    ))

-- the names after a walk has come to its end, and before it comes to name a
pub rest_end : (t : Names) (xs : List ℕ) → xs ≡ [] → rest t xs ≡ []
unfolding rest spaced_on
rest_end t xs e = ap (λ (xs : List ℕ). spaced_on (map (name_of t) xs)) e

pub rest_on : (t : Names) (xs more : List ℕ) (a : ℕ) → xs ≡ a ∷ more → rest t xs ≡ space ∷ (name_of t a ++ rest t more)
unfolding rest spaced_on
rest_on t xs more a e = ap (λ (xs : List ℕ). spaced_on (map (name_of t) xs)) e

-- a walk from name a on over the body at place `at` has before it the rest of that body
pub rest_is : (area : Bytes) (n : ℕ) (bodies : List ℕ) (at a : ℕ) (words : List ℕ) → words ≡ part at body_words bodies → length words ≡ body_words
    → rest (record { area = area; count = n }) (atoms_from words a) ≡ rest_of area n bodies at a
unfolding rest rest_of name_spelt atoms_from
rest_is area n bodies at a words e l =
    let k : length words * word_bits - a ≡ names - a = omega (arith, l) in
    ap₂ (λ (w : ℕ) (xs : List ℕ). spaced_on (map (λ i. get_or (names_in area n) i []) (members w (row xs) a))) k e

-- the body as its line has it: nothing, or a first name and the rest
unfoldable pub body_text : Names → List ℕ → Bytes
body_text t xs = spaced (map (name_of t) xs)

pub body_bare : (t : Names) (xs : List ℕ) → xs ≡ [] → body_text t xs ≡ []
unfolding body_text spaced
body_bare t xs e = ap (λ (xs : List ℕ). spaced (map (name_of t) xs)) e

pub body_full : (t : Names) (xs more : List ℕ) (a : ℕ) → xs ≡ a ∷ more → body_text t xs ≡ name_of t a ++ rest t more
unfolding body_text spaced rest
body_full t xs more a e = ap (λ (xs : List ℕ). spaced (map (name_of t) xs)) e

-- a rule is its head, a colon and its body
pub line_is : (t : Tables) (j head : ℕ) (xs : List ℕ) → head ≡ get_or t.rules.tables.heads j 0
    → xs ≡ members names (rule_at t.rules.tables j).body 0 → line t j ≡ name_of t.names head ++ (colon ∷ body_text t.names xs)
unfolding rule_text rule_at body_text
line_is t j head xs e f = sym (ap₂ (λ (h : ℕ) (xs : List ℕ). name_of t.names h ++ (colon ∷ spaced (map (name_of t.names) xs))) e f)

-- the lines from rule j up to m
unfoldable pub lines_from : List Bytes → RuleTables → ℕ → ℕ → Bytes
lines_from ns tables m j = joined (map (rule_text ns) (rules_from tables (m - j) j))

module _ (ns : List Bytes) (tables : RuleTables) (m : ℕ) where
  -- all of them
  pub lines_start : joined (map (rule_text ns) (rules_in tables m)) ≡ lines_from ns tables m 0
  unfolding lines_from
  lines_start = let e : m ≡ m - 0 = omega arith in ap (λ (k : ℕ). joined (map (rule_text ns) (rules_from tables k 0))) e

  -- the text is the mark and the lines
  pub written_is : written ns (rules_in tables m) ≡ mark ++ joined (map (rule_text ns) (rules_in tables m))
  unfolding written
  written_is = refl

  -- a rule, its end, and those after it
  pub lines_on : (j : ℕ) → j < m → lines_from ns tables m j ≡ rule_text ns (rule_at tables j) ++ (line_end ∷ lines_from ns tables m (j + 1))
  unfolding lines_from joined rules_from
  lines_on j l =
      let e : m - j ≡ suc (m - (j + 1)) = omega arith in
      ap (λ (k : ℕ). joined (map (rule_text ns) (rules_from tables k j))) e
      ∙ ap (λ (i : ℕ). rule_text ns (rule_at tables j) ++ (line_end ∷ joined (map (rule_text ns) (rules_from tables (m - (j + 1)) i))))
      (sym (add-one j))

  -- none past the last
  pub lines_end : (j : ℕ) → m ≤ j → lines_from ns tables m j ≡ []
  unfolding lines_from joined rules_from
  lines_end j l = let e : m - j ≡ 0 = omega arith in ap (λ (k : ℕ). joined (map (rule_text ns) (rules_from tables k j))) e
