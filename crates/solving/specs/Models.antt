-- Models of a book, read off its lines alone. Document 01: "It is a set of the book's names that has the head of each rule whose body lies
-- within it." Neither tables, numbers nor rows are spoken of here.
-- Assumes nothing.
use Rattle.std.specs.Prelude.{◌≡◌, Bool, true, List, ◌∷◌, ℕ}
use Rattle.grammar.specs.Bytes.{Bytes, Among}
use Rattle.grammar.specs.Grammar.{Clause, rule, Says, Text}

-- a line of the text t says the rule c
abbrev pub RuleIn : (ℕ → ℕ) → Bytes → Clause → Type 0
RuleIn fold t c = (ls : List Bytes) × (s : Bytes) × Text t ls × Among s ls × Says fold s (rule c)

-- x is a name of the book: the head of a rule, or in its body
abbrev pub NameIn : (ℕ → ℕ) → Bytes → Bytes → Type 0
NameIn fold t x = (c : Clause) × RuleIn fold t c × Among x (c.head ∷ c.body)

-- a set of spellings
abbrev pub Spellings : Type 0
Spellings = Bytes → Bool

-- M is a model of the text t
pub record ModelOf (fold : ℕ → ℕ) (t : Bytes) (M : Spellings) : Type 0 where
  pub names : (x : Bytes) → M x ≡ true → NameIn fold t x
  pub closed : (c : Clause) → RuleIn fold t c → ((x : Bytes) → Among x c.body → M x ≡ true) → M c.head ≡ true

-- the spelling x lies in every model of the text t
abbrev pub InEveryModelOf : (ℕ → ℕ) → Bytes → Bytes → Type 0
InEveryModelOf fold t x = (M : Spellings) → ModelOf fold t M → M x ≡ true
