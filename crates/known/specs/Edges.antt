-- Texts at a limit, with the number and the line that they get: each refusal that a text can get, and document 01's known books that are not
-- marked *. Built from numbers.
-- Assumes nothing.
use Rattle.std.specs.Prelude.{List, [], ◌∷◌, ◌++◌, ℕ, zero, suc, ◌+◌, ◌-◌, ◌/◌, ◌%◌, replicate}
use Rattle.grammar.specs.Bytes.{Bytes, bytes, space, hash}

-- the rule `a:`, n times
unfoldable pub rule_times : ℕ → Bytes
rule_times zero = []
rule_times (suc n) = bytes "a:\n" ++ rule_times n

-- n names of two letters, each after a space, from the k-th on
unfoldable pub names_on : ℕ → ℕ → Bytes
names_on zero k = []
names_on (suc n) k = space ∷ (97 + k % 26) ∷ (97 + k / 26) ∷ names_on n (suc k)

-- one rule with n names: the head `a`, and a body of the others
abbrev pub wide : ℕ → Bytes
wide n = bytes "a:" ++ (names_on (n - 1) 0 ++ bytes "\n")

-- a rule whose head is a name of n bytes
abbrev pub long_name : ℕ → Bytes
long_name n = replicate n 97 ++ bytes ":\n"

-- a remark that makes a text of n bytes after the mark
abbrev pub remark : ℕ → Bytes
remark n = hash ∷ (replicate (n - 11) 120 ++ bytes "\n")

-- a text, its number and its line
pub record Edge : Type 0 where
  pub text : Bytes
  pub number : ℕ
  pub line : ℕ

abbrev pub gets : Bytes → ℕ → ℕ → Edge
gets text number line = record { text = text; number = number; line = line }

-- the same after the mark
abbrev pub after_mark : Bytes → ℕ → ℕ → Edge
after_mark text = gets (bytes "DPB 0001\n" ++ text)

abbrev pub edges : List Edge
edges =
    -- 16,384 bytes, and one more
    after_mark (remark 16384) 0 0
    ∷ after_mark (remark 16385) 2 0
    -- the empty text, and a last byte that ends no line
    ∷ gets [] 3 0
    ∷ after_mark (bytes "a:b") 4 0
    -- a line without a colon; a name of 32 bytes, and of 33; a carriage return in a rule
    ∷ after_mark (bytes "a:b\nb\n") 5 3
    ∷ after_mark (long_name 32) 0 0
    ∷ after_mark (long_name 33) 13 2
    ∷ after_mark (bytes "a:b\r\n") 14 2
    -- the same in a line that would be the 257th rule: a fault comes first
    ∷ after_mark (rule_times 256 ++ long_name 33) 13 258
    ∷ after_mark (rule_times 256 ++ bytes "a:b\r\n") 14 258
    -- a 129th name; a 257th rule, whose names are not judged any more
    ∷ after_mark (rule_times 2 ++ wide 129) 6 4
    ∷ after_mark (rule_times 256 ++ wide 129) 7 258
    -- 128 names with 128 helpers, and one helper more
    ∷ after_mark (rule_times 127 ++ wide 128) 0 0
    ∷ after_mark (rule_times 128 ++ wide 128) 8 0
    ∷ []
