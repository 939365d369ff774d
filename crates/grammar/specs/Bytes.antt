-- Bytes of a book, and the folding of names.
-- Assumes nothing.
use Rattle.std.specs.Prelude.{◌≡◌, Bool, true, not, ◌&&◌, ◌||◌, ◌⊎◌, List, [], ◌∷◌, ℕ, ◌+◌, ◌<◌, eqb, leb, ltb, get_or}
use Prim.Native.Char.{code}
use Prim.Native.String.{String, [] as empty, ◌∷◌ as ◌then◌}
use Rattle.limits.specs.Book.{letter_bytes}
use Rattle.sets.specs.Set.{pick}

abbrev pub Bytes : Type 0
Bytes = List ℕ

-- the bytes of a text in quotes
abbrev pub bytes : String → Bytes
bytes empty = []
bytes (c then s) = code c ∷ bytes s

-- the byte that ends a line
abbrev pub line_end : ℕ
line_end = 10

-- `:`
abbrev pub colon : ℕ
colon = 58

-- `#`
abbrev pub hash : ℕ
hash = 35

-- 0x0D, which ends no line
abbrev pub carriage_return : ℕ
carriage_return = 13

-- `!`
abbrev pub exclamation : ℕ
exclamation = 33

-- `@`
abbrev pub at_sign : ℕ
at_sign = 64

-- space
abbrev pub space : ℕ
space = 32

-- "A blank is 0x20 or 0x09"
unfoldable pub blank : ℕ → Bool
blank b = eqb b space || eqb b 9

-- any byte but a line end
unfoldable pub not_end : ℕ → Bool
not_end b = not (eqb b line_end)

-- b lies from lo to hi
abbrev pub from_to : ℕ → ℕ → ℕ → Bool
from_to lo hi b = leb lo b && leb b hi

-- a letter, a digit, `.`, `_` or `-` in small letters
unfoldable pub small : ℕ → Bool
small b = from_to 97 122 b || (from_to 48 57 b || (eqb b 46 || (eqb b 95 || eqb b 45)))

-- document 01's entry for a byte: the small letter; 0 for a byte that no name has
unfoldable pub our_letters : ℕ → ℕ
our_letters b = pick (from_to 65 90 b) (b + 32) (pick (small b) b 0)

-- the folding that a table gives: "one for each byte value", and 0 for a number that is no byte
unfoldable pub letters : List ℕ → ℕ → ℕ
letters table b = pick (ltb b letter_bytes) (get_or table b 0) 0

-- "Byte 0, the blanks, 0x0A, 0x0D and `:`, `#`, `!`, `@`": bytes that are no part of a name under any folding
unfoldable pub reserved : ℕ → Bool
reserved b =
    eqb b 0 || (blank b || (eqb b line_end || (eqb b carriage_return || (eqb b colon || (eqb b hash || (eqb b exclamation || eqb b at_sign))))))

-- the rule of a folding, ours or another: reserved bytes have entry 0, folding a folded byte changes nothing, and every entry is a byte
pub record Folding (fold : ℕ → ℕ) : Type 0 where
  pub none : (b : ℕ) → reserved b ≡ true → fold b ≡ 0
  pub again : (b : ℕ) → fold (fold b) ≡ fold b
  pub byte : (b : ℕ) → fold b < 256

-- a byte that names have
unfoldable pub name_byte : (ℕ → ℕ) → ℕ → Bool
name_byte fold b = not (eqb (fold b) 0)

-- each byte of s passes the test
unfoldable pub all_of : (ℕ → Bool) → Bytes → Bool
all_of p [] = true
all_of p (b ∷ s) = p b && all_of p s

-- x is one of xs
unfoldable pub Among : Bytes → List Bytes → Type 0
Among x [] = ⊥
Among x (y ∷ ys) = (y ≡ x) ⊎ Among x ys
