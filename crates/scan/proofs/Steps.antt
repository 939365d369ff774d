-- What the tests of the code say of a byte, and a cursor set to a place.
-- Assumes nothing.
use mathlib.Core.Path.{◌≡◌, sym, ap, ◌∙◌}
use mathlib.Core.Bool.{true, false, not}
use Prim.Native.Nat.{ℕ}
use borrow.Author.Tests.{eq-eqb, ne_eqb}
use Rattle.grammar.specs.Bytes.{not_end, name_byte, line_end}
use Rattle.scan.specs.declared.cursor.Cursor.{Cursor}

-- a line end, and any other byte
pub at_end : (b : ℕ) → b ≡ line_end → not_end b ≡ false
unfolding not_end
at_end b e = ap not (eq-eqb b line_end e)

pub in_line : (b : ℕ) → (b ≡ line_end → ⊥) → not_end b ≡ true
unfolding not_end
in_line b h = ap not (ne_eqb b line_end h)

-- a byte with no entry, and one with an entry
pub no_name : (fold : ℕ → ℕ) (b r : ℕ) → r ≡ fold b → r ≡ 0 → name_byte fold b ≡ false
unfolding name_byte
no_name fold b r q e = ap not (eq-eqb (fold b) 0 (sym q ∙ e))

pub of_name : (fold : ℕ → ℕ) (b r : ℕ) → r ≡ fold b → (r ≡ 0 → ⊥) → name_byte fold b ≡ true
unfolding name_byte
of_name fold b r q h = ap not (ne_eqb (fold b) 0 (λ e. h (q ∙ e)))

-- a cursor whose place is known
pub set_to : (line a e : ℕ) → a ≡ e → ◌≡◌ {A = Cursor} (record { at = a; line = line }) (record { at = e; line = line })
set_to line a e q = ap (λ (n : ℕ). record { at = n; line = line }) q
