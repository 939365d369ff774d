-- Document 01's folding keeps the rule of a folding: computed over all byte values, and 0 past them.
-- Assumes nothing.
use mathlib.Core.Path.{◌≡◌, refl, sym, ap, ◌∙◌}
use mathlib.Core.Bool.{Bool, true, false, not, ◌&&◌, ◌||◌, and-false}
use Prim.Native.Nat.{ℕ, ◌≤◌, ◌<◌}
use native.Mathlib.Omega.{arith}
use lib.Dec.{eqb, leb, ltb}
use borrow.Author.Tests.{eqb-true, ltb-true, ltb-false, lt-leb, ne_eqb}
use Rattle.sets.specs.Set.{pick, every}
use Rattle.sets.proofs.Logic.{either, clash, and_left, and_right, or_elim, of_not}
use Rattle.sets.proofs.Tests.{every_at}
use Rattle.grammar.specs.Bytes.{Folding, blank, reserved, from_to, small, our_letters}

-- the entry of b is a byte and its own entry, and 0 for a reserved byte
settled : ℕ → Bool
settled b = eqb (our_letters (our_letters b)) (our_letters b) && (ltb (our_letters b) 256 && (not (reserved b) || eqb (our_letters b) 0))

-- and so for every byte
all_settled_lem : every 256 settled ≡ true
unfolding every settled reserved blank our_letters small pick
all_settled_lem = refl

-- no byte past a range lies in it
beyond : (lo hi b : ℕ) → hi < b → from_to lo hi b ≡ false
beyond lo hi b l = ap (λ (x : Bool). leb lo b && x) (lt-leb b hi l) ∙ and-false (leb lo b)

-- past the bytes the entry is 0
pub past_bytes : (b : ℕ) → 256 ≤ b → our_letters b ≡ 0
unfolding our_letters small pick
past_bytes b l =
    rw (
      beyond 65 90 b (omega arith),
      beyond 97 122 b (omega arith),
      beyond 48 57 b (omega arith),
      ne_eqb b 46 (λ e. omega arith),
      ne_eqb b 95 (λ e. omega arith),
      ne_eqb b 45 (λ e. omega arith),
    )

-- a fact that holds where an entry is settled and where it is 0
by_entry : (P : ℕ → Type 0) → ((b : ℕ) → settled b ≡ true → P b) → ((b : ℕ) → our_letters b ≡ 0 → P b) → (b : ℕ) → P b
by_entry P here past b =
    either (ltb b 256) (λ e. here b (every_at 256 settled all_settled_lem b (ltb-true b 256 e))) (λ e. past b (past_bytes b (ltb-false b 256 e)))

module _ (b : ℕ) (e : settled b ≡ true) where
  -- folding a folded byte changes nothing
  settled_again : our_letters (our_letters b) ≡ our_letters b
  unfolding settled
  settled_again =
      eqb-true (our_letters (our_letters b)) (our_letters b)
      (and_left (eqb (our_letters (our_letters b)) (our_letters b)) (ltb (our_letters b) 256 && (not (reserved b) || eqb (our_letters b) 0)) e)

  settled_more : ltb (our_letters b) 256 && (not (reserved b) || eqb (our_letters b) 0) ≡ true
  unfolding settled
  settled_more = and_right (eqb (our_letters (our_letters b)) (our_letters b)) (ltb (our_letters b) 256 && (not (reserved b) || eqb (our_letters b) 0)) e

  -- a folded byte is a byte
  settled_byte : our_letters b < 256
  settled_byte = ltb-true (our_letters b) 256 (and_left (ltb (our_letters b) 256) (not (reserved b) || eqb (our_letters b) 0) settled_more)

  -- a byte of the grammar has entry 0
  settled_none : reserved b ≡ true → our_letters b ≡ 0
  settled_none a =
      or_elim (not (reserved b)) (eqb (our_letters b) 0) (and_right (ltb (our_letters b) 256) (not (reserved b) || eqb (our_letters b) 0) settled_more)
      (λ q. clash a (of_not (reserved b) q))
      (λ q. eqb-true (our_letters b) 0 q)

reserved_zero : (b : ℕ) → reserved b ≡ true → our_letters b ≡ 0
reserved_zero = by_entry (λ b. reserved b ≡ true → our_letters b ≡ 0) settled_none (λ b e a. e)

-- the folding keeps the rule
pub folding : Folding our_letters
unfolding reserved blank
folding =
    record {
      none = reserved_zero;
      again = by_entry (λ b. our_letters (our_letters b) ≡ our_letters b) settled_again (λ b e. ap our_letters e ∙ reserved_zero 0 refl ∙ sym e);
      byte = by_entry (λ b. our_letters b < 256) settled_byte (λ b e. omega arith);
    }
