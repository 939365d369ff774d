-- One word as a set of bits: the machine's operations on words are those of sets, at any number of bits.
-- Assumes nothing.
use mathlib.Core.Path.{◌≡◌, refl, sym, ap, ap₂, ◌∙◌, fun_ext}
use mathlib.Core.Logic.{⊎_elim}
use mathlib.Core.Bool.{Bool, true, false, not, ◌&&◌, ◌||◌, beq, not-not, and_self, true≢false}
use Prim.Native.Nat.{ℕ, zero, suc, ◌+◌, ◌-◌, ◌*◌, ◌/◌, ◌%◌, ◌^◌, ◌≤◌, ◌<◌, min, max}
use native.Mathlib.Nat.{zero-div, div-one, zero-add, suc-add, pow-suc, pow-succ', div-div-eq-div-mul, div-eq_of_lt, lt_of_lt_of_le, lt_of_le_of_lt, eq-or-lt_of_le, mod-lt}
use native.Mathlib.Omega.{arith}
use lib.Dec.{lit<, eqb, eqb-suc-suc, eqb-zero-suc, eqb-suc-zero}
use borrow.Author.Tests.{eq-eqb, eqb-true, not-true}
use lib.Arith.{lt-one}
use lib.Bits.{bit_and, bit_or, and_step, or_step, and_le_l, block_half, block_odd}
use lib.Pow.{pow_pos, pow_mono, shr-shr, high}
use lib.Count.{ones, ones_step, count_trailing_zeros, under}
use Rattle.sets.specs.Set.{Set, Same, one, pick, every, exists, count, within, meets, same, next}
use Rattle.words.specs.Row.{bit, binary}
use Rattle.sets.proofs.Logic.{iff, beq_eq, beq_refl}
use Rattle.sets.proofs.Tests.{every_at, every_make, every_same, exists_same, not_exists}
use Rattle.sets.proofs.Ranges.{count_add}
use Rattle.sets.proofs.Walk.{next_suc}

-- a number below 2 ^ (k + 1) halved is below 2 ^ k
half_lt : (k a : ℕ) → a < 2 ^ suc k → a / 2 < 2 ^ k
half_lt k a h = let p : 2 ^ suc k ≡ 2 ^ k * 2 = pow-suc 2 k in omega arith

-- bit 0 is the remainder by 2, and the other bits are those of the half
bit_first : (w : ℕ) → bit w 0 ≡ eqb (w % 2) 1
unfolding bit
bit_first w = rw div-one

bit_suc : (w i : ℕ) → bit w (suc i) ≡ bit (w / 2) i
unfolding bit
bit_suc w i = rw (pow-succ', ← div-div-eq-div-mul)

-- no bit of 0 is set
pub bit_zero : (i : ℕ) → bit 0 i ≡ false
unfolding bit
bit_zero i = rw zero-div

-- a lowest digit d below the bits of q
digit_first : (q d : ℕ) → d < 2 → bit (q * 2 + d) 0 ≡ eqb d 1
digit_first q d l = let e : (q * 2 + d) % 2 ≡ d = omega arith in bit_first (q * 2 + d) ∙ ap (λ (x : ℕ). eqb x 1) e

digit_suc : (q d i : ℕ) → d < 2 → bit (q * 2 + d) (suc i) ≡ bit q i
digit_suc q d i l = let e : (q * 2 + d) / 2 ≡ q = omega arith in bit_suc (q * 2 + d) i ∙ ap (λ (x : ℕ). bit x i) e

-- what holds of the digits 0 and 1 holds of a remainder by 2
by_digits : (P : ℕ → Type 0) → P 0 → P 1 → (w : ℕ) → P (w % 2)
by_digits P p q w = go (w % 2) (mod-lt w (lit< tt))
  where
    go : (d : ℕ) → d < 2 → P d
    go zero l = p
    go (suc zero) l = q
    go (suc (suc d)) l = absurd (omega arith)

-- an operation F that goes digit by digit as f does is g on the bits, where f is g on the digits 0 and 1
module _ (F f : ℕ → ℕ → ℕ) (g : Bool → Bool → Bool) (step : (a b : ℕ) → F a b ≡ F (a / 2) (b / 2) * 2 + f (a % 2) (b % 2))
    (table : (a b : ℕ) → (f (a % 2) (b % 2) < 2) × (eqb (f (a % 2) (b % 2)) 1 ≡ g (eqb (a % 2) 1) (eqb (b % 2) 1))) where
  bitwise_bit : (i a b : ℕ) → bit (F a b) i ≡ g (bit a i) (bit b i)
  bitwise_bit zero a b =
      ap (λ (x : ℕ). bit x 0) (step a b) ∙ digit_first (F (a / 2) (b / 2)) (f (a % 2) (b % 2)) (table a b).0 ∙ (table a b).1
      ∙ sym (ap₂ g (bit_first a) (bit_first b))
  bitwise_bit (suc i) a b =
      ap (λ (x : ℕ). bit x (suc i)) (step a b) ∙ digit_suc (F (a / 2) (b / 2)) (f (a % 2) (b % 2)) i (table a b).0
      ∙ bitwise_bit i (a / 2) (b / 2) ∙ sym (ap₂ g (bit_suc a i) (bit_suc b i))

-- the or of two words is that of their bits
pub bit_or_lem : (a b i : ℕ) → bit (bit_or a b) i ≡ bit a i || bit b i
bit_or_lem a b i = bitwise_bit bit_or max ◌||◌ or_step table i a b
  where
    table : (a b : ℕ) → (max (a % 2) (b % 2) < 2) × (eqb (max (a % 2) (b % 2)) 1 ≡ eqb (a % 2) 1 || eqb (b % 2) 1)
    table a b = (
      omega arith,
      by_digits (λ x. eqb (max x (b % 2)) 1 ≡ eqb x 1 || eqb (b % 2) 1)
          (by_digits (λ y. eqb (max 0 y) 1 ≡ eqb y 1) refl refl b)
          (by_digits (λ y. eqb (max 1 y) 1 ≡ true) refl refl b) a,
    )

-- and so is the and
pub bit_and_lem : (a b i : ℕ) → bit (bit_and a b) i ≡ bit a i && bit b i
bit_and_lem a b i = bitwise_bit bit_and min ◌&&◌ and_step table i a b
  where
    table : (a b : ℕ) → (min (a % 2) (b % 2) < 2) × (eqb (min (a % 2) (b % 2)) 1 ≡ eqb (a % 2) 1 && eqb (b % 2) 1)
    table a b = (
      omega arith,
      by_digits (λ x. eqb (min x (b % 2)) 1 ≡ eqb x 1 && eqb (b % 2) 1)
          (by_digits (λ y. eqb (min 0 y) 1 ≡ false) refl refl b)
          (by_digits (λ y. eqb (min 1 y) 1 ≡ eqb y 1) refl refl b) a,
    )

-- the complement of a word of k bits
pub bit_not : (k a i : ℕ) → a < 2 ^ k → i < k → bit ((2 ^ k - 1) - a) i ≡ not (bit a i)
bit_not zero a i h l = absurd (omega arith)
bit_not (suc k) a zero h l =
    let p : 2 ^ suc k ≡ 2 ^ k * 2 = pow-suc 2 k in
    let d : ((2 ^ suc k - 1) - a) % 2 ≡ 1 - a % 2 = omega arith in
    bit_first ((2 ^ suc k - 1) - a) ∙ ap (λ (x : ℕ). eqb x 1) d
    ∙ by_digits (λ x. eqb (1 - x) 1 ≡ not (eqb x 1)) refl refl a ∙ ap not (sym (bit_first a))
bit_not (suc k) a (suc i) h l =
    let p : 2 ^ suc k ≡ 2 ^ k * 2 = pow-suc 2 k in
    let d : ((2 ^ suc k - 1) - a) / 2 ≡ (2 ^ k - 1) - a / 2 = omega arith in
    bit_suc ((2 ^ suc k - 1) - a) i ∙ ap (λ (x : ℕ). bit x i) d
    ∙ bit_not k (a / 2) i (half_lt k a h) (omega arith) ∙ ap not (sym (bit_suc a i))

-- the power 2 ^ k has the bit k alone
pub bit_power : (k i : ℕ) → bit (2 ^ k) i ≡ eqb k i
bit_power zero zero = bit_first 1
bit_power zero (suc i) = bit_suc 1 i ∙ bit_zero i ∙ sym (eqb-zero-suc i)
bit_power (suc k) zero =
    let e : 2 ^ suc k % 2 ≡ 0 = omega (arith, pow-suc 2 k) in
    bit_first (2 ^ suc k) ∙ ap (λ (x : ℕ). eqb x 1) e ∙ sym (eqb-suc-zero k)
bit_power (suc k) (suc i) =
    let e : 2 ^ suc k / 2 ≡ 2 ^ k = omega (arith, pow-suc 2 k) in
    bit_suc (2 ^ suc k) i ∙ ap (λ (x : ℕ). bit x i) e ∙ bit_power k i ∙ sym (eqb-suc-suc k i)

-- a shift to the right moves the bits down
pub bit_shr : (w k i : ℕ) → bit (w / 2 ^ k) i ≡ bit w (k + i)
unfolding bit
bit_shr w k i = rw shr-shr

-- no bit at or past k is set in a word of k bits
pub bit_high : (k w i : ℕ) → w < 2 ^ k → k ≤ i → bit w i ≡ false
unfolding bit
bit_high k w i h l = rw (div-eq_of_lt (lt_of_lt_of_le h (pow_mono l)))

-- words of k bits with the same bits are equal
pub bits_equal : (k a b : ℕ) → a < 2 ^ k → b < 2 ^ k → Same k (bit a) (bit b) → a ≡ b
bits_equal zero a b p q h = lt-one p ∙ sym (lt-one q)
bits_equal (suc k) a b p q h =
    let half : a / 2 ≡ b / 2 =
    bits_equal k (a / 2) (b / 2) (half_lt k a p) (half_lt k b q) (λ i l. sym (bit_suc a i) ∙ h (suc i) (omega arith) ∙ bit_suc b i) in
    let digit : a % 2 ≡ b % 2 =
    same_digit (sym (bit_first a) ∙ h 0 (omega arith) ∙ bit_first b) in
    omega arith
  where
    same_digit : eqb (a % 2) 1 ≡ eqb (b % 2) 1 → a % 2 ≡ b % 2
    same_digit =
        by_digits (λ x. eqb x 1 ≡ eqb (b % 2) 1 → x ≡ b % 2)
        (by_digits (λ y. false ≡ eqb y 1 → 0 ≡ y) (λ e. refl) (λ e. absurd (true≢false (sym e))) b)
        (by_digits (λ y. true ≡ eqb y 1 → 1 ≡ y) (λ e. absurd (true≢false e)) (λ e. refl) b) a

-- a word of k bits is 0 where none is set
pub zero_none : (k a : ℕ) → a < 2 ^ k → eqb a 0 ≡ not (exists k (bit a))
zero_none k a h = iff (eqb a 0) (not (exists k (bit a))) empty zeros
  where
    empty : eqb a 0 ≡ true → not (exists k (bit a)) ≡ true
    empty e = not_exists k (bit a) ∙ every_make k (λ i. not (bit a i)) (λ i l. ap (λ (x : ℕ). not (bit x i)) (eqb-true a 0 e) ∙ ap not (bit_zero i))

    zeros : not (exists k (bit a)) ≡ true → eqb a 0 ≡ true
    zeros e =
        eq-eqb a 0
        (bits_equal k a 0 h (pow_pos k)
        (λ i l. not-true (bit a i) (every_at k (λ i. not (bit a i)) (sym (not_exists k (bit a)) ∙ e) i l) ∙ sym (bit_zero i)))

-- the and of two words is 0 where they have no bit in common
pub and_meets : (k a b : ℕ) → a < 2 ^ k → b < 2 ^ k → eqb (bit_and a b) 0 ≡ not (meets k (bit a) (bit b))
unfolding meets
and_meets k a b p q =
    zero_none k (bit_and a b) (lt_of_le_of_lt (and_le_l a b) p)
    ∙ ap not (exists_same k (bit (bit_and a b)) (λ i. bit a i && bit b i) (λ i l. bit_and_lem a b i))

-- the and with the complement is 0 where the bits of a lie within those of b
pub and_not_within : (k a b : ℕ) → a < 2 ^ k → b < 2 ^ k → eqb (bit_and a ((2 ^ k - 1) - b)) 0 ≡ within k (bit a) (bit b)
unfolding within
and_not_within k a b p q =
    zero_none k (bit_and a ((2 ^ k - 1) - b)) (lt_of_le_of_lt (and_le_l a ((2 ^ k - 1) - b)) p)
    ∙ not_exists k (bit (bit_and a ((2 ^ k - 1) - b)))
    ∙ every_same k (λ i. not (bit (bit_and a ((2 ^ k - 1) - b)) i)) (λ i. not (bit a i) || bit b i) at
  where
    outside : (x y : Bool) → not (x && not y) ≡ not x || y
    outside true y = not-not y
    outside false y = refl

    at : Same k (λ i. not (bit (bit_and a ((2 ^ k - 1) - b)) i)) (λ i. not (bit a i) || bit b i)
    at i l =
        ap not (bit_and_lem a ((2 ^ k - 1) - b) i) ∙ ap (λ (x : Bool). not (bit a i && x)) (bit_not k b i q l)
        ∙ outside (bit a i) (bit b i)

-- the test that words are equal is that of their bits
pub word_same : (k a b : ℕ) → a < 2 ^ k → b < 2 ^ k → eqb a b ≡ same k (bit a) (bit b)
unfolding same
word_same k a b p q = iff (eqb a b) (every k (λ i. beq (bit a i) (bit b i))) alike equal
  where
    alike : eqb a b ≡ true → every k (λ i. beq (bit a i) (bit b i)) ≡ true
    alike e =
        every_make k (λ i. beq (bit a i) (bit b i))
        (λ i l. ap (λ (x : ℕ). beq (bit x i) (bit b i)) (eqb-true a b e) ∙ beq_refl (bit b i) (bit b i) refl)

    equal : every k (λ i. beq (bit a i) (bit b i)) ≡ true → eqb a b ≡ true
    equal e =
        eq-eqb a b
        (bits_equal k a b p q (λ i l. beq_eq (bit a i) (bit b i) (every_at k (λ i. beq (bit a i) (bit b i)) e i l)))

-- the bits past the first, as a set
tail : (w : ℕ) → ◌≡◌ {A = Set} (λ i. bit w (1 + i)) (bit (w / 2))
tail w = fun_ext (λ i. ap (bit w) (suc-add 0 i ∙ ap suc (zero-add i)) ∙ bit_suc w i)

-- the set bits of a word of k bits are counted
pub ones_count : (k w : ℕ) → w < 2 ^ k → ones w ≡ count k (bit w)
unfolding ones count pick
ones_count zero w h = ap ones (lt-one h)
ones_count (suc k) w h =
    ones_step w
    ∙ ap₂ ◌+◌ first (ones_count k (w / 2) (half_lt k w h) ∙ ap (count k) (sym (tail w)))
    ∙ sym (count_add 1 k (bit w)) ∙ ap (λ (n : ℕ). count n (bit w)) (suc-add 0 k ∙ ap suc (zero-add k))
  where
    first : w % 2 ≡ count 1 (bit w)
    first = by_digits (λ x. x ≡ pick (eqb x 1) 1 0) refl refl w ∙ ap (λ (b : Bool). pick b 1 0) (sym (bit_first w))

-- the zeros below the lowest set bit: its place, or k
pub trailing_next : (k w : ℕ) → count_trailing_zeros k w ≡ next k (bit w) 0
unfolding count_trailing_zeros next pick
trailing_next zero w = refl
trailing_next (suc k) w =
    ap (under (w % 2)) (trailing_next k (w / 2) ∙ ap (λ (f : Set). next k f 0) (sym (fun_ext (bit_suc w))))
    ∙ by_digits (λ x. under x (next k (λ j. bit w (suc j)) 0) ≡ pick (eqb x 1) 0 (suc (next k (λ j. bit w (suc j)) 0))) refl refl w
    ∙ ap₂ (λ (b : Bool) (n : ℕ). pick b 0 n) (sym (bit_first w)) (sym (next_suc k (bit w) 0))

-- the same by the lowest digit
trailing_odd : (k w : ℕ) → w % 2 ≡ 1 → count_trailing_zeros (suc k) w ≡ 0
unfolding count_trailing_zeros
trailing_odd k w e = ap (λ (d : ℕ). under d (count_trailing_zeros k (w / 2))) e

trailing_even : (k w : ℕ) → w % 2 ≡ 0 → count_trailing_zeros (suc k) w ≡ suc (count_trailing_zeros k (w / 2))
unfolding count_trailing_zeros
trailing_even k w e = ap (λ (d : ℕ). under d (count_trailing_zeros k (w / 2))) e

-- cases on the lowest digit
odd_or_even : {X : Type 0} (w : ℕ) → (w % 2 ≡ 1 → X) → (w % 2 ≡ 0 → X) → X
odd_or_even {X} = by_digits (λ d. (d ≡ 1 → X) → (d ≡ 0 → X) → X) (λ f g. g refl) (λ f g. f refl)

-- a word of k bits that is not 0 has its lowest among them
pub trailing_lt : (k w : ℕ) → w < 2 ^ k → (w ≡ 0 → ⊥) → count_trailing_zeros k w < k
trailing_lt zero w h n = absurd (n (lt-one h))
trailing_lt (suc k) w h n =
    odd_or_even w (λ e. omega (arith, trailing_odd k w e))
    (λ e. omega (arith, trailing_even k w e, trailing_lt k (w / 2) (half_lt k w h) (λ z. n (omega arith))))

-- every bit of w but its lowest is one of w - 1 too
lowest_digits : (k w i : ℕ) → w < 2 ^ k → (w ≡ 0 → ⊥) → bit w i ≡ eqb (count_trailing_zeros k w) i || bit w i && bit (w - 1) i
lowest_digits zero w i h n = absurd (n (lt-one h))
lowest_digits (suc k) w zero h n =
    odd_or_even w
    (λ e.
    bit_first w ∙ ap (λ (d : ℕ). eqb d 1) e
    ∙ sym (ap (λ (t : ℕ). eqb t 0 || bit w 0 && bit (w - 1) 0) (trailing_odd k w e)))
    (λ e.
    let f : bit w 0 ≡ false = bit_first w ∙ ap (λ (d : ℕ). eqb d 1) e in
    f ∙ sym (ap₂ (λ (t : ℕ) (b : Bool). eqb t 0 || b && bit (w - 1) 0) (trailing_even k w e) f ∙ ap (λ (b : Bool). b || false) (eqb-suc-zero (count_trailing_zeros k (w / 2)))))
lowest_digits (suc k) w (suc i) h n =
    odd_or_even w
    (λ e.
    let q : (w - 1) / 2 ≡ w / 2 = omega arith in
    let same : bit (w - 1) (suc i) ≡ bit w (suc i) = bit_suc (w - 1) i ∙ ap (λ (x : ℕ). bit x i) q ∙ sym (bit_suc w i) in
    sym
    (ap₂ (λ (t : ℕ) (b : Bool). eqb t (suc i) || bit w (suc i) && b) (trailing_odd k w e) same
    ∙ ap (λ (b : Bool). b || bit w (suc i) && bit w (suc i)) (eqb-zero-suc i) ∙ and_self (bit w (suc i))))
    (λ e.
    let q : (w - 1) / 2 ≡ w / 2 - 1 = omega (arith, n) in
    let up : eqb (count_trailing_zeros (suc k) w) (suc i) ≡ eqb (count_trailing_zeros k (w / 2)) i =
    ap (λ (t : ℕ). eqb t (suc i)) (trailing_even k w e) ∙ eqb-suc-suc (count_trailing_zeros k (w / 2)) i in
    bit_suc w i ∙ lowest_digits k (w / 2) i (half_lt k w h) (λ z. n (omega arith))
    ∙ sym
    (ap₂ ◌||◌ up
    (ap₂ ◌&&◌ (bit_suc w i) (bit_suc (w - 1) i ∙ ap (λ (x : ℕ). bit x i) q))))

-- so the bits of w are its lowest and those of the and of w and w - 1
pub bit_lowest : (k w i : ℕ) → w < 2 ^ k → (w ≡ 0 → ⊥) → bit w i ≡ eqb (count_trailing_zeros k w) i || bit (bit_and w (w - 1)) i
bit_lowest k w i h n =
    lowest_digits k w i h n ∙ ap (λ (b : Bool). eqb (count_trailing_zeros k w) i || b) (sym (bit_and_lem w (w - 1) i))

-- the number made of k bits has k bits
pub binary_lt : (k : ℕ) (f : Set) → binary k f < 2 ^ k
unfolding binary
binary_lt zero f = lit< tt
binary_lt (suc k) f = go (f k) (binary_lt k f)
  where
    go : (b : Bool) → binary k f < 2 ^ k → one b * 2 ^ k + binary k f < 2 ^ suc k
    go true l = omega (arith, pow-suc 2 k)
    go false l = omega (arith, pow-suc 2 k)

-- the bits below k of a number are those of its part below 2 ^ k
bit_block : (k hi lo i : ℕ) → i < k → bit (hi * 2 ^ k + lo) i ≡ bit lo i
bit_block zero hi lo i l = absurd (omega arith)
bit_block (suc k) hi lo zero l = bit_first (hi * 2 ^ suc k + lo) ∙ ap (λ (x : ℕ). eqb x 1) (block_odd hi k lo) ∙ sym (bit_first lo)
bit_block (suc k) hi lo (suc i) l =
    bit_suc (hi * 2 ^ suc k + lo) i ∙ ap (λ (x : ℕ). bit x i) (block_half hi k lo) ∙ bit_block k hi (lo / 2) i (omega arith)
    ∙ sym (bit_suc lo i)

-- bit k of a number below 2 ^ k with the digit k added
bit_top : (k : ℕ) (b : Bool) (lo : ℕ) → lo < 2 ^ k → bit (one b * 2 ^ k + lo) k ≡ b
unfolding bit
bit_top k b lo l = ap (λ (x : ℕ). eqb (x % 2) 1) (high (one b) k l) ∙ digit b
  where
    digit : (b : Bool) → eqb (one b % 2) 1 ≡ b
    digit true = refl
    digit false = refl

-- and its bits are the members of the set
pub bit_binary : (k : ℕ) (f : Set) (i : ℕ) → i < k → bit (binary k f) i ≡ f i
unfolding binary
bit_binary zero f i l = absurd (omega arith)
bit_binary (suc k) f i l =
    let rest : i < k → bit (binary k f) i ≡ f i = bit_binary k f i in
    ⊎_elim (λ (q : i ≡ k). rw q (bit_top k (f k) (binary k f) (binary_lt k f))) (λ (q : i < k). bit_block k (one (f k)) (binary k f) i q ∙ rest q)
    (eq-or-lt_of_le (omega arith))

-- a word of k bits is the number made of them
pub binary_bit : (k w : ℕ) → w < 2 ^ k → binary k (bit w) ≡ w
binary_bit k w h = bits_equal k (binary k (bit w)) w (binary_lt k (bit w)) h (bit_binary k (bit w))
