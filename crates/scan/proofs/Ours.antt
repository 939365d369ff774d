-- Our letters: the entries of a range of bytes, and an area that is filled with them range by range.
-- Assumes nothing.
use mathlib.Core.Path.{◌≡◌, refl, sym, ap, ◌∙◌}
use mathlib.Core.Bool.{Bool, true}
use mathlib.Core.List.{List}
use Prim.Native.Nat.{ℕ, suc, ◌+◌, ◌-◌, ◌≤◌, ◌<◌}
use native.Mathlib.Omega.{arith}
use lib.Dec.{eqb}
use lib.ListN.{length, set, length-set, replicate}
use borrow.Author.Tests.{eqb-true}
use Rattle.std.specs.Char.{to_ascii_lowercase}
use Rattle.limits.specs.Book.{letter_bytes}
use Rattle.sets.specs.Set.{pick, every}
use Rattle.sets.proofs.Tests.{every_at}
use Rattle.areas.specs.Area.{put, begun, cleared}
use Rattle.areas.proofs.Parts.{put_none, put_set}
use Rattle.grammar.specs.Bytes.{small, our_letters}
use Rattle.grammar.specs.Letters.{entries_from, our_table}
use Rattle.grammar.specs.Fill.{fill_call}
use Rattle.grammar.proofs.Fill.{fill_long, fill_whole}

-- what is computed to be document 01's entry at each of n bytes from lo on is its entry there
pub ours_between : (lo n : ℕ) (value : ℕ → ℕ) → every n (λ i. eqb (value (lo + i)) (our_letters (lo + i))) ≡ true
    → (b : ℕ) → lo ≤ b → b < lo + n → value b ≡ our_letters b
ours_between lo n value e b l m =
    let q : lo + (b - lo) ≡ b = omega arith in
    let same : ℕ → Bool = λ i. eqb (value (lo + i)) (our_letters (lo + i)) in
    sym (ap value q) ∙ eqb-true (value (lo + (b - lo))) (our_letters (lo + (b - lo))) (every_at n same e (b - lo) (omega arith))
    ∙ ap our_letters q

-- document 01's entry of each byte, range by range
pub capital : (b : ℕ) → 65 ≤ b → b ≤ 90 → to_ascii_lowercase b ≡ our_letters b
unfolding every our_letters small pick
capital b l m = ours_between 65 26 to_ascii_lowercase refl b l (omega arith)

pub own_small : (b : ℕ) → 97 ≤ b → b ≤ 122 → b ≡ our_letters b
unfolding every our_letters small pick
own_small b l m = ours_between 97 26 (λ i. i) refl b l (omega arith)

pub own_digit : (b : ℕ) → 48 ≤ b → b ≤ 57 → b ≡ our_letters b
unfolding every our_letters small pick
own_digit b l m = ours_between 48 10 (λ i. i) refl b l (omega arith)

pub own_mark : (b : ℕ) → 45 ≤ b → b ≤ 46 → b ≡ our_letters b
unfolding every our_letters small pick
own_mark b l m = ours_between 45 2 (λ i. i) refl b l (omega arith)

pub own_line : (b : ℕ) → b ≡ 95 → b ≡ our_letters b
unfolding every our_letters small pick
own_line b e = ours_between 95 1 (λ i. i) refl b (omega arith) (omega arith)

pub none_low : (b : ℕ) → b ≤ 44 → 0 ≡ our_letters b
unfolding every our_letters small pick
none_low b m = ours_between 0 45 (λ i. 0) refl b (omega arith) (omega arith)

pub none_slash : (b : ℕ) → b ≡ 47 → 0 ≡ our_letters b
unfolding every our_letters small pick
none_slash b e = ours_between 47 1 (λ i. 0) refl b (omega arith) (omega arith)

pub none_colon : (b : ℕ) → 58 ≤ b → b ≤ 64 → 0 ≡ our_letters b
unfolding every our_letters small pick
none_colon b l m = ours_between 58 7 (λ i. 0) refl b l (omega arith)

pub none_bracket : (b : ℕ) → 91 ≤ b → b ≤ 94 → 0 ≡ our_letters b
unfolding every our_letters small pick
none_bracket b l m = ours_between 91 4 (λ i. 0) refl b l (omega arith)

pub none_quote : (b : ℕ) → b ≡ 96 → 0 ≡ our_letters b
unfolding every our_letters small pick
none_quote b e = ours_between 96 1 (λ i. 0) refl b (omega arith) (omega arith)

pub none_high : (b : ℕ) → 123 ≤ b → b ≤ 255 → 0 ≡ our_letters b
unfolding every our_letters small pick
none_high b l m = ours_between 123 133 (λ i. 0) refl b l (omega arith)

-- the bytes from b to last with themselves and `more` as entries
abbrev pub ranged : ℕ → ℕ → ℕ → List ℕ → List ℕ
ranged b last more table = put b (entries_from (λ a. a + more) (suc last - b) b) table

-- Bytes are passed one by one: the rest of the range put into the table now gives what all of it put into the old table gives.
pub record Ranging (first last more : ℕ) (old table : List ℕ) (b : ℕ) : Type 0 where
  pub low : (first ≤ b) × (b ≤ suc last)
  pub size : length table ≡ length old
  pub rest : ranged b last more table ≡ ranged first last more old

module _ {first last more : ℕ} (old : List ℕ) where
  pub ranging_start : first ≤ last → Ranging first last more old old first
  ranging_start l = record { low = (omega arith, omega arith); size = refl; rest = refl }

  pub ranging_more : (table : List ℕ) (b : ℕ) → Ranging first last more old table b → b ≤ last → last < length old
      → Ranging first last more old (set table b (b + more)) (b + 1)
  unfolding entries_from
  ranging_more table b r l m =
      let e : suc last - b ≡ suc (last - b) = omega arith in
      let q : suc last - (b + 1) ≡ last - b = omega arith in
      let s : b + 1 ≡ suc b = omega arith in
      record {
        low = (omega (arith, r.low.0), omega arith);
        size = length-set table b (b + more) ∙ r.size;
        rest =
            ap (λ (k : ℕ). put (b + 1) (entries_from (λ a. a + more) k (b + 1)) (set table b (b + more))) q
            ∙ ap (λ (c : ℕ). put c (entries_from (λ a. a + more) (last - b) c) (set table b (b + more))) s
            ∙ put_set b (b + more) (entries_from (λ a. a + more) (last - b) (suc b)) table (omega (arith, r.size))
            ∙ sym (ap (λ (k : ℕ). put b (entries_from (λ a. a + more) k b) table) e)
            ∙ r.rest;
      }

  pub ranging_all : (table : List ℕ) (b : ℕ) → Ranging first last more old table b → last < b → table ≡ ranged first last more old
  unfolding entries_from
  ranging_all table b r l =
      let e : suc last - b ≡ 0 = omega (arith, r.low.1) in
      put_none b table ∙ sym (ap (λ (k : ℕ). put b (entries_from (λ a. a + more) k b) table) e) ∙ r.rest

  -- the last byte of the range
  pub ranging_last : (table : List ℕ) (b : ℕ) → Ranging first last more old table b → b ≡ last → last < length old
      → set table b (b + more) ≡ ranged first last more old
  ranging_last table b r e m = ranging_all (set table b (b + more)) (b + 1) (ranging_more table b r (omega arith) m) (omega arith)

-- The ranges of document 01, one after another into zeros, are our table: computed over all of its entries.
pub ranges_ours : (old : List ℕ)
    → ranged 95 95 0 (ranged 45 46 0 (ranged 48 57 0 (ranged 97 122 0 (ranged 65 90 32 (cleared 0 letter_bytes old))))) ≡ begun our_table old
unfolding begun our_table entries_from our_letters small pick
ranges_ours old = refl

-- So an area that is cleared and filled in this order is what the call leaves.
pub fill_done : (old : List ℕ) {zeros capitals letters digits signs all : List ℕ} → letter_bytes ≤ length old → zeros ≡ cleared 0 letter_bytes old
    → capitals ≡ ranged 65 90 32 zeros → letters ≡ ranged 97 122 0 capitals → digits ≡ ranged 48 57 0 letters → signs ≡ ranged 45 46 0 digits
    → all ≡ ranged 95 95 0 signs → record { number = 0; area = all } ≡ fill_call old
fill_done old l a b c d e f =
    ap (λ (t : List ℕ). record { number = 0; area = t })
    (f ∙ ap (ranged 95 95 0) (e ∙ ap (ranged 45 46 0) (d ∙ ap (ranged 48 57 0) (c ∙ ap (ranged 97 122 0) (b ∙ ap (ranged 65 90 32) a))))
    ∙ ranges_ours old)
    ∙ sym (fill_long old l)

-- And zeros that are filled in this order are our table.
pub laid : {zeros capitals letters digits signs all : List ℕ} → zeros ≡ replicate letter_bytes 0
    → capitals ≡ ranged 65 90 32 zeros → letters ≡ ranged 97 122 0 capitals → digits ≡ ranged 48 57 0 letters → signs ≡ ranged 45 46 0 digits
    → all ≡ ranged 95 95 0 signs → all ≡ our_table
laid a b c d e f =
    let none : List ℕ = replicate letter_bytes 0 in
    fill_whole none refl _ (fill_done none (omega arith) a b c d e f)
