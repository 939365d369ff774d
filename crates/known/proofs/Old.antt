-- The areas of the test have their stated sizes.
-- Assumes nothing.
use Prim.Native.Nat.{ℕ, ◌≤◌}
use native.Mathlib.Omega.{arith}
use lib.ListN.{length, replicate, length-replicate}
use Rattle.limits.specs.Book.{rules, row_words, name_area, body_area, row_area, listing_bytes}
use Rattle.solving.specs.SolveClaims.{SolveLong}
use Rattle.known.specs.Test.{old_areas}

-- as many entries as stated
sevens : (n : ℕ) → n ≤ length (replicate {A = ℕ} n 7)
sevens n = omega (arith, length-replicate {A = ℕ} n 7)

pub old_long : SolveLong old_areas
old_long = record {
  spellings = sevens name_area;
  heads = sevens rules;
  bodies = sevens body_area;
  all = sevens row_area;
  any = sevens row_area;
  spare = sevens row_area;
  model = sevens row_words;
  listing = sevens listing_bytes;
}
