-- The text's first bytes against the mark.
-- Assumes nothing.
use mathlib.Core.Path.{◌≡◌, ap}
use mathlib.Core.Bool.{true}
use mathlib.Core.List.{[], ◌∷◌}
use Prim.Native.Nat.{◌≤◌}
use native.Mathlib.Omega.{arith}
use lib.ListN.{length, take, length-take}
use Rattle.std.specs.Prelude.{nat_eq}
use Rattle.std.specs.Cmp.Lexicographic.{pointwise}
use Rattle.std.specs.List.{starts_with}
use Rattle.std.proofs.lemmas.Grind.{common_steps}
use Rattle.grammar.specs.Bytes.{Bytes}
use Rattle.grammar.specs.Grammar.{mark}
use Rattle.tables.specs.Numbering.{same_bytes}
use Rattle.tables.specs.Reading.{marked}
use Rattle.tables.proofs.Numbering.{same_bytes_eq}

-- std's comparison of slices is the comparison of the tables
same_pointwise : (xs ys : Bytes) → pointwise nat_eq ys xs ≡ same_bytes xs ys
unfolding same_bytes
same_pointwise [] [] = grind (arith, common_steps)
same_pointwise [] (y ∷ ys) = grind (arith, common_steps)
same_pointwise (x ∷ xs) [] = grind (arith, common_steps)
same_pointwise (x ∷ xs) (y ∷ ys) = grind (arith, common_steps, same_pointwise xs ys)

pub starts_marked : (t : Bytes) → starts_with nat_eq t mark ≡ marked t
starts_marked t = same_pointwise (take 9 t) mark

pub mark_long : (t : Bytes) → marked t ≡ true → 9 ≤ length t
mark_long t e = omega (arith, ap length (same_bytes_eq (take 9 t) mark e), length-take 9 t)
