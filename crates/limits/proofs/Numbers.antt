-- The numbers of refusals.
-- Assumes nothing.
use mathlib.Core.Path.{◌≡◌}
use native.Mathlib.Omega.{arith}
use Rattle.limits.specs.Refusal.{number_of}
use Rattle.limits.specs.declared.Refusal.{Refusal}
use Rattle.limits.specs.declared.Refusal.TheVariants.{ShortArea, LongText, Mark, LastByte, Line, Names, Rules, Atoms, Folds, IllFormed, StartLost}
use Rattle.limits.specs.declared.Refusal.TheVariants.{LongWritten, LongName, BarredByte, ReservedByte, UnsettledEntry}

-- every cause has one, which is not that of an answer
pub number_some : (cause : Refusal) → number_of cause ≡ 0 → ⊥
number_some ShortArea e = omega arith
number_some LongText e = omega arith
number_some Mark e = omega arith
number_some LastByte e = omega arith
number_some Line e = omega arith
number_some Names e = omega arith
number_some Rules e = omega arith
number_some Atoms e = omega arith
number_some Folds e = omega arith
number_some IllFormed e = omega arith
number_some StartLost e = omega arith
number_some LongWritten e = omega arith
number_some LongName e = omega arith
number_some BarredByte e = omega arith
number_some ReservedByte e = omega arith
number_some UnsettledEntry e = omega arith
