-- The number of a refusal, as documents 01 and 02 have it; and what a call that returns a result answers by number.
-- Assumes nothing.
use Rattle.std.specs.Prelude.{ℕ, Result, Ok, Err}
use Rattle.limits.specs.declared.Refusal.{Refusal}
use Rattle.limits.specs.declared.Refusal.TheVariants.{ShortArea, LongText, Mark, LastByte, Line, Names, Rules, Atoms, Folds, IllFormed, StartLost, LongWritten, LongName, BarredByte, ReservedByte, UnsettledEntry}
use Rattle.limits.specs.declared.Refused.{Refused}

-- the number of a cause
abbrev pub number_of : Refusal → ℕ
number_of ShortArea = 1
number_of LongText = 2
number_of Mark = 3
number_of LastByte = 4
number_of Line = 5
number_of Names = 6
number_of Rules = 7
number_of Atoms = 8
number_of Folds = 9
number_of IllFormed = 10
number_of StartLost = 11
number_of LongWritten = 12
number_of LongName = 13
number_of BarredByte = 14
number_of ReservedByte = 20
number_of UnsettledEntry = 21

-- the number that a result stands for, 0 where nothing is refused
abbrev pub number_in : {A : Type 0} → Result A Refusal → ℕ
number_in (Ok x) = 0
number_in (Err cause) = number_of cause

-- the same, where a refusal has its line; and that line, 0 where nothing is refused
abbrev pub refused_number : {A : Type 0} → Result A Refused → ℕ
refused_number (Ok x) = 0
refused_number (Err r) = number_of r.cause

abbrev pub refused_line : {A : Type 0} → Result A Refused → ℕ
refused_line (Ok x) = 0
refused_line (Err r) = r.line

-- a count of what is returned, 0 for a refusal
abbrev pub count_in : {A E : Type 0} → (A → ℕ) → Result A E → ℕ
count_in count (Ok x) = count x
count_in count (Err r) = 0
