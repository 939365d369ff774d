-- What the code holds while lines are read: the names with their index, a rule that is found, and a line at fault.
-- Assumes nothing.
use Rattle.std.specs.Prelude.{◌≡◌, Bool, false, ℕ, Result, Ok, Err, is_some}
use Rattle.std.specs.Option.{unwrap_or}
use Rattle.limits.specs.declared.Refusal.{Refusal}
use Rattle.grammar.specs.Bytes.{Bytes, name_byte}
use Rattle.scan.specs.declared.cursor.Word.{Word}
use Rattle.scan.specs.Hash.{hash_of}
use Rattle.scan.specs.Places.{past_at, name_folded}
use Rattle.lexicon.specs.declared.Lexicon.{Lexicon}
use Rattle.clause.specs.declared.Found.{Found}
use Rattle.clause.specs.Found as found

-- the names with their index
abbrev pub held : Lexicon → found.Lexicon
held l = found.lexicon_of l.count l.spellings.now l.first.now l.prior.now

-- the word is the run of name bytes where it begins, with its bucket
pub record Run (fold : ℕ → ℕ) (t : Bytes) (word : Word) : Type 0 where
  pub ends : word.end ≡ past_at (name_byte fold) t word.at
  pub hashed : word.bucket ≡ hash_of (name_folded fold t word.at)

-- where a line that is not at fault ends, whether its names found room, and then the number of its head
abbrev pub at_in : Result Found Refusal → ℕ
at_in (Ok f) = f.end.at
at_in (Err cause) = 0

abbrev pub room_in : Result Found Refusal → Bool
room_in (Ok f) = is_some f.head
room_in (Err cause) = false

abbrev pub head_in : Result Found Refusal → ℕ
head_in (Ok f) = unwrap_or f.head 0
head_in (Err cause) = 0
