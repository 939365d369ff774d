-- The call for C. Document 01: "it gets 0, or refusal × 65,536 + line".
-- Assumes nothing.
use Rattle.std.specs.Prelude.{List, ℕ, ◌+◌, ◌*◌}
use Rattle.grammar.specs.Bytes.{Bytes}
use Rattle.hosting.specs.List.{ListOutcome, list_call}

-- what one refusal number counts for
abbrev pub refusal_unit : ℕ
refusal_unit = 65536

-- a refusal and its line as one number; no refusal and no line are 0
abbrev pub as_one : ℕ → ℕ → ℕ
as_one number line = number * refusal_unit + line

-- the number returned, and the listing area afterwards
pub record CallOutcome : Type 0 where
  pub returned : ℕ
  pub listing : Bytes

abbrev pub called : ListOutcome → CallOutcome
called r = record { returned = as_one r.number r.line; listing = r.listing }

-- the call on the text t, k folds and a listing area
unfoldable pub host_call : List ℕ → Bytes → ℕ → Bytes → CallOutcome
host_call table t k listing = called (list_call table t k listing)
