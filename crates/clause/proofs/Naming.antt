-- The run of name bytes that a word is: where it lies, and when it is a name.
-- Assumes nothing.
use mathlib.Core.Path.{◌≡◌, sym, ap, ◌∙◌}
use mathlib.Core.Bool.{true, false}
use Prim.Native.Nat.{ℕ, ◌-◌, ◌≤◌, ◌<◌}
use native.Mathlib.Omega.{arith}
use lib.ListN.{length, take, drop, length-drop}
use borrow.Author.Tests.{le-leb, lt-leb}
use Rattle.limits.specs.Book.{name_bytes}
use Rattle.grammar.specs.Bytes.{Bytes, name_byte}
use Rattle.grammar.specs.Lines.{span, is_name}
use Rattle.grammar.proofs.Spans.{span_le}
use Rattle.scan.specs.declared.cursor.Word.{Word}
use Rattle.scan.specs.Places.{name_run}
use Rattle.clause.proofs.Forms.{name_none, name_some}
use Rattle.clause.specs.Held.{Run}

module _ (fold : ℕ → ℕ) (t : Bytes) (word : Word) (r : Run fold t word) where
  -- it lies in the text
  pub run_within : word.at < word.end → word.end ≤ length t
  run_within l = omega (arith, r.ends, span_le (name_byte fold) (drop word.at t), length-drop word.at t)

  -- its bytes
  pub run_bytes : take (word.end - word.at) (drop word.at t) ≡ name_run fold t word.at
  run_bytes =
      let n : word.end - word.at ≡ span (name_byte fold) (drop word.at t) = omega (arith, r.ends) in
      ap (λ (k : ℕ). take k (drop word.at t)) n

  -- 1 to 32 bytes are a name
  pub run_named : word.at < word.end → word.end - word.at ≤ name_bytes → is_name fold (name_run fold t word.at) ≡ true
  run_named l m = sym (name_some fold t word.at word.end l r.ends) ∙ le-leb (word.end - word.at) name_bytes m

  pub bytes_named : word.at < word.end → word.end - word.at ≤ name_bytes → is_name fold (take (word.end - word.at) (drop word.at t)) ≡ true
  bytes_named l m = ap (is_name fold) run_bytes ∙ run_named l m

  -- no bytes, and more of them, are none
  pub run_empty : word.end ≤ word.at → is_name fold (name_run fold t word.at) ≡ false
  run_empty l = sym (name_none fold t word.at word.end l r.ends)

  pub run_long : word.at < word.end → name_bytes < word.end - word.at → is_name fold (name_run fold t word.at) ≡ false
  run_long l m = sym (name_some fold t word.at word.end l r.ends) ∙ lt-leb (word.end - word.at) name_bytes m

-- what proves that a word is a name
pub ruleset named = (run_within, run_bytes, run_named, bytes_named, run_empty, run_long)
