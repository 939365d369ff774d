-- `scan::cursor::Cursor::word` meets its contract. The loop's invariant: what is left to do equals what there was to do, and the hash is small.
-- Assumes nothing.
use mathlib.Core.Path.{◌≡◌}
use Prim.Native.Nat.{◌%◌, ◌<◌}
use Rattle.grammar.specs.Bytes.{name_byte, letters}
use Rattle.scan.specs.Hash.{buckets, hash_from, hash_of}
use Rattle.scan.specs.Places.{past_at, name_folded}
use Rattle.scan.proofs.Hashing.{hashes}
use Rattle.scan.proofs.cursor.Cursor.word.Given as goal

abbrev pub invariant-loop-i : goal.invariant-loop-i
invariant-loop-i l = record {
  place : l.end ≡ l.i;
  ends : past_at (name_byte (letters l.folding)) l.text l.i ≡ past_at (name_byte (letters l.folding)) l.text l.fn.self.at;
  small : l.hash < hashes;
  bucket : hash_from (l.hash % buckets) (name_folded (letters l.folding) l.text l.i) ≡ hash_of (name_folded (letters l.folding) l.text l.fn.self.at);
}
