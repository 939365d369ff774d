-- The claims of specs/Claims.antt.
-- Assumes nothing.
use mathlib.Core.Path.{◌≡◌}
use mathlib.Core.Bool.{true}
use Prim.Native.Nat.{ℕ}
use Rattle.grammar.specs.Bytes.{Folding}
use Rattle.tables.specs.Areas.{Areas}
use Rattle.tables.specs.Writing.{Readable, well_formed}
use Rattle.tables.proofs.Theorems.{judged}
use Rattle.roundtrip.specs.Claims.{written_text, ReadsTo, Lent, RoundTrip}
use Rattle.roundtrip.proofs.Again.{again, readable_formed}
use Rattle.roundtrip.proofs.Back.{written_clauses, count, size, book, tables}

module _ (fold : ℕ → ℕ) (folding : Folding fold) where
  -- the text written from tables in order reads back to them
  reads_back : (o : Areas) (n m : ℕ) → Lent o → well_formed fold o n m ≡ true → ReadsTo fold (written_text o n m) o n m
  reads_back o n m lent well =
      record {
        cs = written_clauses fold folding o n m lent well;
        reads = ((judged fold folding).accepted (written_text o n m) (written_clauses fold folding o n m lent well)).1 (book fold folding o n m lent well);
        count = count fold folding o n m lent well;
        size = size fold folding o n m lent well;
        tables = tables fold folding o n m lent well;
      }

  -- so some book reads to them
  readable : (o : Areas) (n m : ℕ) → Lent o → well_formed fold o n m ≡ true → Readable fold o n m
  readable o n m lent well =
      let r : ReadsTo fold (written_text o n m) o n m = reads_back o n m lent well in
      record {
        text = written_text o n m;
        cs = r.cs;
        book = ((judged fold folding).accepted (written_text o n m) r.cs).0 r.reads;
        count = r.count;
        size = r.size;
        tables = r.tables;
      }

  -- tables are in order exactly where some book reads to them; their text reads back to them; a text that is read is written no longer
  pub round_trip : RoundTrip fold
  round_trip =
      record {
        exact = λ o n m lent. (readable o n m lent, readable_formed fold folding o n m);
        back = reads_back;
        again = again fold folding (judged fold folding);
      }
