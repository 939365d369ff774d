use mathlib.Core.Path.{◌≡◌, refl}
use mathlib.Core.Bool.{true}
use native.Mathlib.Nat.{mod-lt}
use native.Mathlib.Omega.{arith}
use lib.ListN.{get_or, drop}
use borrow.Author.Rules.{rules}
use Rattle.grammar.specs.Bytes.{name_byte, letters}
use Rattle.grammar.specs.Lines.{span}
use Rattle.grammar.proofs.Spans.{span_stop, span_past}
use Rattle.scan.proofs.Scans.{on}
use Rattle.scan.proofs.Steps.{no_name, of_name}
use Rattle.scan.proofs.Hashing.{hash_on, hash_end}
use Rattle.scan.proofs.cursor.Cursor.word.Goals.{else-loop-i-test, then-loop-i-test+then-ends}
use Rattle.scan.proofs.cursor.Cursor.word.Goals as goal

pub loop-i-preserved : goal.loop-i-preserved
loop-i-preserved c =
    let t = c.args.text.now in
    let fold = letters c.args.folding.now in
    let i = c.loop-i.i in
    let before = c.loop-i.invariant in
    let name : name_byte fold (get_or t i 0) ≡ true = of_name fold _ _ c.fold-b.ensures (search rules) in record {
      place = search rules;
      ends = on (name_byte fold) t i _ c.loop-i-test.true name before.ends;
      small = mod-lt _ (omega arith);
      bucket = rw c.from.ensures (hash_on fold t i _ _ before.bucket _ c.loop-i-test.true c.fold-b.ensures name);
    }

-- past the text or at a byte of no name, the run is at its end
pub returns : goal.returns
returns c =
    let t = c.args.text.now in
    let fold = letters c.args.folding.now in
    let i = c.loop-i.i in
    let done : span (name_byte fold) (drop i t) ≡ 0 =
    elim c.loop-i-test.branch [
      | else-loop-i-test w ↦ span_past (name_byte fold) t i w.loop-i-test.false
      | then-loop-i-test+then-ends w ↦ span_stop (name_byte fold) t i w.loop-i-test.true (no_name fold _ _ w.fold-b.ensures (search rules))
    ] in record {
      begins = refl;
      ends = omega (arith, done);
      bucket = hash_end fold t i _ _ c.loop-i.invariant.bucket done;
    }
