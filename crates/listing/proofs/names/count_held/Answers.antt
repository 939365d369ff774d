use native.Mathlib.Omega.{arith}
use Rattle.listing.proofs.Held.{count_small, count_held}
use Rattle.listing.proofs.names.count_held.Goals as goal

pub overflow_add-result : goal.overflow_add-result
overflow_add-result c =
    record {
      fits = omega (
        arith,
        count_small c.args.model.now c.args.n _ _ c.word_of-k.ensures c.bit_of.ensures c.requires.0 c.requires.1 _ c.count-whole.ensures,
      );
    }

pub returns : goal.returns
returns c =
    count_held c.args.model.now c.args.n _ _ c.word_of-k.ensures c.bit_of.ensures c.requires.0 c.requires.1 _ c.count-whole.ensures
