use Rattle.std.proofs.Common.{rules}
use Rattle.rows.proofs.Writing.{insert_bit}
use Rattle.rows.proofs.row.insert.Goals as goal

pub returns : goal.returns
returns c = insert_bit c.args.words.now c.args.a _ _ (search rules) c.requires c.word_of.ensures c.bit_of.ensures
