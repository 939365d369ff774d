use Rattle.listing.proofs.Heads.{puts_head}
use Rattle.listing.proofs.head.put_head.Goals as goal

pub returns : goal.returns
returns c =
    puts_head c.args.n c.args.held c.args.folds c.args.rounds c.put_field.ensures c.put_field-2.ensures
    c.put_field-3.ensures c.put_field-4.ensures c.put_byte.ensures
