use Rattle.copying.proofs.Texts.{puts_on}
use Rattle.listing.proofs.number.put_field.Goals as goal

pub returns : goal.returns
returns c = puts_on c.put.ensures c.put_number.ensures
