use mathlib.Core.Path.{ap, ◌∙◌}
use native.Mathlib.Omega.{arith}
use lib.ListN.{length}
use Rattle.copying.proofs.Texts.{puts_as}
use Rattle.listing.proofs.Numbers.{written_decimal}
use Rattle.listing.proofs.number.put_number.Goals as goal

pub put-requires : goal.put-requires
put-requires c = omega (arith, c.requires, ap length (c.as_bytes.ensures.value ∙ c.format.ensures.text ∙ written_decimal c.args.n (omega arith)))

pub returns : goal.returns
returns c = puts_as (c.as_bytes.ensures.value ∙ c.format.ensures.text ∙ written_decimal c.args.n (omega arith)) c.put.ensures
