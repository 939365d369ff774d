-- `reader::begins` meets its contract. Assumes nothing.
use mathlib.Core.Path.{◌∙◌}
use Rattle.reader.proofs.Marking.{starts_marked}
use Rattle.reader.proofs.begins.Goals as goal

pub returns : goal.returns
returns c = c.starts_with.ensures.value ∙ starts_marked c.args.text.now
