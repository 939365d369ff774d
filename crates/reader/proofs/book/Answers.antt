-- `reader::book` meets its contract. Assumes nothing.
use Rattle.reader.proofs.Calling.{booked_none}
use Rattle.reader.proofs.book.Goals as goal

pub lines-requires-clause-booked : goal.lines-requires-clause-booked
lines-requires-clause-booked c =
    let l = c.requires.long in
    let e = c.new-lexicon.ensures in
    rw (e.area.0, e.area.1, e.index.0, e.index.1) (booked_none _ _ _ l.0 l.1 l.2)
