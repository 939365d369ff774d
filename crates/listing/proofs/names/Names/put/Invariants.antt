-- The lines of the names past those that the loop has come to are left to put. Assumes nothing.
use lib.ListN.{length, drop}
use Rattle.grammar.specs.Grammar.{joined}
use Rattle.solving.specs.Listing.{held_names}
use Rattle.copying.proofs.Texts.{Left}
use Rattle.listing.specs.Names.{spelt, held}
use Rattle.listing.proofs.names.Names.put.Given as goal

abbrev pub invariant-loop-a : goal.invariant-loop-a
invariant-loop-a l =
    Left l.initial.text (joined (held_names (spelt l.self) (held l.self)))
    (joined (drop (length l.yielded) (held_names (spelt l.self) (held l.self)))) l.text
