use borrow.Author.Rules.{rules}
use mathlib.Core.Path.{◌≡◌, ◌∙◌}
use mathlib.Core.List.{List}
use Prim.Native.Nat.{ℕ, ◌<◌}
use native.Mathlib.Omega.{arith}
use lib.ListN.{get_or}
use Rattle.std.proofs.lemmas.List.{get_or-take, length-take-le}
use Rattle.limits.specs.Book.{body_words}
use Rattle.ways.proofs.Names.{met_none, several_none, once_more, twice_more}
use Rattle.ways.proofs.several.Goals as goal

pub loop-head-init : goal.loop-head-init
loop-head-init c = (met_none _, several_none _)

pub loop-head-preserved : goal.loop-head-preserved
loop-head-preserved c =
    let heads : List ℕ = c.args.heads.now in
    let l : c.loop-head.head-index < c.args.m = omega (arith, length-take-le c.args.m heads) in
    let small = c.requires.2 _ l in
    let same : c.from.result ≡ get_or heads c.loop-head.head-index 0 = search rules ∙ get_or-take c.args.m heads c.loop-head.head-index 0 l in
    let inv = c.loop-head.invariant in (
      (rw same at c.note.ensures.once) ∙ once_more _ _ body_words _ _ inv.0 inv.1 small,
      (rw same at c.note.ensures.twice) ∙ twice_more _ _ body_words _ _ inv.0 inv.1 small,
    )
