-- `ways::helpers` meets its contract: each head of the front is a name, and the chain counts the front. Assumes nothing.
use Rattle.std.proofs.iter.runs.Made.{chains}
use borrow.Author.Rules.{rules}
use native.Mathlib.Omega.{arith}
use mathlib.Core.Path.{◌≡◌, ◌∙◌, subst}
use Prim.Native.Nat.{ℕ, ◌<◌}
use lib.ListN.{take}
use Rattle.std.specs.List.{count_by}
use Rattle.std.proofs.lemmas.Iterator.{YieldsList-from_slice}
use Rattle.std.proofs.lemmas.Iterator.Adapters.{serves_from_places}
use Rattle.limits.specs.Book.{names, body_words}
use Rattle.areas.specs.Area.{part}
use Rattle.words.specs.Row.{row}
use Rattle.ways.proofs.Ranges.{count_front, front_item}
use Rattle.ways.proofs.helpers.Goals as goal

pub count-requires-clause-can : goal.count-requires-clause-can
count-requires-clause-can c = (
  _,
  _,
  serves_from_places (YieldsList-from_slice (take c.args.m c.args.heads.now) (search rules))
      (λ x q k. search rules)
      (λ x k l e.
      let item = front_item _ _ _ _ (omega arith) l e in
      let small : x.now < names = subst (λ (a : ℕ). a < names) item.1 (c.requires.3 k item.0) in
      search rules),
)

pub returns : goal.returns
returns c =
    let e : c.count.result ≡ count_by (row (part 0 body_words c.args.several.now)) (take c.args.m c.args.heads.now) = search (rules, chains) in
    e ∙ count_front c.args.m c.args.heads.now (row (part 0 body_words c.args.several.now)) (omega arith)
