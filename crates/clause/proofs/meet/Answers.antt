-- `clause::meet` meets its contract. Assumes nothing.
use mathlib.Core.Path.{ap₂, ◌∙◌, subst}
use Prim.Native.Nat.{ℕ, ◌<◌}
use Rattle.grammar.specs.Bytes.{Bytes}
use Rattle.tables.specs.Numbering.{place}
use Rattle.tables.specs.Areas.{names_in}
use Rattle.clause.specs.Held.{held}
use Rattle.clause.proofs.Meeting.{met_known}
use Rattle.clause.proofs.meet.Goals as goal

pub returns-in-Some-clause-met : goal.returns-in-Some-clause-met
returns-in-Some-clause-met c =
    let e = c.in-Some.ensures.known in
    let area = c.index.ensures.area in
    met_known _ (held c.args.lexicon.now) c.requires.in_order _ (subst (λ (n : ℕ). c.in-Some.known < n) area.1 e.0)
    (e.1 ∙ ap₂ (λ (s : Bytes) (n : ℕ). place (names_in s n) c.args.name.now.name) area.0 area.1)
