-- `Members::next` gives the atoms of its row. Assumes nothing.
use Rattle.std.proofs.Common.{◌≡◌, ap, length, None, arith, rules}
use Rattle.rows.proofs.Atoms.{atoms_end, atoms_next}
use Rattle.rows.proofs.members.MembersIterator.next.Goals as goal

pub returns-in_err-a-clause-steps : goal.returns-in_err-a-clause-steps
returns-in_err-a-clause-steps c =
    let it = c.args.self.now in
    let none = atoms_end it.words.now it.from it.within.0 c.in_err-a.ensures in
    let r : c.from_residual.result ≡ None = search rules in
    rw r (none, none)

pub returns-clause-steps : goal.returns-clause-steps
returns-clause-steps c =
    let it = c.args.self.now in
    atoms_next it.words.now it.from it.within.0 c.in_ok-a.a c.in_ok-a.ensures.0 c.in_ok-a.ensures.1

pub returns-clause-goes : goal.returns-clause-goes
returns-clause-goes c =
    let it = c.args.self.now in
    let first = atoms_next it.words.now it.from it.within.0 c.in_ok-a.a c.in_ok-a.ensures.0 c.in_ok-a.ensures.1 in
    record { on = λ _. (tt, tt, omega (arith, ap length first)); keeps = tt; rests = λ _. tt }
