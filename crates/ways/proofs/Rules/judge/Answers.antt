-- `ways::Rules::judge` meets its contract: tables that pass each test are in order. Assumes nothing.
use borrow.Author.Rules.{rules}
use native.Mathlib.Omega.{arith}
use Rattle.ways.proofs.Rules.judge.Goals as goal

pub of-requires : goal.of-requires
of-requires c = record { long = (omega arith, omega arith); formed = search rules }
