-- The lent areas as the definitions have them, and what the call answers.
-- Assumes nothing.
use Rattle.std.specs.Prelude.{ℕ, List, Result, Ok, Err}
use Rattle.std.specs.Borrow.{MutBor}
use Rattle.limits.specs.Book.{row_area}
use Rattle.limits.specs.Refusal.{number_of}
use Rattle.limits.specs.declared.Refused.{Refused}
use Rattle.areas.specs.Area.{Clear}
use Rattle.solving.specs.Solve.{SolveAreas, SolveAnswer, refusal_answer}
use Rattle.solver.specs.declared.Areas.{Areas}
use Rattle.solver.specs.declared.Solved.{Solved}

-- the eight
abbrev pub lent : Areas → SolveAreas
lent x =
    record {
      tables = record { spellings = x.spellings.now; heads = x.heads.now; bodies = x.bodies.now };
      all = x.all.now;
      any = x.any.now;
      spare = x.spare.now;
      model = x.model.now;
      listing = x.listing.now;
    }

-- what is left behind them, as an exit has it: the fields in order
abbrev pub Left : Type 0
Left =
    MutBor (List ℕ) × (MutBor (List ℕ) × (MutBor (List ℕ) × (MutBor (List ℕ) × (MutBor (List ℕ) × (MutBor (List ℕ)
    × (MutBor (List ℕ) × (MutBor (List ℕ) × Unit)))))))

abbrev pub left : Left → SolveAreas
left (spellings, (heads, (bodies, (all, (any, (spare, (model, (listing, _)))))))) =
    record {
      tables = record { spellings = spellings.now; heads = heads.now; bodies = bodies.now };
      all = all.now;
      any = any.now;
      spare = spare.now;
      model = model.now;
      listing = listing.now;
    }

-- rows that are known to be clear
abbrev pub Fresh : Areas → Type 0
Fresh x = Clear row_area x.all.now × Clear row_area x.any.now × Clear row_area x.spare.now

-- what a call answers: the counts, or the refusal
abbrev pub answer_in : Result Solved Refused → SolveAnswer
answer_in (Ok s) =
    record { number = 0; line = 0; names = s.names; atoms = s.atoms; held = s.held; rounds = s.rounds; c = s.c; h = s.h }
answer_in (Err r) = refusal_answer (number_of r.cause) r.line
