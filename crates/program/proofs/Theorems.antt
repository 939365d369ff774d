-- The theorems on programs and and-or systems, each one claim of specs/Claims.antt.
-- Assumes nothing.
use mathlib.Core.Path.{ap}
use Prim.Native.Nat.{ℕ}
use Rattle.sets.specs.Set.{Set}
use Rattle.program.specs.Program.{Program, WellFormed}
use Rattle.program.specs.System.{System, Regular}
use Rattle.program.specs.Standard.{standard}
use Rattle.program.specs.Claims.{PlainRoute, Composes, AfterFolds, Kinds, LeastModel}
use Rattle.program.proofs.Plain.{plain_model, plain_within, plain_bound}
use Rattle.program.proofs.Folds.{fold_composes, folds_compose}
use Rattle.program.proofs.Systems.{held_alike, start_kept_lem, rounds_are_first, held_least, rounds_within, rounds_enough}
use Rattle.program.proofs.Atoms.{undefined_name, single_name, several_name, helper_atom, c_rules, h_names, regular}
use Rattle.program.proofs.Models.{held_exactly, held_plain}

pub plain_route : (p : Program) → WellFormed p → PlainRoute p
plain_route p formed = record { model = plain_model p formed; least = plain_within p; bound = plain_bound p }

pub composes : (m : ℕ) (rows : ℕ → Set) → Composes m rows
composes m rows = record {
  once = fold_composes m rows;
  times = λ k v i. ap (λ (w : Set). w i) (folds_compose k m rows v);
}

pub after_folds : (s : System) → Regular s → (k : ℕ) → AfterFolds s k
after_folds s reg k = record {
  held = held_alike s reg k;
  start = start_kept_lem s reg k;
  first = rounds_are_first s reg k;
  least = held_least s reg k;
  bound = rounds_within s reg k;
  enough = rounds_enough s reg k;
}

pub kinds : (p : Program) → WellFormed p → Kinds p
kinds p formed = record {
  undefined = undefined_name p formed;
  single = single_name p formed;
  several_rules = several_name p formed;
  helpers = helper_atom p formed;
  c_rules = c_rules p formed;
  h_names = h_names p formed;
}

pub standard_regular : (p : Program) → WellFormed p → Regular (standard p)
standard_regular = regular

pub least_model : (p : Program) → WellFormed p → (k : ℕ) → LeastModel p k
least_model p formed k = record {
  held = held_exactly p formed k;
  plain = held_plain p formed k;
  rounds = after_folds (standard p) (regular p formed) k;
}
