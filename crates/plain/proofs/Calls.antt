-- The tests of the call, and its outcomes.
-- Assumes nothing.
use mathlib.Core.Path.{◌≡◌, sym, ap, ◌∙◌}
use mathlib.Core.Bool.{true}
use mathlib.Core.Logic.{⊎_elim}
use mathlib.Core.List.{List}
use Prim.Native.Nat.{ℕ, ◌<◌, ◌≤◌}
use lib.Dec.{ltb}
use lib.ListN.{length}
use borrow.Author.Tests.{lt-ltb, le-ltb}
use Rattle.limits.specs.declared.Refusal.{Refusal}
use Rattle.limits.specs.Refusal.{number_of}
use Rattle.limits.specs.Book.{row_words}
use Rattle.sets.specs.Set.{count}
use Rattle.sets.proofs.Logic.{or_left, or_right}
use Rattle.program.specs.Program.{plain_held, plain_rounds}
use Rattle.tables.specs.Areas.{RuleTables, Counts, program_in}
use Rattle.systems.specs.Rows.{below}
use Rattle.systems.specs.Rounds.{with_model}
use Rattle.systems.specs.Standardise.{short_rules, formed_tables}
use Rattle.systems.proofs.Standard.{long_rules}
use Rattle.solving.specs.Plain.{short_plain, plain_refusal, plain_of, plain_call}
use Rattle.solving.specs.PlainClaims.{PlainLong}
use Rattle.ways.specs.Tables.{tables_cause}
use Rattle.ways.proofs.Judged.{refused_tables}
use Rattle.solving.proofs.Plain.{plain_short, plain_ill, plain_good}

module _ (tables : RuleTables) (counts : Counts) (model : List ℕ) where
  -- a model area too short: 1
  pub call_short : length model < row_words → record { number = 1; held = 0; rounds = 0; model = model } ≡ plain_call tables counts model
  unfolding short_plain
  call_short l = sym (plain_short tables counts model (or_right (short_rules tables) (lt-ltb (length model) row_words l)))

  -- a refusal of the tables: 1 or 10
  pub call_refused : row_words ≤ length model → (cause : Refusal) → number_of cause ≡ tables_cause (record { tables = tables; counts = counts })
      → record { number = number_of cause; held = 0; rounds = 0; model = model } ≡ plain_call tables counts model
  unfolding short_plain
  call_refused l cause e =
      ⊎_elim
      (λ q. ap (λ (k : ℕ). plain_refusal k model) q.1 ∙ sym (plain_short tables counts model (or_left (ltb (length model) row_words) q.0)))
      (λ q. ap (λ (k : ℕ). plain_refusal k model) q.2 ∙ sym (plain_ill tables counts model (rw (q.0, le-ltb (length model) row_words l)) q.1))
      (refused_tables (record { tables = tables; counts = counts }) cause e)

  -- the rounds: 0
  pub call_done : PlainLong tables model → formed_tables tables counts ≡ true → (k t : ℕ) (out : List ℕ)
      → k ≡ count counts.names (plain_held (program_in tables counts)) → t ≡ plain_rounds (program_in tables counts)
      → out ≡ with_model (below counts.names (plain_held (program_in tables counts))) model
      → record { number = 0; held = k; rounds = t; model = out } ≡ plain_call tables counts model
  unfolding short_plain plain_of
  call_done l g k t out u v w =
      (rw (u, v, w)) ∙ sym (plain_good tables counts model (rw (long_rules tables l.0, le-ltb (length model) row_words l.1)) g)
