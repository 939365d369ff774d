-- The texts at a limit, computed through the solver's call.
-- Assumes nothing.
use mathlib.Core.Path.{◌≡◌, refl, ap, ◌∙◌}
use mathlib.Core.Bool.{true}
use mathlib.Core.List.{◌∷◌, map}
use Prim.Native.Nat.{ℕ}
use Rattle.limits.specs.Book.{folds}
use Rattle.limits.specs.Cause.{solve_causes}
use Rattle.limits.proofs.Causes.{without, inside}
use Rattle.sets.specs.Set.{pick, count}
use Rattle.program.specs.Standard.{ways, several, helper}
use Rattle.grammar.specs.Bytes.{Bytes, blank, small, our_letters, name_byte, all_of}
use Rattle.grammar.specs.Letters.{our_table}
use Rattle.grammar.specs.Lines.{span, grown, lines, goes_on, words_of, is_name, all_names, starts, barred, byte_fault, word_fault, words_fault, from_body}
use Rattle.grammar.specs.Lines.{from_colon, from_head, form_of}
use Rattle.tables.specs.Numbering.{same_bytes, place, meet, meet_all, standing, names_of, places, numbered, program_of}
use Rattle.tables.specs.Reading.{line_cause, taken, read_lines, book_of}
use Rattle.solving.specs.Solve.{SolveAnswer, SolveOutcome, answer_of, solve_read, solve_text, solve_call}
use Rattle.known.specs.Test.{old_areas}
use Rattle.known.specs.Edges.{Edge, rule_times, names_on, edges}
use Rattle.known.proofs.Old.{old_long}
use Rattle.known.proofs.Plain.{solves_unjudged}

-- the number and the line that the solver answers
abbrev numbered_as : SolveAnswer → ℕ × ℕ
numbered_as a = (a.number, a.line)

-- computed, with nothing judged but text and folds; held names, rounds, c and h are not computed
computed : map (λ (x : Edge). numbered_as (solve_text our_letters x.text folds old_areas).answer) edges ≡ map (λ (x : Edge). (x.number, x.line)) edges
unfolding pick count ways several helper blank small our_letters name_byte all_of span grown lines goes_on words_of is_name all_names starts barred byte_fault word_fault words_fault from_body from_colon from_head form_of same_bytes place meet meet_all standing names_of places numbered program_of line_cause taken read_lines book_of answer_of solve_read solve_text rule_times names_on
computed = refl

-- they get these
pub edges_agree : map (λ (x : Edge). numbered_as (solve_call our_table x.text folds old_areas).answer) edges ≡ map (λ (x : Edge). (x.number, x.line)) edges
edges_agree =
    ap (λ (solves : Bytes → ℕ → SolveOutcome). map (λ (x : Edge). numbered_as (solves x.text folds).answer) edges) (solves_unjudged old_areas old_long)
    ∙ computed

-- each number of the solver stands among them, but for 1, 9, 20 and 21, which no text gets: so none is listed that it never gives
pub edges_all : inside solve_causes (1 ∷ 9 ∷ 20 ∷ 21 ∷ map (λ (x : Edge). x.number) edges) ≡ true
unfolding inside without
edges_all = refl
