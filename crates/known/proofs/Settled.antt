-- The known books answer as document 01 says: one computed result.
-- Assumes nothing.
use mathlib.Core.Path.{◌≡◌, refl}
use mathlib.Core.Bool.{true}
use Rattle.sets.specs.Set.{pick, every, exists, count, within, meets, same, image, members}
use Rattle.sets.specs.Steps.{after, rounds_in, rounds, reached}
use Rattle.words.specs.Row.{bit, row, binary, pack}
use Rattle.program.specs.Program.{consequence, plain_rounds, plain_held}
use Rattle.program.specs.System.{any_head, all_step, round, unfold_once, rows_after, rounds_of, held_by, c, h}
use Rattle.program.specs.Standard.{ways, several, helper, home, has_body, counted_atoms, all_row, any_row, start_set}
use Rattle.grammar.specs.Bytes.{blank, small, our_letters, name_byte, all_of}
use Rattle.grammar.specs.Grammar.{joined}
use Rattle.grammar.specs.Lines.{span, grown, lines, goes_on, words_of, is_name, all_names, starts, from_body, from_colon, from_head, form_of}
use Rattle.tables.specs.Numbering.{same_bytes, place, meet, meet_all, standing, names_of, places, numbered, program_of}
use Rattle.tables.specs.Reading.{line_cause, taken, read_lines, book_of, reading}
use Rattle.tables.specs.Areas.{padded, name_rows, head_rows, body_rows, filled_with, tables_of, refusal, outcome, nonzero, name_at, look_up, rule_at, rules_from}
use Rattle.areas.specs.Area.{begun, filled}
use Rattle.systems.specs.Rows.{packed}
use Rattle.systems.specs.Rounds.{with_model}
use Rattle.solving.specs.Plain.{plain_of}
use Rattle.solving.specs.Listing.{figures, decimal, head_line, held_names, listing_lines, listed}
use Rattle.solving.specs.Solve.{answer_of, solved_areas, solve_read, solve_text}
use Rattle.known.specs.Test.{old_areas, same_names, held_spelt, listing_in, head_then, holds, plain_holds, says, says_all, answers, answers_each, answers_all, answers_plain, agrees, all_agree}
use Rattle.known.specs.Table.{books, all_settled}
use Rattle.known.proofs.Plain.{unjudged_calls, all_agree_lem}
use Rattle.known.proofs.Old.{old_long}

-- computed, with nothing judged but the text
computed : all_agree (unjudged_calls old_areas) old_areas.model books ≡ true
unfolding pick every exists count within meets same image members after rounds_in rounds reached bit row binary pack consequence plain_rounds plain_held any_head all_step round unfold_once rows_after rounds_of held_by c h ways several helper home has_body counted_atoms all_row any_row start_set blank small our_letters name_byte all_of joined span grown lines goes_on words_of is_name all_names starts from_body from_colon from_head form_of same_bytes place meet meet_all standing names_of places numbered program_of line_cause taken read_lines book_of reading filled padded name_rows head_rows body_rows filled_with tables_of refusal outcome nonzero name_at look_up rule_at rules_from begun packed with_model plain_of figures decimal head_line held_names listing_lines listed answer_of solved_areas solve_read solve_text same_names held_spelt listing_in head_then holds plain_holds says says_all answers answers_each answers_all answers_plain agrees all_agree
computed = refl

-- and so with its call
pub known_books : all_settled ≡ true
unfolding all_settled
known_books = all_agree_lem old_areas old_long books computed
