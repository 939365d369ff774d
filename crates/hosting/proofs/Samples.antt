-- Sample texts with what the lister prints of them, computed: the listing and the refusal that document 01 prints, and a few more.
-- Assumes nothing.
use mathlib.Core.Path.{◌≡◌, refl}
use mathlib.Core.List.{List, [], ◌∷◌, map}
use Prim.Native.String.{String}
use Rattle.sets.specs.Set.{pick, every, exists, count, within, meets, same, image, members}
use Rattle.sets.specs.Steps.{after, rounds_in, rounds, reached}
use Rattle.program.specs.System.{any_head, all_step, round, unfold_once, rows_after, rounds_of, held_by}
use Rattle.program.specs.Standard.{ways, several, helper, home, has_body, counted_atoms, all_row, any_row, start_set}
use Rattle.grammar.specs.Bytes.{bytes, blank, small, our_letters, name_byte, all_of}
use Rattle.grammar.specs.Grammar.{joined}
use Rattle.grammar.specs.Lines.{span, grown, lines, goes_on, words_of, is_name, all_names, starts, barred, byte_fault, word_fault, words_fault, from_body}
use Rattle.grammar.specs.Lines.{from_colon, from_head, form_of}
use Rattle.tables.specs.Numbering.{same_bytes, place, meet, meet_all, standing, names_of, places, numbered, program_of}
use Rattle.tables.specs.Reading.{line_cause, taken, read_lines, book_of, reading}
use Rattle.solving.specs.Listing.{figures, decimal, head_line, held_names, listing_lines}
use Rattle.hosting.specs.Print.{refusal_line, printed_lines, printed}

-- a sample: a text, and what is printed of it
abbrev Sample : Type 0
Sample = String × String

abbrev table : List Sample
table =
    ("DPB 0001\np:q\nq:p r\nq:s\ns:\n", "DPL 0001 names=4 held=3 folds=8 rounds=4\np\nq\ns\n")
    ∷ ("DPB 0001\np:q\nq:p r\nq:s\ns:", "DPL 0001 refused=4 line=0\n")
    ∷ ("DPB 0001\r\np:q\r\n", "DPL 0001 refused=3 line=0\n")
    ∷ ("DPB 0001\np:q\nq\n", "DPL 0001 refused=5 line=3\n")
    ∷ ("DPB 0001\np:q\nq:abcdefghijklmnopqrstuvwxyz-012345 abcdefghijklmnopqrstuvwxyz-01234\n", "DPL 0001 refused=13 line=3\n")
    ∷ ("DPB 0001\np:q\r\nq:p\r\n", "DPL 0001 refused=14 line=2\n")
    ∷ ("DPB 0001\n", "DPL 0001 names=0 held=0 folds=8 rounds=1\n")
    ∷ []

-- they are printed so
pub prints_agree : map (λ (x : Sample). printed our_letters (bytes x.0)) table ≡ map (λ (x : Sample). bytes x.1) table
unfolding pick every exists count within meets same image members after rounds_in rounds reached any_head all_step round unfold_once rows_after rounds_of held_by ways several helper home has_body counted_atoms all_row any_row start_set blank small our_letters name_byte all_of joined span grown lines goes_on words_of is_name all_names starts barred byte_fault word_fault words_fault from_body from_colon from_head form_of same_bytes place meet meet_all standing names_of places numbered program_of line_cause taken read_lines book_of reading figures decimal head_line held_names listing_lines refusal_line printed_lines printed
prints_agree = refl
