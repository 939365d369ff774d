-- What the first j rules have placed: the definitions of a program's rows and start set with the rule count replaced by j.
-- Document 01: "helper: row is its rule's body; if empty, itself alone and in the start set."
-- Assumes nothing.
use Rattle.std.specs.Prelude.{◌≡◌, true, not, ◌&&◌, List, ℕ, ◌*◌, ◌≤◌, eqb}
use Rattle.limits.specs.Book.{atoms, row_words, body_words}
use Rattle.sets.specs.Set.{Set, pick, exists, count, only, image, empty_set}
use Rattle.areas.specs.Area.{put, begun}
use Rattle.words.specs.Row.{pack}
use Rattle.program.specs.Program.{Program, size, head_at, body_at}
use Rattle.program.specs.Standard.{several, helper, home, has_body, all_row, any_row, start_set, standard}
use Rattle.tables.specs.Areas.{RuleTables, Counts, program_in}
use Rattle.systems.specs.Rows.{RowAreas, packed}
use Rattle.systems.specs.Rounds.{with_model}
use Rattle.systems.specs.Standardise.{formed_tables}
use Rattle.systems.specs.Claims.{StandardLong}
use Rattle.ways.specs.Ways.{several_names}

-- the "all" rows: a body where one of the first j rules has it, else the atom alone
unfoldable pub all_up_to : Program → ℕ → ℕ → Set
all_up_to p j i k = pick (image j (home p) (has_body p) i) (image j (home p) (λ l. body_at p l k) i) (only i k)

-- the "any" rows: the helpers among the first j rules
unfoldable pub any_up_to : Program → ℕ → ℕ → Set
any_up_to p j i k = exists j (λ l. several p l && (eqb (head_at p l) i && eqb (helper p l) k))

-- the start set: the homes of those of the first j rules that have no body
unfoldable pub start_up_to : Program → ℕ → Set
start_up_to p j = image j (home p) (λ l. not (has_body p l))

-- the area with f as row i
abbrev pub with_row : ℕ → Set → List ℕ → List ℕ
with_row i f area = put (i * row_words) (pack row_words f) area

-- the area with these rows for the atoms of a program
abbrev pub with_rows : Program → (ℕ → Set) → List ℕ → List ℕ
with_rows p rows area = begun (packed row_words (standard p).atoms rows) area

-- Tables in order, with the names that have several rules marked, and the rows before any rule is placed.
pub record PlacingReady (tables : RuleTables) (counts : Counts) (marked : List ℕ) (o : RowAreas) : Type 0 where
  pub formed : formed_tables tables counts ≡ true
  pub few : (standard (program_in tables counts)).atoms ≤ atoms
  pub long : StandardLong tables o
  pub marks : marked ≡ pack body_words (several_names tables.heads counts.rules)
  pub all_rows : o.all ≡ with_rows (program_in tables counts) only o.all
  pub any_rows : o.any ≡ with_rows (program_in tables counts) (λ i. empty_set) o.any
  pub start_row : o.model ≡ with_model empty_set o.model

-- All rules of a program placed: c, its rows and its start set, over what the areas had before.
pub record Filled (p : Program) (c : ℕ) (old new : RowAreas) : Type 0 where
  pub counted : c ≡ count (size p) (has_body p)
  pub all_rows : new.all ≡ with_rows p (all_row p) old.all
  pub any_rows : new.any ≡ with_rows p (any_row p) old.any
  pub start_row : new.model ≡ with_model (start_set p) old.model
