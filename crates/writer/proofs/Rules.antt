-- A rule and the whole text of lent tables, put into an area part by part.
-- Assumes nothing.
use mathlib.Core.Path.{◌≡◌, refl, sym}
use mathlib.Core.List.{List, [], ◌∷◌, ◌++◌, append-nil}
use Prim.Native.Nat.{ℕ, ◌+◌, ◌<◌, ◌≤◌}
use lib.ListN.{length, get_or}
use Rattle.limits.specs.Book.{names}
use Rattle.sets.specs.Set.{members}
use Rattle.areas.specs.Area.{begun}
use Rattle.grammar.specs.Bytes.{Bytes, colon, space, line_end}
use Rattle.grammar.specs.Grammar.{mark}
use Rattle.tables.specs.Areas.{RuleTables, names_in, rule_at}
use Rattle.tables.specs.Writing.{rule_text}
use Rattle.copying.specs.declared.text.Text.{Text}
use Rattle.copying.specs.Text.{Room, Puts}
use Rattle.copying.proofs.Texts.{Left, left_start, left_end, left_room, part_room, left_on, front_room, front_begun}
use Rattle.tablecheck.specs.Lent.{Names}
use Rattle.tablecheck.specs.declared.Tables.{Tables}
use Rattle.writer.specs.Spelt.{name_of, rest, line, lines, text_of}
use Rattle.writer.proofs.Lines.{rest_on, body_text, line_is, body_bare, body_full, written_is, lines_from, lines_on}

-- rule j, put from text x on: its head, a colon, its first name and the rest
module _ (t : Tables) (j : ℕ) (x : Text) (room : Room x (line t j)) {head : ℕ} (s : head ≡ get_or t.rules.tables.heads j 0)
    {name : Bytes} (f : name ≡ name_of t.names head) where
  -- there is room for the head
  pub head_room : Room x name
  head_room = part_room room (left_start x (line t j)) _ _ (line_is t j head _ s refl) f

  -- the head is put, and then the colon
  module _ {y : Text} (u : Puts x name y) where
    headed : (xs : List ℕ) → xs ≡ members names (rule_at t.rules.tables j).body 0 → Left x (line t j) (colon ∷ body_text t.names xs) y
    headed xs p = left_on (left_start x (line t j)) (line_is t j head xs s p) f u

    pub colon_room : Room y (colon ∷ [])
    colon_room = part_room room (headed _ refl) (colon ∷ []) _ refl refl

    module _ {z : Text} (v : Puts y (colon ∷ []) z) (xs : List ℕ) (p : xs ≡ members names (rule_at t.rules.tables j).body 0) where
      parted : Left x (line t j) (body_text t.names xs) z
      parted = left_on {first = colon ∷ []} (headed xs p) refl refl v

      -- an empty body
      pub bare_done : xs ≡ [] → Puts x (line t j) z
      bare_done e = left_end parted (body_bare t.names xs e)

      -- one whose first name is a
      module _ (a : ℕ) (more : List ℕ) (e : xs ≡ a ∷ more) {first : Bytes} (g : first ≡ name_of t.names a) where
        pub first_room : Room z first
        first_room = part_room room parted _ _ (body_full t.names xs more a e) g

        -- which is put, and then the rest
        module _ {m : Text} (w : Puts z first m) where
          named : Left x (line t j) (rest t.names more) m
          named = left_on parted (body_full t.names xs more a e) g w

          pub names_room : Room m (rest t.names more)
          names_room = left_room room named

          pub full_done : {o : Text} → Puts m (rest t.names more) o → Puts x (line t j) o
          full_done q = left_end (left_on {more = []} named (sym (append-nil _)) refl q) refl

-- what is found of putting a rule without further words
pub ruleset rule_steps = (head_room, colon_room, bare_done)

-- the names xs, the first of them a, put after others from text x on: its space is put
pub spaced : (t : Names) (xs more : List ℕ) (a : ℕ) {x y z : Text} {whole : Bytes} → Left x whole (rest t xs) y → xs ≡ a ∷ more
    → Puts y (space ∷ []) z → Left x whole (name_of t a ++ rest t more) z
spaced t xs more a s e u = left_on {first = space ∷ []} s (rest_on _ _ _ _ e) refl u

-- the rules from j on, put after others from text x on: rule j is put
pub ruled : (ns : List Bytes) (tables : RuleTables) (m j : ℕ) {x y z : Text} {whole : Bytes} → Left x whole (lines_from ns tables m j) y → j < m
    → Puts y (rule_text ns (rule_at tables j)) z → Left x whole (line_end ∷ lines_from ns tables m (j + 1)) z
ruled ns tables m j s l u = left_on s (lines_on _ _ _ _ l) refl u

-- the whole text, put from text x on, at the front of an area: the mark, then the rules
module _ (t : Tables) (x : Text) (old : Bytes) (front : x.end ≡ 0) (empty : x.area.now ≡ old) (l : length (text_of t) ≤ length old) where
  room : Room x (text_of t)
  room = front_room x old front empty (text_of t) l

  text_is : text_of t ≡ mark ++ lines t
  text_is = written_is (names_in t.names.area t.names.count) t.rules.tables t.rules.count

  pub mark_room : Room x mark
  mark_room = part_room room (left_start x (text_of t)) mark (lines t) text_is refl

  module _ {y : Text} (u : Puts x mark y) where
    marked : Left x (text_of t) (lines t) y
    marked = left_on (left_start x (text_of t)) text_is refl u

    pub lines_room : Room y (lines t)
    lines_room = left_room room marked

    -- the area begins with the text
    pub text_done : {z : Text} → Puts y (lines t) z → z.area.now ≡ begun (text_of t) old
    text_done v = front_begun x old front empty (left_end (left_on {more = []} marked (sym (append-nil (lines t))) refl v) refl)
