-- One round over the rule tables: whether a body lies in the set, and the heads joined one after another.
-- Assumes nothing.
use mathlib.Core.Path.{◌≡◌, refl, sym, ap, ap₂, ◌∙◌}
use mathlib.Core.Bool.{Bool, true, false, ◌||◌, or_assoc, or-false}
use mathlib.Core.List.{List}
use Prim.Native.Nat.{ℕ, ◌+◌, ◌*◌}
use native.Mathlib.Numerals.{add-one}
use native.Mathlib.Omega.{arith}
use lib.ListN.{length, get_or, replicate}
use Rattle.limits.specs.Book.{word_bits, row_words, body_words}
use Rattle.sets.specs.Set.{Set, Same, exists, within, only, union, image}
use Rattle.sets.proofs.Tests.{within_same}
use Rattle.sets.proofs.Counting.{image_out, image_in}
use Rattle.areas.specs.Area.{part}
use Rattle.areas.proofs.Parts.{part_whole}
use Rattle.words.specs.Row.{Words, row, pack}
use Rattle.words.proofs.Rows.{row_part, row_pack, row_zero, length_pack, pack_same, pack_row}
use Rattle.tables.specs.Areas.{RuleTables}
use Rattle.systems.specs.Rows.{row_in}
use Rattle.plain.specs.Step.{heads_from}

-- the first words of a row have its members below their end
front : (v : List ℕ) → length v ≡ row_words → Same (body_words * word_bits) (row (part 0 body_words v)) (row v)
front v n a l =
    row_part 0 body_words v a l ∙ sym (row_part 0 row_words v a (omega arith)) ∙ ap (λ (ws : List ℕ). row ws a) (part_whole row_words v n)

-- rule j's body against the first words of v
pub body_test : (bodies v body : List ℕ) (j : ℕ) (r : Bool) → length v ≡ row_words → body ≡ part (j * body_words) body_words bodies
    → length body ≡ body_words → r ≡ within (length body * word_bits) (row body) (row (part 0 body_words v))
    → r ≡ within (body_words * word_bits) (row_in body_words bodies j) (row v)
body_test bodies v body j r w e n h =
    h
    ∙ ap₂ (λ (k : ℕ) (ws : List ℕ). within (k * word_bits) (row ws) (row (part 0 body_words v))) n e
    ∙ within_same (body_words * word_bits) (row_in body_words bodies j) (row_in body_words bodies j) (row (part 0 body_words v)) (row v)
    (λ a l. refl) (front v w)

-- `next` after the rules below j, in the words `new`
module _ (tables : RuleTables) (v : Set) (new : List ℕ) where
  -- what the set there is then
  abbrev with_heads : ℕ → Set
  with_heads j = union (row new) (heads_from tables j v)

  abbrev pub joined : ℕ → List ℕ
  joined j = pack row_words (with_heads j)

  -- before the first rule
  pub step_none : Words new → length new ≡ row_words → new ≡ joined 0
  unfolding heads_from image exists
  step_none k l =
      sym (pack_row new k) ∙ ap (λ (w : ℕ). pack w (row new)) l
      ∙ pack_same row_words (row new) (with_heads 0) (λ a b. sym (or-false (row new a)))

  -- r is whether rule j's body lies in v
  module _ (next : List ℕ) (j : ℕ) (e : next ≡ joined j) (r : Bool)
      (g : r ≡ within (body_words * word_bits) (row_in body_words tables.bodies j) v) where
    abbrev head : ℕ → ℕ
    head i = get_or tables.heads i 0

    abbrev lies : Set
    lies i = within (body_words * word_bits) (row_in body_words tables.bodies i) v

    -- where it does not, its head does not join
    pub step_out : r ≡ false → next ≡ joined (j + 1)
    unfolding heads_from
    step_out h =
        e ∙ pack_same row_words (with_heads j) (with_heads (j + 1))
        (λ a b. ap (λ (t : Bool). row new a || t) (sym (ap (λ (k : ℕ). image k head lies a) (add-one j) ∙ image_out j head lies a (sym g ∙ h))))

    -- where it does, the head joins
    pub step_in : (more : List ℕ) (b : ℕ) → r ≡ true → b ≡ get_or tables.heads j 0 → more ≡ pack (length next) (union (row next) (only b))
        → more ≡ joined (j + 1)
    unfolding heads_from
    step_in more b h q n =
        n
        ∙ ap₂ (λ (k x : ℕ). pack k (union (row next) (only x))) (ap length e ∙ length_pack row_words (with_heads j)) q
        ∙ pack_same row_words (union (row next) (only (head j))) (with_heads (j + 1))
        (λ a l.
        ap (λ (t : Bool). t || only (head j) a) (ap (λ (ws : List ℕ). row ws a) e ∙ row_pack row_words (with_heads j) a l)
        ∙ or_assoc (row new a) (image j head lies a) (only (head j) a)
        ∙ ap (λ (t : Bool). row new a || t) (sym (ap (λ (k : ℕ). image k head lies a) (add-one j) ∙ image_in j head lies a (sym g ∙ h))))

-- heads that join no atom are the heads alone
pub joined_alone : (f : Set) → pack row_words (union (row (replicate row_words 0)) f) ≡ pack row_words f
joined_alone f =
    pack_same row_words (union (row (replicate row_words 0)) f) f (λ a l. ap (λ (t : Bool). t || f a) (row_zero row_words a))
