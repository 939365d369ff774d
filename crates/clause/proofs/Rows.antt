-- Areas that are kept past their sizes, and a row that one more member joins.
-- Assumes nothing.
use mathlib.Core.Path.{◌≡◌, refl, sym, ap, ◌∙◌}
use mathlib.Core.Bool.{Bool, ◌||◌}
use mathlib.Core.List.{List}
use Prim.Native.Nat.{ℕ}
use lib.ListN.{length, replicate}
use Rattle.limits.specs.Book.{body_words}
use Rattle.sets.specs.Set.{Set, empty_set, only, union}
use Rattle.words.specs.Row.{row, pack}
use Rattle.words.proofs.Rows.{length_pack, row_pack, pack_same, pack_empty}
use Rattle.clause.specs.Found.{Kept}

-- nothing changed
pub kept_same : (size : ℕ) (xs : List ℕ) → Kept size xs xs
kept_same size xs = record { as_long = refl; past = refl }

-- one change after another
pub kept_on : (size : ℕ) (xs ys zs : List ℕ) → Kept size xs ys → Kept size ys zs → Kept size xs zs
kept_on size xs ys zs p q = record { as_long = q.as_long ∙ p.as_long; past = q.past ∙ p.past }

-- a row of zeros has no member
pub row_clear : (xs : List ℕ) → xs ≡ replicate body_words 0 → xs ≡ pack body_words empty_set
row_clear xs e = e ∙ sym (pack_empty body_words)

-- the same members
pub row_same : (xs : List ℕ) (f g : Set) → ((i : ℕ) → f i ≡ g i) → xs ≡ pack body_words f → xs ≡ pack body_words g
row_same xs f g e q = q ∙ pack_same body_words f g (λ i l. e i)

-- one member more
pub row_more : (xs ys : List ℕ) (f : Set) (a : ℕ) → xs ≡ pack body_words f
    → ys ≡ pack (length xs) (union (row xs) (only a)) → ys ≡ pack body_words (union f (only a))
row_more xs ys f a e q =
    let n : length xs ≡ body_words = ap length e ∙ length_pack body_words f in
    let g : Set = union (row xs) (only a) in
    q ∙ ap (λ (k : ℕ). pack k g) n
    ∙ pack_same body_words g (union f (only a)) (λ i l. ap (λ (b : Bool). b || only a i) (ap (λ (zs : List ℕ). row zs i) e ∙ row_pack body_words f i l))
