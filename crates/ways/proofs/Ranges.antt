-- The front of a list: the count over it, and its elements.
-- Assumes nothing.
use mathlib.Core.Path.{◌≡◌, refl, sym, ap, ◌∙◌}
use mathlib.Core.List.{List}
use Prim.Native.Nat.{ℕ, zero, suc, ◌+◌, ◌≤◌, ◌<◌}
use native.Mathlib.Numerals.{add-one}
use native.Mathlib.Omega.{arith}
use lib.ListN.{length, get_or, take}
use Rattle.std.specs.List.{count_by}
use Rattle.std.proofs.lemmas.List.{get_or-take, get_or_default, length-take-le}
use Rattle.std.proofs.lemmas.List.Sums.{count_by_more_yes, count_by_more_no}
use Rattle.sets.specs.Set.{Set, count}
use Rattle.sets.proofs.Logic.{either}
use Rattle.sets.proofs.Counting.{count_in, count_out}

-- the count over the first m elements of a list, element by element
pub count_front : (m : ℕ) (xs : List ℕ) (f : Set) → m ≤ length xs → count_by f (take m xs) ≡ count m (λ j. f (get_or xs j 0))
unfolding count
count_front zero xs f l = refl
count_front (suc m) xs f l =
    let up : count_by f (take m xs) ≡ count m (λ j. f (get_or xs j 0)) = count_front m xs f (omega arith) in
    either (f (get_or xs m 0))
    (λ t.
    let e : count_by f (take (m + 1) xs) ≡ count_by f (take m xs) + 1 = count_by_more_yes f xs m 0 (omega arith) t in
    ap (λ (k : ℕ). count_by f (take k xs)) (sym (add-one m)) ∙ e ∙ omega (arith, count_in m (λ j. f (get_or xs j 0)) t))
    (λ t.
    ap (λ (k : ℕ). count_by f (take k xs)) (sym (add-one m)) ∙ count_by_more_no f xs m 0 (omega arith) t ∙ up
    ∙ sym (count_out m (λ j. f (get_or xs j 0)) t))

-- an element of the first m ones
pub front_item : (m : ℕ) (xs : List ℕ) (k x : ℕ) → m ≤ length xs → k < length (take m xs) → x ≡ get_or (take m xs) k x → (k < m) × (get_or xs k 0 ≡ x)
front_item m xs k x l h e =
    let b : k < m = omega (arith, length-take-le m xs l) in
    (b, sym (e ∙ get_or-take m xs k x b ∙ get_or_default xs k x 0 (omega arith)))
