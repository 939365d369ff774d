-- Parts put into an area one after the other.
-- Assumes nothing.
use mathlib.Core.Path.{◌≡◌, sym, ap, ap₂, ◌∙◌}
use mathlib.Core.List.{[], ◌∷◌, ◌++◌, append_assoc}
use Prim.Native.Nat.{ℕ, ◌+◌, ◌≤◌, ◌<◌}
use native.Mathlib.Numerals.{add-one}
use native.Mathlib.Omega.{arith}
use lib.ListN.{length, get_or, take, drop, set, length-append}
use lib.Seq.{length-take-le, set_split, take-suc}
use Rattle.areas.specs.Area.{put, begun}
use Rattle.areas.proofs.Parts.{length_put}
use Rattle.areas.proofs.Begun.{put_begun}
use Rattle.grammar.specs.Bytes.{Bytes}

-- more put after what is put
pub put_put : (at : ℕ) (xs ys old : Bytes) → at ≤ length old → put (at + length xs) ys (put at xs old) ≡ put at (xs ++ ys) old
unfolding begun
put_put at xs ys old l =
    let u : Bytes = take at old ++ xs in
    let n : at + length xs ≡ length u = omega (arith, length-append (take at old) xs, length-take-le at old l) in
    let m : at + length (xs ++ ys) ≡ length (u ++ ys) =
    omega (arith, length-append u ys, length-append xs ys) in
    ap (λ (k : ℕ). put k ys (take at old ++ (xs ++ drop k old))) n
    ∙ ap (λ (s : Bytes). put (length u) ys s) (sym (append_assoc (take at old) xs (drop (length u) old)))
    ∙ put_begun u ys old
    ∙ ap (λ (k : ℕ). (u ++ ys) ++ drop k old) (sym m)
    ∙ ap (λ (s : Bytes). s ++ drop (at + length (xs ++ ys)) old) (append_assoc (take at old) xs ys)
    ∙ append_assoc (take at old) (xs ++ ys) (drop (at + length (xs ++ ys)) old)

-- one byte more of src is put
pub byte_on : (at i : ℕ) (src old area : Bytes) → at + length src ≤ length old → i < length src → area ≡ put at (take i src) old
    → set area (at + i) (get_or src i 0) ≡ put at (take (i + 1) src) old
byte_on at i src old area l m p =
    let xs : Bytes = take i src in
    let b : ℕ = get_or src i 0 in
    let n : length xs ≡ i = length-take-le i src (omega arith) in
    let k : length area ≡ length old = ap length p ∙ length_put at xs old (omega (arith, n)) in
    set_split area (at + i) b (omega (arith, k))
    ∙ ap (λ (j : ℕ). take (at + i) area ++ (b ∷ drop j area)) (sym (add-one (at + i)))
    ∙ ap₂ (λ (j : ℕ) (a : Bytes). put j (b ∷ []) a) (ap (λ (j : ℕ). at + j) (sym n)) p
    ∙ put_put at xs (b ∷ []) old (omega arith)
    ∙ ap (λ (s : Bytes). put at s old) (sym (take-suc src i 0 m) ∙ ap (λ (j : ℕ). take j src) (sym (add-one i)))
