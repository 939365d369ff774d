-- What an area holds as it is made, and that what is lent of it is its front.
use Rattle.std.proofs.Common.{◌≡◌, ℕ, List, length, take, replicate, All, ap, ◌∙◌, refl}
use Rattle.std.proofs.lemmas.List.{length-take, take_min}
use Rattle.std.proofs.lemmas.List.Elements.{All-replicate}

pub front : (n : ℕ) (xs : List ℕ) → take (length (take n xs)) xs ≡ take n xs
front n xs = ap (λ k. take k xs) (length-take n xs) ∙ take_min n xs

-- an area that is made of one entry
pub all_same : (n x : ℕ) → All (λ y. y ≡ x) (replicate n x)
all_same n x = All-replicate (λ y. y ≡ x) n x refl
