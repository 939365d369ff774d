-- Facts about Bool as they are used here: a test is `b ≡ true` or `b ≡ false`.
-- Assumes nothing.
use mathlib.Core.Path.{◌≡◌, refl, sym, ◌∙◌}
use mathlib.Core.Logic.{◌↔◌}
use mathlib.Core.Bool.{Bool, true, false, not, ◌&&◌, ◌||◌, beq, true≢false}
use Rattle.sets.specs.Set.{pick}

-- cases on a computed test, with its equation
pub either : {X : Type 0} (b : Bool) → (b ≡ true → X) → (b ≡ false → X) → X
either true t f = t refl
either false t f = f refl

-- a test is not both
pub clash : {X : Type 0} {b : Bool} → b ≡ true → b ≡ false → X
clash t f = absurd (true≢false (sym t ∙ f))

-- what cannot hold is false
pub not-true : (b : Bool) → (b ≡ true → ⊥) → b ≡ false
not-true true h = absurd (h refl)
not-true false h = refl

-- two tests that hold together are equal
pub iff : (a b : Bool) → (a ≡ true → b ≡ true) → (b ≡ true → a ≡ true) → a ≡ b
iff true b f g = sym (f refl)
iff false true f g = g refl
iff false false f g = refl

pub and_left : (a b : Bool) → a && b ≡ true → a ≡ true
and_left true b e = refl
and_left false b e = e

pub and_right : (a b : Bool) → a && b ≡ true → b ≡ true
and_right true b e = e
and_right false b e = clash e refl

pub and_make : {a b : Bool} → a ≡ true → b ≡ true → a && b ≡ true
and_make {a} {b} p q = rw (p, q)

pub or_left : {a : Bool} (b : Bool) → a ≡ true → a || b ≡ true
or_left b p = rw p

pub or_right : (a : Bool) {b : Bool} → b ≡ true → a || b ≡ true
or_right true p = refl
or_right false p = p

pub or_elim : {X : Type 0} (a b : Bool) → a || b ≡ true → (a ≡ true → X) → (b ≡ true → X) → X
or_elim true b e f g = f refl
or_elim false b e f g = g e

-- neither of two tests holds
pub or_none : (a b : Bool) → a || b ≡ false → (a ≡ false) × (b ≡ false)
or_none true b e = clash refl e
or_none false b e = (refl, e)

pub of_not : (b : Bool) → not b ≡ true → b ≡ false
of_not true e = sym e
of_not false e = refl

pub not_of_false : (b : Bool) → b ≡ false → not b ≡ true
not_of_false true e = clash refl e
not_of_false false e = refl

pub beq_eq : (a b : Bool) → beq a b ≡ true → a ≡ b
beq_eq true true e = refl
beq_eq true false e = clash e refl
beq_eq false true e = clash e refl
beq_eq false false e = refl

pub beq_refl : (a b : Bool) → a ≡ b → beq a b ≡ true
beq_refl true true e = refl
beq_refl true false e = clash refl e
beq_refl false true e = clash refl (sym e)
beq_refl false false e = refl

-- two statements where both hold, and where neither does
pub holds : {A B : Type 0} → A → B → A ↔ B
holds a b = (λ x. b, λ y. a)

pub fails : {A B : Type 0} → (A → ⊥) → (B → ⊥) → A ↔ B
fails f g = (λ a. absurd (f a), λ b. absurd (g b))

-- the two ways of a pick
pub pick_true : {A : Type 0} {b : Bool} (x y : A) → b ≡ true → pick b x y ≡ x
unfolding pick
pick_true x y e = rw e

pub pick_false : {A : Type 0} {b : Bool} (x y : A) → b ≡ false → pick b x y ≡ y
unfolding pick
pick_false x y e = rw e
