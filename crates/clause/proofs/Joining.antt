-- Names met one after another, while there is room: what they leave together.
-- Assumes nothing.
use mathlib.Core.Path.{◌≡◌, refl, sym, ap, ◌∙◌, subst}
use mathlib.Core.Bool.{Bool, true, false, ◌||◌, or_assoc, or-false}
use mathlib.Core.List.{List, [], ◌∷◌, ◌++◌}
use Prim.Native.Nat.{ℕ, ◌<◌}
use native.Mathlib.Omega.{arith}
use lib.Dec.{eqb, leb}
use lib.ListN.{length}
use borrow.Author.Tests.{leb-true, leb-false, le-leb, lt-leb}
use Rattle.std.specs.Prelude.{Option, Some, None, is_some, IfSome}
use Rattle.std.specs.Option.{unwrap_or}
use Rattle.limits.specs.Book.{names}
use Rattle.sets.specs.Set.{Set, only, union}
use Rattle.sets.proofs.Logic.{either, clash}
use Rattle.words.specs.Row.{row, pack}
use Rattle.grammar.specs.Bytes.{Bytes}
use Rattle.tables.specs.Numbering.{place, meet, meet_all, places}
use Rattle.tables.proofs.Numbering.{meet_met, meets_le, meets_keep, meets_met, meets_append, places_same}
use Rattle.clause.specs.Found.{Lexicon, names_at, Named, InOrder, Meeting, Joining, Onward}
use Rattle.clause.proofs.Rows.{row_same, row_more}

-- the numbers of two runs of names
places_append : (ns xs ys : List Bytes) (a : ℕ) → places ns (xs ++ ys) a ≡ places ns xs a || places ns ys a
unfolding places
places_append ns [] ys a = refl
places_append ns (x ∷ xs) ys a =
    ap (λ (b : Bool). eqb (place ns x) a || b) (places_append ns xs ys a) ∙ sym (or_assoc (eqb (place ns x) a) (places ns xs a) (places ns ys a))

-- names met keep their numbers when more are
places_keep : (ns ws vs : List Bytes) → places (meet_all (meet_all ns ws) vs) ws ≡ places (meet_all ns ws) ws
places_keep ns ws vs =
    places_same (meet_all ns ws) (meet_all (meet_all ns ws) vs) ws (λ x k. meets_keep (meet_all ns ws) vs x (meets_met ns ws x k))

-- the numbers of one name
places_one : (ns : List Bytes) (w : Bytes) (a : ℕ) → places ns (w ∷ []) a ≡ only (place ns w) a
unfolding places
places_one ns w a = or-false (eqb (place ns w) a)

-- none: as it was
places_none : (ns : List Bytes) (f : Set) (a : ℕ) → f a ≡ union f (places ns []) a
unfolding places
places_none ns f a = sym (or-false (f a))

meets_none : (ns : List Bytes) → meet_all ns [] ≡ ns
unfolding meet_all
meets_none ns = refl

meets_one : (ns : List Bytes) (w : Bytes) → meet_all ns (w ∷ []) ≡ meet ns w
unfolding meet_all
meets_one ns w = refl

-- No name yet.
join_none : (ns : List Bytes) (x : Lexicon) (row : List ℕ) → Named ns x → Joining ns [] true x row row
join_none ns x row k =
    record {
      fits = sym (le-leb (length (meet_all ns [])) names (omega (arith, k.few, k.count, ap length (meets_none ns))));
      named = λ r. subst (λ (ms : List Bytes). Named ms x) (sym (meets_none ns)) k;
      joins = λ r f e. row_same row f (union f (places (meet_all ns []) [])) (places_none (meet_all ns []) f) e;
    }

-- More names, after ws.
module _ (ns ws vs : List Bytes) where
  -- with room so far
  join_more : (x₁ : Lexicon) (row row₁ : List ℕ) → Joining ns ws true x₁ row row₁
      → (room : Bool) (x₂ : Lexicon) (row₂ : List ℕ) → Joining (meet_all ns ws) vs room x₂ row₁ row₂ → Joining ns (ws ++ vs) room x₂ row row₂
  join_more x₁ row row₁ j room x₂ row₂ k =
      let q : meet_all (meet_all ns ws) vs ≡ meet_all ns (ws ++ vs) = sym (meets_append ns ws vs) in
      record {
        fits = k.fits ∙ ap (λ (ms : List Bytes). leb (length ms) names) q;
        named = λ r. subst (λ (ms : List Bytes). Named ms x₂) q (k.named r);
        joins =
            λ r f e.
            row_same row₂ (union (union f (places (meet_all ns ws) ws)) (places (meet_all (meet_all ns ws) vs) vs))
            (union f (places (meet_all ns (ws ++ vs)) (ws ++ vs))) (together f)
            (k.joins r (union f (places (meet_all ns ws) ws)) (j.joins refl f e));
      }
    where
      together : (f : Set) (a : ℕ)
          → union (union f (places (meet_all ns ws) ws)) (places (meet_all (meet_all ns ws) vs) vs) a
          ≡ union f (places (meet_all ns (ws ++ vs)) (ws ++ vs)) a
      together f a =
          ap (λ (s : Set). (f a || s a) || places (meet_all (meet_all ns ws) vs) vs a) (sym (places_keep ns ws vs))
          ∙ ap (λ (ms : List Bytes). (f a || places ms ws a) || places ms vs a) (sym (meets_append ns ws vs))
          ∙ or_assoc (f a) (places (meet_all ns (ws ++ vs)) ws a) (places (meet_all ns (ws ++ vs)) vs a)
          ∙ ap (λ (b : Bool). f a || b) (sym (places_append (meet_all ns (ws ++ vs)) ws vs a))

  -- once room is lost
  join_lost : (x₁ : Lexicon) (row row₁ : List ℕ) → Joining ns ws false x₁ row row₁
      → (x₂ : Lexicon) (row₂ : List ℕ) → Joining ns (ws ++ vs) false x₂ row row₂
  join_lost x₁ row row₁ j x₂ row₂ =
      let l : names < length (meet_all ns ws) = leb-false (length (meet_all ns ws)) names (sym j.fits) in
      record {
        fits =
            sym (lt-leb (length (meet_all ns (ws ++ vs))) names
            (omega (arith, meets_le (meet_all ns ws) vs, ap length (meets_append ns ws vs))));
        named = λ r. clash r refl;
        joins = λ r. clash r refl;
      }

-- The first of them.
pub onward_start : (room : Bool) (x : Lexicon) (row : List ℕ) → (room ≡ true → InOrder x) → Onward room (names_at x) [] room x row row
onward_start room x row k =
    record {
      lost = λ e. e;
      joins = λ e. subst (λ (r : Bool). Joining (names_at x) [] r x row row) (sym e) (join_none (names_at x) x row (k e));
    }

-- After ws there is room or none.
module _ (r₀ : Bool) (ns ws : List Bytes) (r₁ : Bool) (x₁ : Lexicon) (row row₁ : List ℕ) (k : Onward r₀ ns ws r₁ x₁ row row₁) where
  opened : r₁ ≡ true → r₀ ≡ true
  opened e = either r₀ (λ q. q) (λ q. clash e (k.lost q))

  named_now : (e : r₁ ≡ true) → Named (meet_all ns ws) x₁
  named_now e = (k.joins (opened e)).named e

  -- what the next names leave
  pub onward_more : (vs : List Bytes) (r₂ : Bool) (x₂ : Lexicon) (row₂ : List ℕ) → Onward r₁ (names_at x₁) vs r₂ x₂ row₁ row₂
      → Onward r₀ ns (ws ++ vs) r₂ x₂ row row₂
  onward_more vs r₂ x₂ row₂ d =
      record {
        lost = λ e. d.lost (k.lost e);
        joins =
            λ e.
            either r₁
            (λ o.
            join_more ns ws vs x₁ row row₁ (subst (λ (r : Bool). Joining ns ws r x₁ row row₁) o (k.joins e)) r₂ x₂ row₂
            (subst (λ (ms : List Bytes). Joining ms vs r₂ x₂ row₁ row₂) (named_now o).there (d.joins o)))
            (λ o.
            subst (λ (r : Bool). Joining ns (ws ++ vs) r x₂ row row₂) (sym (d.lost o))
            (join_lost ns ws vs x₁ row row₁ (subst (λ (r : Bool). Joining ns ws r x₁ row row₁) o (k.joins e)) x₂ row₂));
      }

-- One name met.
module _ (before : Bool) (w : Bytes) (room : Bool) (number : ℕ) (x x' : Lexicon) (k : InOrder x) (met : Meeting w room number x x') where
  -- its number lies within a row of names
  pub low : room ≡ true → number < names
  low e =
      omega (
        arith,
        met.number_is e,
        meet_met (names_at x) w,
        leb-true (length (meet (names_at x) w)) names (sym met.fits ∙ e),
      )

  -- it joins the row
  pub onward_one : before ≡ true → room ≡ true → (old new : List ℕ)
      → new ≡ pack (length old) (union (row old) (only number)) → Onward before (names_at x) (w ∷ []) true x' old new
  onward_one b e old new q =
      let ns : List Bytes = names_at x in
      record {
        lost = λ c. clash b c;
        joins =
            λ c. record {
              fits = sym e ∙ met.fits ∙ ap (λ (ms : List Bytes). leb (length ms) names) (sym (meets_one ns w));
              named = λ r. subst (λ (ms : List Bytes). Named ms x') (sym (meets_one ns w)) (met.named e);
              joins =
                  λ r f p.
                  row_same new (union f (only number)) (union f (places (meet_all ns (w ∷ [])) (w ∷ []))) (same f) (row_more old new f number p q);
            };
      }
    where
      same : (f : Set) (a : ℕ) → union f (only number) a ≡ union f (places (meet_all (names_at x) (w ∷ [])) (w ∷ [])) a
      same f a =
          ap (λ (j : ℕ). f a || only j a) (met.number_is e ∙ ap (λ (ms : List Bytes). place ms w) (sym (meets_one (names_at x) w)))
          ∙ ap (λ (b : Bool). f a || b) (sym (places_one (meet_all (names_at x) (w ∷ [])) w a))

  -- it does not
  pub onward_full : room ≡ false → (y : Lexicon) (row : List ℕ) → Onward before (names_at x) (w ∷ []) false y row row
  onward_full e y row =
      record {
        lost = λ c. refl;
        joins =
            λ c. record {
              fits = sym e ∙ met.fits ∙ ap (λ (ms : List Bytes). leb (length ms) names) (sym (meets_one (names_at x) w));
              named = λ r. clash r refl;
              joins = λ r. clash r refl;
            };
      }

-- The same, for a head that is lost where a name finds no room.
module _ (head : Option ℕ) (w : Bytes) (x x' : Lexicon) (k : is_some head ≡ true → InOrder x) (h : ℕ) (e : head ≡ Some h) (o : Option ℕ)
    (met : Meeting w (is_some o) (unwrap_or o 0) x x') where
  before : is_some head ≡ true
  before = ap is_some e

  -- a number joins the row
  module _ (number : ℕ) (q : o ≡ Some number) where
    number_is : unwrap_or o 0 ≡ number
    number_is = ap (λ (c : Option ℕ). unwrap_or c 0) q

    pub joins_low : number < names
    joins_low = subst (λ (n : ℕ). n < names) number_is (low (is_some head) w (is_some o) (unwrap_or o 0) x x' (k before) met (ap is_some q))

    pub joins_one : (old new : List ℕ) → new ≡ pack (length old) (union (row old) (only number))
        → Onward (is_some head) (names_at x) (w ∷ []) true x' old new
    joins_one old new p =
        onward_one (is_some head) w (is_some o) (unwrap_or o 0) x x' (k before) met before (ap is_some q) old new
        (p ∙ ap (λ (c : ℕ). pack (length old) (union (row old) (only c))) (sym number_is))

  -- or there is none
  pub joins_full : o ≡ None → (y : Lexicon) (row : List ℕ) → Onward (is_some head) (names_at x) (w ∷ []) false y row row
  joins_full q y row = onward_full (is_some head) w (is_some o) (unwrap_or o 0) x x' (k before) met (ap is_some q) y row

-- A head is lost or stays what it was.
pub some_self : (o : Option ℕ) → IfSome o (λ h. o ≡ Some h)
some_self None = tt
some_self (Some h) = refl

pub some_on : (a b c : Option ℕ) → IfSome b (λ h. a ≡ Some h) → IfSome c (λ h. b ≡ Some h) → IfSome c (λ h. a ≡ Some h)
some_on a b None p q = tt
some_on a None (Some h) p q = cc
some_on a (Some g) (Some h) p q = p ∙ q
