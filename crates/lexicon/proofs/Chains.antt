-- The chain of a bucket: what the index says of the last names in it, and of those passed.
-- Assumes nothing.
use mathlib.Core.Path.{◌≡◌, refl, sym, ap, subst, ◌∙◌}
use mathlib.Core.List.{List, [], ◌∷◌}
use mathlib.Core.Bool.{Bool, true, false}
use Prim.Native.Nat.{ℕ, zero, suc, ◌+◌, ◌-◌, ◌*◌, ◌≤◌, ◌<◌}
use native.Mathlib.Nat.{mod-lt, zero-add}
use native.Mathlib.Omega.{arith}
use lib.Dec.{eqb, ltb, lit<}
use lib.ListN.{length, get_or}
use borrow.Author.Tests.{eqb-true, eqb-false, ltb-true, ltb-false}
use Rattle.sets.specs.Set.{pick}
use Rattle.sets.proofs.Logic.{either, not-true, pick_true, pick_false}
use Rattle.grammar.specs.Bytes.{Bytes}
use Rattle.tables.specs.Numbering.{same_bytes, place}
use Rattle.tables.specs.Areas.{name_at, names_in}
use Rattle.tables.proofs.Numbering.{same_bytes_eq, place_here, place_on}
use Rattle.tables.proofs.Encoding.{length_names_from, get_or_names_from}
use Rattle.scan.specs.Hash.{buckets, hash_of, hash_from, hash_step}
use Rattle.lexicon.specs.Index.{Indexed, latest}

-- the first name that is x
place_hit : (ns : List Bytes) (x : Bytes) (j : ℕ) → j < length ns → same_bytes (get_or ns j []) x ≡ true
    → ((a : ℕ) → a < j → same_bytes (get_or ns a []) x ≡ false) → j ≡ place ns x
place_hit [] x j l e h = absurd (omega arith)
place_hit (n ∷ ns) x zero l e h = sym (place_here n ns x e)
place_hit (n ∷ ns) x (suc j) l e h =
    ap suc (place_hit ns x j (omega arith) e (λ a m. h (suc a) (omega arith)))
    ∙ sym (place_on n ns x (h zero (omega arith)))

-- where none is x
place_miss : (ns : List Bytes) (x : Bytes) → ((a : ℕ) → a < length ns → same_bytes (get_or ns a []) x ≡ false) → length ns ≡ place ns x
unfolding place
place_miss [] x h = refl
place_miss (n ∷ ns) x h =
    ap suc (place_miss ns x (λ a l. h (suc a) (omega arith))) ∙ sym (place_on n ns x (h zero (omega arith)))

-- where the place of x is past the names, none of them is x
pub place_none : (ns : List Bytes) (x : Bytes) → length ns ≤ place ns x → (a : ℕ) → a < length ns → same_bytes (get_or ns a []) x ≡ false
place_none [] x h a l = absurd (omega arith)
place_none (n ∷ ns) x h a l =
    either (same_bytes n x) (λ t. absurd (omega (arith, place_here n ns x t)))
    (λ f. at_rest a l f (place_none ns x (omega (arith, place_on n ns x f))))
  where
    at_rest : (a : ℕ) → a < suc (length ns) → same_bytes n x ≡ false
        → ((a : ℕ) → a < length ns → same_bytes (get_or ns a []) x ≡ false) → same_bytes (get_or (n ∷ ns) a []) x ≡ false
    at_rest zero l f g = f
    at_rest (suc a) l f g = g a (omega arith)

-- the last name of a bucket is one of the first k
latest_le : (ns : List Bytes) (b k : ℕ) → latest ns b k ≤ k
unfolding latest
latest_le ns b zero = omega arith
latest_le ns b (suc k) =
    either (eqb (hash_of (get_or ns k [])) b) (λ e. rw (pick_true (suc k) (latest ns b k) e) (omega arith))
    (λ e. rw (pick_false (suc k) (latest ns b k) e) (omega (arith, latest_le ns b k)))

-- it lies in the bucket
latest_home : (ns : List Bytes) (b k j : ℕ) → latest ns b k ≡ suc j → hash_of (get_or ns j []) ≡ b
unfolding latest
latest_home ns b zero j e = absurd (omega arith)
latest_home ns b (suc k) j e =
    either (eqb (hash_of (get_or ns k [])) b)
    (λ t.
    let q : suc k ≡ suc j = sym (pick_true (suc k) (latest ns b k) t) ∙ e in
    let m : k ≡ j = omega arith in
    ap (λ (i : ℕ). hash_of (get_or ns i [])) (sym m) ∙ eqb-true (hash_of (get_or ns k [])) b t)
    (λ f. latest_home ns b k j (sym (pick_false (suc k) (latest ns b k) f) ∙ e))

-- and no later one does
latest_none : (ns : List Bytes) (b k a : ℕ) → latest ns b k ≤ a → a < k → hash_of (get_or ns a []) ≡ b → ⊥
unfolding latest
latest_none ns b zero a l m e = omega arith
latest_none ns b (suc k) a l m e =
    either (eqb (hash_of (get_or ns k [])) b)
    (λ t.
    let q : pick (eqb (hash_of (get_or ns k [])) b) (suc k) (latest ns b k) ≡ suc k = pick_true (suc k) (latest ns b k) t in
    omega arith)
    (λ f.
    let q : pick (eqb (hash_of (get_or ns k [])) b) (suc k) (latest ns b k) ≡ latest ns b k = pick_false (suc k) (latest ns b k) f in
    either (eqb a k) (λ t. eqb-false (hash_of (get_or ns k [])) b f (ap (λ (i : ℕ). hash_of (get_or ns i [])) (sym (eqb-true a k t)) ∙ e))
    (λ g.
    let ne : a ≡ k → ⊥ = eqb-false a k g in
    latest_none ns b k a (omega arith) (omega arith) e))

-- the walk stands at k: no name from k on is w, and name k - 1 lies in its bucket
pub record Walk (ns : List Bytes) (w : Bytes) (k : ℕ) : Type 0 where
  pub bound : k ≤ length ns
  pub others : (a : ℕ) → k ≤ a → a < length ns → same_bytes (get_or ns a []) w ≡ false
  pub home : (j : ℕ) → k ≡ suc j → hash_of (get_or ns j []) ≡ hash_of w

-- a name in another bucket is another name
other_bucket : (s w : Bytes) → (hash_of s ≡ hash_of w → ⊥) → same_bytes s w ≡ false
other_bucket s w h = not-true (same_bytes s w) (λ e. h (ap hash_of (same_bytes_eq s w e)))

module _ (ns : List Bytes) (first prior : List ℕ) (ix : Indexed ns first prior) (w : Bytes) where
  -- the walk starts at the bucket's last name
  walk_start : hash_of w < buckets → Walk ns w (get_or first (hash_of w) 0)
  walk_start l =
      let e : get_or first (hash_of w) 0 ≡ latest ns (hash_of w) (length ns) = ix.firsts (hash_of w) l in
      record {
        bound = rw e (latest_le ns (hash_of w) (length ns));
        others = λ a m n. other_bucket (get_or ns a []) w (latest_none ns (hash_of w) (length ns) a (rw (← e) m) n);
        home = λ j q. latest_home ns (hash_of w) (length ns) j (sym e ∙ q);
      }

  -- past a name that is not w, it stands at the one before it in the bucket
  walk_next : (j : ℕ) → Walk ns w (suc j) → same_bytes (get_or ns j []) w ≡ false → Walk ns w (get_or prior j 0)
  walk_next j s f =
      let l : j < length ns = s.bound in
      let b : hash_of (get_or ns j []) ≡ hash_of w = s.home j refl in
      let e : get_or prior j 0 ≡ latest ns (hash_of w) j = ix.priors j l ∙ ap (λ (c : ℕ). latest ns c j) b in
      let m : latest ns (hash_of w) j ≤ j = latest_le ns (hash_of w) j in
      record {
        bound = omega arith;
        others = λ a p q.
            either (eqb a j) (λ t. ap (λ (i : ℕ). same_bytes (get_or ns i []) w) (eqb-true a j t) ∙ f)
            (λ g.
            let ne : a ≡ j → ⊥ = eqb-false a j g in
            either (ltb a j) (λ t. other_bucket (get_or ns a []) w (latest_none ns (hash_of w) j a (rw (← e) p) (ltb-true a j t)))
            (λ t.
            let m : j ≤ a = ltb-false a j t in
            s.others a (omega arith) q));
        home = λ i q. latest_home ns (hash_of w) j i (sym e ∙ q);
      }

  -- a name that is w has its number
  walk_hit : (j : ℕ) → Walk ns w (suc j) → same_bytes (get_or ns j []) w ≡ true → j ≡ place ns w
  walk_hit j s e =
      place_hit ns w j s.bound e (λ a l. ap (same_bytes (get_or ns a [])) (sym (same_bytes_eq (get_or ns j []) w e)) ∙ ix.distinct a j l s.bound)

  -- past the first name there is none
  walk_miss : Walk ns w 0 → length ns ≡ place ns w
  walk_miss s = place_miss ns w (λ a l. s.others a (omega arith) l)

-- a step from bucket to bucket stays among the buckets
hash_from_lt : (h : ℕ) (s : Bytes) → h < buckets → hash_from h s < buckets
unfolding hash_from hash_step
hash_from_lt h [] l = l
hash_from_lt h (b ∷ s) l = hash_from_lt (hash_step h b) s (mod-lt (h * 31 + b) (lit< tt))

-- so a name's bucket is one of them
pub hash_lt : (b : ℕ) (s : Bytes) → b ≡ hash_of s → b < buckets
hash_lt b s e = rw e (hash_from_lt 0 s (lit< tt))

-- the first n names of an area are n
pub names_length : (area : Bytes) (n : ℕ) → length (names_in area n) ≡ n
names_length area n = length_names_from area n 0

-- each the name in its row
pub names_at : (area : Bytes) (n a : ℕ) → a < n → get_or (names_in area n) a [] ≡ name_at area a
names_at area n a l = get_or_names_from area n 0 a l ∙ ap (name_at area) (zero-add a)

-- the walk over the first n names of an area stands at k
pub record Walking (area : Bytes) (n : ℕ) (w : Bytes) (k : ℕ) : Type 0 where
  pub bound : k ≤ n
  pub walk : Walk (names_in area n) w k

-- that walk
module _ (area : Bytes) (n : ℕ) (first prior : List ℕ) (ix : Indexed (names_in area n) first prior) (w : Bytes) where
  -- these names
  abbrev ns : List Bytes
  ns = names_in area n

  -- it stays among the names
  among : (k : ℕ) → Walk ns w k → Walking area n w k
  among k s = record { bound = omega (arith, s.bound, names_length area n); walk = s }

  -- it starts from the bucket
  pub find_start : (b k : ℕ) → b ≡ hash_of w → k ≡ get_or first b 0 → Walking area n w k
  find_start b k e q = among k (rw (q, e) (walk_start ns first prior ix w (hash_lt (hash_of w) w refl)))

  -- it stands at k, not at its end, and name k - 1 is compared with w
  module _ (k : ℕ) (s : Walking area n w k) (some : k ≡ 0 → ⊥) (r : Bool) (e : r ≡ same_bytes (name_at area (k - 1)) w) where
    -- that is name k - 1 of the list
    at_name : r ≡ same_bytes (get_or ns (k - 1) []) w
    at_name =
        let l : k - 1 < n = omega (arith, s.bound) in
        e ∙ ap (λ (x : Bytes). same_bytes x w) (sym (names_at area n (k - 1) l))

    -- which the walk stands at
    here : Walk ns w (suc (k - 1))
    here =
        let q : k ≡ suc (k - 1) = omega arith in
        subst (Walk ns w) q s.walk

    -- the name there is w
    pub find_hit : r ≡ true → k - 1 ≡ place ns w
    find_hit t = walk_hit ns first prior ix w (k - 1) here (sym at_name ∙ t)

    -- it is not: the walk goes on
    module _ (next : ℕ) (q : next ≡ get_or prior (k - 1) 0) where
      pub find_next : r ≡ false → Walking area n w next
      find_next f = among next (rw q (walk_next ns first prior ix w (k - 1) here (sym at_name ∙ f)))

      -- downwards
      pub find_less : next < k
      find_less =
          let l : k - 1 < length ns = omega (arith, s.walk.bound) in
          let p : get_or prior (k - 1) 0 ≤ k - 1 = rw (ix.priors (k - 1) l) (latest_le ns (hash_of (get_or ns (k - 1) [])) (k - 1)) in
          omega arith

  -- at its end there is none
  pub find_miss : (k : ℕ) → Walking area n w k → k ≡ 0 → n ≡ place ns w
  find_miss k s e = sym (names_length area n) ∙ walk_miss ns first prior ix w (subst (Walk ns w) e s.walk)

-- what proves the walk
pub ruleset walks = (hash_lt, find_start, find_hit, find_next, find_less, find_miss)
