-- Names by number: places, names met one after another, and rules by number as a book grows.
-- Assumes nothing.
use mathlib.Core.Path.{◌≡◌, refl, sym, ap, ap₂, ◌∙◌, subst, fun_ext}
use mathlib.Core.Bool.{Bool, true, false, ◌||◌}
use mathlib.Core.Logic.{◌⊎◌, inl, inr, ⊎_elim}
use mathlib.Core.List.{List, [], ◌∷◌, ◌++◌, map, append-nil, append_assoc}
use Prim.Native.Nat.{ℕ, zero, suc, ◌+◌, ◌*◌, ◌≤◌, ◌<◌}
use native.Mathlib.Omega.{arith}
use lib.Dec.{eqb, ltb}
use lib.ListN.{length, get_or, length-append, get_or-append}
use lib.Seq.{get_or-append_seam}
use borrow.Author.Tests.{ltb-true, ltb-false, lt-ltb, le-ltb, eqb-true, eq-eqb}
use Rattle.limits.specs.Book.{names, body_words}
use Rattle.sets.specs.Set.{Set}
use Rattle.sets.proofs.Logic.{either, clash, not-true, and_left, and_right, and_make, or_left, or_right, or_elim, pick_true, pick_false}
use Rattle.words.specs.Row.{pack}
use Rattle.words.proofs.Rows.{length_pack}
use Rattle.program.specs.Program.{Rule, no_rule}
use Rattle.grammar.specs.Bytes.{Bytes, Among}
use Rattle.grammar.specs.Grammar.{Clause}
use Rattle.tables.specs.Numbering.{same_bytes, place, meet, meet_all, standing, names_of, places, numbered, program_of}
use Rattle.tables.specs.Areas.{head_rows, body_rows}
use Rattle.tables.specs.Claims.{Numbers}
use Rattle.tables.proofs.Encoding.{Low}

-- the test for the same bytes is equality,
pub same_bytes_eq : (s t : Bytes) → same_bytes s t ≡ true → s ≡ t
unfolding same_bytes
same_bytes_eq [] [] e = refl
same_bytes_eq [] (b ∷ t) e = clash e refl
same_bytes_eq (a ∷ s) [] e = clash e refl
same_bytes_eq (a ∷ s) (b ∷ t) e =
    ap₂ (λ (x : ℕ) (y : Bytes). x ∷ y) (eqb-true a b (and_left (eqb a b) (same_bytes s t) e))
    (same_bytes_eq s t (and_right (eqb a b) (same_bytes s t) e))

-- both ways
pub same_bytes_refl : (s : Bytes) → same_bytes s s ≡ true
unfolding same_bytes
same_bytes_refl [] = refl
same_bytes_refl (a ∷ s) = and_make (eq-eqb a a refl) (same_bytes_refl s)

-- Places.

-- the first name is x
pub place_here : (n : Bytes) (ns : List Bytes) (x : Bytes) → same_bytes n x ≡ true → place (n ∷ ns) x ≡ 0
unfolding place
place_here n ns x e = pick_true zero (suc (place ns x)) e

-- it is another
pub place_on : (n : Bytes) (ns : List Bytes) (x : Bytes) → same_bytes n x ≡ false → place (n ∷ ns) x ≡ suc (place ns x)
unfolding place
place_on n ns x e = pick_false zero (suc (place ns x)) e

-- a place is at most the number of names
pub place_le : (ns : List Bytes) (x : Bytes) → place ns x ≤ length ns
place_le [] x = unfold place in omega arith
place_le (n ∷ ns) x =
    let l : place ns x ≤ length ns = place_le ns x in
    either (same_bytes n x) (λ e. omega (arith, place_here n ns x e)) (λ e. omega (arith, place_on n ns x e))

-- below it x stands there
pub place_at : (ns : List Bytes) (x : Bytes) → place ns x < length ns → get_or ns (place ns x) [] ≡ x
place_at [] x l = absurd (omega arith)
place_at (n ∷ ns) x l =
    either (same_bytes n x) (λ e. ap (λ (k : ℕ). get_or (n ∷ ns) k []) (place_here n ns x e) ∙ same_bytes_eq n x e)
    (λ e.
    let p : place (n ∷ ns) x ≡ suc (place ns x) = place_on n ns x e in
    let b : place ns x < length ns = omega arith in
    ap (λ (k : ℕ). get_or (n ∷ ns) k []) p ∙ place_at ns x b)

-- a known name keeps its place
pub place_known : (ns ms : List Bytes) (x : Bytes) → place ns x < length ns → place (ns ++ ms) x ≡ place ns x
place_known [] ms x l = absurd (omega arith)
place_known (n ∷ ns) ms x l =
    either (same_bytes n x) (λ e. place_here n (ns ++ ms) x e ∙ sym (place_here n ns x e))
    (λ e.
    let p : place (n ∷ ns) x ≡ suc (place ns x) = place_on n ns x e in
    let b : place ns x < length ns = omega arith in
    place_on n (ns ++ ms) x e ∙ ap suc (place_known ns ms x b) ∙ sym p)

-- a name that is none of them is looked for in what follows
pub place_past : (ns ms : List Bytes) (x : Bytes) → place ns x ≡ length ns → place (ns ++ ms) x ≡ length ns + place ms x
place_past [] ms x q = omega arith
place_past (n ∷ ns) ms x q =
    either (same_bytes n x) (λ e. absurd (omega (arith, place_here n ns x e)))
    (λ e.
    let p : place (n ∷ ns) x ≡ suc (place ns x) = place_on n ns x e in
    let b : place ns x ≡ length ns = omega arith in
    omega (arith, place_on n (ns ++ ms) x e, place_past ns ms x b))

-- a new name gets the next place
pub place_new : (ns : List Bytes) (x : Bytes) → place ns x ≡ length ns → place (ns ++ (x ∷ [])) x ≡ length ns
place_new ns x q = omega (arith, place_past ns (x ∷ []) x q, place_here x [] x (same_bytes_refl x))

-- Names met one after another.

-- no name stands twice
abbrev pub Distinct : List Bytes → Type 0
Distinct ns = (a : ℕ) → a < length ns → place ns (get_or ns a []) ≡ a

-- a known name changes nothing
pub meet_known : (ns : List Bytes) (x : Bytes) → place ns x < length ns → meet ns x ≡ ns
unfolding meet
meet_known ns x l = pick_true ns (ns ++ (x ∷ [])) (lt-ltb (place ns x) (length ns) l)

-- a new one is put last
pub meet_new : (ns : List Bytes) (x : Bytes) → place ns x ≡ length ns → meet ns x ≡ ns ++ (x ∷ [])
unfolding meet
meet_new ns x q = pick_false ns (ns ++ (x ∷ [])) (le-ltb (place ns x) (length ns) (omega arith))

-- known or new
pub by_place : {X : Type 0} (ns : List Bytes) (x : Bytes) → (place ns x < length ns → X) → (place ns x ≡ length ns → X) → X
by_place ns x known new =
    let m : place ns x ≤ length ns = place_le ns x in
    either (ltb (place ns x) (length ns)) (λ e. known (ltb-true (place ns x) (length ns) e))
    (λ e. let l : length ns ≤ place ns x = ltb-false (place ns x) (length ns) e in new (omega arith))

-- what is met is among the names
pub meet_met : (ns : List Bytes) (x : Bytes) → place (meet ns x) x < length (meet ns x)
meet_met ns x =
    by_place ns x (λ l. subst (λ (ms : List Bytes). place ms x < length ms) (sym (meet_known ns x l)) l)
    (λ q.
    let l : place (ns ++ (x ∷ [])) x < length (ns ++ (x ∷ [])) = omega (arith, place_new ns x q, length-append ns (x ∷ [])) in
    subst (λ (ms : List Bytes). place ms x < length ms) (sym (meet_new ns x q)) l)

-- meeting only puts names after
pub meet_more : (ns : List Bytes) (x : Bytes) → (more : List Bytes) × (meet ns x ≡ ns ++ more)
meet_more ns x = by_place ns x (λ l. ([], meet_known ns x l ∙ sym (append-nil ns))) (λ q. (x ∷ [], meet_new ns x q))

-- so does meeting many
pub meets_more : (ns xs : List Bytes) → (more : List Bytes) × (meet_all ns xs ≡ ns ++ more)
unfolding meet_all
meets_more ns [] = ([], sym (append-nil ns))
meets_more ns (x ∷ xs) =
    let p = meet_more ns x in
    let q = meets_more (meet ns x) xs in
    (p.0 ++ q.0, q.1 ∙ ap (λ (ms : List Bytes). ms ++ q.0) p.1 ∙ append_assoc ns p.0 q.0)

-- so no name is lost
pub meets_le : (ns xs : List Bytes) → length ns ≤ length (meet_all ns xs)
meets_le ns xs = let p = meets_more ns xs in omega (arith, ap length p.1, length-append ns p.0)

-- so known names keep their places
pub meets_keep : (ns xs : List Bytes) (x : Bytes) → place ns x < length ns → place (meet_all ns xs) x ≡ place ns x
meets_keep ns xs x l =
    let p = meets_more ns xs in
    ap (λ (ms : List Bytes). place ms x) p.1 ∙ place_known ns p.0 x l

-- and places keep their names
pub meets_at : (ns xs : List Bytes) (a : ℕ) → a < length ns → get_or (meet_all ns xs) a [] ≡ get_or ns a []
meets_at ns xs a l =
    let p = meets_more ns xs in
    ap (λ (ms : List Bytes). get_or ms a []) p.1 ∙ get_or-append ns p.0 [] a l

-- each name met is among the names in the end
pub meets_met : (ns xs : List Bytes) (x : Bytes) → Among x xs → place (meet_all ns xs) x < length (meet_all ns xs)
unfolding meet_all Among
meets_met ns [] x m = absurd m
meets_met ns (y ∷ ys) x (inl e) =
    let l : place (meet ns x) x < length (meet ns x) = meet_met ns x in
    let k : place (meet_all (meet ns x) ys) x < length (meet_all (meet ns x) ys) =
    omega (arith, meets_keep (meet ns x) ys x l, meets_le (meet ns x) ys)
    in
    subst (λ (z : Bytes). place (meet_all (meet ns z) ys) x < length (meet_all (meet ns z) ys)) (sym e) k
meets_met ns (y ∷ ys) x (inr m) = meets_met (meet ns y) ys x m

-- each name in the end that was not there before is one of those met
pub meets_from : (ns xs : List Bytes) (a : ℕ) → length ns ≤ a → a < length (meet_all ns xs) → Among (get_or (meet_all ns xs) a []) xs
unfolding meet_all Among
meets_from ns [] a l m = omega arith
meets_from ns (x ∷ xs) a l m =
    either (ltb a (length (meet ns x)))
    (λ e.
    let b : a < length (meet ns x) = ltb-true a (length (meet ns x)) e in
    by_place ns x (λ k. absurd (omega (arith, ap length (meet_known ns x k))))
    (λ q.
    let n : a ≡ length ns = omega (arith, ap length (meet_new ns x q), length-append ns (x ∷ [])) in
    inl (sym (meets_at (meet ns x) xs a b
    ∙ ap₂ (λ (ms : List Bytes) (k : ℕ). get_or ms k []) (meet_new ns x q) n
    ∙ get_or-append_seam ns x [] []))))
    (λ e. inr (meets_from (meet ns x) xs a (ltb-false a (length (meet ns x)) e) m))

-- names met stay distinct
distinct_new : (ns : List Bytes) (x : Bytes) → Distinct ns → place ns x ≡ length ns → Distinct (ns ++ (x ∷ []))
distinct_new ns x d q a l =
    either (ltb a (length ns))
    (λ e.
    let b : a < length ns = ltb-true a (length ns) e in
    let p : place ns (get_or ns a []) ≡ a = d a b in
    let k : place ns (get_or ns a []) < length ns = omega arith in
    ap (place (ns ++ (x ∷ []))) (get_or-append ns (x ∷ []) [] a b) ∙ place_known ns (x ∷ []) (get_or ns a []) k ∙ p)
    (λ e.
    let n : a ≡ length ns = omega (arith, ltb-false a (length ns) e, length-append ns (x ∷ [])) in
    ap (λ (k : ℕ). place (ns ++ (x ∷ [])) (get_or (ns ++ (x ∷ [])) k [])) n
    ∙ ap (place (ns ++ (x ∷ []))) (get_or-append_seam ns x [] []) ∙ place_new ns x q ∙ sym n)

-- whichever it is
pub distinct_meet : (ns : List Bytes) (x : Bytes) → Distinct ns → Distinct (meet ns x)
distinct_meet ns x d =
    by_place ns x (λ l. subst (λ (ms : List Bytes). Distinct ms) (sym (meet_known ns x l)) d)
    (λ q. subst (λ (ms : List Bytes). Distinct ms) (sym (meet_new ns x q)) (distinct_new ns x d q))

-- however many are met
pub distinct_meets : (ns xs : List Bytes) → Distinct ns → Distinct (meet_all ns xs)
unfolding meet_all
distinct_meets ns [] d = d
distinct_meets ns (x ∷ xs) d = distinct_meets (meet ns x) xs (distinct_meet ns x d)

-- names met in two runs
pub meets_append : (ns xs ys : List Bytes) → meet_all ns (xs ++ ys) ≡ meet_all (meet_all ns xs) ys
unfolding meet_all
meets_append ns [] ys = refl
meets_append ns (x ∷ xs) ys = meets_append (meet ns x) xs ys

-- Clauses.

-- the names of a clause: head before body
standing_one : (c : Clause) → standing (c ∷ []) ≡ c.head ∷ c.body
unfolding standing
standing_one c = append-nil (c.head ∷ c.body)

-- the names of clauses in two runs
pub standing_append : (cs ds : List Clause) → standing (cs ++ ds) ≡ standing cs ++ standing ds
unfolding standing
standing_append [] ds = refl
standing_append (c ∷ cs) ds =
    ap (λ (xs : List Bytes). (c.head ∷ c.body) ++ xs) (standing_append cs ds)
    ∙ sym (append_assoc (c.head ∷ c.body) (standing cs) (standing ds))

-- more clauses meet more names
pub names_append : (cs ds : List Clause) → names_of (cs ++ ds) ≡ meet_all (names_of cs) (standing ds)
unfolding names_of
names_append cs ds = ap (meet_all []) (standing_append cs ds) ∙ meets_append [] (standing cs) (standing ds)

-- no clauses have no names
pub names_none : names_of [] ≡ []
unfolding names_of meet_all standing
names_none = refl

-- one clause more meets its head, then its body
pub names_more : (cs : List Clause) (c : Clause) → names_of (cs ++ (c ∷ [])) ≡ meet_all (names_of cs) (c.head ∷ c.body)
names_more cs c = names_append cs (c ∷ []) ∙ ap (meet_all (names_of cs)) (standing_one c)

-- a book's names are distinct
pub names_distinct : (cs : List Clause) → Distinct (names_of cs)
unfolding names_of
names_distinct cs = distinct_meets [] (standing cs) (λ a l. absurd (omega arith))

-- every name that stands in it is numbered
pub names_met : (cs : List Clause) (x : Bytes) → Among x (standing cs) → place (names_of cs) x < length (names_of cs)
unfolding names_of
names_met cs x m = meets_met [] (standing cs) x m

-- and each number is that of a name that stands in it
pub names_from_lem : (cs : List Clause) (a : ℕ) → a < length (names_of cs) → Among (get_or (names_of cs) a []) (standing cs)
unfolding names_of
names_from_lem cs a l = meets_from [] (standing cs) a (omega arith) l

-- names grow with clauses
pub names_le : (cs ds : List Clause) → length (names_of cs) ≤ length (names_of (cs ++ ds))
names_le cs ds = omega (arith, ap length (names_append cs ds), meets_le (names_of cs) (standing ds))

-- those that stood keep their numbers
pub names_keep : (cs ds : List Clause) (x : Bytes) → Among x (standing cs) → place (names_of (cs ++ ds)) x ≡ place (names_of cs) x
names_keep cs ds x m =
    ap (λ (ns : List Bytes). place ns x) (names_append cs ds) ∙ meets_keep (names_of cs) (standing ds) x (names_met cs x m)

-- x stands among the first or the second
pub among_left : (x : Bytes) (xs ys : List Bytes) → Among x xs → Among x (xs ++ ys)
unfolding Among
among_left x [] ys m = absurd m
among_left x (y ∷ xs) ys (inl e) = inl e
among_left x (y ∷ xs) ys (inr m) = inr (among_left x xs ys m)

-- or among the second
pub among_right : (x : Bytes) (xs ys : List Bytes) → Among x ys → Among x (xs ++ ys)
unfolding Among
among_right x [] ys m = m
among_right x (y ∷ xs) ys m = inr (among_right x xs ys m)

-- and nowhere else
pub among_split : (x : Bytes) (xs ys : List Bytes) → Among x (xs ++ ys) → Among x xs ⊎ Among x ys
unfolding Among
among_split x [] ys m = inr m
among_split x (y ∷ xs) ys (inl e) = inl (inl e)
among_split x (y ∷ xs) ys (inr m) = ⊎_elim (λ l. inl (inr l)) inr (among_split x xs ys m)

-- the numbers of names that have the same place in both
places_same_at : (ns ms xs : List Bytes) → ((x : Bytes) → Among x xs → place ms x ≡ place ns x) → (a : ℕ) → places ms xs a ≡ places ns xs a
unfolding places Among
places_same_at ns ms [] h a = refl
places_same_at ns ms (x ∷ xs) h a =
    ap₂ (λ (p q : Bool). p || q) (ap (λ (k : ℕ). eqb k a) (h x (inl refl))) (places_same_at ns ms xs (λ y m. h y (inr m)) a)

-- as a set
pub places_same : (ns ms xs : List Bytes) → ((x : Bytes) → Among x xs → place ms x ≡ place ns x) → places ms xs ≡ places ns xs
places_same ns ms xs h = fun_ext (places_same_at ns ms xs h)

-- a clause by number
pub numbered_same : (ns ms : List Bytes) (c : Clause)
    → ((x : Bytes) → Among x (c.head ∷ c.body) → place ms x ≡ place ns x) → numbered ms c ≡ numbered ns c
unfolding numbered Among
numbered_same ns ms c h =
    ap₂ (λ (k : ℕ) (s : Set). record { head = k; body = s }) (h c.head (inl refl)) (places_same ns ms c.body (λ x m. h x (inr m)))

-- clauses by number
pub all_numbered_same : (ns ms : List Bytes) (cs : List Clause)
    → ((x : Bytes) → Among x (standing cs) → place ms x ≡ place ns x) → map (numbered ms) cs ≡ map (numbered ns) cs
unfolding standing
all_numbered_same ns ms [] h = refl
all_numbered_same ns ms (c ∷ cs) h =
    ap₂ (λ (r : Rule ℕ) (rs : List (Rule ℕ)). r ∷ rs)
    (numbered_same ns ms c (λ x m. h x (among_left x (c.head ∷ c.body) (standing cs) m)))
    (all_numbered_same ns ms cs (λ x m. h x (among_right x (c.head ∷ c.body) (standing cs) m)))

-- more clauses leave the rules so far as they are
pub numbered_stable : (cs ds : List Clause) → map (numbered (names_of (cs ++ ds))) cs ≡ map (numbered (names_of cs)) cs
numbered_stable cs ds = all_numbered_same (names_of cs) (names_of (cs ++ ds)) cs (names_keep cs ds)

-- a map over two runs
map_append : {A B : Type 0} (f : A → B) (xs ys : List A) → map f (xs ++ ys) ≡ map f xs ++ map f ys
map_append f [] ys = refl
map_append {A} {B} f (x ∷ xs) ys = ap (λ (r : List B). f x ∷ r) (map_append f xs ys)

-- so one clause more is one rule more
pub numbered_more : (cs : List Clause) (c : Clause)
    → map (numbered (names_of (cs ++ (c ∷ [])))) (cs ++ (c ∷ []))
    ≡ map (numbered (names_of cs)) cs ++ (numbered (names_of (cs ++ (c ∷ []))) c ∷ [])
numbered_more cs c =
    map_append (numbered (names_of (cs ++ (c ∷ [])))) cs (c ∷ [])
    ∙ ap (λ (rs : List (Rule ℕ)). rs ++ (numbered (names_of (cs ++ (c ∷ []))) c ∷ [])) (numbered_stable cs (c ∷ []))

-- Rows of rules.

-- heads of two runs
pub heads_append : (rs ss : List (Rule ℕ)) → head_rows (rs ++ ss) ≡ head_rows rs ++ head_rows ss
unfolding head_rows
heads_append [] ss = refl
heads_append (r ∷ rs) ss = ap (λ (xs : List ℕ). r.head ∷ xs) (heads_append rs ss)

-- bodies of two runs
pub bodies_append : (rs ss : List (Rule ℕ)) → body_rows (rs ++ ss) ≡ body_rows rs ++ body_rows ss
unfolding body_rows
bodies_append [] ss = refl
bodies_append (r ∷ rs) ss =
    ap (λ (xs : List ℕ). pack body_words r.body ++ xs) (bodies_append rs ss)
    ∙ sym (append_assoc (pack body_words r.body) (body_rows rs) (body_rows ss))

-- one entry for each head
pub heads_length : (rs : List (Rule ℕ)) → length (head_rows rs) ≡ length rs
unfolding head_rows
heads_length [] = refl
heads_length (r ∷ rs) = ap suc (heads_length rs)

-- two words for each body
pub bodies_length : (rs : List (Rule ℕ)) → length (body_rows rs) ≡ length rs * body_words
unfolding body_rows
bodies_length [] = refl
bodies_length (r ∷ rs) =
    omega (arith, length-append (pack body_words r.body) (body_rows rs), length_pack body_words r.body, bodies_length rs)

-- The numbering is one to one and onto, and the program by numbers is well formed.

-- the number of each name in the list is one of its places
pub places_has : (ns xs : List Bytes) (x : Bytes) → Among x xs → places ns xs (place ns x) ≡ true
unfolding places Among
places_has ns [] x m = absurd m
places_has ns (y ∷ xs) x (inl e) = or_left (places ns xs (place ns x)) (eq-eqb (place ns y) (place ns x) (ap (place ns) e))
places_has ns (y ∷ xs) x (inr m) = or_right (eqb (place ns y) (place ns x)) (places_has ns xs x m)

-- a member of a body is a number below
pub places_below : (ns xs : List Bytes) → ((x : Bytes) → Among x xs → place ns x < length ns) → (a : ℕ) → places ns xs a ≡ true → a < length ns
unfolding places Among
places_below ns [] h a e = clash e refl
places_below ns (x ∷ xs) h a e =
    or_elim (eqb (place ns x) a) (places ns xs a) e
    (λ t. let l : place ns x < length ns = h x (inl refl) in omega (arith, eqb-true (place ns x) a t))
    (λ t. places_below ns xs (λ y m. h y (inr m)) a t)

-- heads are below the number of names
heads_below : (ns : List Bytes) (cs : List Clause) → ((x : Bytes) → Among x (standing cs) → place ns x < length ns)
    → (j : ℕ) → j < length (map (numbered ns) cs) → (get_or (map (numbered ns) cs) j no_rule).head < length ns
unfolding numbered standing Among
heads_below ns [] h j l = absurd (omega arith)
heads_below ns (c ∷ cs) h zero l = h c.head (inl refl)
heads_below ns (c ∷ cs) h (suc j) l = heads_below ns cs (λ x m. h x (among_right x (c.head ∷ c.body) (standing cs) m)) j (omega arith)

-- and so are the members of bodies
bodies_below : (ns : List Bytes) (cs : List Clause) → ((x : Bytes) → Among x (standing cs) → place ns x < length ns)
    → (j a : ℕ) → j < length (map (numbered ns) cs) → (get_or (map (numbered ns) cs) j no_rule).body a ≡ true → a < length ns
unfolding numbered standing Among
bodies_below ns [] h j a l e = absurd (omega arith)
bodies_below ns (c ∷ cs) h zero a l e =
    places_below ns c.body (λ x m. h x (among_left x (c.head ∷ c.body) (standing cs) (inr m))) a e
bodies_below ns (c ∷ cs) h (suc j) a l e =
    bodies_below ns cs (λ x m. h x (among_right x (c.head ∷ c.body) (standing cs) m)) j a (omega arith) e

-- a name that stands before another's first appearance has the smaller number
first_appearance : (cs : List Clause) (xs ys : List Bytes) (x y : Bytes) → standing cs ≡ xs ++ (y ∷ ys) → Among x xs → (Among y xs → ⊥)
    → place (names_of cs) x < place (names_of cs) y
unfolding names_of
first_appearance cs xs ys x y e m new =
    let ns : List Bytes = meet_all [] xs in
    let more = meets_more ns (y ∷ ys) in
    let all : meet_all [] (standing cs) ≡ ns ++ more.0 = ap (meet_all []) e ∙ meets_append [] xs (y ∷ ys) ∙ more.1 in
    let l : place ns x < length ns = meets_met [] xs x m in
    let q : place ns y ≡ length ns =
    by_place ns y
    (λ k. absurd (new (subst (λ (z : Bytes). Among z xs) (place_at ns y k) (meets_from [] xs (place ns y) (omega arith) k)))) (λ k. k)
    in
    omega (
      arith,
      ap (λ (ms : List Bytes). place ms x) all,
      ap (λ (ms : List Bytes). place ms y) all,
      place_known ns more.0 x l,
      place_past ns more.0 y q,
    )

-- the claim
pub numbers : (cs : List Clause) → Numbers cs
numbers cs = record {
  stands = names_from_lem cs;
  number = names_distinct cs;
  below = names_met cs;
  name = λ x m. place_at (names_of cs) x (names_met cs x m);
  earlier = first_appearance cs;
  formed = unfold program_of in (record {
    heads = heads_below (names_of cs) cs (names_met cs);
    bodies = bodies_below (names_of cs) cs (names_met cs);
  });
}

-- no body of a book with at most 128 names has a member at or past 128
pub book_low : (cs : List Clause) → length (names_of cs) ≤ names → Low (map (numbered (names_of cs)) cs)
unfolding program_of
book_low cs fits j a l h =
    not-true ((get_or (map (numbered (names_of cs)) cs) j no_rule).body a) (λ e. omega (arith, (numbers cs).formed.bodies j a l e))
