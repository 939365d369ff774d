-- The rules kept of the clauses that lines say: the tests are the statements, each clause has a kept twin, no two kept ones are alike, and names and
-- their numbers are those of all clauses.
-- Assumes nothing.
use mathlib.Core.Path.{◌≡◌, refl, sym, ap, ◌∙◌, subst}
use mathlib.Core.Bool.{true, false, ◌&&◌}
use mathlib.Core.Logic.{◌⊎◌, ◌↔◌, inl, inr, ⊎_elim}
use mathlib.Core.List.{List, [], ◌∷◌, ◌++◌, append-nil, append_assoc}
use Prim.Native.Nat.{ℕ, zero, suc, ◌<◌}
use native.Mathlib.Omega.{arith}
use lib.Dec.{ltb}
use lib.ListN.{length, get_or, length-append, get_or-append}
use lib.Seq.{get_or-append_seam}
use borrow.Author.Tests.{ltb-true, ltb-false}
use Rattle.sets.proofs.Logic.{either, clash, not-true, and_left, and_right, and_make, or_left, or_right, or_elim, pick_true, pick_false}
use Rattle.grammar.specs.Bytes.{Bytes, Among}
use Rattle.grammar.specs.Grammar.{Clause}
use Rattle.tables.specs.Numbering.{same_bytes, place, meet_all, standing, names_of}
use Rattle.tables.specs.Repeats.{SameRule, ClauseIn, Repeat, no_clause, among, all_among, same_rule, repeats, keep, kept_after, kept, Keeps}
use Rattle.tables.proofs.Numbering.{same_bytes_eq, same_bytes_refl, meet_known, names_append, names_more, names_met, among_left, among_right, among_split}

-- Tests and statements.

among_find : (x : Bytes) (ys : List Bytes) → among x ys ≡ true → Among x ys
unfolding among Among
among_find x [] e = clash e refl
among_find x (y ∷ ys) e = or_elim (same_bytes y x) (among x ys) e (λ t. inl (same_bytes_eq y x t)) (λ t. inr (among_find x ys t))

among_make : (x : Bytes) (ys : List Bytes) → Among x ys → among x ys ≡ true
unfolding among Among
among_make x [] m = absurd m
among_make x (y ∷ ys) (inl e) = or_left (among x ys) (ap (λ (z : Bytes). same_bytes z x) e ∙ same_bytes_refl x)
among_make x (y ∷ ys) (inr m) = or_right (same_bytes y x) (among_make x ys m)

all_among_find : (xs ys : List Bytes) → all_among xs ys ≡ true → (x : Bytes) → Among x xs → Among x ys
unfolding all_among Among
all_among_find [] ys e x m = absurd m
all_among_find (y ∷ xs) ys e x (inl q) = subst (λ (z : Bytes). Among z ys) q (among_find y ys (and_left (among y ys) (all_among xs ys) e))
all_among_find (y ∷ xs) ys e x (inr m) = all_among_find xs ys (and_right (among y ys) (all_among xs ys) e) x m

all_among_make : (xs ys : List Bytes) → ((x : Bytes) → Among x xs → Among x ys) → all_among xs ys ≡ true
unfolding all_among Among
all_among_make [] ys h = refl
all_among_make (x ∷ xs) ys h = and_make (among_make x ys (h x (inl refl))) (all_among_make xs ys (λ y m. h y (inr m)))

-- the test for SameRule
pub same_rule_lem : (c d : Clause) → (same_rule c d ≡ true) ↔ SameRule c d
unfolding same_rule
same_rule_lem c d = (
  λ e.
      let heads : same_bytes c.head d.head ≡ true =
      and_left (same_bytes c.head d.head) (all_among c.body d.body && all_among d.body c.body) e in
      let bodies : all_among c.body d.body && all_among d.body c.body ≡ true =
      and_right (same_bytes c.head d.head) (all_among c.body d.body && all_among d.body c.body) e in
      record {
        head = same_bytes_eq c.head d.head heads;
        there = all_among_find c.body d.body (and_left (all_among c.body d.body) (all_among d.body c.body) bodies);
        back = all_among_find d.body c.body (and_right (all_among c.body d.body) (all_among d.body c.body) bodies);
      },
  λ s.
      and_make (ap (same_bytes c.head) (sym s.head) ∙ same_bytes_refl c.head)
      (and_make (all_among_make c.body d.body s.there) (all_among_make d.body c.body s.back)),
)

-- the test for Repeat
repeat_find : (c : Clause) (cs : List Clause) → repeats cs c ≡ true → Repeat cs c
unfolding repeats ClauseIn
repeat_find c [] e = clash e refl
repeat_find c (d ∷ cs) e =
    or_elim (same_rule d c) (repeats cs c) e (λ t. (d, inl refl, (same_rule_lem d c).0 t))
    (λ t. let r = repeat_find c cs t in (r.0, inr r.1, r.2))

repeat_make : (c : Clause) (cs : List Clause) (d : Clause) → ClauseIn d cs → SameRule d c → repeats cs c ≡ true
unfolding repeats ClauseIn
repeat_make c [] d m s = absurd m
repeat_make c (e ∷ cs) d (inl q) s = or_left (repeats cs c) (ap (λ (x : Clause). same_rule x c) q ∙ (same_rule_lem d c).1 s)
repeat_make c (e ∷ cs) d (inr m) s = or_right (same_rule e c) (repeat_make c cs d m s)

pub repeat_test : (cs : List Clause) (c : Clause) → (repeats cs c ≡ true) ↔ Repeat cs c
repeat_test cs c = (repeat_find c cs, λ r. repeat_make c cs r.0 r.1 r.2)

-- a repeat or none
pub by_repeat : {X : Type 0} (cs : List Clause) (c : Clause) → (repeats cs c ≡ true → X) → (repeats cs c ≡ false → X) → X
by_repeat cs c f g = either (repeats cs c) f g

-- none, by the test
pub unrepeated_test : (cs : List Clause) (c : Clause) → (Repeat cs c → ⊥) → repeats cs c ≡ false
unrepeated_test cs c n = not-true (repeats cs c) (λ e. n ((repeat_test cs c).0 e))

-- by the statement
pub unrepeated_none : (cs : List Clause) (c : Clause) → repeats cs c ≡ false → Repeat cs c → ⊥
unrepeated_none cs c e r = clash ((repeat_test cs c).1 r) e

-- Keeping one.

pub keep_repeat : (cs : List Clause) (c : Clause) → repeats cs c ≡ true → keep cs c ≡ cs
unfolding keep
keep_repeat cs c e = pick_true cs (cs ++ (c ∷ [])) e

pub keep_new : (cs : List Clause) (c : Clause) → repeats cs c ≡ false → keep cs c ≡ cs ++ (c ∷ [])
unfolding keep
keep_new cs c e = pick_false cs (cs ++ (c ∷ [])) e

-- each clause gives the rule that it gives
same_self : (c : Clause) → SameRule c c
same_self c = record { head = refl; there = λ x m. m; back = λ x m. m }

-- a clause among the first or the second
pub clause_left : (c : Clause) (cs ds : List Clause) → ClauseIn c cs → ClauseIn c (cs ++ ds)
unfolding ClauseIn
clause_left c [] ds m = absurd m
clause_left c (d ∷ cs) ds (inl e) = inl e
clause_left c (d ∷ cs) ds (inr m) = inr (clause_left c cs ds m)

clause_right : (c : Clause) (cs ds : List Clause) → ClauseIn c ds → ClauseIn c (cs ++ ds)
unfolding ClauseIn
clause_right c [] ds m = m
clause_right c (d ∷ cs) ds m = inr (clause_right c cs ds m)

pub clause_split : (c : Clause) (cs ds : List Clause) → ClauseIn c (cs ++ ds) → ClauseIn c cs ⊎ ClauseIn c ds
unfolding ClauseIn
clause_split c [] ds m = inr m
clause_split c (d ∷ cs) ds (inl e) = inl (inl e)
clause_split c (d ∷ cs) ds (inr m) = ⊎_elim (λ l. inl (inr l)) inr (clause_split c cs ds m)

-- Keeping many.

-- in two runs
pub after_append : (cs xs ys : List Clause) → kept_after cs (xs ++ ys) ≡ kept_after (kept_after cs xs) ys
unfolding kept_after
after_append cs [] ys = refl
after_append cs (x ∷ xs) ys = after_append (keep cs x) xs ys

-- none more
pub after_none : (cs : List Clause) → kept_after cs [] ≡ cs
unfolding kept_after
after_none cs = refl

-- one more
pub after_one : (cs : List Clause) (c : Clause) → kept_after cs (c ∷ []) ≡ keep cs c
unfolding kept_after
after_one cs c = refl

-- one, then others
pub after_on : (cs : List Clause) (c : Clause) (said : List Clause) → kept_after cs (c ∷ said) ≡ kept_after (keep cs c) said
unfolding kept_after
after_on cs c said = refl

-- rules are only put after
keep_more : (cs : List Clause) (c : Clause) → (more : List Clause) × (keep cs c ≡ cs ++ more)
keep_more cs c = by_repeat cs c (λ e. ([], keep_repeat cs c e ∙ sym (append-nil cs))) (λ e. (c ∷ [], keep_new cs c e))

pub after_more : (cs said : List Clause) → (more : List Clause) × (kept_after cs said ≡ cs ++ more)
unfolding kept_after
after_more cs [] = ([], sym (append-nil cs))
after_more cs (c ∷ said) =
    let p = keep_more cs c in
    let q = after_more (keep cs c) said in
    (p.0 ++ q.0, q.1 ∙ ap (λ (xs : List Clause). xs ++ q.0) p.1 ∙ append_assoc cs p.0 q.0)

-- so a repeat stays one
repeat_more : (cs ds : List Clause) (c : Clause) → Repeat cs c → Repeat (cs ++ ds) c
repeat_more cs ds c r = (r.0, clause_left r.0 cs ds r.1, r.2)

repeat_after : (cs said : List Clause) (c : Clause) → Repeat cs c → Repeat (kept_after cs said) c
repeat_after cs said c r =
    let p = after_more cs said in
    subst (λ (xs : List Clause). Repeat xs c) (sym p.1) (repeat_more cs p.0 c r)

-- what is said is kept, or its rule is that of a kept one
keep_twin : (cs : List Clause) (c : Clause) → Repeat (keep cs c) c
unfolding ClauseIn
keep_twin cs c =
    by_repeat cs c (λ e. subst (λ (xs : List Clause). Repeat xs c) (sym (keep_repeat cs c e)) ((repeat_test cs c).0 e))
    (λ e. subst (λ (xs : List Clause). Repeat xs c) (sym (keep_new cs c e)) (c, clause_right c cs (c ∷ []) (inl refl), same_self c))

pub after_twin : (cs said : List Clause) (c : Clause) → ClauseIn c said → Repeat (kept_after cs said) c
unfolding kept_after ClauseIn
after_twin cs [] c m = absurd m
after_twin cs (d ∷ said) c (inl e) =
    subst (λ (x : Clause). Repeat (kept_after (keep cs x) said) c) (sym e) (repeat_after (keep cs c) said c (keep_twin cs c))
after_twin cs (d ∷ said) c (inr m) = after_twin (keep cs d) said c m

-- what is kept was said
keep_from : (cs : List Clause) (c d : Clause) → ClauseIn d (keep cs c) → ClauseIn d cs ⊎ (c ≡ d)
unfolding ClauseIn
keep_from cs c d m =
    by_repeat cs c (λ e. inl (subst (ClauseIn d) (keep_repeat cs c e) m))
    (λ e. ⊎_elim inl (λ n. ⊎_elim inr (λ z. absurd z) n) (clause_split d cs (c ∷ []) (subst (ClauseIn d) (keep_new cs c e) m)))

pub after_from : (cs said : List Clause) (c : Clause) → ClauseIn c (kept_after cs said) → ClauseIn c cs ⊎ ClauseIn c said
unfolding kept_after ClauseIn
after_from cs [] c m = inl m
after_from cs (d ∷ said) c m =
    ⊎_elim (λ n. ⊎_elim inl (λ e. inr (inl e)) (keep_from cs d c n)) (λ n. inr (inr n)) (after_from (keep cs d) said c m)

-- from the beginning
pub kept_said : (said : List Clause) (c : Clause) → ClauseIn c (kept said) → ClauseIn c said
unfolding ClauseIn
kept_said said c m = ⊎_elim (λ z. absurd z) (λ n. n) (after_from [] said c m)

-- clauses that all repeat change nothing
pub after_known : (cs said : List Clause) → ((c : Clause) → ClauseIn c said → Repeat cs c) → kept_after cs said ≡ cs
unfolding kept_after ClauseIn
after_known cs [] h = refl
after_known cs (c ∷ said) h =
    ap (λ (xs : List Clause). kept_after xs said) (keep_repeat cs c ((repeat_test cs c).1 (h c (inl refl))))
    ∙ after_known cs said (λ d m. h d (inr m))

-- No two alike.

-- clause j
abbrev pub clause_at : List Clause → ℕ → Clause
clause_at cs j = get_or cs j no_clause

-- no clause gives the rule of one before it
abbrev pub Apart : List Clause → Type 0
Apart cs = (i j : ℕ) → i < j → j < length cs → SameRule (clause_at cs i) (clause_at cs j) → ⊥

-- a clause among them has a number
pub clause_number : (d : Clause) (cs : List Clause) → ClauseIn d cs → (i : ℕ) × (i < length cs) × (clause_at cs i ≡ d)
unfolding ClauseIn
clause_number d [] m = absurd m
clause_number d (c ∷ cs) (inl e) = (0, omega arith, e)
clause_number d (c ∷ cs) (inr m) = let r = clause_number d cs m in (suc r.0, omega (arith, r.1), r.2)

-- and each number is that of one
pub number_clause : (cs : List Clause) (i : ℕ) → i < length cs → ClauseIn (clause_at cs i) cs
unfolding ClauseIn
number_clause [] i l = absurd (omega arith)
number_clause (c ∷ cs) zero l = inl refl
number_clause (c ∷ cs) (suc i) l = inr (number_clause cs i (omega arith))

-- the first clauses of two runs, and the one between
module _ (cs ds : List Clause) (c : Clause) where
  abbrev whole : List Clause
  whole = cs ++ (c ∷ ds)

  at_left : (i : ℕ) → i < length cs → clause_at whole i ≡ clause_at cs i
  at_left i l = get_or-append cs (c ∷ ds) no_clause i l

  at_seam : clause_at whole (length cs) ≡ c
  at_seam = get_or-append_seam cs c ds no_clause

  -- where no two are alike, the one between repeats none before it
  apart_between : Apart whole → Repeat cs c → ⊥
  apart_between a r =
      let q = clause_number r.0 cs r.1 in
      a q.0 (length cs) q.1 (omega (arith, length-append cs (c ∷ ds)))
      (subst (λ (x : Clause). SameRule x (clause_at whole (length cs))) (sym (at_left q.0 q.1 ∙ q.2))
      (subst (SameRule r.0) (sym at_seam) r.2))

-- then all are kept
pub after_apart : (cs said : List Clause) → Apart (cs ++ said) → kept_after cs said ≡ cs ++ said
unfolding kept_after
after_apart cs [] a = sym (append-nil cs)
after_apart cs (c ∷ said) a =
    let w : cs ++ (c ∷ said) ≡ (cs ++ (c ∷ [])) ++ said = sym (append_assoc cs (c ∷ []) said) in
    ap (λ (xs : List Clause). kept_after xs said) (keep_new cs c (unrepeated_test cs c (apart_between cs said c a)))
    ∙ after_apart (cs ++ (c ∷ [])) said (subst Apart w a)
    ∙ sym w

-- one more that is no repeat
apart_new : (cs : List Clause) (c : Clause) → Apart cs → (Repeat cs c → ⊥) → Apart (cs ++ (c ∷ []))
apart_new cs c a n i j l m s =
    let li : i < length cs = omega (arith, length-append cs (c ∷ [])) in
    either (ltb j (length cs))
    (λ t.
    let lj : j < length cs = ltb-true j (length cs) t in
    a i j l lj (subst (SameRule (clause_at cs i)) (at_left cs [] c j lj)
    (subst (λ (x : Clause). SameRule x (clause_at (cs ++ (c ∷ [])) j)) (at_left cs [] c i li) s)))
    (λ t.
    let e : j ≡ length cs = omega (arith, ltb-false j (length cs) t, length-append cs (c ∷ [])) in
    n (
      clause_at cs i,
      number_clause cs i li,
      subst (SameRule (clause_at cs i)) (ap (clause_at (cs ++ (c ∷ []))) e ∙ at_seam cs [] c)
          (subst (λ (x : Clause). SameRule x (clause_at (cs ++ (c ∷ [])) j)) (at_left cs [] c i li) s),
    ))

keep_apart : (cs : List Clause) (c : Clause) → Apart cs → Apart (keep cs c)
keep_apart cs c a =
    by_repeat cs c (λ e. subst Apart (sym (keep_repeat cs c e)) a)
    (λ e. subst Apart (sym (keep_new cs c e)) (apart_new cs c a (unrepeated_none cs c e)))

pub apart_after : (cs said : List Clause) → Apart cs → Apart (kept_after cs said)
unfolding kept_after
apart_after cs [] a = a
apart_after cs (c ∷ said) a = apart_after (keep cs c) said (keep_apart cs c a)

-- the rules kept
pub kept_apart : (said : List Clause) → Apart (kept said)
kept_apart said = apart_after [] said (λ i j l m. absurd (omega arith))

-- Names.

-- names that are all known change nothing
meets_known : (ns xs : List Bytes) → ((x : Bytes) → Among x xs → place ns x < length ns) → meet_all ns xs ≡ ns
unfolding meet_all Among
meets_known ns [] h = refl
meets_known ns (x ∷ xs) h =
    ap (λ (ms : List Bytes). meet_all ms xs) (meet_known ns x (h x (inl refl))) ∙ meets_known ns xs (λ y m. h y (inr m))

-- the names of a clause stand among those of the clauses
pub clause_names : (cs : List Clause) (d : Clause) → ClauseIn d cs → (x : Bytes) → Among x (d.head ∷ d.body) → Among x (standing cs)
unfolding standing ClauseIn
clause_names [] d o x m = absurd o
clause_names (c ∷ cs) d (inl e) x m =
    among_left x (c.head ∷ c.body) (standing cs) (subst (λ (b : Clause). Among x (b.head ∷ b.body)) (sym e) m)
clause_names (c ∷ cs) d (inr o) x m = among_right x (c.head ∷ c.body) (standing cs) (clause_names cs d o x m)

-- a repeat has no name that is new
pub repeat_names : (cs : List Clause) (c : Clause) → Repeat cs c → (x : Bytes) → Among x (c.head ∷ c.body) → Among x (standing cs)
unfolding Among
repeat_names cs c r x (inl e) = clause_names cs r.0 r.1 x (inl (r.2.head ∙ e))
repeat_names cs c r x (inr m) = clause_names cs r.0 r.1 x (inr (r.2.back x m))

pub repeat_meets : (cs : List Clause) (c : Clause) → Repeat cs c → meet_all (names_of cs) (c.head ∷ c.body) ≡ names_of cs
repeat_meets cs c r = meets_known (names_of cs) (c.head ∷ c.body) (λ x m. names_met cs x (repeat_names cs c r x m))

keep_names : (cs : List Clause) (c : Clause) → names_of (keep cs c) ≡ names_of (cs ++ (c ∷ []))
keep_names cs c =
    by_repeat cs c
    (λ e. ap names_of (keep_repeat cs c e) ∙ sym (names_more cs c ∙ repeat_meets cs c ((repeat_test cs c).0 e)))
    (λ e. ap names_of (keep_new cs c e))

-- so the names of the rules kept are those of all clauses
pub after_names : (cs said : List Clause) → names_of (kept_after cs said) ≡ names_of (cs ++ said)
unfolding kept_after
after_names cs [] = ap names_of (sym (append-nil cs))
after_names cs (c ∷ said) =
    after_names (keep cs c) said ∙ names_append (keep cs c) said
    ∙ ap (λ (ns : List Bytes). meet_all ns (standing said)) (keep_names cs c)
    ∙ sym (names_append (cs ++ (c ∷ [])) said)
    ∙ ap names_of (append_assoc cs (c ∷ []) said)

-- a name of the clauses stands in one of them
pub in_clause : (cs : List Clause) (x : Bytes) → Among x (standing cs) → (c : Clause) × ClauseIn c cs × Among x (c.head ∷ c.body)
unfolding standing Among ClauseIn
in_clause [] x m = absurd m
in_clause (c ∷ cs) x m =
    ⊎_elim (λ n. (c, inl refl, n)) (λ n. let r = in_clause cs x n in (r.0, inr r.1, r.2))
    (among_split x (c.head ∷ c.body) (standing cs) m)

-- a name that stands in the rules kept stands in what is said
pub kept_standing : (said : List Clause) (x : Bytes) → Among x (standing (kept said)) → Among x (standing said)
kept_standing said x m =
    let r = in_clause (kept said) x m in
    clause_names said r.0 (kept_said said r.0 r.1) x r.2

-- The claim.
pub keeping : (said : List Clause) → Keeps said
keeping said = record {
  repeat = repeat_test;
  twin = after_twin [] said;
  from = kept_said said;
  apart = kept_apart said;
  names = after_names [] said;
  again = after_apart [] (kept said) (kept_apart said);
  twice = after_append [] said said ∙ after_known (kept said) said (after_twin [] said);
}
