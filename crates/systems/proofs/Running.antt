-- The rounds call: the set in a model area, sets that end at a count, and each way out of the call.
-- Assumes nothing.
use mathlib.Core.Path.{◌≡◌, refl, sym, ◌∙◌, subst, fun_ext}
use mathlib.Core.Logic.{inl, inr}
use mathlib.Core.Bool.{Bool, true, false, not, ◌&&◌, ◌||◌}
use mathlib.Core.List.{List, ◌++◌}
use Prim.Native.Nat.{ℕ, ◌*◌, ◌≤◌, ◌<◌}
use native.Mathlib.Omega.{arith}
use lib.Dec.{leb, ltb}
use borrow.Author.Tests.{leb-true, le-leb, lt-ltb, le-ltb, ltb-true, ltb-false}
use lib.ListN.{length, drop, replicate}
use Rattle.limits.specs.Book.{atoms, word_bits, row_words, row_area}
use Rattle.limits.specs.Cause.{rounds_causes}
use Rattle.limits.proofs.Causes.{without, one_found}
use Rattle.sets.specs.Set.{Set, Within, Same, pick, exists, within, same, empty_set, only, union}
use Rattle.sets.specs.Steps.{Monotone, Least}
use Rattle.sets.proofs.Logic.{either, clash, not-true, iff, and_left, and_right, and_make, or_left, or_right, of_not, not_of_false, pick_true, pick_false}
use Rattle.sets.proofs.Tests.{exists_find, exists_none, within_at, within_make, within_same, same_at, same_make, same_within, same_sym}
use Rattle.sets.proofs.Rounds.{rounds_first, reached_least}
use Rattle.sets.proofs.Running.{step_sees, rounds_few}
use Rattle.areas.specs.Area.{part, put}
use Rattle.words.specs.Row.{Words, pack}
use Rattle.words.proofs.Rows.{length_pack}
use Rattle.program.specs.System.{System, round, rows_after, rounds_of, held_by}
use Rattle.program.proofs.Folds.{round_folded}
use Rattle.program.proofs.Alike as Alike
use Rattle.areas.proofs.Begun.{drop_begun, put_front}
use Rattle.systems.specs.Rows.{RowAreas, below, formed_rows}
use Rattle.systems.specs.Rounds.{RoundsOutcome, model_in, with_model, system_in, short_system, formed_system, start_kept, rounds_refusal, rounds_made, rounds_call}
use Rattle.systems.specs.Claims.{RoundsLong, RoundsFormed, Lost, Runs}
use Rattle.systems.proofs.Packed.{part_past, set_none, set_words, set_row, length-set, set_again, set_same, set_known, set_joined, set_below, set_below_past}
use Rattle.systems.proofs.Formed.{formed_at, formed_make, within_fewer}

-- The model area: what holds of a set at the front of an area, at its width.

pub model_words : (f : Set) (model : List ℕ) → part 0 row_words (with_model f model) ≡ pack row_words f
unfolding with_model
model_words = set_words row_words

pub model_row : (f : Set) (model : List ℕ) → Same (row_words * word_bits) (model_in (with_model f model)) f
unfolding with_model
model_row = set_row row_words

pub length_model : (f : Set) (model : List ℕ) → row_words ≤ length model → length (with_model f model) ≡ length model
unfolding with_model
length_model = length-set row_words

pub model_again : (f g : Set) (model : List ℕ) → with_model f (with_model g model) ≡ with_model f model
unfolding with_model
model_again = set_again row_words

pub model_same : (f g : Set) (model : List ℕ) → Same (row_words * word_bits) f g → with_model f model ≡ with_model g model
unfolding with_model
model_same = set_same row_words

pub model_known : (model : List ℕ) → Words model → row_words ≤ length model → with_model (model_in model) model ≡ model
unfolding with_model
model_known = set_known row_words

pub model_joined : (a : ℕ) (f : Set) (area old : List ℕ) → area ≡ with_model f old
    → with_model (union (model_in area) (only a)) area ≡ with_model (union f (only a)) old
unfolding with_model
model_joined = set_joined row_words

-- what lies past the words of the set is as it was
pub model_rest : (f : Set) (model : List ℕ) → drop row_words (with_model f model) ≡ drop row_words model
unfolding with_model
model_rest f model = drop_begun row_words (pack row_words f) model (omega (arith, length_pack row_words f))

-- as it is written: cleared, or put
pub model_none : (old : List ℕ) → replicate row_words 0 ++ drop row_words old ≡ with_model empty_set old
unfolding with_model
model_none = set_none row_words

pub model_put : (f : Set) (area : List ℕ) → put 0 (pack row_words f) area ≡ with_model f area
unfolding with_model
model_put f = put_front (pack row_words f)

-- Sets with nothing at or past m: tests up to a larger bound are those up to m.

-- nothing at or past m
abbrev pub Ends : ℕ → Set → Type 0
Ends m f = (k : ℕ) → m ≤ k → f k ≡ false

pub ends_at : (m : ℕ) (f : Set) → Ends m f → (k : ℕ) → f k ≡ true → k < m
ends_at m f e k t = either (ltb k m) (λ u. ltb-true k m u) (λ u. clash t (e k (ltb-false k m u)))

pub ends_below : (m : ℕ) (f : Set) → Ends m (below m f)
ends_below m f k l = rw le-ltb

pub below_at : (m : ℕ) (f : Set) → Same m (below m f) f
below_at m f k l = rw lt-ltb

-- such a set is all below m
pub below_ends : (m : ℕ) (f : Set) → Ends m f → below m f ≡ f
below_ends m f e =
    fun_ext (λ k. either (ltb k m) (λ t. below_at m f k (ltb-true k m t)) (λ t. ends_below m f k (ltb-false k m t) ∙ sym (e k (ltb-false k m t))))

-- and sets that are the same below m are so in all
pub below_same : (m : ℕ) (f g : Set) → Same m f g → below m f ≡ below m g
below_same m f g s =
    fun_ext (λ k. either (ltb k m)
    (λ t. below_at m f k (ltb-true k m t) ∙ s k (ltb-true k m t) ∙ sym (below_at m g k (ltb-true k m t)))
    (λ t. ends_below m f k (ltb-false k m t) ∙ sym (ends_below m g k (ltb-false k m t))))

pub within_ends : (m n : ℕ) (f g : Set) → m ≤ n → Ends m f → within n f g ≡ within m f g
within_ends m n f g l e = within_fewer n m f g l (ends_at m f e)

pub same_ends : (m n : ℕ) (f g : Set) → m ≤ n → Ends m f → Ends m g → same n f g ≡ same m f g
same_ends m n f g l e d =
    iff (same n f g) (same m f g)
    (λ w. same_make m f g (λ k b. same_at n f g w k (omega arith)))
    (λ w. same_make n f g (λ k b.
    either (ltb k m) (λ t. same_at m f g w k (ltb-true k m t)) (λ t. e k (ltb-false k m t) ∙ sym (d k (ltb-false k m t)))))

-- a set with nothing at or past n that keeps below m up to n
pub ends_within : (m n : ℕ) (f : Set) → Ends n f → within n f (λ k. ltb k m) ≡ true → Ends m f
ends_within m n f past e k l =
    either (ltb k n)
    (λ b. not-true (f k) (λ t. let c : k < m = ltb-true k m (within_at n f (λ k. ltb k m) e k (ltb-true k n b) t) in omega arith))
    (λ b. past k (ltb-false k n b))

-- the set below m, left in an area, is read back below m, and nothing past it
pub model_below : (m : ℕ) (f : Set) (model : List ℕ) → m ≤ row_words * word_bits → Same m (model_in (with_model (below m f) model)) f
unfolding with_model
model_below = set_below row_words

pub model_below_past : (m : ℕ) (f : Set) (model : List ℕ) → Ends m (model_in (with_model (below m f) model))
unfolding with_model
model_below_past = set_below_past row_words

-- A round.

-- a larger set goes to a larger set
pub round_mono : (s : System) → Monotone s.atoms (round s)
unfolding rows_after
round_mono s = subst (Monotone s.atoms) (sym (round_folded s 0)) (Alike.round_mono s 1)

-- the start set is kept where it lies within what one round makes of it, up to any bound past the atoms
pub kept_test : (s : System) (n : ℕ) (v w : Set)
    → s.atoms ≤ n → Ends s.atoms v → Same s.atoms v s.start → Same s.atoms w (round s v) → within n v w ≡ start_kept s
unfolding start_kept
kept_test s n v w l e p d =
    within_ends s.atoms n v w l e
    ∙ within_same s.atoms v s.start w (round s s.start) p (λ i b. d i b ∙ step_sees s.atoms (round s) (round_mono s) v s.start p i b)

-- a start set that is kept rises
pub start_rises : (s : System) → start_kept s ≡ true → Within s.atoms s.start (round s s.start)
unfolding start_kept
start_rises s kept = within_at s.atoms s.start (round s s.start) kept

-- The call.

-- a set that is the same as the least one is the least one
least_same : (n : ℕ) (F : Set → Set) (f g h : Set) → Monotone n F → Same n g h → Least n F f g → Least n F f h
least_same n F f g h mono e r = record {
  contains = λ i l p. sym (e i l) ∙ r.contains i l p;
  closed = λ i l p. sym (e i l) ∙ r.closed i l (mono h g (same_within n h g (same_sym n g h e)) i l p);
  least = λ k s c i l p. r.least k s c i l (e i l ∙ p);
}

-- a start atom is lost where the start set is not kept
lost : (s : System) → start_kept s ≡ false → Lost s
unfolding start_kept
lost s e =
    let m : ℕ = s.atoms in
    let gone : Set = λ i. s.start i && not (round s s.start i) in
    either (exists m gone)
    (λ t.
    let q = exists_find m gone t in
    let i : ℕ = q.0 in
    let a : s.start i ≡ true = and_left (s.start i) (not (round s s.start i)) q.2 in
    let b : not (round s s.start i) ≡ true = and_right (s.start i) (not (round s s.start i)) q.2 in
    (i, q.1, a, of_not (round s s.start i) b))
    (λ t. clash
    (within_make m s.start (round s s.start)
    (λ i l p.
    either (round s s.start i) (λ u. u)
    (λ u. clash (and_make p (not_of_false (round s s.start i) u)) (exists_none m gone t i l))))
    e)

module _ (o : RowAreas) where
  abbrev model : List ℕ
  model = o.model

  abbrev short_all : Bool
  short_all = ltb (length o.all) row_area

  abbrev short_any : Bool
  short_any = ltb (length o.any) row_area

  abbrev short_model : Bool
  short_model = ltb (length model) row_words

  pub long_at : short_system o ≡ false → RoundsLong o
  unfolding short_system
  long_at e = (
    ltb-false (length o.all) row_area (not-true short_all (λ t. clash (or_left (short_any || short_model) t) e)),
    ltb-false (length o.any) row_area (not-true short_any (λ t. clash (or_right short_all (or_left short_model t)) e)),
    ltb-false (length model) row_words (not-true short_model (λ t. clash (or_right short_all (or_right short_any t)) e)),
  )

  pub long_make : RoundsLong o → short_system o ≡ false
  unfolding short_system
  long_make h = rw (le-ltb (length o.all) row_area h.0, le-ltb (length o.any) row_area h.1, le-ltb (length model) row_words h.2)

  module _ (m : ℕ) where
    abbrev rows_all : Bool
    rows_all = formed_rows row_words atoms m o.all

    abbrev rows_any : Bool
    rows_any = formed_rows row_words atoms m o.any

    abbrev in_model : Bool
    in_model = within (row_words * word_bits) (model_in model) (λ k. ltb k m)

    pub in_order : formed_system o m ≡ true → RoundsFormed o m
    unfolding formed_system
    in_order e =
        let d : rows_all && (rows_any && in_model) ≡ true = and_right (leb m atoms) (rows_all && (rows_any && in_model)) e in
        let c : rows_any && in_model ≡ true = and_right rows_all (rows_any && in_model) d in
        let b : in_model ≡ true = and_right rows_any in_model c in (
          leb-true m atoms (and_left (leb m atoms) (rows_all && (rows_any && in_model)) e),
          formed_at row_words atoms m o.all (and_left rows_all (rows_any && in_model) d),
          formed_at row_words atoms m o.any (and_left rows_any in_model c),
          ends_at m (model_in model) (ends_within m (row_words * word_bits) (model_in model) (part_past 0 row_words model) b),
        )

    pub order_make : RoundsFormed o m → formed_system o m ≡ true
    unfolding formed_system
    order_make h =
        and_make (le-leb m atoms h.0)
        (and_make (formed_make row_words atoms m o.all h.1) (and_make (formed_make row_words atoms m o.any h.2)
        (within_make (row_words * word_bits) (model_in model) (λ k. ltb k m) (λ k l t. lt-ltb k m (h.3 k t)))))

    abbrev s : System
    s = system_in o m

    -- areas long enough, rows in order and the start set kept: the rounds
    pub call_runs : RoundsLong o → RoundsFormed o m → start_kept s ≡ true
        → rounds_call o m ≡ rounds_made s model
    unfolding rounds_call pick
    call_runs l f e = rw (long_make l, order_make f, e, pick)

    -- the four ways out, each with what it is claimed to be
    way_short : (RoundsLong o → ⊥) → Runs o m s (rounds_refusal 1 model)
    unfolding without
    way_short h = record {
      accepts = (λ q. absurd (omega arith), λ p. absurd (h p.0));
      short = (λ q. h, λ q. refl);
      ill = (λ q. absurd (omega arith), λ p. absurd (h p.0));
      lost = (λ q. absurd (omega arith), λ p. absurd (h p.0));
      no_other = inr (one_found 1 1 rounds_causes refl refl);
      kept = λ q. (refl, refl);
      first = λ q. absurd (omega arith);
      bound = λ q. absurd (omega arith);
      least = λ q. absurd (omega arith);
      past = λ q. absurd (omega arith);
    }

    module _ (long : RoundsLong o) where
      way_ill : (RoundsFormed o m → ⊥) → Runs o m s (rounds_refusal 10 model)
      unfolding without
      way_ill h = record {
        accepts = (λ q. absurd (omega arith), λ p. absurd (h p.1));
        short = (λ q. absurd (omega arith), λ p. absurd (p long));
        ill = (λ q. (long, h), λ q. refl);
        lost = (λ q. absurd (omega arith), λ p. absurd (h p.1));
        no_other = inr (one_found 10 10 rounds_causes refl refl);
        kept = λ q. (refl, refl);
        first = λ q. absurd (omega arith);
        bound = λ q. absurd (omega arith);
        least = λ q. absurd (omega arith);
        past = λ q. absurd (omega arith);
      }

      module _ (formed : RoundsFormed o m) where
        way_lost : Lost s → Runs o m s (rounds_refusal 11 model)
        unfolding without
        way_lost h = record {
          accepts = (λ q. absurd (omega arith), λ p. clash (p.2 h.0 h.1 h.2) h.3);
          short = (λ q. absurd (omega arith), λ p. absurd (p long));
          ill = (λ q. absurd (omega arith), λ p. absurd (p.1 formed));
          lost = (λ q. (long, formed, h), λ q. refl);
          no_other = inr (one_found 11 11 rounds_causes refl refl);
          kept = λ q. (refl, refl);
          first = λ q. absurd (omega arith);
          bound = λ q. absurd (omega arith);
          least = λ q. absurd (omega arith);
          past = λ q. absurd (omega arith);
        }

        way_run : start_kept s ≡ true → Runs o m s (rounds_made s model)
        unfolding rounds_made rounds_of held_by
        way_run e =
            let w : Within m s.start (round s s.start) = start_rises s e in
            let h : m ≤ row_words * word_bits = formed.0 in
            let v : Set = held_by s in
            record {
              accepts = (λ q. (long, formed, w), λ q. refl);
              short = (λ q. absurd (omega arith), λ p. absurd (p long));
              ill = (λ q. absurd (omega arith), λ p. absurd (p.1 formed));
              lost = (λ q. absurd (omega arith), λ p. let d = p.2 in clash (w d.0 d.1 d.2) d.3);
              no_other = inl refl;
              kept = λ q. absurd (q refl);
              first = λ q. rounds_first m (round s) s.start (round_mono s) w;
              bound = λ q. rounds_few m (round s) s.start (round_mono s) w;
              least =
                  λ q. least_same m (round s) s.start v (model_in (with_model (below m v) model)) (round_mono s)
                  (same_sym m (model_in (with_model (below m v) model)) v (model_below m v model h))
                  (reached_least m (round s) s.start (round_mono s) w);
              past = λ q. model_below_past m v model;
            }

-- what is claimed of the rounds call
pub runs : (o : RowAreas) (m : ℕ) → Runs o m (system_in o m) (rounds_call o m)
unfolding rounds_call
runs o m =
    let s : System = system_in o m in
    let refused : RoundsOutcome = rounds_refusal 1 o.model in
    let lost_out : RoundsOutcome = pick (start_kept s) (rounds_made s o.model) (rounds_refusal 11 o.model) in
    let rest : RoundsOutcome = pick (formed_system o m) lost_out (rounds_refusal 10 o.model) in
    let P : RoundsOutcome → Type 0 = λ r. Runs o m s r in
    either (short_system o)
    (λ e. subst P (sym (pick_true refused rest e)) (way_short o m (λ p. clash e (long_make o p))))
    (λ e. subst P (sym (pick_false refused rest e))
    (let l = long_at o e in
    either (formed_system o m)
    (λ f. subst P (sym (pick_true lost_out (rounds_refusal 10 o.model) f))
    (let g = in_order o m f in
    either (start_kept s)
    (λ k. subst P (sym (pick_true (rounds_made s o.model) (rounds_refusal 11 o.model) k)) (way_run o m l g k))
    (λ k. subst P (sym (pick_false (rounds_made s o.model) (rounds_refusal 11 o.model) k)) (way_lost o m l g (lost s k)))))
    (λ f. subst P (sym (pick_false lost_out (rounds_refusal 10 o.model) f))
    (way_ill o m l (λ p. clash (order_make o m p) f)))))
