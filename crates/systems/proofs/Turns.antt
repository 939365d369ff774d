-- The loop of rounds over areas: the set in a model area, the set after it in `next`, and how many rounds make that one.
-- Assumes nothing.
use mathlib.Core.Path.{◌≡◌, refl, sym, ap, subst, ◌∙◌}
use mathlib.Core.Bool.{Bool, true, false, not}
use mathlib.Core.List.{List}
use Prim.Native.Nat.{ℕ, ◌+◌, ◌*◌, ◌≤◌}
use lib.ListN.{take}
use borrow.Author.Tests.{not-true, not-false}
use Rattle.limits.specs.Book.{word_bits, row_words}
use Rattle.sets.specs.Set.{Set, Within, Same, same}
use Rattle.sets.specs.Steps.{Monotone, rounds, reached}
use Rattle.sets.proofs.Tests.{same_at}
use Rattle.sets.proofs.Running.{Running, run_begin, run_on, run_bound, run_count, run_held}
use Rattle.areas.specs.Area.{part, put}
use Rattle.words.specs.Row.{row}
use Rattle.systems.specs.Rows.{below}
use Rattle.systems.specs.Rounds.{model_in, with_model}
use Rattle.systems.proofs.Running.{model_words, model_row, model_again, model_same, model_put, model_below, model_below_past, Ends, below_ends, below_same, same_ends}

-- the words of an area that holds a set, copied into another: the set is there
copied_model : (f : Set) (from old to : List ℕ) → from ≡ with_model f old → put 0 (part 0 row_words from) to ≡ with_model f to
copied_model f from old to e = ap (λ (ws : List ℕ). put 0 ws to) (ap (take row_words) e ∙ model_words f old) ∙ model_put f to

copied_set : (f : Set) (from old to : List ℕ) → from ≡ with_model f old → model_in (put 0 (part 0 row_words from) to) ≡ model_in from
copied_set f from old to e =
    ap (λ (ws : List ℕ). row ws)
    (ap (take row_words) (copied_model f from old to e) ∙ model_words f to ∙ sym (ap (take row_words) e ∙ model_words f old))

-- A step F over m atoms that rises from the set f, made from an area as G.
pub record Stepping (m : ℕ) (F : Set → Set) (f : Set) (G : List ℕ → Set) : Type 0 where
  pub few : m ≤ row_words * word_bits
  pub mono : Monotone m F
  pub rises : Within m f (F f)
  pub steps : (v : List ℕ) → Same m (G v) (F (model_in v))

-- The loop from model₀ and next₀: only the words of the sets change, `next` has the set after the model's, and t rounds make it.
pub record Turn (m : ℕ) (F : Set → Set) (f : Set) (G : List ℕ → Set) (model₀ next₀ model next : List ℕ) (t : ℕ) : Type 0 where
  pub here : model ≡ with_model (model_in model) model₀
  pub there : next ≡ with_model (below m (G model)) next₀
  pub ends : Ends m (model_in model)
  pub runs : Running m F f (model_in model) (model_in next) t

-- the set that a round leaves in an area is the one after v
pub made : (m : ℕ) (F : Set → Set) (G : List ℕ → Set) → m ≤ row_words * word_bits → (v : List ℕ) → Same m (G v) (F (model_in v))
    → (old new : List ℕ) → new ≡ with_model (below m (G v)) old → Same m (model_in new) (F (model_in v))
made m F G few v s old new e i l = ap (λ (a : List ℕ). model_in a i) e ∙ model_below m (G v) old few i l ∙ s i l

module _ (m : ℕ) (F : Set → Set) (f : Set) (G : List ℕ → Set) (b : Stepping m F f G) (model₀ next₀ : List ℕ) where
  -- before the loop, round one is made
  pub turn_begin : model₀ ≡ with_model (model_in model₀) model₀ → Ends m (model_in model₀) → Same m (model_in model₀) f
      → next₀ ≡ with_model (below m (G model₀)) next₀ → Turn m F f G model₀ next₀ model₀ next₀ 1
  turn_begin k d e h = record {
    here = k;
    there = h;
    ends = d;
    runs = run_begin m F f b.mono (model_in model₀) (model_in next₀) e (made m F G b.few model₀ (b.steps model₀) next₀ next₀ h);
  }

  module _ (model next : List ℕ) (t : ℕ) (c : Turn m F f G model₀ next₀ model next t) where
    abbrev after_it : Set
    after_it = below m (G model)

    -- what `next` holds
    next_set_lem : Same (row_words * word_bits) (model_in next) after_it
    next_set_lem k l = ap (λ (a : List ℕ). model_in a k) c.there ∙ model_row after_it next₀ k l

    next_ends : Ends m (model_in next)
    next_ends = subst (λ (a : List ℕ). Ends m (model_in a)) (sym c.there) (model_below_past m (G model) next₀)

    -- the two areas are compared whole
    compared : (still : Bool) → still ≡ same (row_words * word_bits) (model_in model) (model_in next) → same m (model_in model) (model_in next) ≡ still
    compared still e =
        sym (same_ends m (row_words * word_bits) (model_in model) (model_in next) b.few c.ends next_ends) ∙ sym e

    -- a round that changed something: the count stays small
    pub turn_less : (still : Bool) → still ≡ same (row_words * word_bits) (model_in model) (model_in next) → not still ≡ true → t + 1 ≤ m + 1
    turn_less still e d =
        let w : Set = model_in next in
        run_bound m F f b.mono b.rises w (F w) (t + 1)
        (run_on m F f b.mono (model_in model) w (F w) t c.runs (compared still e ∙ not-true still d) (λ i l. refl))

    -- `next` is copied, and a further round made
    pub turn_on : (still : Bool) (model' next' : List ℕ) → still ≡ same (row_words * word_bits) (model_in model) (model_in next) → not still ≡ true
        → model' ≡ put 0 (part 0 row_words next) model → next' ≡ with_model (below m (G model')) next
        → Turn m F f G model₀ next₀ model' next' (t + 1)
    turn_on still model' next' e d g h =
        let copied : model_in model' ≡ model_in next = ap model_in g ∙ copied_set after_it next next₀ model c.there in
        record {
          here =
              g ∙ copied_model after_it next next₀ model c.there ∙ ap (with_model after_it) c.here ∙ model_again after_it (model_in model) model₀
              ∙ model_same after_it (model_in model') model₀ (λ k l. sym (ap (λ (v : Set). v k) copied ∙ next_set_lem k l));
          there = h ∙ ap (with_model (below m (G model'))) c.there ∙ model_again (below m (G model')) after_it next₀;
          ends = subst (Ends m) (sym copied) next_ends;
          runs =
              subst (λ (v : Set). Running m F f v (model_in next') (t + 1)) (sym copied)
              (run_on m F f b.mono (model_in model) (model_in next) (model_in next') t c.runs (compared still e ∙ not-true still d)
              (subst (λ (v : Set). Same m (model_in next') (F v)) copied (made m F G b.few model' (b.steps model') next next' h)));
        }

    -- a round that changed nothing: it is the last
    module _ (still : Bool) (e : still ≡ same (row_words * word_bits) (model_in model) (model_in next)) (d : not still ≡ false) where
      agree : same m (model_in model) (model_in next) ≡ true
      agree = compared still e ∙ not-false still d

      -- the count is the number of rounds
      pub turn_count : t ≡ rounds m F f
      turn_count = run_count m F f b.mono b.rises (model_in model) (model_in next) t c.runs agree

      -- the set is the one reached
      pub turn_set : model_in model ≡ below m (reached m F f)
      turn_set =
          sym (below_ends m (model_in model) c.ends)
          ∙ below_same m (model_in model) (reached m F f) (run_held m F f b.mono b.rises (model_in model) (model_in next) t c.runs agree)

      -- so it is in the model area
      pub turn_model : model ≡ with_model (below m (reached m F f)) model₀
      turn_model = c.here ∙ ap (λ (v : Set). with_model v model₀) turn_set

      -- and in `next`
      pub turn_next : next ≡ with_model (below m (reached m F f)) next₀
      turn_next =
          c.there
          ∙ model_same after_it (below m (reached m F f)) next₀
          (λ k l.
          sym (next_set_lem k l) ∙ sym (same_at (row_words * word_bits) (model_in model) (model_in next) (sym e ∙ not-false still d) k l)
          ∙ ap (λ (v : Set). v k) turn_set)
