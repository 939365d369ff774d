-- The rules placed one by one in the areas: the state after j rules, at the start, one rule on, and in the end.
-- Assumes nothing.
use mathlib.Core.Path.{◌≡◌, refl, sym, ap, ◌∙◌, subst, fun_ext}
use mathlib.Core.Bool.{Bool, true, false}
use mathlib.Core.List.{List}
use Prim.Native.Nat.{ℕ, suc, ◌+◌, ◌*◌, ◌≤◌, ◌<◌}
use native.Mathlib.Nat.{le_antisymm}
use native.Mathlib.Numerals.{add-one}
use native.Mathlib.Omega.{arith}
use lib.ListN.{length, get_or}
use Rattle.std.specs.Int.{from_bool}
use Rattle.limits.specs.Book as Book
use Rattle.limits.specs.Book.{atoms, rules, word_bits, row_words, body_words}
use Rattle.sets.specs.Set.{Set, pick, exists, count, only, union}
use Rattle.sets.proofs.Logic.{either, pick_true, pick_false}
use Rattle.sets.proofs.Counting.{count_in, count_out, count_le}
use Rattle.areas.specs.Area.{part}
use Rattle.areas.proofs.Parts.{part_whole}
use Rattle.words.specs.Row.{row}
use Rattle.words.proofs.Rows.{length_pack}
use Rattle.program.specs.Program.{Program, WellFormed, size, head_at}
use Rattle.program.specs.Standard as Standard
use Rattle.program.specs.Standard.{several, has_body, standard}
use Rattle.program.proofs.Homes.{home_several, home_single, home_below, helper_below, names_below}
use Rattle.tables.specs.Areas.{RuleTables, Counts, program_in}
use Rattle.systems.specs.Rows.{RowAreas, row_in}
use Rattle.systems.specs.Rounds.{model_in, with_model}
use Rattle.systems.proofs.Formed.{exists_fewer}
use Rattle.systems.proofs.Running.{length_model, model_same, model_joined}
use Rattle.systems.proofs.Bridge.{size_in, head_in, body_in, formed_limits, formed_entry_lem, formed_program}
use Rattle.ways.specs.Ways.{several_names}
use Rattle.ways.proofs.Counts.{row_rule}
use Rattle.placing.specs.Partial.{all_up_to, any_up_to, start_up_to, with_row, with_rows, PlacingReady, Filled}
use Rattle.placing.proofs.Overwriting.{rows_long, rows_kept, rows_changed, rows_joined}
use Rattle.placing.proofs.Steps.{all_start, any_start, start_start, all_end, any_end, start_end, helper_next, helper_same, any_head_lem, any_other, any_same, start_same, start_home, all_other, all_home, all_same}

-- The start set in the model area.

-- the same set
start_kept_lem : (f g : Set) (old model : List ℕ) → model ≡ with_model f old → ((a : ℕ) → g a ≡ f a) → model ≡ with_model g old
start_kept_lem f g old model e h = e ∙ model_same f g old (λ a l. sym (h a))

-- an atom joins
start_joined : (f g : Set) (b : ℕ) (old model new : List ℕ) → model ≡ with_model f old → new ≡ with_model (union (model_in model) (only b)) model
    → ((a : ℕ) → g a ≡ union f (only b) a) → new ≡ with_model g old
start_joined f g b old model new e q h =
    q ∙ model_joined b f model old e ∙ model_same (union f (only b)) g old (λ a l. sym (h a))

-- after j rules: the next helper, c so far, and the areas
pub record Placed (p : Program) (j helper c : ℕ) (all₀ any₀ model₀ all any model : List ℕ) : Type 0 where
  pub in_rules : j ≤ size p
  pub next : helper ≡ Standard.helper p j
  pub counted : c ≡ count j (has_body p)
  pub all_long : length all ≡ length all₀
  pub any_long : length any ≡ length any₀
  pub model_long : length model ≡ length model₀
  pub all_rows : all ≡ with_rows p (all_up_to p j) all₀
  pub any_rows : any ≡ with_rows p (any_up_to p j) any₀
  pub start : model ≡ with_model (start_up_to p j) model₀

-- rule j's home, and the next helper and the "any" rows past it
pub record Housed (p : Program) (j home helper : ℕ) (any₀ any : List ℕ) : Type 0 where
  pub here : home ≡ Standard.home p j
  pub next : helper ≡ Standard.helper p (suc j)
  pub any_long : length any ≡ length any₀
  pub any_rows : any ≡ with_rows p (any_up_to p (suc j)) any₀

module _ {tables : RuleTables} {counts : Counts} {marked : List ℕ} {o : RowAreas} (ready : PlacingReady tables counts marked o) where
  abbrev heads : List ℕ
  heads = tables.heads

  abbrev bodies : List ℕ
  bodies = tables.bodies

  abbrev n : ℕ
  n = counts.names

  abbrev m : ℕ
  m = counts.rules

  -- the areas before the first rule
  abbrev all₀ : List ℕ
  all₀ = o.all

  abbrev any₀ : List ℕ
  any₀ = o.any

  abbrev model₀ : List ℕ
  model₀ = o.model

  abbrev p : Program
  p = program_in tables counts

  formed : WellFormed p
  formed = formed_program tables counts ready.formed

  -- within the limits
  pub few_names : n ≤ Book.names
  few_names = (formed_limits tables counts ready.formed).0

  pub few_rules : m ≤ rules
  few_rules = (formed_limits tables counts ready.formed).1

  pub marks_long : length marked ≡ body_words
  marks_long = ap length ready.marks ∙ length_pack body_words (several_names heads m)

  -- before the first rule
  pub placed_start : {helper : ℕ} → helper ≡ n → Placed p 0 helper 0 all₀ any₀ model₀ all₀ any₀ model₀
  placed_start e = record {
    in_rules = omega arith;
    next = unfold Standard.helper count in e ∙ omega arith;
    counted = unfold count in refl;
    all_long = refl;
    any_long = refl;
    model_long = refl;
    all_rows = ready.all_rows ∙ ap (λ (rows : ℕ → Set). with_rows p rows all₀) (sym (fun_ext (all_start p)));
    any_rows = ready.any_rows ∙ ap (λ (rows : ℕ → Set). with_rows p rows any₀) (sym (fun_ext (any_start p)));
    start = ready.start_row ∙ ap (λ (f : Set). with_model f model₀) (sym (start_start p));
  }

  module _ {j helper c : ℕ} {all any model : List ℕ} (inv : Placed p j helper c all₀ any₀ model₀ all any model) (l : j < m) where
    in_size : j < size p
    in_size = omega (arith, size_in tables counts)

    -- c is small, this rule counted or not
    pub c_small : {k : ℕ} (b : Bool) → k ≡ from_bool b → c + k ≤ rules
    c_small true e = omega (arith, inv.counted, count_le j (has_body p), few_rules)
    c_small false e = omega (arith, inv.counted, count_le j (has_body p), few_rules)

    -- its head is a name
    pub head_small : get_or heads j 0 < n
    head_small = (formed_entry_lem tables counts ready.formed j l).0

    head_atom : get_or heads j 0 < (standard p).atoms
    head_atom = let b : n ≤ (standard p).atoms = names_below p in omega (arith, head_small)

    -- the test for a helper
    several_test : row marked (get_or heads j 0) ≡ several p j
    several_test =
        ap (λ (ws : List ℕ). row ws (get_or heads j 0)) (sym (part_whole body_words marked marks_long))
        ∙ row_rule tables counts ready.formed marked ready.marks j l

    -- of the head that was read
    module _ {head : ℕ} (read : head ≡ get_or heads j 0) where
      test : row marked head ≡ several p j
      test = ap (row marked) read ∙ several_test

      -- the helper is an atom
      pub helper_small : row marked head ≡ true → helper < atoms
      helper_small t =
          let h : Standard.helper p j < (standard p).atoms = helper_below p j in_size (sym test ∙ t) in omega (arith, ready.few, inv.next)

      module _ {home helper' : ℕ} {any' : List ℕ} where
        -- it joins the row of the head
        with_helper : row marked head ≡ true → home ≡ helper → helper' ≡ helper + 1
            → any' ≡ with_row head (union (row_in row_words any head) (only helper)) any → Housed p j home helper' any₀ any'
        with_helper t d h' a' =
            let s : several p j ≡ true = sym test ∙ t in
            let h : head_at p j ≡ get_or heads j 0 = head_in tables counts j l in
            let rows : any' ≡ with_rows p (any_up_to p (suc j)) any₀ =
            rows_joined p ready.few any₀ any (any_up_to p j) inv.any_rows (get_or heads j 0) helper any' (any_up_to p (suc j)) head_atom
            (a' ∙ ap (λ (k : ℕ). with_row k (union (row_in row_words any k) (only helper)) any) read)
            (λ a. subst (λ (x : ℕ). any_up_to p (suc j) x a ≡ union (any_up_to p j x) (only helper) a) h
            (any_head_lem p j s a ∙ ap (λ (x : ℕ). union (any_up_to p j (head_at p j)) (only x) a) (sym inv.next)))
            (λ k d a. any_other p j k (λ r. d (sym h ∙ r)) a)
            in record {
              here = d ∙ inv.next ∙ sym (home_several p j s);
              next = h' ∙ ap (λ (x : ℕ). x + 1) inv.next ∙ sym (helper_next p j s);
              any_long = rows_long p ready.few any₀ any' (any_up_to p (suc j)) rows ready.long.1.1;
              any_rows = rows;
            }

        -- without one the head is the home
        without_helper : row marked head ≡ false → home ≡ head → helper' ≡ helper → any' ≡ any → Housed p j home helper' any₀ any'
        without_helper t d h' a' =
            let s : several p j ≡ false = sym test ∙ t in record {
              here = d ∙ read ∙ sym (home_single p j s ∙ head_in tables counts j l);
              next = h' ∙ inv.next ∙ sym (helper_same p j s);
              any_long = ap length a' ∙ inv.any_long;
              any_rows = rows_kept p ready.few any₀ any' (any_up_to p j) (a' ∙ inv.any_rows) (any_up_to p (suc j)) (any_same p j s);
            }

      -- where it is housed
      module _ {home helper' : ℕ} {any' : List ℕ} (here : home ≡ pick (row marked head) helper head)
          (next : helper' ≡ pick (row marked head) (helper + 1) helper)
          (joins : any' ≡ pick (row marked head) (with_row head (union (row_in row_words any head) (only helper)) any) any) where
        at_home : Housed p j home helper' any₀ any'
        at_home =
            either (row marked head)
            (λ t. with_helper t (here ∙ pick_true _ _ t) (next ∙ pick_true _ _ t) (joins ∙ pick_true _ _ t))
            (λ t. without_helper t (here ∙ pick_false _ _ t) (next ∙ pick_false _ _ t) (joins ∙ pick_false _ _ t))

        -- the home is an atom
        pub home_small : home < atoms
        home_small = let h : Standard.home p j < (standard p).atoms = home_below p formed j in_size in omega (arith, ready.few, at_home.here)

        -- of the body that was read
        module _ {body : List ℕ} {b : Bool} (words : body ≡ part (j * body_words) body_words bodies)
            (found : b ≡ exists (body_words * word_bits) (row body)) {all' model' : List ℕ}
            (put_in : all' ≡ pick b (with_row home (row body) all) all)
            (joined : model' ≡ pick b model (with_model (union (model_in model) (only home)) model)) where
          filled_test : b ≡ exists (body_words * word_bits) (row_in body_words bodies j)
          filled_test = found ∙ ap (λ (ws : List ℕ). exists (body_words * word_bits) (row ws)) words

          written : all' ≡ pick b (with_row home (row_in body_words bodies j) all) all
          written = put_in ∙ ap (λ (ws : List ℕ). pick b (with_row home (row ws) all) all) words

          body_test : b ≡ has_body p j
          unfolding has_body
          body_test =
              filled_test
              ∙ exists_fewer (body_words * word_bits) n (row_in body_words bodies j) few_names (formed_entry_lem tables counts ready.formed j l).1
              ∙ ap (exists n) (sym (body_in tables counts j l))

          -- the areas past rule j
          placed_next : {c' : ℕ} → c' ≡ count (suc j) (has_body p) → all' ≡ with_rows p (all_up_to p (suc j)) all₀
              → model' ≡ with_model (start_up_to p (suc j)) model₀ → Placed p (j + 1) helper' c' all₀ any₀ model₀ all' any' model'
          placed_next {c'} counted rows set =
              subst (λ (k : ℕ). Placed p k helper' c' all₀ any₀ model₀ all' any' model') (sym (add-one j))
              (record {
                in_rules = in_size;
                next = at_home.next;
                counted = counted;
                all_long = rows_long p ready.few all₀ all' (all_up_to p (suc j)) rows ready.long.1.0;
                any_long = at_home.any_long;
                model_long = ap length set ∙ length_model (start_up_to p (suc j)) model₀ ready.long.1.2;
                all_rows = rows;
                any_rows = at_home.any_rows;
                start = set;
              })

          -- a rule with a body, placed
          placed_body : {c' : ℕ} → b ≡ true → c' ≡ c + 1 → Placed p (j + 1) helper' c' all₀ any₀ model₀ all' any' model'
          placed_body t d =
              let h : has_body p j ≡ true = sym body_test ∙ t in
              placed_next (d ∙ omega (arith, inv.counted, count_in j (has_body p) h))
              (rows_changed p ready.few all₀ all (all_up_to p j) inv.all_rows (Standard.home p j) (row_in body_words bodies j) all'
              (all_up_to p (suc j)) (home_below p formed j in_size)
              (written ∙ pick_true _ _ t ∙ ap (λ (i : ℕ). with_row i (row_in body_words bodies j) all) at_home.here)
              (λ a d. all_home p formed j in_size h a ∙ ap (λ (f : Set). f a) (body_in tables counts j l)) (all_other p j))
              (start_kept_lem (start_up_to p j) (start_up_to p (suc j)) model₀ model' (joined ∙ pick_true _ _ t ∙ inv.start) (start_same p j h))

          -- a rule without one
          placed_fact : {c' : ℕ} → b ≡ false → c' ≡ c → Placed p (j + 1) helper' c' all₀ any₀ model₀ all' any' model'
          placed_fact t d =
              let h : has_body p j ≡ false = sym body_test ∙ t in
              placed_next (d ∙ inv.counted ∙ sym (count_out j (has_body p) h))
              (rows_kept p ready.few all₀ all' (all_up_to p j) (written ∙ pick_false _ _ t ∙ inv.all_rows) (all_up_to p (suc j))
              (all_same p formed j in_size h))
              (start_joined (start_up_to p j) (start_up_to p (suc j)) (Standard.home p j) model₀ model model' inv.start
              (joined ∙ pick_false _ _ t ∙ ap (λ (i : ℕ). with_model (union (model_in model) (only i)) model) at_home.here) (start_home p j h))

          pub rule_placed : {c' : ℕ} → c' ≡ c + from_bool b → Placed p (j + 1) helper' c' all₀ any₀ model₀ all' any' model'
          rule_placed d =
              either b (λ t. placed_body t (d ∙ ap (λ (x : Bool). c + from_bool x) t))
              (λ t. placed_fact t (d ∙ ap (λ (x : Bool). c + from_bool x) t ∙ omega arith))

  -- after the last rule
  module _ {j helper c : ℕ} {all any model : List ℕ} (inv : Placed p j helper c all₀ any₀ model₀ all any model) (l : m ≤ j) where
    last : j ≡ size p
    last = le_antisymm inv.in_rules (omega (arith, size_in tables counts))

    pub placed_all : Filled p c o (record { all = all; any = any; model = model })
    placed_all = record {
      counted = inv.counted ∙ ap (λ (k : ℕ). count k (has_body p)) last;
      all_rows = inv.all_rows ∙ ap (λ (rows : ℕ → Set). with_rows p rows all₀) (all_end p j last);
      any_rows = inv.any_rows ∙ ap (λ (rows : ℕ → Set). with_rows p rows any₀) (any_end p j last);
      start_row = inv.start ∙ ap (λ (f : Set). with_model f model₀) (start_end p j last);
    }
