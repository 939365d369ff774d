-- What lies past the stated sizes is neither judged nor touched: tests, rows and rounds are those of the first entries of each area, and
-- what is written is written within them, with the rest after it.
-- Assumes nothing.
use mathlib.Core.Path.{◌≡◌, refl, sym, ap, ap₂, ◌∙◌, fun_ext}
use mathlib.Core.Bool.{Bool, not, ◌&&◌, ◌||◌}
use mathlib.Core.List.{List, [], ◌++◌}
use Prim.Native.Nat.{ℕ, zero, suc, ◌+◌, ◌*◌, ◌≤◌, ◌<◌}
use native.Mathlib.Nat.{suc-mul, mul-le-mul_right}
use native.Mathlib.Omega.{arith}
use lib.Dec.{eqb, leb, ltb}
use lib.ListN.{get_or, take, drop}
use lib.Seq.{get_or-take}
use Rattle.limits.specs.Book.{names, rules, atoms, word_bits, row_words, body_words, body_area, row_area}
use Rattle.sets.specs.Set.{Set, Same, pick, exists, within}
use Rattle.sets.proofs.Tests.{every_same, exists_same, within_same}
use Rattle.sets.proofs.Rounds.{rounds_agree, reached_agree}
use Rattle.words.specs.Row.{row, pack}
use Rattle.words.proofs.Rows.{length_pack}
use Rattle.program.specs.Program.{Rule, Program}
use Rattle.program.specs.System.{System, round, unfold_once, rows_after, rounds_of, held_by}
use Rattle.program.specs.Standard.{all_row, any_row, start_set, standard}
use Rattle.tables.specs.Areas.{RuleTables, Counts, program_in}
use Rattle.tables.specs.Sizes.{stated_rules}
use Rattle.areas.proofs.First.{both_parts, part_first, begun_first, filled_first}
use Rattle.tables.proofs.Sizes.{short_first, pick_first, rules_first}
use Rattle.areas.specs.Area.{begun}
use Rattle.systems.specs.Rows.{RowAreas, row_in, packed, below, formed_rows}
use Rattle.systems.specs.Fold.{FoldOutcome, short_rows, formed_all, fold_refusal, folded_area, fold_call}
use Rattle.systems.specs.Rounds.{RoundsOutcome, model_in, with_model, system_in, short_system, formed_system, start_kept, rounds_refusal, rounds_made, rounds_call}
use Rattle.systems.specs.Standardise.{StandardOutcome, short_rules, short_tables, formed_entry, formed_tables, standard_refusal, standard_rows, standard_of, standard_call}
use Rattle.systems.specs.Sizes.{fold_with_rest, rounds_with_rest, stated_rows, rows_with_rest, standard_with_rest, StatedSizes}
use Rattle.systems.proofs.Packed.{length_packed, packed_same}
use Rattle.systems.proofs.Formed.{round_same}
use Rattle.systems.proofs.Bridge.{formed_limits}
use Rattle.systems.proofs.Folds.{all_formed}
use Rattle.systems.proofs.Running.{below_same, in_order}
use Rattle.systems.proofs.Standard.{standard_well}

-- The first entries of an area.

-- a row of them
row_first : (w r size : ℕ) (area : List ℕ) → r * w ≤ size → (i : ℕ) → i < r → row_in w area i ≡ row_in w (take size area) i
row_first w r size area h i l =
    let b : suc i * w ≤ r * w = mul-le-mul_right w l in
    let q : suc i * w ≡ i * w + w = suc-mul i w in
    ap row (part_first (i * w) w size area (omega arith))

-- r rows of the area are in order where they are in order in them
formed_first : (w r m size : ℕ) (area : List ℕ) → r * w ≤ size → formed_rows w r m area ≡ formed_rows w r m (take size area)
unfolding formed_rows
formed_first w r m size area h =
    every_same r (λ i. within (w * word_bits) (row_in w area i) (λ k. ltb i m && ltb k m))
    (λ i. within (w * word_bits) (row_in w (take size area) i) (λ k. ltb i m && ltb k m))
    (λ i l. ap (λ (f : Set). within (w * word_bits) f (λ k. ltb i m && ltb k m)) (row_first w r size area h i l))

-- The fold call.

-- rows that are equal below m are folded alike
unfold_rows : (m : ℕ) (f g : ℕ → Set) → ((i : ℕ) → i < m → f i ≡ g i) → (i : ℕ) → i < m → unfold_once m f i ≡ unfold_once m g i
unfolding unfold_once
unfold_rows m f g h i l =
    fun_ext (λ a. exists_same m (λ j. f i j && f j a) (λ j. g i j && g j a)
    (λ j b. ap₂ (λ (s t : Set). s j && t a) (h i l) (h j b)))

after_rows : (k m : ℕ) (f g : ℕ → Set) → ((i : ℕ) → i < m → f i ≡ g i) → (i : ℕ) → i < m → rows_after k m f i ≡ rows_after k m g i
unfolding rows_after
after_rows zero m f g h = h
after_rows (suc k) m f g h = unfold_rows m (rows_after k m f) (rows_after k m g) (after_rows k m f g h)

-- the folded rows
folded_first : (k m : ℕ) (all : List ℕ) → m ≤ atoms → folded_area k m all ≡ folded_area k m (take row_area all) ++ drop row_area all
unfolding folded_area
folded_first k m all l =
    let f : ℕ → Set = rows_after k m (row_in row_words all) in
    let g : ℕ → Set = rows_after k m (row_in row_words (take row_area all)) in
    let same : (i : ℕ) → i < m → f i ≡ g i =
    after_rows k m (row_in row_words all) (row_in row_words (take row_area all)) (row_first row_words m row_area all (omega arith))
    in
    begun_first row_area (packed row_words m f) all (omega (arith, length_packed row_words m f))
    ∙ ap (λ (ws : List ℕ). begun ws (take row_area all) ++ drop row_area all)
    (packed_same row_words m f g (λ i b a c. ap (λ (s : Set). s a) (same i b)))

module _ (all spare : List ℕ) (m k : ℕ) where
  fold_first : fold_call all spare m k ≡ fold_with_rest all spare (fold_call (take row_area all) (take row_area spare) m k)
  unfolding fold_call short_rows formed_all
  fold_first =
      let rest : FoldOutcome → FoldOutcome = fold_with_rest all spare in
      let refused : (n : ℕ) → fold_refusal n all spare ≡ rest (fold_refusal n (take row_area all) (take row_area spare)) =
      λ n i. fold_refusal n (both_parts row_area all i) (both_parts row_area spare i)
      in
      pick_first rest (ap₂ ◌||◌ (short_first row_area all) (short_first row_area spare)) (λ t. refused 1)
      (pick_first rest refl (λ t. refused 9)
      (pick_first rest (ap (λ (b : Bool). leb m atoms && b) (formed_first row_words atoms m row_area all (omega arith)))
      (λ t.
      let l : m ≤ atoms = (all_formed all m t).0 in
      λ i. record { number = 0; all = folded_first k m all l i; spare = filled_first row_area [] spare i })
      (refused 10)))

-- The model area.

-- the set in it
model_first : (model : List ℕ) → model_in model ≡ model_in (take row_words model)
model_first model = ap row (part_first 0 row_words row_words model (omega arith))

-- a set put into it
pub with_model_first : (f : Set) (model : List ℕ) → with_model f model ≡ with_model f (take row_words model) ++ drop row_words model
unfolding with_model
with_model_first f model = begun_first row_words (pack row_words f) model (omega (arith, length_pack row_words f))

-- The rounds call.

short_system_first : (o : RowAreas) → short_system o ≡ short_system (stated_rows o)
unfolding short_system
short_system_first o =
    ap₂ ◌||◌ (short_first row_area o.all) (ap₂ ◌||◌ (short_first row_area o.any) (short_first row_words o.model))

module _ (o : RowAreas) (m : ℕ) where
  abbrev model : List ℕ
  model = o.model

  -- the system of the areas, and that of their first entries
  abbrev s : System
  s = system_in o m

  abbrev s' : System
  s' = system_in (stated_rows o) m

  formed_system_first : formed_system o m ≡ formed_system (stated_rows o) m
  unfolding formed_system
  formed_system_first =
      ap (λ (b : Bool). leb m atoms && b)
      (ap₂ ◌&&◌ (formed_first row_words atoms m row_area o.all (omega arith))
      (ap₂ ◌&&◌ (formed_first row_words atoms m row_area o.any (omega arith))
      (ap (λ (f : Set). within (row_words * word_bits) f (λ k. ltb k m)) (model_first model))))

  module _ (l : m ≤ atoms) where
    -- they have the same start set
    starts : Same m s.start s'.start
    starts i b = ap (λ (f : Set). f i) (model_first model)

    -- and make the same rounds
    agree : (v w : Set) → Same m v w → Same m (round s v) (round s' w)
    agree =
        round_same s s' refl (λ i b a c. ap (λ (f : Set). f a) (row_first row_words m row_area o.all (omega arith) i b))
        (λ i b a c. ap (λ (f : Set). f a) (row_first row_words m row_area o.any (omega arith) i b))

    kept_first : start_kept s ≡ start_kept s'
    unfolding start_kept
    kept_first = within_same m s.start s'.start (round s s.start) (round s' s'.start) starts (agree s.start s'.start starts)

    run_first : rounds_made s model ≡ rounds_with_rest model (rounds_made s' (take row_words model))
    unfolding rounds_made rounds_of held_by
    run_first =
        let held : below m (held_by s) ≡ below m (held_by s') =
        below_same m (held_by s) (held_by s') (reached_agree m (round s) (round s') agree s.start s'.start starts)
        in
        let last : with_model (below m (held_by s)) model ≡ with_model (below m (held_by s')) (take row_words model) ++ drop row_words model =
        ap (λ (f : Set). with_model f model) held ∙ with_model_first (below m (held_by s')) model
        in
        λ i. record {
          number = 0;
          rounds = rounds_agree m (round s) (round s') agree s.start s'.start starts i;
          model = last i;
        }

  rounds_first : rounds_call o m ≡ rounds_with_rest model (rounds_call (stated_rows o) m)
  unfolding rounds_call
  rounds_first =
      let rest : RoundsOutcome → RoundsOutcome = rounds_with_rest model in
      let refused : (n : ℕ) → rounds_refusal n model ≡ rest (rounds_refusal n (take row_words model)) =
      λ n i. rounds_refusal n (both_parts row_words model i)
      in
      pick_first rest (short_system_first o) (λ t. refused 1)
      (pick_first rest formed_system_first
      (λ t.
      let l : m ≤ atoms = (in_order o m t).0 in
      pick_first rest (kept_first l) (λ u. run_first l) (refused 11))
      (refused 10))

-- The standardise call.

module _ (tables : RuleTables) (counts : Counts) where
  head_first : (j : ℕ) → j < rules → get_or tables.heads j 0 ≡ get_or (stated_rules tables).heads j 0
  head_first j l = sym (get_or-take rules tables.heads j 0 l)

  body_first : (j : ℕ) → j < rules → row_in body_words tables.bodies j ≡ row_in body_words (stated_rules tables).bodies j
  body_first = row_first body_words rules body_area tables.bodies (omega arith)

  entry_first : (j : ℕ) → j < rules → formed_entry tables counts j ≡ formed_entry (stated_rules tables) counts j
  unfolding formed_entry
  entry_first j l =
      ap₂ (λ (x : ℕ) (f : Set). pick (ltb j counts.rules)
      (ltb x counts.names && within (body_words * word_bits) f (λ a. ltb a counts.names))
      (eqb x 0 && not (exists (body_words * word_bits) f)))
      (head_first j l) (body_first j l)

  pub formed_tables_first : formed_tables tables counts ≡ formed_tables (stated_rules tables) counts
  unfolding formed_tables
  formed_tables_first =
      ap (λ (b : Bool). (leb counts.names names && leb counts.rules rules) && b)
      (every_same rules (formed_entry tables counts) (formed_entry (stated_rules tables) counts) entry_first)

  pub program_first : counts.rules ≤ rules → program_in tables counts ≡ program_in (stated_rules tables) counts
  program_first b = ap (λ (rs : List (Rule ℕ)). record { names = counts.names; rules = rs }) (rules_first tables counts.rules 0 (omega arith))

module _ (o : RowAreas) where
  refused_first : (k : ℕ) → standard_refusal k o ≡ standard_with_rest o (standard_refusal k (stated_rows o))
  refused_first k i =
      standard_refusal k (record {
        all = both_parts row_area o.all i;
        any = both_parts row_area o.any i;
        model = both_parts row_words o.model i;
      })

  rows_first : (p : Program) → standard_rows p o ≡ rows_with_rest o (standard_rows p (stated_rows o))
  unfolding standard_rows
  rows_first p i =
      record {
        all = filled_first row_area (packed row_words (standard p).atoms (all_row p)) o.all i;
        any = filled_first row_area (packed row_words (standard p).atoms (any_row p)) o.any i;
        model = with_model_first (start_set p) o.model i;
      }

  standard_of_first : (p : Program) → standard_of p o ≡ standard_with_rest o (standard_of p (stated_rows o))
  unfolding standard_of
  standard_of_first p =
      pick_first (standard_with_rest o) refl (λ t. refused_first 8)
      (λ i.
      let r : StandardOutcome = standard_well p o in
      record { number = 0; atoms = r.atoms; c = r.c; h = r.h; areas = rows_first p i })

  module _ (tables : RuleTables) (counts : Counts) where
    standard_first : standard_call tables counts o
        ≡ standard_with_rest o (standard_call (stated_rules tables) counts (stated_rows o))
    unfolding standard_call short_tables short_rules
    standard_first =
        let rest : StandardOutcome → StandardOutcome = standard_with_rest o in
        pick_first rest
        (ap₂ ◌||◌ (ap₂ ◌||◌ (short_first rules tables.heads) (short_first body_area tables.bodies))
        (short_system_first o))
        (λ t. refused_first 1)
        (pick_first rest (formed_tables_first tables counts)
        (λ t. standard_of_first (program_in tables counts)
        ∙ ap (λ (p : Program). rest (standard_of p (stated_rows o))) (program_first tables counts (formed_limits tables counts t).1))
        (refused_first 10))

-- the three calls
pub stated_sizes : StatedSizes
stated_sizes = record { fold = fold_first; rounds = rounds_first; standardise = λ tables counts o. standard_first o tables counts }
