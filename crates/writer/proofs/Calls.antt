-- What is judged, and the outcomes of the call.
-- Assumes nothing.
use mathlib.Core.Path.{◌≡◌, refl, sym, ap, ap₂, subst, ◌∙◌}
use mathlib.Core.List.{List}
use mathlib.Core.Bool.{Bool, true, false, ◌||◌}
use Prim.Native.Nat.{ℕ, ◌≤◌, ◌<◌}
use native.Mathlib.Omega.{arith}
use lib.Dec.{eqb, ltb}
use lib.ListN.{length}
use borrow.Author.Tests.{eq-eqb, ne_eqb, ltb-false, lt-ltb, le-ltb}
use Rattle.std.proofs.Common.{Option, Result, Ok, Err}
use Rattle.std.specs.Option.{ok_or}
use Rattle.std.specs.Result.{IsErr, IsErrAnd, IfOk}
use Rattle.std.specs.Bool.{then_some}
use Rattle.limits.specs.Refusal.{number_of, number_in, count_in}
use Rattle.limits.specs.declared.Refusal.{Refusal}
use Rattle.limits.specs.declared.Refusal.TheVariants.{ShortArea, IllFormed}
use Rattle.limits.proofs.Numbers.{number_some}
use Rattle.limits.specs.Book.{text_bytes, name_area, rules, body_area}
use Rattle.sets.specs.Set.{pick}
use Rattle.sets.proofs.Logic.{either, or_none, pick_true, pick_false}
use Rattle.grammar.specs.Bytes.{Bytes, letters}
use Rattle.grammar.specs.Letters.{letters_cause}
use Rattle.scan.proofs.Tables.{short_first, table_next}
use Rattle.tables.specs.Areas.{Areas, short}
use Rattle.areas.specs.Area.{begun, cleared}
use Rattle.tables.specs.Writing.{well_formed, placed, Written, unwritten, write_call}
use Rattle.areas.proofs.Begun.{length_begun}
use Rattle.areas.proofs.Filled.{begun_filled}
use Rattle.tablecheck.specs.declared.Tables.{Tables}
use Rattle.writer.specs.Short.{short_write}
use Rattle.writer.specs.Spelt.{text_of}
use Rattle.writer.specs.Judged.{counted, write_cause}

-- `low` is whether an area is too short
module _ (s h b t : ℕ) (low : Bool) (e : low ≡ short_write s h b t) (k : low ≡ false) where
  enough : (name_area ≤ s) × (rules ≤ h) × (body_area ≤ b) × (text_bytes ≤ t)
  unfolding short_write
  enough =
      let p = or_none (ltb s name_area || (ltb h rules || ltb b body_area)) (ltb t text_bytes) (sym e ∙ k) in
      let q = or_none (ltb s name_area) (ltb h rules || ltb b body_area) p.0 in
      let u = or_none (ltb h rules) (ltb b body_area) q.1 in
      (ltb-false s name_area q.0, ltb-false h rules u.0, ltb-false b body_area u.1, ltb-false t text_bytes p.1)

  -- each is long enough where none is
  pub areas_long : (name_area ≤ s) × (rules ≤ h) × (body_area ≤ b)
  areas_long = (enough.0, enough.1, enough.2)

  text_long : text_bytes ≤ t
  text_long = enough.3

-- what is known where the table passes: it has no cause, and its letters are those that judging gives
passes : (table : List ℕ) (judged : Result (List ℕ) Refusal) (folding : List ℕ) → number_in judged ≡ letters_cause false table
    → IfOk judged (λ it. it ≡ table) → judged ≡ Ok folding → (letters_cause false table ≡ 0) × (folding ≡ table)
passes table (Ok it) folding n i w = (sym n, cc)
passes table (Err cause) folding n i w = cc

-- tables in order or not, as judging them answers it
formed_or : (formed : Bool) (lent : Tables) (r : Option Tables) (out : Result Tables Refusal) → r ≡ then_some formed lent → out ≡ ok_or r IllFormed
    → (number_in out ≡ pick formed 0 10) × IfOk out (λ t. t ≡ lent)
unfolding pick
formed_or true lent r out e f = subst (λ o. (number_in o ≡ 0) × IfOk o (λ t. t ≡ lent)) (sym (f ∙ ap (λ q. ok_or q IllFormed) e)) (refl, refl)
formed_or false lent r out e f = subst (λ o. (number_in o ≡ 10) × IfOk o (λ t. t ≡ lent)) (sym (f ∙ ap (λ q. ok_or q IllFormed) e)) (refl, tt)

-- the lent areas, `low` where one of them or the text's is too short
module _ (table : List ℕ) (o : Areas) (n m room : ℕ) (low : Bool)
    (e : low ≡ short_write (length o.spellings) (length o.heads) (length o.bodies) room) where
  -- the number by what is judged first
  abbrev cause_by : ℕ → ℕ
  cause_by k = pick (eqb k 0) (pick (well_formed (letters table) o n m) 0 10) k

  same : cause_by (letters_cause low table) ≡ write_cause table o n m room
  unfolding write_cause short short_write
  same = ap cause_by (ap (λ (x : Bool). letters_cause x table) e)

  -- what is judged first has a number: 1, 20, 21
  first : (cause : Refusal) → number_of cause ≡ letters_cause low table → number_of cause ≡ write_cause table o n m room
  first cause c = sym (pick_false _ _ (ne_eqb (number_of cause) 0 (number_some cause))) ∙ ap cause_by c ∙ same

  -- an area too short: 1
  pub cause_short : low ≡ true → 1 ≡ write_cause table o n m room
  cause_short k = first ShortArea (short_first low table k)

  -- no area is; `passed` is what judging the table answers
  module _ (k : low ≡ false) (passed : Result (List ℕ) Refusal) (c : number_in passed ≡ letters_cause false table) where
    -- a table that does not pass: 20, 21
    pub cause_table : (cause : Refusal) → passed ≡ Err cause → (out : Result Tables Refusal) → IsErr out × IsErrAnd out (λ x. x ≡ cause)
        → number_in out ≡ write_cause table o n m room
    cause_table cause w (Ok t) x = absurd x.1
    cause_table cause w (Err y) x =
        ap number_of x.1 ∙ first cause (table_next low table (number_of cause) k (sym (ap number_in w) ∙ c))

    -- one that passes, with letters by which the tables are judged: 10, or none
    pub cause_formed : IfOk passed (λ it. it ≡ table) → (folding : List ℕ) → passed ≡ Ok folding → (r : Option Tables)
        → r ≡ then_some (well_formed (letters folding) o n m) (counted o n m) → (out : Result Tables Refusal) → out ≡ ok_or r IllFormed
        → (number_in out ≡ write_cause table o n m room) × IfOk out (λ t. (t ≡ counted o n m) × (text_bytes ≤ room))
    cause_formed i folding w r g out f =
        let p = passes table passed folding c i w in
        let none : letters_cause low table ≡ 0 = sym (table_next low table 0 k (sym p.0)) in
        let j = formed_or _ _ r out (g ∙ ap (λ (x : List ℕ). then_some (well_formed (letters x) o n m) (counted o n m)) p.1) f in
        (j.0 ∙ sym (pick_true _ _ (eq-eqb _ 0 none)) ∙ same, long out j.1)
      where
        long : (q : Result Tables Refusal) → IfOk q (λ t. t ≡ counted o n m) → IfOk q (λ t. (t ≡ counted o n m) × (text_bytes ≤ room))
        long (Ok t) h = (h, text_long _ _ _ _ low e k)
        long (Err y) h = tt

-- what the call answers and leaves
abbrev pub gives : Result ℕ Refusal → Bytes → Written
gives r area = record { number = number_in r; size = count_in (λ (k : ℕ). k) r; text = area }

-- the call by the number of what is judged
module _ (table : List ℕ) (o : Areas) (n m : ℕ) (area : Bytes) where
  abbrev book : Bytes
  book = text_of (counted o n m)

  by_cause : write_call table o n m area
      ≡ pick (eqb (write_cause table o n m (length area)) 0) (placed book area) (unwritten (write_cause table o n m (length area)) area)
  unfolding write_call write_cause
  by_cause =
      let cause : ℕ = letters_cause (short o || ltb (length area) text_bytes) table in
      let by : ℕ → Written = λ i. pick (eqb i 0) (placed book area) (unwritten i area) in
      either (eqb cause 0)
      (λ t.
      either (well_formed (letters table) o n m)
      (λ f. pick_true _ _ t ∙ pick_true _ _ f ∙ sym (ap by (pick_true _ _ t ∙ pick_true _ _ f) ∙ pick_true _ _ refl))
      (λ f. pick_true _ _ t ∙ pick_false _ _ f ∙ sym (ap by (pick_true _ _ t ∙ pick_false _ _ f) ∙ pick_false _ _ refl)))
      (λ t. pick_false _ _ t ∙ sym (ap by (pick_false _ _ t) ∙ pick_false _ _ t))

  -- `judged` is what judging answers
  module _ (judged : Result Tables Refusal) (c : number_in judged ≡ write_cause table o n m (length area)) where
    -- a refusal
    pub call_refused : (cause : Refusal) → judged ≡ Err cause → (out : Result ℕ Refusal) → IsErr out × IsErrAnd out (λ x. x ≡ cause)
        → gives out area ≡ write_call table o n m area
    call_refused cause w (Ok k) x = absurd x.1
    call_refused cause w (Err y) x =
        let k : number_of cause ≡ write_cause table o n m (length area) = sym (ap number_in w) ∙ c in
        ap (λ (z : Refusal). unwritten (number_of z) area) x.1 ∙ sym (pick_false _ _ (ne_eqb (number_of cause) 0 (number_some cause)))
        ∙ ap (λ (i : ℕ). pick (eqb i 0) (placed book area) (unwritten i area)) k ∙ sym by_cause

    -- tables t; `size` is how long their text is
    module _ (t : Tables) (w : judged ≡ Ok t) (i : IfOk judged (λ t. (t ≡ counted o n m) × (text_bytes ≤ length area))) (size : ℕ)
        (q : size ≡ length (text_of t)) where
      known : (t ≡ counted o n m) × (text_bytes ≤ length area)
      known = subst (λ (r : Result Tables Refusal). IfOk r (λ t. (t ≡ counted o n m) × (text_bytes ≤ length area))) w i

      text_is : text_of t ≡ book
      text_is = ap text_of known.0

      long : size ≡ length book
      long = q ∙ ap length text_is

      -- their text is placed
      formed : placed book area ≡ write_call table o n m area
      formed = sym (by_cause ∙ pick_true _ _ (eq-eqb _ 0 (sym c ∙ ap number_in w)))

      -- a text too long: 12
      pub call_long : text_bytes < size → unwritten 12 area ≡ write_call table o n m area
      unfolding placed
      call_long l = sym (pick_true _ _ (ap (ltb text_bytes) (sym long) ∙ lt-ltb text_bytes size l)) ∙ formed

      -- one that fits the area, and leaves it long enough to be cleared
      module _ (l : size ≤ text_bytes) where
        pub text_fits : length (text_of t) ≤ length area
        text_fits = omega (arith, q, known.1)

        pub still_long : (new : Bytes) → new ≡ begun (text_of t) area → text_bytes ≤ length new
        still_long new u = omega (arith, ap length u, length_begun (text_of t) area text_fits, known.1)

        -- the text, zero after it: 0
        pub call_done : (new out : Bytes) → new ≡ begun (text_of t) area → out ≡ cleared size text_bytes new
            → record { number = 0; size = size; text = out } ≡ write_call table o n m area
        unfolding placed
        call_done new out u v =
            ap₂ (λ (s : ℕ) (x : Bytes). record { number = 0; size = s; text = x }) long
            (v ∙ ap₂ (λ (s : ℕ) (x : Bytes). cleared s text_bytes x) long (u ∙ ap (λ (b : Bytes). begun b area) text_is)
            ∙ begun_filled text_bytes book area (subst (λ (s : ℕ). s ≤ text_bytes) long l))
            ∙ sym (pick_false _ _ (ap (ltb text_bytes) (sym long) ∙ le-ltb text_bytes size l)) ∙ formed
