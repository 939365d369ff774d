-- The whole call: its refusals, and what the lines and the clearing leave.
-- Assumes nothing.
use mathlib.Core.Path.{◌≡◌, refl, sym, ap, ap₂, ◌∙◌, subst}
use mathlib.Core.Bool.{Bool, true, false}
use mathlib.Core.List.{List, [], ◌++◌, map}
use Prim.Native.Nat.{ℕ, ◌-◌, ◌*◌, ◌≤◌, ◌<◌}
use native.Mathlib.Omega.{arith}
use lib.Dec.{eqb}
use lib.ListN.{length, take, drop, replicate, length-map}
use borrow.Author.Tests.{eqb-true, eqb-false, eq-eqb, ne_eqb}
use Rattle.std.specs.Prelude.{Result, Ok, Err}
use Rattle.std.specs.Result.{IsErr, IsErrAnd, result_unwrap_or}
use Rattle.limits.specs.Refusal.{number_of, refused_number, refused_line, count_in}
use Rattle.limits.specs.declared.Refusal.{Refusal}
use Rattle.limits.specs.declared.Refusal.TheVariants.{ShortArea, LongText}
use Rattle.limits.specs.declared.Refused.{Refused}
use Rattle.limits.specs.declared.Counts.{Counts}
use Rattle.limits.proofs.Numbers.{number_some}
use Rattle.limits.specs.Book.{text_bytes, names, name_bytes, rules, name_area, body_words, body_area}
use Rattle.sets.proofs.Logic.{either, pick_true, pick_false}
use Rattle.program.specs.Program.{Rule}
use Rattle.grammar.specs.Bytes.{Bytes, letters}
use Rattle.grammar.specs.Grammar.{Clause}
use Rattle.grammar.specs.Letters.{letters_cause}
use Rattle.scan.proofs.Tables.{short_first, table_next}
use Rattle.scan.specs.Hash.{buckets}
use Rattle.tables.specs.Numbering.{names_of, numbered}
use Rattle.tables.specs.Reading.{Reading, refused, marked, ended, book_of, reading}
use Rattle.tables.specs.Areas.{Areas, Outcome, name_rows, head_rows, body_rows, filled_with, tables_of, short}
use Rattle.tables.specs.Areas.{refusal, outcome, read_call, names_from}
use Rattle.areas.specs.Area.{begun, filled, cleared}
use Rattle.tables.proofs.Numbering.{names_none, heads_length, bodies_length}
use Rattle.tables.proofs.Judging.{book_lines, reading_long, reading_short}
use Rattle.areas.proofs.Begun.{begun_none, used}
use Rattle.tables.proofs.Encoding.{length_name_rows, long_enough}
use Rattle.tables.proofs.Calls.{read_pass}
use Rattle.lexicon.proofs.Entering.{indexed_none}
use Rattle.clause.specs.Found.{lexicon_of, Named}
use Rattle.reader.specs.Short.{short_read}
use Rattle.reader.specs.State.{Tables, tables_at, Booked, Stayed, Lined, all_lines}

-- what the call answers and leaves
abbrev pub gives : Result Counts Refused → Bytes → List ℕ → List ℕ → Outcome
gives r area heads bodies =
    record {
      answer =
          record {
            number = refused_number r;
            line = refused_line r;
            names = count_in (λ (n : Counts). n.names) r;
            rules = count_in (λ (n : Counts). n.rules) r;
          };
      areas = record { spellings = area; heads = heads; bodies = bodies };
    }

abbrev lent : Bytes → List ℕ → List ℕ → Areas
lent area heads bodies = record { spellings = area; heads = heads; bodies = bodies }

-- a refusal that leaves all as it was
refusal_none : (k : ℕ) (old : Areas) → refusal k 0 old ≡ record { answer = record { number = k; line = 0; names = 0; rules = 0 }; areas = old }
unfolding refusal
refusal_none k old = ap (λ (a : Areas). record { answer = record { number = k; line = 0; names = 0; rules = 0 }; areas = a })
    (pick_true old (filled_with [] [] old) refl)

-- a refusal before any line, where the text comes to that
pub refuses : (area : Bytes) (heads bodies : List ℕ) (cause : Refusal) (r : Refused) → r ≡ record { cause = cause; line = 0 }
    → (x : Reading) → x ≡ refused (number_of cause) 0 → gives (Err r) area heads bodies ≡ outcome x (lent area heads bodies)
unfolding outcome
refuses area heads bodies cause r e x q =
    ap (λ (r : Refused). gives (Err r) area heads bodies) e ∙ sym (refusal_none (number_of cause) (lent area heads bodies))
    ∙ sym (ap (λ (y : Reading). outcome y (lent area heads bodies)) q)

-- The call: an area is too short, or the table is refused, or the text is too long, or it is read. The cause k is judged of the lengths and then of
-- the table.
module _ (table t area : Bytes) (heads bodies : List ℕ) where
  abbrev was : Areas
  was = lent area heads bodies

  -- what is judged first
  abbrev due : ℕ
  due = letters_cause (short was) table

  -- a refusal for what is judged
  first_cause : (k : ℕ) → k ≡ due → (cause : Refusal) (r : Refused) → r ≡ record { cause = cause; line = 0 } → k ≡ number_of cause
      → gives (Err r) area heads bodies ≡ read_call table t was
  unfolding read_call
  first_cause k judged cause r e some =
      ap (λ (r : Refused). gives (Err r) area heads bodies) e ∙ sym (refusal_none (number_of cause) was)
      ∙ ap (λ (i : ℕ). refusal i 0 was) (sym some ∙ judged)
      ∙ sym (pick_false (outcome (reading (letters table) t) was) (refusal due 0 was)
      (ne_eqb due 0 (λ z. number_some cause (sym some ∙ judged ∙ z))))

  -- an area is too short
  pub call_short : (low : Bool) → low ≡ short_read (length area) (length heads) (length bodies) → low ≡ true
      → (r : Refused) → r ≡ record { cause = ShortArea; line = 0 } → gives (Err r) area heads bodies ≡ read_call table t was
  unfolding short short_read
  call_short low p e r q = first_cause 1 (short_first low table e ∙ ap (λ (b : Bool). letters_cause b table) p) ShortArea r q refl

  module _ (low : Bool) (p : low ≡ short_read (length area) (length heads) (length bodies)) (long : low ≡ false)
      (k : ℕ) (q : k ≡ letters_cause false table) where
    judged : k ≡ due
    unfolding short short_read
    judged = table_next low table k long q ∙ ap (λ (b : Bool). letters_cause b table) p

    -- the table is refused, as a call hands it on
    pub call_refused : (cause : Refusal) (r : Result Counts Refused) → IsErr r × IsErrAnd r (λ e. e ≡ record { cause = cause; line = 0 })
        → k ≡ number_of cause → gives r area heads bodies ≡ read_call table t was
    call_refused cause (Ok n) e some = absurd e.1
    call_refused cause (Err r) e some = first_cause k judged cause r e.1 some

    module _ (z : k ≡ 0) where
      -- the areas are long enough and the table passes
      pub call_ready : (name_area ≤ length area) × (rules ≤ length heads) × (body_area ≤ length bodies)
      call_ready =
          let ready = (read_pass table was).0 (sym judged ∙ z) in
          let all = long_enough was ready.0 in
          (all.0, all.1, all.2)

      call_is : read_call table t was ≡ outcome (reading (letters table) t) was
      unfolding read_call
      call_is = pick_true (outcome (reading (letters table) t) was) (refusal due 0 was) (eq-eqb due 0 (sym judged ∙ z))

      pub call_long : (r : Refused) → r ≡ record { cause = LongText; line = 0 } → text_bytes < length t
          → gives (Err r) area heads bodies ≡ read_call table t was
      call_long r e l =
          refuses area heads bodies LongText r e (reading (letters table) t) (reading_long (letters table) t l) ∙ sym call_is

      pub call_read : length t ≤ text_bytes → (by : Bytes) → by ≡ table → (o : Outcome) → o ≡ outcome (book_of (letters by) t) was
          → o ≡ read_call table t was
      call_read size by j o e =
          e ∙ ap (λ (x : Bytes). outcome (book_of (letters x) t) was) j
          ∙ ap (λ (x : Reading). outcome x was) (sym (reading_short (letters table) t size))
          ∙ sym call_is

-- no clauses yet
no_rows : name_rows [] ≡ []
unfolding name_rows
no_rows = refl

none_begun : (old : List ℕ) → old ≡ begun [] old
none_begun old = sym (begun_none old)

no_heads : head_rows (map (numbered (names_of [])) []) ≡ []
unfolding head_rows
no_heads = refl

no_bodies : body_rows (map (numbered (names_of [])) []) ≡ []
unfolding body_rows
no_bodies = refl

named_none : (area : Bytes) → name_area ≤ length area → Named [] (lexicon_of 0 area (replicate buckets 0) (replicate names 0))
unfolding names_from
named_none area l =
    record {
      count = refl;
      few = omega arith;
      long = l;
      fine = λ a k. absurd (omega arith);
      rows = none_begun area ∙ ap (λ (xs : List ℕ). begun xs area) (sym no_rows);
      there = refl;
      index = indexed_none;
    }

pub booked_none : (area : Bytes) (heads bodies : List ℕ) → name_area ≤ length area → rules ≤ length heads → body_area ≤ length bodies
    → Booked [] (tables_at 0 0 area (replicate buckets 0) (replicate names 0) heads bodies)
booked_none area heads bodies la lh lb =
    record {
      named =
          subst (λ (ns : List Bytes). Named ns (lexicon_of 0 area (replicate buckets 0) (replicate names 0))) (sym names_none)
          (named_none area la);
      count = refl;
      few = omega arith;
      heads_long = lh;
      bodies_long = lb;
      head_rows_lem = none_begun heads ∙ ap (λ (xs : List ℕ). begun xs heads) (sym no_heads);
      body_rows_lem = none_begun bodies ∙ ap (λ (xs : List ℕ). begun xs bodies) (sym no_bodies);
    }

-- an area cleared from its used part on is filled
cleared_filled : (size at : ℕ) (xs old new : List ℕ) → at ≡ length xs → new ≡ begun xs new → drop size new ≡ drop size old
    → cleared at size new ≡ filled size xs old
unfolding filled
cleared_filled size at xs old new p e q =
    ap₂ (λ (s z : List ℕ). s ++ (z ++ drop size new))
    (ap₂ (λ (i : ℕ) (ys : List ℕ). take i ys) p e ∙ used xs new) (ap (λ (i : ℕ). replicate (size - i) 0) p)
    ∙ ap (λ (s : List ℕ). xs ++ (replicate (size - length xs) 0 ++ s)) q

-- The lines are read, and the areas cleared from their first unused rows on.
module _ (fold : ℕ → ℕ) (t : Bytes) (number line : ℕ) (y : Tables) (l : Lined fold t number line y) where
  by_number : {X : Type 0} → (number ≡ 0 → X) → ((number ≡ 0 → ⊥) → X) → X
  by_number f g = either (eqb number 0) (λ e. f (eqb-true number 0 e)) (λ e. g (eqb-false number 0 e))

  abbrev n : ℕ
  n = y.lexicon.count

  abbrev m : ℕ
  m = y.count

  -- the areas then
  abbrev left : Areas
  left =
      lent (cleared (n * name_bytes) name_area y.lexicon.area) (cleared m rules y.heads) (cleared (m * body_words) body_area y.bodies)

  module _ (x : Tables) (s : Stayed x y) where
    abbrev old : Areas
    old = lent x.lexicon.area x.heads x.bodies

    -- a book
    after_read : (cs : List Clause) → Booked cs y → left ≡ tables_of cs old
    unfolding tables_of filled_with
    after_read cs b =
        let rs : List (Rule ℕ) = map (numbered (names_of cs)) cs in
        let k : m ≡ length rs = b.count ∙ sym (length-map cs (numbered (names_of cs))) in
        let na : n * name_bytes ≡ length (name_rows (names_of cs)) =
        ap (λ (i : ℕ). i * name_bytes) b.named.count ∙ sym (length_name_rows (names_of cs) (λ a j. (b.named.fine a j).0)) in
        ap₂ (lent (cleared (n * name_bytes) name_area y.lexicon.area))
        (cleared_filled rules m (head_rows rs) x.heads y.heads (k ∙ sym (heads_length rs)) b.head_rows_lem s.head_kept.past)
        (cleared_filled body_area (m * body_words) (body_rows rs) x.bodies y.bodies
        (ap (λ (i : ℕ). i * body_words) k ∙ sym (bodies_length rs)) b.body_rows_lem s.body_kept.past)
        ∙ ap (λ (a : Bytes). lent a (filled rules (head_rows rs) x.heads) (filled body_area (body_rows rs) x.bodies))
        (cleared_filled name_area (n * name_bytes) (name_rows (names_of cs)) x.lexicon.area y.lexicon.area na b.named.rows s.kept.past)

    -- a refused line
    after_refused : n ≡ 0 → m ≡ 0 → left ≡ filled_with [] [] old
    unfolding filled_with name_rows head_rows body_rows
    after_refused p q =
        let na : n * name_bytes ≡ 0 = omega arith in
        let mb : m * body_words ≡ 0 = omega arith in
        ap₂ (lent (cleared (n * name_bytes) name_area y.lexicon.area))
        (cleared_filled rules m [] x.heads y.heads q (none_begun y.heads) s.head_kept.past)
        (cleared_filled body_area (m * body_words) [] x.bodies y.bodies mb (none_begun y.bodies) s.body_kept.past)
        ∙ ap (λ (a : Bytes). lent a (filled rules [] x.heads) (filled body_area [] x.bodies))
        (cleared_filled name_area (n * name_bytes) [] x.lexicon.area y.lexicon.area na (none_begun y.lexicon.area) s.kept.past)

    -- what is answered and left
    abbrev given : ℕ → ℕ → ℕ → ℕ → Areas → Outcome
    given k at i j o = record { answer = record { number = k; line = at; names = i; rules = j }; areas = o }

    with_book : number ≡ 0 → given number line n m left ≡ outcome (all_lines fold t) old
    unfolding outcome
    with_book z =
        let r = l.reads z in
        let cs : List Clause = r.1.0 in
        let b : Booked cs y = r.1.2 in
        ap₂ (λ (k j : ℕ). given k j n m left) z r.0 ∙ ap₂ (λ (i j : ℕ). given 0 0 i j left) b.named.count b.count
        ∙ ap (given 0 0 (length (names_of cs)) (length cs)) (after_read cs b) ∙ sym (ap (λ (v : Reading). outcome v old) r.1.1)

    with_refusal : (number ≡ 0 → ⊥) → given number line n m left ≡ outcome (all_lines fold t) old
    unfolding outcome refusal
    with_refusal z =
        let r = l.refuses z in
        let d : line ≡ 0 → ⊥ = λ e. omega (arith, r.1) in
        ap₂ (λ (i j : ℕ). given number line i j left) r.2 r.3
        ∙ ap (given number line 0 0) (after_refused r.2 r.3 ∙ sym (pick_false old (filled_with [] [] old) (ne_eqb line 0 d)))
        ∙ sym (ap (λ (v : Reading). outcome v old) r.0)

    -- as the text comes to it, where i names and j rules are in use
    pub called : marked t ≡ true → ended t ≡ true → (i j : ℕ) → i ≡ n → j ≡ m → (area : Bytes) (heads bodies : List ℕ)
        → area ≡ cleared (i * name_bytes) name_area y.lexicon.area
        → heads ≡ cleared j rules y.heads → bodies ≡ cleared (j * body_words) body_area y.bodies
        → given number line n m (lent area heads bodies) ≡ outcome (book_of fold t) old
    called mk en i j p q area heads bodies a h b =
        ap (given number line n m)
        (ap₂ (lent area) (h ∙ ap (λ (k : ℕ). cleared k rules y.heads) q) (b ∙ ap (λ (k : ℕ). cleared (k * body_words) body_area y.bodies) q)
        ∙ ap (λ (e : Bytes). lent e (cleared m rules y.heads) (cleared (m * body_words) body_area y.bodies))
        (a ∙ ap (λ (k : ℕ). cleared (k * name_bytes) name_area y.lexicon.area) p))
        ∙ by_number with_book with_refusal ∙ sym (ap (λ (v : Reading). outcome v old) (book_lines fold t mk en))

-- what is in use of a book that is read, and of one that is refused
pub used_counts : (r : Result Counts Refused) (u : Counts) → u ≡ result_unwrap_or r (record { names = 0; rules = 0 })
    → (u.names ≡ count_in (λ (n : Counts). n.names) r) × (u.rules ≡ count_in (λ (n : Counts). n.rules) r)
used_counts (Ok n) u e = (ap (λ (c : Counts). c.names) e, ap (λ (c : Counts). c.rules) e)
used_counts (Err q) u e = (ap (λ (c : Counts). c.names) e, ap (λ (c : Counts). c.rules) e)
