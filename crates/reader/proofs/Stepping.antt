-- One line: its cause, and the tables with its clause.
-- Assumes nothing.
use mathlib.Core.Path.{◌≡◌, refl, sym, ap, ◌∙◌, subst}
use mathlib.Core.Bool.{Bool, true, false}
use mathlib.Core.Logic.{inl}
use mathlib.Core.List.{List, [], ◌∷◌, ◌++◌, map}
use Prim.Native.Nat.{ℕ, ◌+◌, ◌*◌, ◌≤◌, ◌<◌}
use native.Mathlib.Numerals.{add-one}
use native.Mathlib.Omega.{arith}
use lib.ListN.{length, take, drop, set, length-append, length-map, length-set}
use lib.Seq.{set_split, drop-set-lt}
use borrow.Author.Tests.{leb-true, leb-false}
use Rattle.limits.specs.Book.{text_bytes, names, rules, name_area, body_words, body_area}
use Rattle.areas.specs.Area.{part, put, begun}
use Rattle.words.specs.Row.{pack}
use Rattle.areas.proofs.Parts.{length_part, put_past}
use Rattle.areas.proofs.Begun.{begun_more}
use Rattle.program.specs.Program.{Rule}
use Rattle.grammar.specs.Bytes.{Bytes, Folding, Among, not_end, hash, line_end}
use Rattle.grammar.specs.Grammar.{Clause, Form, silent, rule, fault}
use Rattle.grammar.specs.Lines.{starts}
use Rattle.scan.specs.Places.{past_at}
use Rattle.tables.specs.Numbering.{place, places, names_of, numbered}
use Rattle.tables.specs.Reading.{line_cause, taken}
use Rattle.tables.specs.Areas.{head_rows, body_rows}
use Rattle.tables.proofs.Numbering.{meets_met, names_more, numbered_more, heads_append, bodies_append, heads_length, bodies_length}
use Rattle.tables.proofs.Loop.{cause_rules, cause_names, cause_none}
use Rattle.clause.specs.Line.{LineEnds, form_from, unblank, fault_of}
use Rattle.clause.proofs.Forms.{closed_unblank, end_unblank}
use Rattle.clause.proofs.Places.{end_here, in_text}
use Rattle.clause.specs.Found.{Kept, Lexicon, names_at, Named, Ruled, Said, names_with}
use Rattle.clause.proofs.Rows.{kept_same}
use Rattle.reader.specs.State.{Tables, Booked, Stayed, Stepped, form_at}
use Rattle.reader.proofs.Silent.{Loud, headed, headed_end, head_loud}

-- nothing changed
pub stayed_same : (x : Tables) → Stayed x x
stayed_same x =
    record {
      kept = kept_same name_area x.lexicon.area;
      head_kept = kept_same rules x.heads;
      body_kept = kept_same body_area x.bodies;
    }

-- the end of a line, and its number, leave room for one more
pub end_room : (t : Bytes) (i line end next : ℕ) → LineEnds t i → length t ≤ text_bytes → line ≤ i → end ≡ past_at not_end t i → next ≡ line
    → (end < text_bytes) × (next < text_bytes)
unfolding not_end
end_room t i line end next k l b e q = (omega (arith, in_text t i k not_end refl), omega (arith, in_text t i k not_end refl))

-- a line that says nothing
pub stepped_silent : (cs : List Clause) (form : Form) (end line at next : ℕ) (x : Tables) → form ≡ silent
    → at ≡ end → next ≡ line → Booked cs x → Stepped cs form end line 0 (at + 1) (next + 1) x
unfolding line_cause taken
stepped_silent cs form end line at next x e q p b =
    record {
      judged = sym (ap (line_cause cs) e);
      ends = λ z. ap (λ (j : ℕ). j + 1) q;
      counts = λ z. ap (λ (j : ℕ). j + 1) p;
      books = λ z. subst (λ (f : Form). Booked (taken cs f) x) (sym e) b;
    }

-- a line with a cause
stepped_refused : (cs : List Clause) (form : Form) (end line cause at next : ℕ) (y : Tables) → cause ≡ line_cause cs form
    → (cause ≡ 0 → ⊥) → Stepped cs form end line cause at next y
stepped_refused cs form end line cause at next y e l =
    record { judged = e; ends = λ z. absurd (l z); counts = λ z. absurd (l z); books = λ z. absurd (l z) }

-- an element set is put
set_put : (xs : List ℕ) (i x : ℕ) → i < length xs → set xs i x ≡ put i (x ∷ []) xs
set_put xs i x l = set_split xs i x l ∙ ap (λ (k : ℕ). take i xs ++ (x ∷ drop k xs)) (sym (add-one i))

-- the rules of clauses
abbrev rules_of : List Clause → List (Rule ℕ)
rules_of cs = map (numbered (names_of cs)) cs

rules_count : (cs : List Clause) → length (rules_of cs) ≡ length cs
rules_count cs = length-map cs (numbered (names_of cs))

-- the rows of one rule more
heads_one : (cs : List Clause) (c : Clause)
    → head_rows (rules_of (cs ++ (c ∷ []))) ≡ head_rows (rules_of cs) ++ (place (names_of (cs ++ (c ∷ []))) c.head ∷ [])
unfolding head_rows numbered
heads_one cs c = ap head_rows (numbered_more cs c) ∙ heads_append (rules_of cs) (numbered (names_of (cs ++ (c ∷ []))) c ∷ [])

bodies_one : (cs : List Clause) (c : Clause)
    → body_rows (rules_of (cs ++ (c ∷ []))) ≡ body_rows (rules_of cs) ++ pack body_words (places (names_of (cs ++ (c ∷ []))) c.body)
unfolding body_rows numbered
bodies_one cs c =
    ap body_rows (numbered_more cs c) ∙ bodies_append (rules_of cs) (numbered (names_of (cs ++ (c ∷ []))) c ∷ [])
    ∙ ap (λ (xs : List ℕ). body_rows (rules_of cs) ++ xs) (nothing_more (pack body_words (places (names_of (cs ++ (c ∷ []))) c.body)))
  where
    nothing_more : (xs : List ℕ) → xs ++ [] ≡ xs
    nothing_more [] = refl
    nothing_more (x ∷ xs) = ap (λ (ys : List ℕ). x ∷ ys) (nothing_more xs)

-- a first name is one of them
first_among : (x : Bytes) (xs : List Bytes) → Among x (x ∷ xs)
unfolding Among
first_among x xs = inl refl

-- a head set among the rules
head_set : (x : Tables) (head : ℕ) → x.count < rules → (heads' : List ℕ) → heads' ≡ set x.heads x.count head → Kept rules x.heads heads'
head_set x head l heads' h =
    record {
      as_long = ap length h ∙ length-set x.heads x.count head;
      past = ap (drop rules) h ∙ drop-set-lt rules x.heads x.count head l;
    }

-- The clause c after those of the tables x: the names with it in y, its head and its row.
module _ (cs : List Clause) (c : Clause) (x : Tables) (b : Booked cs x) (room : Bool) (head : ℕ) (y : Lexicon) (row : List ℕ)
    (r : Ruled (names_at x.lexicon) c room head y row) where
  more : names_with (names_at x.lexicon) c ≡ names_of (cs ++ (c ∷ []))
  more = ap (λ (ns : List Bytes). names_with ns c) b.named.there ∙ sym (names_more cs c)

  -- too many names
  over : room ≡ false → names < length (names_of (cs ++ (c ∷ [])))
  over e = omega (arith, leb-false (length (names_with (names_at x.lexicon) c)) names (sym r.fits ∙ e), ap length more)

  within : room ≡ true → length (names_of (cs ++ (c ∷ []))) ≤ names
  within e = omega (arith, leb-true (length (names_with (names_at x.lexicon) c)) names (sym r.fits ∙ e), ap length more)

  -- its head is a name's number
  head_low : room ≡ true → head < names
  head_low e =
      let m = meets_met (names_at x.lexicon) (c.head ∷ c.body) c.head (first_among c.head c.body) in
      omega (arith, r.head_is e, m, within e, ap length more)

  -- the tables once it is entered
  module _ (l : x.count < rules) (e : room ≡ true) (heads' bodies' : List ℕ) (h : heads' ≡ set x.heads x.count head)
      (as_long : length bodies' ≡ length x.bodies) (d : bodies' ≡ put (x.count * body_words) row x.bodies) where
    abbrev entered : Tables
    entered = record { lexicon = y; count = x.count + 1; heads = heads'; bodies = bodies' }

    booked_more : Booked (cs ++ (c ∷ [])) entered
    booked_more =
        let k : x.count ≡ length (rules_of cs) = b.count ∙ sym (rules_count cs) in
        let hl : x.count ≡ length (head_rows (rules_of cs)) = k ∙ sym (heads_length (rules_of cs)) in
        let bl : x.count * body_words ≡ length (body_rows (rules_of cs)) = ap (λ (j : ℕ). j * body_words) k ∙ sym (bodies_length (rules_of cs)) in
        let set_in : x.count < length x.heads = omega (arith, b.heads_long) in
        let hr : heads' ≡ put x.count (place (names_of (cs ++ (c ∷ []))) c.head ∷ []) x.heads =
        h ∙ ap (set x.heads x.count) (r.head_is e ∙ ap (λ (ns : List Bytes). place ns c.head) more)
        ∙ set_put x.heads x.count (place (names_of (cs ++ (c ∷ []))) c.head) set_in in
        let br : bodies' ≡ put (x.count * body_words) (pack body_words (places (names_of (cs ++ (c ∷ []))) c.body)) x.bodies =
        d
        ∙ ap (λ (ys : List ℕ). put (x.count * body_words) ys x.bodies)
        (r.body_is e ∙ ap (λ (ns : List Bytes). pack body_words (places ns c.body)) more) in
        record {
          named = subst (λ (ns : List Bytes). Named ns y) more (r.named e);
          count = omega (arith, b.count, length-append cs (c ∷ []));
          few = omega arith;
          heads_long = omega (arith, (head_set x head l heads' h).as_long, b.heads_long);
          bodies_long = omega (arith, as_long, b.bodies_long);
          head_rows_lem =
              begun_more (head_rows (rules_of cs)) (place (names_of (cs ++ (c ∷ []))) c.head ∷ []) x.heads heads' x.count hl b.head_rows_lem hr
              ∙ ap (λ (xs : List ℕ). begun xs heads') (sym (heads_one cs c));
          body_rows_lem =
              begun_more (body_rows (rules_of cs)) (pack body_words (places (names_of (cs ++ (c ∷ []))) c.body)) x.bodies bodies'
              (x.count * body_words) bl b.body_rows_lem br
              ∙ ap (λ (xs : List ℕ). begun xs bodies') (sym (bodies_one cs c));
        }

-- a form without a fault that says something is a rule
by_rule : {X : Type 0} (f : Form) → fault_of f ≡ 0 → Loud f → ((c : Clause) → f ≡ rule c → X) → X
unfolding fault_of
by_rule silent e l g = absurd (l.0 refl)
by_rule (rule c) e l g = g c refl
by_rule (fault k) e l g = absurd (l.1 (ap fault e))

-- the cause of a form with a fault is the fault's number
fault_cause : (f : Form) (cs : List Clause) → (fault_of f ≡ 0 → ⊥) → fault_of f ≡ line_cause cs f
unfolding fault_of line_cause
fault_cause silent cs n = refl
fault_cause (rule c) cs n = absurd (n refl)
fault_cause (fault k) cs n = refl

-- A line at place i that is no remark, and its head at place h.
pub record Headed (fold : ℕ → ℕ) (t : Bytes) (i h : ℕ) : Type 0 where
  pub law : Folding fold
  pub closed : LineEnds t i
  pub plain : starts hash (drop i t) ≡ false
  pub blanks : h ≡ unblank t i

module _ {fold : ℕ → ℕ} {t : Bytes} {i h : ℕ} (k : Headed fold t i h) where
  pub head_closed : LineEnds t h
  head_closed = subst (LineEnds t) (sym k.blanks) (closed_unblank fold k.law t i k.closed)

  form_head : form_from fold t h ≡ form_at fold t i
  form_head = sym (headed fold k.law t i k.closed k.plain ∙ ap (form_from fold t) (sym k.blanks))

  head_end_lem : past_at not_end t h ≡ past_at not_end t i
  head_end_lem = ap (past_at not_end t) k.blanks ∙ end_unblank fold k.law t i k.closed

  -- nothing there
  pub blank_form : starts line_end (drop h t) ≡ true → form_at fold t i ≡ silent
  blank_form e = sym form_head ∙ headed_end fold k.law t h head_closed e

  pub blank_end : starts line_end (drop h t) ≡ true → h ≡ past_at not_end t i
  blank_end e = end_here t h head_closed e ∙ head_end_lem

  -- what is known from the head on is known of the line
  pub stepped_head : (cs : List Clause) (line there cause at next : ℕ) (y : Tables) → there ≡ line
      → Stepped cs (form_from fold t h) (past_at not_end t h) there cause at next y
      → Stepped cs (form_at fold t i) (past_at not_end t i) line cause at next y
  stepped_head cs line there cause at next y e s =
      record {
        judged = s.judged ∙ ap (line_cause cs) form_head;
        ends = λ z. s.ends z ∙ ap (λ (j : ℕ). j + 1) head_end_lem;
        counts = λ z. s.counts z ∙ ap (λ (j : ℕ). j + 1) e;
        books = λ z. subst (λ (f : Form). Booked (taken cs f) y) form_head (s.books z);
      }

-- What is known behind the head at place h: what is said there, found with the names of the tables x and the row of their bodies from place r.
pub record Behind (fold : ℕ → ℕ) (t : Bytes) (h : ℕ) (x : Tables) (r : ℕ) (bodies' : List ℕ)
    (number at : ℕ) (room : Bool) (head : ℕ) (y : Lexicon) : Type 0 where
  pub law : Folding fold
  pub closed : LineEnds t h
  pub loud : starts line_end (drop h t) ≡ false
  pub clauses : List Clause
  pub booked : Booked clauses x
  pub in_area : r + body_words ≤ body_area
  pub own : x.count < rules → r ≡ x.count * body_words
  pub as_long : length bodies' ≡ length x.bodies
  pub rows : bodies' ≡ put r (part r body_words bodies') x.bodies
  pub said : Said fold t h x.lexicon number at room head y (part r body_words bodies')

module _ {fold : ℕ → ℕ} {t : Bytes} {h : ℕ} {x : Tables} {r : ℕ} {bodies' : List ℕ} {number at : ℕ} {room : Bool} {head : ℕ} {y : Lexicon}
    (k : Behind fold t h x r bodies' number at room head y) where
  row_in : r + length (part r body_words bodies') ≤ body_area
  row_in = omega (arith, k.in_area, length_part r body_words bodies' (omega (arith, k.in_area, k.as_long, k.booked.bodies_long)))

  bodies_kept : Kept body_area x.bodies bodies'
  bodies_kept =
      record {
        as_long = k.as_long;
        past =
            ap (drop body_area) k.rows
            ∙ put_past r (part r body_words bodies') x.bodies (omega (arith, row_in, k.booked.bodies_long)) body_area row_in;
      }

  -- a line that is refused leaves something in that row alone
  pub stayed_refused : (n m : ℕ)
      → Stayed x
      (record { lexicon = record { count = n; area = y.area; first = y.first; prior = y.prior }; count = m; heads = x.heads; bodies = bodies' })
  stayed_refused n m = record { kept = k.said.kept; head_kept = kept_same rules x.heads; body_kept = bodies_kept }

  -- at fault
  pub stepped_fault : (number ≡ 0 → ⊥) → (cs : List Clause) (line at next : ℕ) (w : Tables)
      → Stepped cs (form_from fold t h) (past_at not_end t h) line number at next w
  stepped_fault o cs line at next w =
      stepped_refused cs (form_from fold t h) (past_at not_end t h) line number at next w
      (k.said.judged ∙ fault_cause (form_from fold t h) cs (λ p. o (k.said.judged ∙ p))) o

  module _ (o : number ≡ 0) where
    -- a rule
    saying : {X : Type 0} → ((c : Clause) → form_from fold t h ≡ rule c → X) → X
    saying g = by_rule (form_from fold t h) (sym k.said.judged ∙ o) (head_loud fold k.law t h k.closed k.loud) g

    -- 256 rules are taken
    pub stepped_full : x.count ≡ rules → (cs : List Clause) → Booked cs x → (line at next : ℕ) (w : Tables)
        → Stepped cs (form_from fold t h) (past_at not_end t h) line 7 at next w
    stepped_full l cs b line at next w =
        saying
        (λ c p.
        stepped_refused cs (form_from fold t h) (past_at not_end t h) line 7 at next w
        (sym (cause_rules cs c (omega (arith, b.count))) ∙ ap (line_cause cs) (sym p)) (λ v. omega arith))

    module _ (f : x.count ≡ rules → ⊥) where
      below : x.count < rules
      below = omega (arith, k.booked.few, f)

      -- too many names
      pub stepped_over : room ≡ false → (cs : List Clause) → Booked cs x → (line at next : ℕ) (w : Tables)
          → Stepped cs (form_from fold t h) (past_at not_end t h) line 6 at next w
      stepped_over q cs b line at next w =
          saying
          (λ c p.
          stepped_refused cs (form_from fold t h) (past_at not_end t h) line 6 at next w
          (sym (cause_names cs c (omega (arith, b.count, below)) (over cs c x b room head y (part r body_words bodies') (k.said.says c p) q))
          ∙ ap (line_cause cs) (sym p))
          (λ v. omega arith))

      module _ (q : room ≡ true) where
        -- there is a place for its head, which is a name's number
        pub entering : (x.count < length x.heads) × (head < names)
        entering =
            saying
            (λ c p.
            let low = head_low k.clauses c x k.booked room head y (part r body_words bodies') (k.said.says c p) q in
            (omega (arith, below, k.booked.heads_long), low))

        -- the tables with it
        module _ (heads' : List ℕ) (h' : heads' ≡ set x.heads x.count head) where
          row_own : bodies' ≡ put (x.count * body_words) (part r body_words bodies') x.bodies
          row_own = k.rows ∙ ap (λ (j : ℕ). put j (part r body_words bodies') x.bodies) (k.own below)

          pub stayed_rule : (n m : ℕ)
              → Stayed x
              (record {
                lexicon = record { count = n; area = y.area; first = y.first; prior = y.prior };
                count = m;
                heads = heads';
                bodies = bodies';
              })
          stayed_rule n m = record { kept = k.said.kept; head_kept = head_set x head below heads' h'; body_kept = bodies_kept }

          pub stepped_rule : (cs : List Clause) → Booked cs x → (line next : ℕ) → next ≡ line
              → Stepped cs (form_from fold t h) (past_at not_end t h) line 0 (at + 1) (next + 1)
              (record { lexicon = y; count = x.count + 1; heads = heads'; bodies = bodies' })
          unfolding taken
          stepped_rule cs b line next w =
              saying
              (λ c p.
              let d : Ruled (names_at x.lexicon) c room head y (part r body_words bodies') = k.said.says c p in
              record {
                judged =
                    sym (cause_none cs c (omega (arith, b.count, below)) (within cs c x b room head y (part r body_words bodies') d q))
                    ∙ ap (line_cause cs) (sym p);
                ends = λ z. ap (λ (j : ℕ). j + 1) (k.said.ends o);
                counts = λ z. ap (λ (j : ℕ). j + 1) w;
                books =
                    λ z.
                    subst (λ (g : Form). Booked (taken cs g) (record { lexicon = y; count = x.count + 1; heads = heads'; bodies = bodies' }))
                    (sym p) (booked_more cs c x b room head y (part r body_words bodies') d below q heads' bodies' h' k.as_long row_own);
              })
