-- The ways in which a line is computed to be at fault: at its head, behind it, in its body. Each is the fault of the grammar, at its byte and under
-- its number.
-- Assumes nothing.
use mathlib.Core.Path.{◌≡◌, refl, sym, ap, ◌∙◌, subst}
use mathlib.Core.Logic.{◌⊎◌, inl, inr}
use mathlib.Core.Bool.{true, false}
use mathlib.Core.List.{List, [], ◌∷◌, ◌++◌, append_assoc, append-nil}
use Prim.Native.Nat.{ℕ, zero, suc, ◌≤◌, ◌<◌}
use native.Mathlib.Omega.{arith}
use lib.Dec.{ltb}
use lib.ListN.{length, take, length-drop}
use borrow.Author.Tests.{ltb-true, ltb-false, lt-ltb}
use Rattle.limits.specs.Book.{name_bytes}
use Rattle.sets.proofs.Logic.{either, clash, and_right}
use Rattle.grammar.specs.Bytes.{Bytes, Folding, blank, name_byte, all_of, colon, hash}
use Rattle.grammar.specs.Grammar.{Blanks, Name, Body, Listed, Viable, Unnamed, LongName, FaultNumber, Fault, fault}
use Rattle.grammar.specs.Lines.{span, run, past, words_of, is_name, all_names, starts, byte_fault, word_fault, words_fault, form_of}
use Rattle.grammar.proofs.Spans.{run_size, span_nil, span_yes, span_no, span_le, past_no, past_none, all_head, all_nil, all_append, all_run}
use Rattle.grammar.proofs.Spans.{run_past, span_past_run, head_fails, past_head, span_over, past_over}
use Rattle.grammar.proofs.Words.{test_name, name_blank, name_colon, words_nil, words_none, words_fault_lem, words_sound, names_nil, form_headless, form_uncolon}
use Rattle.grammar.proofs.Sorts.{run_name, run_long, byte_first, byte_nil, word_long, word_none, fault_words, sound_words}
use Rattle.grammar.proofs.Bodies.{split, no_name, name_first, name_run_lem, name_past, body_words_lem, stop_parted}
use Rattle.grammar.proofs.Forms.{no_remark, gap_stop, gap_past, lacks_colon, lacks_names, formless}
use Rattle.grammar.proofs.Faults.{nest, final, final_behind, final_all, last, over, span_front, span_other, starts_other}
use Rattle.grammar.proofs.Faults.{by_byte, not_long, long_final, long_behind, long_cons}

module _ (fold : ℕ → ℕ) (law : Folding fold) where
  -- a byte behind which every line is at fault ends viability
  dies : (p : Bytes) (b : ℕ) → ((r : Bytes) → (k : ℕ) × (form_of fold (p ++ (b ∷ r)) ≡ fault k)) → Viable fold (p ++ (b ∷ [])) → ⊥
  dies p b h (r, l) = formless fold law (p ++ (b ∷ r)) (h r).0 (h r).1 (subst (Listed fold) (append_assoc p (b ∷ []) r) l)

  -- no name byte stands last in blanks
  blanks_unnamed : (f : Bytes) → Blanks f → Unnamed fold f
  blanks_unnamed [] e = inl refl
  blanks_unnamed (b ∷ s) e =
      let r = last b s in
      inr (
        r.0,
        r.1,
        r.2,
        name_blank fold law r.1
            (all_head blank r.1 [] (and_right (all_of blank r.0) (all_of blank (r.1 ∷ []))
            (sym (all_append blank r.0 (r.1 ∷ [])) ∙ ap (all_of blank) (sym r.2) ∙ e))),
      )

  -- Blanks in front, then an overlong run: 32 bytes of it, and the byte behind these.
  module _ (s : Bytes) (l : name_bytes < span (name_byte fold) (past blank s)) where
    abbrev full : Bytes
    full = take name_bytes (past blank s)

    parts : (b : ℕ) × (t : Bytes) × (past blank s ≡ full ++ (b ∷ t)) × (all_of (name_byte fold) full ≡ true) × (name_byte fold b ≡ true) × (length full ≡ name_bytes)
    parts = over (name_byte fold) name_bytes (past blank s) l

    full_name : Name fold full
    full_name = record { some = omega (arith, parts.5); fits = omega (arith, parts.5); bytes = parts.3 }

    long_shape : s ≡ (run blank s ++ full) ++ (parts.0 ∷ parts.1)
    long_shape =
        sym (run_past blank s) ∙ ap (λ (u : Bytes). run blank s ++ u) parts.2 ∙ sym (append_assoc (run blank s) full (parts.0 ∷ parts.1))

    long_name_lem : LongName fold (run blank s ++ full) parts.0
    long_name_lem =
        record {
          before = run blank s;
          run = full;
          shape = refl;
          begins = blanks_unnamed (run blank s) (all_run blank s);
          size = parts.5;
          bytes = parts.3;
          more = parts.4;
        }

    -- so it is before any rest
    long_past : (r : Bytes) → past blank ((run blank s ++ full) ++ (parts.0 ∷ r)) ≡ full ++ (parts.0 ∷ r)
    long_past r =
        ap (past blank) (append_assoc (run blank s) full (parts.0 ∷ r))
        ∙ past_over blank (run blank s) (full ++ (parts.0 ∷ r)) (all_run blank s)
        ∙ past_none blank (full ++ (parts.0 ∷ r)) (name_first fold law full (parts.0 ∷ r) full_name)

    long_span : (r : Bytes) → name_bytes < span (name_byte fold) (past blank ((run blank s ++ full) ++ (parts.0 ∷ r)))
    long_span r =
        omega (
          arith,
          ap (span (name_byte fold)) (long_past r),
          span_over (name_byte fold) full (parts.0 ∷ r) parts.3,
          span_yes (name_byte fold) parts.0 r parts.4,
          parts.5,
        )

    long_none : (r : Bytes) → is_name fold (run (name_byte fold) (past blank ((run blank s ++ full) ++ (parts.0 ∷ r)))) ≡ false
    long_none r = run_long fold (past blank ((run blank s ++ full) ++ (parts.0 ∷ r))) (long_span r)

    long_some : {X : Type 0} (r : Bytes) → ((c : ℕ) (u : Bytes) → past blank ((run blank s ++ full) ++ (parts.0 ∷ r)) ≡ c ∷ u → X) → X
    long_some r g =
        split (past blank ((run blank s ++ full) ++ (parts.0 ∷ r)))
        (λ e. absurd (omega (arith, long_span r, ap (span (name_byte fold)) e, span_nil (name_byte fold))))
        g

  -- Blanks in front, then a byte that is no name byte.
  module _ (s : Bytes) (b : ℕ) (t : Bytes) (e : past blank s ≡ b ∷ t) where
    byte_shape : s ≡ run blank s ++ (b ∷ t)
    byte_shape = sym (run_past blank s) ∙ ap (λ (u : Bytes). run blank s ++ u) e

    byte_past : (r : Bytes) → past blank (run blank s ++ (b ∷ r)) ≡ b ∷ r
    byte_past r = past_over blank (run blank s) (b ∷ r) (all_run blank s) ∙ past_no blank b r (past_head blank s b t e)

    byte_none : name_byte fold b ≡ false → (r : Bytes) → is_name fold (run (name_byte fold) (past blank (run blank s ++ (b ∷ r)))) ≡ false
    byte_none z r =
        ap (λ (u : Bytes). is_name fold (run (name_byte fold) u)) (byte_past r) ∙ no_name fold (b ∷ r) (span_no (name_byte fold) b r z)

  -- no name in front: an overlong run, or a byte that is no name byte
  by_run : {X : Type 0} (s : Bytes) (b : ℕ) (t : Bytes) → past blank s ≡ b ∷ t → is_name fold (run (name_byte fold) (past blank s)) ≡ false
      → (name_bytes < span (name_byte fold) (past blank s) → X) → (name_byte fold b ≡ false → X) → X
  by_run s b t e n long byte =
      either (ltb name_bytes (span (name_byte fold) (past blank s))) (λ l. long (ltb-true name_bytes (span (name_byte fold) (past blank s)) l))
      (λ l.
      either (name_byte fold b)
      (λ q. clash
      (run_name fold (past blank s)
      (omega (arith, ap (span (name_byte fold)) e, span_yes (name_byte fold) b t q)) (ltb-false name_bytes (span (name_byte fold) (past blank s)) l))
      n)
      byte)

  -- the number of such a fault
  byte_number : (s : Bytes) (b : ℕ) (t : Bytes) → past blank s ≡ b ∷ t → name_byte fold b ≡ false → word_fault fold (past blank s) ≡ byte_fault fold (b ∷ t)
  byte_number s b t e z =
      ap (word_fault fold) e ∙ word_none fold (b ∷ t) (span_no (name_byte fold) b t z)

  -- In a body.

  -- the number of a fault in a body, at the byte b behind p
  abbrev BodyNumber : Bytes → ℕ → ℕ → Type 0
  BodyNumber p b k = ((k ≡ 13) × LongName fold p b) ⊎ ((name_byte fold b ≡ false) × (k ≡ byte_fault fold (b ∷ [])))

  -- the fault of s under the number k: behind a body there is a byte with which no words are all names
  record BodyFault (s : Bytes) (k : ℕ) : Type 0 where
    p : Bytes
    b : ℕ
    rest : Bytes
    shape : s ≡ p ++ (b ∷ rest)
    names : List Bytes
    body : Body fold p names
    ends : (r : Bytes) → all_names fold (words_of (p ++ (b ∷ r))) ≡ false
    number : BodyNumber p b k

  module _ (s : Bytes) (b : ℕ) (t : Bytes) (e : past blank s ≡ b ∷ t) where
    -- an overlong word
    body_long : is_name fold (run (name_byte fold) (past blank s)) ≡ false → name_bytes < span (name_byte fold) (past blank s)
        → BodyFault s (words_fault fold (words_of s))
    unfolding Body
    body_long n l =
        record {
          p = run blank s ++ full s l;
          b = (parts s l).0;
          rest = (parts s l).1;
          shape = long_shape s l;
          names = full s l ∷ [];
          body = (
            run blank s,
            [],
            ap (λ (u : Bytes). run blank s ++ u) (sym (append-nil (full s l))),
            all_run blank s,
            full_name s l,
            inl refl,
            all_nil blank,
          );
          ends =
              λ r.
              long_some s l r
              (λ c u i. words_fault_lem fold law ((run blank s ++ full s l) ++ ((parts s l).0 ∷ r)) c u i (long_none s l r));
          number = inl (
            fault_words fold law s b t e n ∙ word_long fold (past blank s) (lt-ltb name_bytes (span (name_byte fold) (past blank s)) l),
            long_name_lem s l,
          );
        }

    -- a byte that begins no name
    body_byte : is_name fold (run (name_byte fold) (past blank s)) ≡ false → name_byte fold b ≡ false → BodyFault s (words_fault fold (words_of s))
    unfolding Body
    body_byte n z =
        record {
          p = run blank s;
          b = b;
          rest = t;
          shape = byte_shape s b t e;
          names = [];
          body = all_run blank s;
          ends = λ r. words_fault_lem fold law (run blank s ++ (b ∷ r)) b r (byte_past s b t e r) (byte_none s b t e z r);
          number = inr (z, fault_words fold law s b t e n ∙ byte_number s b t e z ∙ byte_first fold b t []);
        }

    -- a name, and the fault of what stands behind it
    module _ (n : is_name fold (run (name_byte fold) (past blank s)) ≡ true)
        (x : BodyFault (past (name_byte fold) (past blank s)) (words_fault fold (words_of (past (name_byte fold) (past blank s))))) where
      abbrev word : Bytes
      word = run (name_byte fold) (past blank s)

      word_name : Name fold word
      word_name = test_name fold word n

      -- no name byte stands behind the name
      on_none : span (name_byte fold) (x.p ++ (x.b ∷ x.rest)) ≡ zero
      on_none = ap (span (name_byte fold)) (sym x.shape) ∙ span_past_run (name_byte fold) (past blank s)

      on_stop : span (name_byte fold) x.p ≡ zero
      on_stop = span_front (name_byte fold) x.p (x.b ∷ x.rest) on_none

      -- before any rest
      module _ (r : Bytes) where
        other_none : span (name_byte fold) (x.p ++ (x.b ∷ r)) ≡ zero
        other_none = span_other (name_byte fold) x.p x.b r x.rest on_none

        on_past : past blank ((run blank s ++ (word ++ x.p)) ++ (x.b ∷ r)) ≡ word ++ (x.p ++ (x.b ∷ r))
        on_past =
            ap (past blank) (nest (run blank s) word x.p (x.b ∷ r))
            ∙ past_over blank (run blank s) (word ++ (x.p ++ (x.b ∷ r))) (all_run blank s)
            ∙ past_none blank (word ++ (x.p ++ (x.b ∷ r))) (name_first fold law word (x.p ++ (x.b ∷ r)) word_name)

        on_ends : all_names fold (words_of ((run blank s ++ (word ++ x.p)) ++ (x.b ∷ r))) ≡ false
        on_ends =
            let y : Bytes = (run blank s ++ (word ++ x.p)) ++ (x.b ∷ r) in
            let w : run (name_byte fold) (past blank y) ≡ word =
            ap (run (name_byte fold)) on_past ∙ name_run_lem fold law word (x.p ++ (x.b ∷ r)) word_name other_none in
            let v : past (name_byte fold) (past blank y) ≡ x.p ++ (x.b ∷ r) =
            ap (past (name_byte fold)) on_past ∙ name_past fold law word (x.p ++ (x.b ∷ r)) word_name other_none in
            let k : is_name fold (run (name_byte fold) (past blank y)) ≡ true = ap (is_name fold) w ∙ n in
            split (past blank y)
            (λ i. clash k (no_name fold (past blank y) (ap (span (name_byte fold)) i ∙ span_nil (name_byte fold))))
            (λ c u i. words_sound fold law y c u i k ∙ ap (λ (z : Bytes). all_names fold (words_of z)) v ∙ x.ends r)

      on_number : BodyNumber x.p x.b (words_fault fold (words_of (past (name_byte fold) (past blank s))))
          → BodyNumber (run blank s ++ (word ++ x.p)) x.b (words_fault fold (words_of s))
      on_number (inl (i, y)) =
          inl (
            sym (sound_words fold law s b t e n) ∙ i,
            subst (λ (u : Bytes). LongName fold u x.b) (append_assoc (run blank s) word x.p)
                (long_behind fold (run blank s ++ word) x.p x.b on_stop y),
          )
      on_number (inr (z, i)) = inr (z, sym (sound_words fold law s b t e n) ∙ i)

      body_on : BodyFault s (words_fault fold (words_of s))
      unfolding Body
      body_on =
          let w = body_words_lem fold law x.names x.p x.body in
          record {
            p = run blank s ++ (word ++ x.p);
            b = x.b;
            rest = x.rest;
            shape =
                sym (run_past blank s)
                ∙ ap (λ (u : Bytes). run blank s ++ u)
                (sym (run_past (name_byte fold) (past blank s)) ∙ ap (λ (u : Bytes). word ++ u) x.shape)
                ∙ sym (nest (run blank s) word x.p (x.b ∷ x.rest));
            names = word ∷ x.names;
            body = (
              run blank s,
              x.p,
              refl,
              all_run blank s,
              word_name,
              stop_parted fold law x.p on_stop (ap (all_names fold) w.0 ∙ w.1),
              x.body,
            );
            ends = on_ends;
            number = on_number x.number;
          }

  -- less is left behind a name
  less_left : (s : Bytes) → is_name fold (run (name_byte fold) (past blank s)) ≡ true → length (past (name_byte fold) (past blank s)) < length s
  less_left s n =
      let some : 1 ≤ span (name_byte fold) (past blank s) =
      omega (arith, run_size (name_byte fold) (past blank s), (test_name fold (run (name_byte fold) (past blank s)) n).some) in
      omega (
        arith,
        some,
        span_le (name_byte fold) (past blank s),
        length-drop (span (name_byte fold) (past blank s)) (past blank s),
        length-drop (span blank s) s,
      )

  -- words that are not all names have such a fault; `most` bounds their bytes
  find_fault : (most : ℕ) (s : Bytes) → length s ≤ most → all_names fold (words_of s) ≡ false → BodyFault s (words_fault fold (words_of s))
  find_fault zero [] l a = clash (ap (all_names fold) (words_nil) ∙ names_nil fold) a
  find_fault zero (b ∷ s) l a = absurd (omega (arith, l))
  find_fault (suc most) s l a =
      split (past blank s) (λ e. clash (ap (all_names fold) (words_none s e) ∙ names_nil fold) a)
      (λ b t e.
      either (is_name fold (run (name_byte fold) (past blank s)))
      (λ n.
      body_on s b t e n
      (find_fault most (past (name_byte fold) (past blank s)) (omega (arith, l, less_left s n)) (sym (words_sound fold law s b t e n) ∙ a)))
      (λ n. by_run s b t e n (body_long s b t e n) (body_byte s b t e n)))

  -- At the head.
  module _ (s : Bytes) (b : ℕ) (t : Bytes) (q : starts hash s ≡ false) (e : past blank s ≡ b ∷ t) where
    head_long : name_bytes < span (name_byte fold) (past blank s) → Fault fold s (word_fault fold (past blank s))
    unfolding Body
    head_long l =
        inl (
          run blank s ++ full s l,
          (parts s l).0,
          record {
            rest = (parts s l).1;
            shape = long_shape s l;
            viable = (
              colon ∷ [],
              inr (inr (
                full s l,
                [],
                record {
                  front = run blank s;
                  gap = [];
                  rest = [];
                  shape = append_assoc (run blank s) (full s l) (colon ∷ []);
                  before = all_run blank s;
                  name = full_name s l;
                  between = all_nil blank;
                  names = all_nil blank;
                },
              )),
            );
            ends =
                dies (run blank s ++ full s l) (parts s l).0
                (λ r.
                long_some s l r
                (λ c u i. (
                  _,
                  form_headless fold ((run blank s ++ full s l) ++ ((parts s l).0 ∷ r)) c u
                      (ap (starts hash) (append_assoc (run blank s) (full s l) ((parts s l).0 ∷ r))
                      ∙ no_remark fold law (run blank s) (full s l) ((parts s l).0 ∷ r) (all_run blank s) (full_name s l)) i (long_none s l r),
                )));
          },
          inr (inl (word_long fold (past blank s) (lt-ltb name_bytes (span (name_byte fold) (past blank s)) l), long_name_lem s l)),
        )

    head_byte : name_byte fold b ≡ false → Fault fold s (word_fault fold (past blank s))
    head_byte z =
        inl (
          run blank s,
          b,
          record {
            rest = t;
            shape = byte_shape s b t e;
            viable = ([], inl (ap (all_of blank) (append-nil (run blank s)) ∙ all_run blank s));
            ends =
                dies (run blank s) b
                (λ r. (
                  _,
                  form_headless fold (run blank s ++ (b ∷ r)) b r
                      (starts_other hash (run blank s) b r t ∙ ap (starts hash) (sym (byte_shape s b t e)) ∙ q) (byte_past s b t e r) (byte_none s b t e z r),
                ));
          },
          subst (FaultNumber fold (run blank s) b) (sym (byte_number s b t e z)) (by_byte fold (run blank s) b t (not_long fold (run blank s) b z)),
        )

    pub head_fault : is_name fold (run (name_byte fold) (past blank s)) ≡ false → Fault fold s (word_fault fold (past blank s))
    head_fault n = by_run s b t e n head_long head_byte

    -- Behind the head.
    module _ (n : is_name fold (run (name_byte fold) (past blank s)) ≡ true) where
      abbrev name : Bytes
      name = run (name_byte fold) (past blank s)

      abbrev gap : Bytes
      gap = run blank (past (name_byte fold) (past blank s))

      abbrev behind : Bytes
      behind = past blank (past (name_byte fold) (past blank s))

      abbrev up_to : Bytes
      up_to = run blank s ++ (name ++ gap)

      name_is : Name fold name
      name_is = test_name fold name n

      gap_blank : Blanks gap
      gap_blank = all_run blank (past (name_byte fold) (past blank s))

      -- the parts of the line
      upto_shape : s ≡ up_to ++ behind
      upto_shape =
          sym (run_past blank s)
          ∙ ap (λ (u : Bytes). run blank s ++ u)
          (sym (run_past (name_byte fold) (past blank s))
          ∙ ap (λ (u : Bytes). name ++ u) (sym (run_past blank (past (name_byte fold) (past blank s)))))
          ∙ sym (nest (run blank s) name gap behind)

      -- no name byte stands behind the head
      gap_none : span (name_byte fold) (gap ++ behind) ≡ zero
      gap_none =
          ap (span (name_byte fold)) (run_past blank (past (name_byte fold) (past blank s))) ∙ span_past_run (name_byte fold) (past blank s)

      -- a colon can follow
      upto_viable : Viable fold up_to
      unfolding Body
      upto_viable = (
        colon ∷ [],
        inr (inr (
          name,
          [],
          record {
            front = run blank s;
            gap = gap;
            rest = [];
            shape = nest (run blank s) name gap (colon ∷ []);
            before = all_run blank s;
            name = name_is;
            between = gap_blank;
            names = all_nil blank;
          },
        )),
      )

      -- a byte there that is no colon
      module _ (c : starts colon behind ≡ false) (d : ℕ) (u : Bytes) (i : behind ≡ d ∷ u) where
        stop_dies : (r : Bytes) → (k : ℕ) × (form_of fold (up_to ++ (d ∷ r)) ≡ fault k)
        stop_dies r =
            subst (λ (x : Bytes). (k : ℕ) × (form_of fold x ≡ fault k)) (sym (nest (run blank s) name gap (d ∷ r)))
            (lacks_colon fold law (run blank s) name (gap ++ (d ∷ r)) (all_run blank s) name_is
            (span_other (name_byte fold) gap d r u (ap (λ (x : Bytes). span (name_byte fold) (gap ++ x)) (sym i) ∙ gap_none))
            (ap (starts colon)
            (past_over blank gap (d ∷ r) gap_blank
            ∙ past_no blank d r (past_head blank (past (name_byte fold) (past blank s)) d u i))
            ∙ starts_other colon [] d r u ∙ ap (starts colon) (sym i) ∙ c))

        -- is not the 33rd of a run: blanks stand before it
        stop_short : LongName fold up_to d → ⊥
        stop_short x =
            split gap
            (λ g. clash x.more
            (head_fails (name_byte fold) d u
            (ap (λ (y : Bytes). span (name_byte fold) (y ++ (d ∷ u))) (sym g)
            ∙ ap (λ (y : Bytes). span (name_byte fold) (gap ++ y)) (sym i) ∙ gap_none)))
            (λ f g o.
            let y : up_to ≡ (run blank s ++ name) ++ (f ∷ g) =
            sym (append_assoc (run blank s) name gap) ∙ ap (λ (v : Bytes). (run blank s ++ name) ++ v) o in
            let z : final up_to ≡ final (f ∷ g) = ap final y ∙ final_behind (run blank s ++ name) f g in
            clash (ap (name_byte fold) (sym z) ∙ long_final fold up_to d x)
            (name_blank fold law (final (f ∷ g)) (final_all blank f g (ap (all_of blank) (sym o) ∙ gap_blank))))

        stop_fault : Fault fold s (byte_fault fold behind)
        stop_fault =
            inl (
              up_to,
              d,
              record {
                rest = u;
                shape = upto_shape ∙ ap (λ (x : Bytes). up_to ++ x) i;
                viable = upto_viable;
                ends = dies up_to d stop_dies;
              },
              subst (FaultNumber fold up_to d) (ap (byte_fault fold) (sym i)) (by_byte fold up_to d u stop_short),
            )

      -- no colon behind the head
      pub colon_fault : starts colon behind ≡ false → Fault fold s (byte_fault fold behind)
      colon_fault c =
          split behind
          (λ i. inr (
            ap (byte_fault fold) i ∙ byte_nil fold,
            subst (Viable fold) (sym (upto_shape ∙ ap (λ (x : Bytes). up_to ++ x) i ∙ append-nil up_to)) upto_viable,
            formless fold law s (byte_fault fold behind) (form_uncolon fold s b t q e n c),
          ))
          (λ d u i. stop_fault c d u i)

      -- words behind the colon that are not all names
      module _ (rest : Bytes) (c : behind ≡ colon ∷ rest) (x : BodyFault rest (words_fault fold (words_of rest))) where
        abbrev up_to_body : Bytes
        up_to_body = up_to ++ (colon ∷ x.p)

        body_shape : up_to_body ≡ run blank s ++ (name ++ (gap ++ (colon ∷ x.p)))
        body_shape = nest (run blank s) name gap (colon ∷ x.p)

        body_dies : (r : Bytes) → (k : ℕ) × (form_of fold (up_to_body ++ (x.b ∷ r)) ≡ fault k)
        body_dies r =
            subst (λ (y : Bytes). (k : ℕ) × (form_of fold y ≡ fault k))
            (sym (append_assoc up_to (colon ∷ x.p) (x.b ∷ r) ∙ nest (run blank s) name gap (colon ∷ (x.p ++ (x.b ∷ r)))))
            (lacks_names fold law (run blank s) name (gap ++ (colon ∷ (x.p ++ (x.b ∷ r)))) (all_run blank s) name_is
            (gap_stop fold law gap (x.p ++ (x.b ∷ r)) gap_blank) (x.p ++ (x.b ∷ r))
            (gap_past fold law gap (x.p ++ (x.b ∷ r)) gap_blank) (x.ends r))

        body_number : BodyNumber x.p x.b (words_fault fold (words_of rest)) → FaultNumber fold up_to_body x.b (words_fault fold (words_of rest))
        body_number (inl (i, y)) =
            inr (inl (
              i,
              long_behind fold up_to (colon ∷ x.p) x.b (span_no (name_byte fold) colon x.p (name_colon fold law))
                  (long_cons fold colon x.p x.b (name_colon fold law) y),
            ))
        body_number (inr (z, i)) = subst (FaultNumber fold up_to_body x.b) (sym i) (by_byte fold up_to_body x.b [] (not_long fold up_to_body x.b z))

        words_at_fault : Fault fold s (words_fault fold (words_of rest))
        words_at_fault =
            inl (
              up_to_body,
              x.b,
              record {
                rest = x.rest;
                shape =
                    upto_shape ∙ ap (λ (y : Bytes). up_to ++ y) (c ∙ ap (λ (y : Bytes). colon ∷ y) x.shape)
                    ∙ sym (append_assoc up_to (colon ∷ x.p) (x.b ∷ x.rest));
                viable = (
                  [],
                  subst (Listed fold) (sym (append-nil up_to_body)) (inr (inr (
                    name,
                    x.names,
                    record {
                      front = run blank s;
                      gap = gap;
                      rest = x.p;
                      shape = body_shape;
                      before = all_run blank s;
                      name = name_is;
                      between = gap_blank;
                      names = x.body;
                    },
                  ))),
                );
                ends = dies up_to_body x.b body_dies;
              },
              body_number x.number,
            )

      pub body_fault : (rest : Bytes) → behind ≡ colon ∷ rest → all_names fold (words_of rest) ≡ false → Fault fold s (words_fault fold (words_of rest))
      body_fault rest c a = words_at_fault rest c (find_fault (length rest) rest (omega arith) a)
