-- The form of the line at a place, by the steps in which the code judges it.
-- Assumes nothing.
use mathlib.Core.Path.{◌≡◌, refl, sym, ap, ◌∙◌, subst}
use mathlib.Core.Bool.{Bool, true, false, ◌&&◌}
use mathlib.Core.List.{List, [], ◌∷◌, ◌++◌, append_assoc, append-nil}
use Prim.Native.Nat.{ℕ, ◌+◌, ◌-◌, ◌≤◌, ◌<◌}
use native.Mathlib.Omega.{arith}
use lib.Dec.{leb}
use lib.ListN.{length, drop}
use borrow.Author.Tests.{leb-true, le-leb, lt-leb}
use Rattle.limits.specs.Book.{name_bytes}
use Rattle.sets.specs.Set.{pick}
use Rattle.sets.proofs.Logic.{either, and_left, pick_true, pick_false}
use Rattle.grammar.specs.Bytes.{Bytes, Folding, blank, not_end, name_byte, all_of, colon, line_end}
use Rattle.grammar.specs.Grammar.{Clause, Form, rule, fault, spelling}
use Rattle.grammar.specs.Lines.{span, run, past, words_of, is_name, all_names, starts, byte_fault, word_fault, words_fault, from_body, from_colon, from_head}
use Rattle.grammar.proofs.Spans.{run_size, all_run, past_past}
use Rattle.grammar.proofs.Words.{blank_end, name_end, uncolon, with_colon, all_named, not_named, words_nil, words_past, names_nil, words_sound, words_more}
use Rattle.grammar.proofs.Sorts.{words_nil as none-sound, all_sound, fault_words, sound_words}
use Rattle.scan.specs.declared.cursor.Cursor.{Cursor}
use Rattle.scan.specs.Places.{past_at, name_run}
use Rattle.clause.specs.Line.{LineEnds, line_at, form_from, words_at, unblank, unword, fault_of}
use Rattle.clause.proofs.Places.{starts_eq, closed_past, line_past, run_line, end_past, sees_line, sees_end, end_here, sees_more, closed_next}
use Rattle.clause.proofs.Places.{line_next, end_next, in_text}

module _ (fold : ℕ → ℕ) where
  -- a run of 1 to 32 name bytes is a name
  pub name_none : (t : Bytes) (i end : ℕ) → end ≤ i → end ≡ past_at (name_byte fold) t i → false ≡ is_name fold (name_run fold t i)
  unfolding is_name
  name_none t i end h e =
      let n : length (name_run fold t i) ≡ span (name_byte fold) (drop i t) = run_size (name_byte fold) (drop i t) in
      sym (ap (λ (b : Bool). b && (leb (length (name_run fold t i)) name_bytes && all_of (name_byte fold) (name_run fold t i)))
      (lt-leb 1 (length (name_run fold t i)) (omega arith)))

  pub name_some : (t : Bytes) (i end : ℕ) → i < end → end ≡ past_at (name_byte fold) t i → leb (end - i) name_bytes ≡ is_name fold (name_run fold t i)
  unfolding is_name
  name_some t i end h e =
      let m : end - i ≡ span (name_byte fold) (drop i t) = omega arith in
      let n : end - i ≡ length (name_run fold t i) =
      m ∙ sym (run_size (name_byte fold) (drop i t))
      in
      let o : leb 1 (length (name_run fold t i)) ≡ true = le-leb 1 (length (name_run fold t i)) (omega arith) in
      ap (λ (k : ℕ). leb k name_bytes) n ∙ sym (rw (o, all_run (name_byte fold) (drop i t)) (and-true (leb (length (name_run fold t i)) name_bytes)))
    where
      and-true : (b : Bool) → b && true ≡ b
      and-true true = refl
      and-true false = refl

  -- a name has a byte
  pub name_long : (t : Bytes) (i : ℕ) → is_name fold (name_run fold t i) ≡ true → 1 ≤ span (name_byte fold) (drop i t)
  unfolding is_name
  name_long t i e =
      let n : length (name_run fold t i) ≡ span (name_byte fold) (drop i t) = run_size (name_byte fold) (drop i t) in
      omega (arith, leb-true 1 (length (name_run fold t i)) (and_left (leb 1 (length (name_run fold t i))) _ e))

-- behind a word, whose end is known, and the blanks after it, by two moves of the cursor
pub past_word : (fold : ℕ → ℕ) (t : Bytes) (i end line : ℕ) (moved behind : Cursor) → end ≡ past_at (name_byte fold) t i
    → moved ≡ record { at = end; line = line } → behind ≡ record { at = unblank t moved.at; line = moved.line } → behind.at ≡ unword fold t i
past_word fold t i end line moved behind e m q =
    ap (λ (k : Cursor). k.at) q ∙ ap (λ (k : Cursor). unblank t k.at) m ∙ ap (unblank t) e

-- a fault has its number
pub fault_number : (f : Form) (k : ℕ) → f ≡ fault k → k ≡ fault_of f
unfolding fault_of
fault_number f k e = sym (ap fault_of e)

-- the place is past blanks already
abbrev pub Trim : Bytes → ℕ → Type 0
Trim t i = past blank (line_at t i) ≡ line_at t i

-- The words from place i one after another: at place j the words ds are passed.
pub record Walk (fold : ℕ → ℕ) (t : Bytes) (i j : ℕ) (ds : List Bytes) : Type 0 where
  pub closed : LineEnds t j
  pub trim : Trim t j
  pub ends : past_at not_end t j ≡ past_at not_end t i
  pub tells : all_names fold (words_at t j) ≡ all_names fold (words_at t i)
  pub sorts : words_fault fold (words_at t j) ≡ words_fault fold (words_at t i)
  pub words : all_names fold (words_at t j) ≡ true → words_at t i ≡ ds ++ words_at t j

module _ (fold : ℕ → ℕ) (law : Folding fold) where
  -- a name byte is no line end
  end_name : name_byte fold line_end ≡ false
  end_name = name_end fold law

  -- Places in a line that has its end.
  module _ (t : Bytes) (i : ℕ) (k : LineEnds t i) where
    -- the line past its blanks
    pub line_unblank : line_at t (unblank t i) ≡ past blank (line_at t i)
    line_unblank = line_past t i k blank blank_end

    pub closed_unblank : LineEnds t (unblank t i)
    closed_unblank = closed_past t i k blank blank_end

    pub end_unblank : past_at not_end t (unblank t i) ≡ past_at not_end t i
    end_unblank = end_past t i k blank blank_end

    -- and past its first run of name bytes too
    after_word : LineEnds t (past_at (name_byte fold) t i)
    after_word = closed_past t i k (name_byte fold) end_name

    closed_unword : LineEnds t (unword fold t i)
    closed_unword = closed_past t (past_at (name_byte fold) t i) after_word blank blank_end

    line_unword : line_at t (unword fold t i) ≡ past blank (past (name_byte fold) (line_at t i))
    line_unword =
        line_past t (past_at (name_byte fold) t i) after_word blank blank_end ∙ ap (past blank) (line_past t i k (name_byte fold) end_name)

    end_unword : past_at not_end t (unword fold t i) ≡ past_at not_end t i
    end_unword =
        end_past t (past_at (name_byte fold) t i) after_word blank blank_end ∙ end_past t i k (name_byte fold) end_name

    -- both past in the text
    pub behind_in : (mid : ℕ) → mid ≡ unword fold t i → mid < length t
    behind_in mid e = subst (λ (j : ℕ). j < length t) (sym e) (in_text t (past_at (name_byte fold) t i) after_word blank blank_end)

    run_name : name_run fold t i ≡ run (name_byte fold) (line_at t i)
    run_name = run_line t i k (name_byte fold) end_name

    -- a name takes the place on, within the text
    word_less : is_name fold (name_run fold t i) ≡ true → length t - unword fold t i < length t - i
    word_less n =
        omega (arith, name_long fold t i n, in_text t (past_at (name_byte fold) t i) after_word blank blank_end)

  -- From the head on.

  -- a line with bytes
  from_head_lem : (s : Bytes) → (s ≡ [] → ⊥)
      → from_head fold s
      ≡ pick (is_name fold (run (name_byte fold) s)) (from_colon fold (run (name_byte fold) s) (past blank (past (name_byte fold) s)))
      (fault (word_fault fold s))
  unfolding from_head
  from_head_lem [] n = absurd (n refl)
  from_head_lem (b ∷ s) n = refl

  -- a rule by what it says
  said_rule : (b : Bool) (x c : Clause) (k : ℕ) → pick b (rule x) (fault k) ≡ rule c → (b ≡ true) × (x ≡ c)
  unfolding pick
  said_rule true x c k e = (refl, cc)
  said_rule false x c k e = let z : ◌≡◌ {A = ℕ} 0 1 = cc in absurd (omega arith)

  bodied : (h u : Bytes) (c : Clause) → from_body fold h u ≡ rule c → (all_names fold (words_of u) ≡ true) × (spelling fold h (words_of u) ≡ c)
  unfolding from_body
  bodied h u c e = said_rule (all_names fold (words_of u)) (spelling fold h (words_of u)) c (words_fault fold (words_of u)) e

  -- the number of what stands behind a colon
  body_number : (h u : Bytes) → words_fault fold (words_of u) ≡ fault_of (from_body fold h u)
  unfolding fault_of
  body_number h u =
      either (all_names fold (words_of u)) (λ a. all_sound fold (words_of u) a ∙ sym (ap fault_of (all_named fold h u a)))
      (λ a. sym (ap fault_of (not_named fold h u a)))

  -- a line whose head should stand at place i, before its end
  module _ (t : Bytes) (i : ℕ) (k : LineEnds t i) (e : starts line_end (drop i t) ≡ false) where
    not_empty : line_at t i ≡ [] → ⊥
    not_empty q = sees_more t i k e (λ b u p. let z : ◌≡◌ {A = ℕ} 0 1 = cc in omega arith)

    -- by its head
    by_head : form_from fold t i
        ≡ pick (is_name fold (name_run fold t i)) (from_colon fold (name_run fold t i) (past blank (past (name_byte fold) (line_at t i))))
        (fault (word_fault fold (line_at t i)))
    by_head =
        from_head_lem (line_at t i) not_empty
        ∙ ap (λ (h : Bytes). pick (is_name fold h) (from_colon fold h (past blank (past (name_byte fold) (line_at t i)))) (fault (word_fault fold (line_at t i))))
        (sym (run_name t i k))

    -- no name there: no rule
    pub headless : is_name fold (name_run fold t i) ≡ false → form_from fold t i ≡ fault (word_fault fold (line_at t i))
    headless n = by_head ∙ pick_false _ (fault (word_fault fold (line_at t i))) n

    -- a name: by what stands behind it
    pub with_head : is_name fold (name_run fold t i) ≡ true
        → form_from fold t i ≡ from_colon fold (name_run fold t i) (past blank (past (name_byte fold) (line_at t i)))
    with_head n = by_head ∙ pick_true _ (fault (word_fault fold (line_at t i))) n

    -- the place behind the head and its blanks
    module _ (mid : ℕ) (at : mid ≡ unword fold t i) where
      mid_closed : LineEnds t mid
      mid_closed = subst (LineEnds t) (sym at) (closed_unword t i k)

      mid_line : line_at t mid ≡ past blank (past (name_byte fold) (line_at t i))
      mid_line = ap (line_at t) at ∙ line_unword t i k

      mid_sees : starts colon (drop mid t) ≡ starts colon (past blank (past (name_byte fold) (line_at t i)))
      mid_sees = sees_line t mid mid_closed colon refl ∙ ap (starts colon) mid_line

      -- no colon there
      pub uncoloned : is_name fold (name_run fold t i) ≡ true → starts colon (drop mid t) ≡ false → form_from fold t i ≡ fault (byte_fault fold (line_at t mid))
      uncoloned n c =
          with_head n ∙ ap (from_colon fold (name_run fold t i)) (sym mid_line)
          ∙ uncolon fold (name_run fold t i) (line_at t mid) (ap (starts colon) mid_line ∙ sym mid_sees ∙ c)

      module _ (c : starts colon (drop mid t) ≡ true) where
        seen : (u : Bytes) × (line_at t mid ≡ colon ∷ u)
        seen = starts_eq colon (line_at t mid) (sym (sees_line t mid mid_closed colon refl) ∙ c)

        -- the line goes on behind the colon
        pub closed_body : LineEnds t (mid + 1)
        closed_body = closed_next t mid mid_closed colon seen.0 seen.1

        -- to the same end
        pub end_body : past_at not_end t (mid + 1) ≡ past_at not_end t i
        end_body = end_next t mid mid_closed colon seen.0 seen.1 ∙ ap (past_at not_end t) at ∙ end_unword t i k

        body_is : past blank (past (name_byte fold) (line_at t i)) ≡ colon ∷ line_at t (mid + 1)
        body_is =
            sym mid_line ∙ seen.1 ∙ ap (λ (x : Bytes). colon ∷ x) (sym (line_next t mid mid_closed colon seen.0 seen.1))

        -- a head and a colon: the words behind it tell
        coloned : is_name fold (name_run fold t i) ≡ true → form_from fold t i ≡ from_body fold (name_run fold t i) (line_at t (mid + 1))
        coloned n =
            with_head n ∙ ap (from_colon fold (name_run fold t i)) body_is ∙ with_colon fold (name_run fold t i) (line_at t (mid + 1))

        pub judged : is_name fold (name_run fold t i) ≡ true → words_fault fold (words_at t (mid + 1)) ≡ fault_of (form_from fold t i)
        judged n = body_number (name_run fold t i) (line_at t (mid + 1)) ∙ sym (ap fault_of (coloned n))

        -- a rule says the clause that they spell
        pub says : is_name fold (name_run fold t i) ≡ true → (d : Clause) → form_from fold t i ≡ rule d
            → (all_names fold (words_at t (mid + 1)) ≡ true) × (spelling fold (name_run fold t i) (words_at t (mid + 1)) ≡ d)
        says n d q = bodied (name_run fold t i) (line_at t (mid + 1)) d (sym (coloned n) ∙ q)

  -- Words.

  module _ (t : Bytes) (i : ℕ) (k : LineEnds t i) where
    -- past the blanks it is
    trim_unblank : Trim t (unblank t i)
    trim_unblank =
        ap (past blank) (line_unblank t i k) ∙ past_past blank (line_at t i) ∙ sym (line_unblank t i k)

    trim_unword : Trim t (unword fold t i)
    trim_unword =
        ap (past blank) (line_unword t i k) ∙ past_past blank (past (name_byte fold) (line_at t i)) ∙ sym (line_unword t i k)

    -- the words are those past the blanks
    words_unblank : words_at t (unblank t i) ≡ words_at t i
    words_unblank = ap words_of (line_unblank t i k) ∙ sym (words_past (line_at t i))

    -- at the line's end there are none
    words_end : starts line_end (drop i t) ≡ true → words_at t i ≡ []
    words_end e = ap words_of (sees_end t i k e) ∙ words_nil

    module _ (trim : Trim t i) (e : starts line_end (drop i t) ≡ false) where
      first : {X : Type 0} → ((b : ℕ) (u : Bytes) → past blank (line_at t i) ≡ b ∷ u → X) → X
      first g = sees_more t i k e (λ b u q. g b u (trim ∙ q))

      same_run : name_run fold t i ≡ run (name_byte fold) (past blank (line_at t i))
      same_run = run_name t i k ∙ ap (run (name_byte fold)) (sym trim)

      words_on : words_at t (unword fold t i) ≡ words_of (past (name_byte fold) (past blank (line_at t i)))
      words_on =
          ap words_of (line_unword t i k) ∙ sym (words_past (past (name_byte fold) (line_at t i)))
          ∙ ap (λ (x : Bytes). words_of (past (name_byte fold) x)) (sym trim)

      -- no name there: the fault of the words is that of the line from there on
      unsound : is_name fold (name_run fold t i) ≡ false → words_fault fold (words_at t i) ≡ word_fault fold (line_at t i)
      unsound n =
          first (λ b u q. fault_words fold law (line_at t i) b u q (sym (ap (is_name fold) same_run) ∙ n)) ∙ ap (word_fault fold) trim

      -- a name: they are where those behind it are
      sound : is_name fold (name_run fold t i) ≡ true → all_names fold (words_at t (unword fold t i)) ≡ all_names fold (words_at t i)
      sound n =
          first
          (λ b u q.
          ap (all_names fold) words_on ∙ sym (words_sound fold law (line_at t i) b u q (sym (ap (is_name fold) same_run) ∙ n)))

      -- and have the fault of those
      sorted : is_name fold (name_run fold t i) ≡ true → words_fault fold (words_at t (unword fold t i)) ≡ words_fault fold (words_at t i)
      sorted n =
          first
          (λ b u q.
          ap (words_fault fold) words_on ∙ sound_words fold law (line_at t i) b u q (sym (ap (is_name fold) same_run) ∙ n))

      -- and then they are that name and those behind it
      words_cons : all_names fold (words_at t i) ≡ true → words_at t i ≡ name_run fold t i ∷ words_at t (unword fold t i)
      words_cons a =
          first
          (λ b u q.
          words_more fold law (line_at t i) b u q a
          ∙ ap (λ (x : Bytes). x ∷ words_of (past (name_byte fold) (past blank (line_at t i)))) (sym same_run)
          ∙ ap (λ (ws : List Bytes). name_run fold t i ∷ ws) (sym words_on))

  -- the start, past the blanks at i
  module _ (t : Bytes) (i j : ℕ) (k : LineEnds t i) (e : j ≡ unblank t i) where
    pub walk_start : Walk fold t j j []
    walk_start =
        record {
          closed = subst (LineEnds t) (sym e) (closed_unblank t i k);
          trim = subst (Trim t) (sym e) (trim_unblank t i k);
          ends = refl;
          tells = refl;
          sorts = refl;
          words = λ a. refl;
        }

    -- the words and the end are those from i
    pub same_words : words_at t j ≡ words_at t i
    same_words = ap (words_at t) e ∙ words_unblank t i k

    pub same_end : past_at not_end t j ≡ past_at not_end t i
    same_end = ap (past_at not_end t) e ∙ end_unblank t i k

  module _ (t : Bytes) (i j : ℕ) (ds : List Bytes) (w : Walk fold t i j ds) where
    -- a word that is no name
    pub walk_fault : starts line_end (drop j t) ≡ false → is_name fold (name_run fold t j) ≡ false → word_fault fold (line_at t j) ≡ words_fault fold (words_at t i)
    walk_fault e n = sym (unsound t j w.closed w.trim e n) ∙ w.sorts

    -- the line's end: each word was a name, and they are all passed
    pub walk_sound : starts line_end (drop j t) ≡ true → 0 ≡ words_fault fold (words_at t i)
    walk_sound e = sym (ap (words_fault fold) (words_end t j w.closed e) ∙ none-sound fold) ∙ w.sorts

    pub walk_end : starts line_end (drop j t) ≡ true → j ≡ past_at not_end t i
    walk_end e = end_here t j w.closed e ∙ w.ends

    pub walk_all : starts line_end (drop j t) ≡ true → ds ≡ words_at t i
    walk_all e =
        let none : words_at t j ≡ [] = words_end t j w.closed e in
        sym (w.words (ap (all_names fold) none ∙ names_nil fold) ∙ ap (λ (ws : List Bytes). ds ++ ws) none ∙ append-nil ds)

    -- a name is passed
    pub walk_on : (x : ℕ) → starts line_end (drop j t) ≡ false → is_name fold (name_run fold t j) ≡ true → x ≡ unword fold t j
        → Walk fold t i x (ds ++ (name_run fold t j ∷ []))
    walk_on x e n q =
        let tell : all_names fold (words_at t (unword fold t j)) ≡ all_names fold (words_at t j) = sound t j w.closed w.trim e n in
        subst (λ (y : ℕ). Walk fold t i y (ds ++ (name_run fold t j ∷ []))) (sym q)
        (record {
          closed = closed_unword t j w.closed;
          trim = trim_unword t j w.closed;
          ends = end_unword t j w.closed ∙ w.ends;
          tells = tell ∙ w.tells;
          sorts = sorted t j w.closed w.trim e n ∙ w.sorts;
          words =
              λ a.
              w.words (sym tell ∙ a) ∙ ap (λ (ws : List Bytes). ds ++ ws) (words_cons t j w.closed w.trim e (sym tell ∙ a))
              ∙ sym (append_assoc ds (name_run fold t j ∷ []) (words_at t (unword fold t j)));
        })

    -- and less is left
    pub walk_less : (x : ℕ) → is_name fold (name_run fold t j) ≡ true → x ≡ unword fold t j → length t - x < length t - j
    walk_less x n q = subst (λ (y : ℕ). length t - y < length t - j) (sym q) (word_less t j w.closed n)
