-- The lines of a text, one after another: a line is read on from, or it is the first refused.
-- Assumes nothing.
use mathlib.Core.Path.{◌≡◌, refl, sym, ap, ap₂, ◌∙◌, subst}
use mathlib.Core.Logic.{inl, inr}
use mathlib.Core.List.{List, [], ◌∷◌, ◌++◌, append-nil, append_assoc}
use Prim.Native.Nat.{ℕ, suc, ◌+◌, ◌≤◌, ◌<◌}
use native.Mathlib.Omega.{arith}
use lib.Dec.{eqb, leb, ltb}
use lib.ListN.{length, length-append}
use borrow.Author.Tests.{ltb-true, ltb-false, leb-true, leb-false, lt-ltb, le-ltb, le-leb, lt-leb, eqb-true, eqb-false, eq-eqb, ne_eqb}
use Rattle.limits.specs.Book.{names, rules}
use Rattle.limits.specs.Cause.{fault_causes}
use Rattle.limits.proofs.Causes.{without, other}
use Rattle.sets.specs.Set.{pick}
use Rattle.sets.proofs.Logic.{either, pick_true, pick_false}
use Rattle.grammar.specs.Bytes.{Bytes}
use Rattle.grammar.specs.Grammar.{Clause, Form, silent, rule, fault, Says}
use Rattle.grammar.specs.Lines.{form_of}
use Rattle.grammar.specs.Claims.{Classified}
use Rattle.tables.specs.Numbering.{names_of}
use Rattle.tables.specs.Reading.{read, refused, Saying, Fits, LineRefused, line_cause, taken, read_lines}
use Rattle.tables.proofs.Numbering.{names_le}

-- what is read is not refused
pub read_refused : {X : Type 0} (cs : List Clause) (k line : ℕ) → read cs ≡ refused k line → X
read_refused cs k line e = let z : ◌≡◌ {A = ℕ} 0 1 = cc in absurd (omega arith)

-- the clauses are those read
read_one : (cs ds : List Clause) → read cs ≡ read ds → cs ≡ ds
read_one cs ds e = cc

-- the number is the one refused under
pub refused_number : (k line j at : ℕ) → refused k line ≡ refused j at → k ≡ j
refused_number k line j at e = cc

-- and the line is that one
pub refused_line : (k line j at : ℕ) → refused k line ≡ refused j at → line ≡ at
refused_line k line j at e = cc

-- the three forms
by_form : {X : Type 0} (f : Form) → (f ≡ silent → X) → ((c : Clause) → f ≡ rule c → X) → ((k : ℕ) → f ≡ fault k → X) → X
by_form silent s r w = s refl
by_form (rule c) s r w = r c refl
by_form (fault k) s r w = w k refl

-- Causes of a rule's line.

-- 256 rules are taken
pub cause_rules : (cs : List Clause) (c : Clause) → rules ≤ length cs → line_cause cs (rule c) ≡ 7
unfolding line_cause
cause_rules cs c l = pick_true 7 (pick (ltb names (length (names_of (cs ++ (c ∷ []))))) 6 0) (le-leb rules (length cs) l)

-- the names would be over 128
pub cause_names : (cs : List Clause) (c : Clause) → length cs < rules → names < length (names_of (cs ++ (c ∷ []))) → line_cause cs (rule c) ≡ 6
unfolding line_cause
cause_names cs c l m =
    pick_false 7 (pick (ltb names (length (names_of (cs ++ (c ∷ []))))) 6 0) (lt-leb rules (length cs) l)
    ∙ pick_true 6 0 (lt-ltb names (length (names_of (cs ++ (c ∷ [])))) m)

-- neither
pub cause_none : (cs : List Clause) (c : Clause) → length cs < rules → length (names_of (cs ++ (c ∷ []))) ≤ names → line_cause cs (rule c) ≡ 0
unfolding line_cause
cause_none cs c l m =
    pick_false 7 (pick (ltb names (length (names_of (cs ++ (c ∷ []))))) 6 0) (lt-leb rules (length cs) l)
    ∙ pick_false 6 0 (le-ltb names (length (names_of (cs ++ (c ∷ [])))) m)

-- one of the three
pub by_room : {X : Type 0} (cs : List Clause) (c : Clause) → (rules ≤ length cs → X)
    → (length cs < rules → names < length (names_of (cs ++ (c ∷ []))) → X)
    → (length cs < rules → length (names_of (cs ++ (c ∷ []))) ≤ names → X) → X
by_room cs c full many room =
    either (leb rules (length cs)) (λ e. full (leb-true rules (length cs) e))
    (λ e.
    let l : length cs < rules = leb-false rules (length cs) e in
    either (ltb names (length (names_of (cs ++ (c ∷ []))))) (λ d. many l (ltb-true names (length (names_of (cs ++ (c ∷ [])))) d))
    (λ d. room l (ltb-false names (length (names_of (cs ++ (c ∷ [])))) d)))

-- with room for one more clause, they fit with it
fits_more : (cs : List Clause) (c : Clause) → length cs < rules → length (names_of (cs ++ (c ∷ []))) ≤ names → Fits (cs ++ (c ∷ []))
fits_more cs c l m = record { rules_fit = omega (arith, length-append cs (c ∷ [])); names_fit = m }

-- fewer clauses fit too
pub fits_less : (cs ds : List Clause) → Fits (cs ++ ds) → Fits cs
fits_less cs ds f = record {
  rules_fit = omega (arith, f.rules_fit, length-append cs ds);
  names_fit = omega (arith, f.names_fit, names_le cs ds);
}

-- where one more fits it has no cause
pub fits_cause : (cs : List Clause) (c : Clause) → Fits (cs ++ (c ∷ [])) → line_cause cs (rule c) ≡ 0
fits_cause cs c f =
    let l : length cs < rules = omega (arith, f.rules_fit, length-append cs (c ∷ [])) in
    cause_none cs c l f.names_fit

module _ (fold : ℕ → ℕ) where
  -- no line is left
  pub read_end : (cs : List Clause) (line : ℕ) → read_lines fold [] cs line ≡ read cs
  unfolding read_lines
  read_end cs line = refl

  -- a line without a cause is read on from
  pub read_on : (s : Bytes) (ls : List Bytes) (cs : List Clause) (line : ℕ) → line_cause cs (form_of fold s) ≡ 0
      → read_lines fold (s ∷ ls) cs line ≡ read_lines fold ls (taken cs (form_of fold s)) (suc line)
  unfolding read_lines
  read_on s ls cs line e =
      pick_true (read_lines fold ls (taken cs (form_of fold s)) (suc line)) (refused (line_cause cs (form_of fold s)) line)
      (eq-eqb (line_cause cs (form_of fold s)) 0 e)

  -- a line with a cause ends the reading
  pub read_stop : (s : Bytes) (ls : List Bytes) (cs : List Clause) (line : ℕ) → (line_cause cs (form_of fold s) ≡ 0 → ⊥)
      → read_lines fold (s ∷ ls) cs line ≡ refused (line_cause cs (form_of fold s)) line
  unfolding read_lines
  read_stop s ls cs line e =
      pick_false (read_lines fold ls (taken cs (form_of fold s)) (suc line)) (refused (line_cause cs (form_of fold s)) line)
      (ne_eqb (line_cause cs (form_of fold s)) 0 e)

  -- a silent line changes nothing
  pub read_silent : (s : Bytes) (ls : List Bytes) (cs : List Clause) (line : ℕ) → form_of fold s ≡ silent
      → read_lines fold (s ∷ ls) cs line ≡ read_lines fold ls cs (suc line)
  unfolding line_cause taken
  read_silent s ls cs line q =
      read_on s ls cs line (ap (line_cause cs) q) ∙ ap (λ (f : Form). read_lines fold ls (taken cs f) (suc line)) q

  -- a rule with room for it is put last
  pub read_rule : (s : Bytes) (ls : List Bytes) (cs : List Clause) (line : ℕ) (c : Clause) → form_of fold s ≡ rule c
      → line_cause cs (rule c) ≡ 0 → read_lines fold (s ∷ ls) cs line ≡ read_lines fold ls (cs ++ (c ∷ [])) (suc line)
  unfolding taken
  read_rule s ls cs line c q z =
      read_on s ls cs line (ap (line_cause cs) q ∙ z) ∙ ap (λ (f : Form). read_lines fold ls (taken cs f) (suc line)) q

  module _ (forms : Classified fold) where
    -- the number of a fault is not 0
    pub nonzero_fault : (s : Bytes) (k : ℕ) → Says fold s (fault k) → k ≡ 0 → ⊥
    unfolding without
    nonzero_fault s k d = other 0 k fault_causes refl (forms.causes s k d)

    -- a line that is read on from: the clauses that it adds, none or one
    record Step (s : Bytes) (cs : List Clause) : Type 0 where
      new : List Clause
      next : taken cs (form_of fold s) ≡ cs ++ new
      fits : Fits (cs ++ new)
      says : (ls : List Bytes) (es : List Clause) → Saying fold ls es → Saying fold (s ∷ ls) (new ++ es)

    -- each line without a cause is one
    step : (s : Bytes) (cs : List Clause) → Fits cs → line_cause cs (form_of fold s) ≡ 0 → Step s cs
    unfolding line_cause taken Saying
    step s cs ok z =
        by_form (form_of fold s)
        (λ q. record {
          new = [];
          next = ap (taken cs) q ∙ sym (append-nil cs);
          fits = subst Fits (sym (append-nil cs)) ok;
          says = λ ls es m. inl ((forms.forms s silent).1 q, m);
        })
        (λ c q.
        by_room cs c (λ l. absurd (omega (arith, sym (cause_rules cs c l) ∙ sym (ap (line_cause cs) q) ∙ z)))
        (λ l m. absurd (omega (arith, sym (cause_names cs c l m) ∙ sym (ap (line_cause cs) q) ∙ z)))
        (λ l m. record {
          new = c ∷ [];
          next = ap (taken cs) q;
          fits = fits_more cs c l m;
          says = λ ls es n. inr (c, es, (forms.forms s (rule c)).1 q, refl, n);
        }))
        (λ k q. absurd (nonzero_fault s k ((forms.forms s (fault k)).1 q) (sym (ap (line_cause cs) q) ∙ z)))

    -- and the reading goes on with them
    step_on : (s : Bytes) (ls : List Bytes) (cs : List Clause) (line : ℕ) → line_cause cs (form_of fold s) ≡ 0
        → (p : Step s cs) → read_lines fold (s ∷ ls) cs line ≡ read_lines fold ls (cs ++ p.new) (suc line)
    step_on s ls cs line z p = read_on s ls cs line z ∙ ap (λ (xs : List Clause). read_lines fold ls xs (suc line)) p.next

    -- a line is refused for its cause
    cause_refuses : (s : Bytes) (cs : List Clause) → Fits cs → (line_cause cs (form_of fold s) ≡ 0 → ⊥)
        → LineRefused fold cs s (line_cause cs (form_of fold s))
    unfolding line_cause LineRefused
    cause_refuses s cs ok n =
        by_form (form_of fold s) (λ q. absurd (n (ap (line_cause cs) q)))
        (λ c q.
        let says : Says fold s (rule c) = (forms.forms s (rule c)).1 q in
        by_room cs c
        (λ l.
        let full : length cs ≡ rules = omega (arith, ok.rules_fit) in
        inr (c, says, inl (ap (line_cause cs) q ∙ cause_rules cs c l, full)))
        (λ l m. inr (c, says, inr (ap (line_cause cs) q ∙ cause_names cs c l m, l, m)))
        (λ l m. absurd (n (ap (line_cause cs) q ∙ cause_none cs c l m))))
        (λ k q. inl (subst (λ (j : ℕ). Says fold s (fault j)) (sym (ap (line_cause cs) q)) ((forms.forms s (fault k)).1 q)))

    -- and for nothing else
    refuses_cause : (s : Bytes) (cs : List Clause) (k : ℕ) → LineRefused fold cs s k → (line_cause cs (form_of fold s) ≡ k) × (k ≡ 0 → ⊥)
    unfolding line_cause LineRefused
    refuses_cause s cs k (inl m) = (ap (line_cause cs) ((forms.forms s (fault k)).0 m), nonzero_fault s k m)
    refuses_cause s cs k (inr (c, m, inl (e, full))) =
        (ap (line_cause cs) ((forms.forms s (rule c)).0 m) ∙ cause_rules cs c (omega arith) ∙ sym e, λ z. omega arith)
    refuses_cause s cs k (inr (c, m, inr (e, l, many))) =
        (ap (line_cause cs) ((forms.forms s (rule c)).0 m) ∙ cause_names cs c l many ∙ sym e, λ z. omega arith)

    -- Lines that are read to the end.
    pub record Passed (ls : List Bytes) (cs ds : List Clause) : Type 0 where
      pub es : List Clause
      pub whole : ds ≡ cs ++ es
      pub says : Saying fold ls es
      pub fits : Fits ds

    -- what is read is what the lines say
    pub passed : (ls : List Bytes) (cs : List Clause) (line : ℕ) (ds : List Clause) → Fits cs
        → read_lines fold ls cs line ≡ read ds → Passed ls cs ds
    unfolding Saying
    passed [] cs line ds ok e =
        let q : cs ≡ ds = read_one cs ds (sym (read_end cs line) ∙ e) in
        record { es = []; whole = sym q ∙ sym (append-nil cs); says = refl; fits = subst Fits q ok }
    passed (s ∷ ls) cs line ds ok e =
        either (eqb (line_cause cs (form_of fold s)) 0)
        (λ t.
        let z : line_cause cs (form_of fold s) ≡ 0 = eqb-true (line_cause cs (form_of fold s)) 0 t in
        let p : Step s cs = step s cs ok z in
        let r : Passed ls (cs ++ p.new) ds =
        passed ls (cs ++ p.new) (suc line) ds p.fits
        (sym (step_on s ls cs line z p) ∙ e)
        in
        record {
          es = p.new ++ r.es;
          whole = r.whole ∙ append_assoc cs p.new r.es;
          says = p.says ls r.es r.says;
          fits = r.fits;
        })
        (λ t.
        let n : line_cause cs (form_of fold s) ≡ 0 → ⊥ = eqb-false (line_cause cs (form_of fold s)) 0 t in
        read_refused ds (line_cause cs (form_of fold s)) line (sym e ∙ read_stop s ls cs line n))

    -- Lines of which one is refused.
    pub record Stopped (ls : List Bytes) (cs : List Clause) (line k at : ℕ) : Type 0 where
      pub above : List Bytes
      pub here : Bytes
      pub below : List Bytes
      pub es : List Clause
      pub whole : ls ≡ above ++ (here ∷ below)
      pub says : Saying fold above es
      pub fits : Fits (cs ++ es)
      pub refused_for : LineRefused fold (cs ++ es) here k
      pub number : at ≡ length above + line

    -- what is refused is refused for its first refused line
    pub stopped : (ls : List Bytes) (cs : List Clause) (line k at : ℕ) → Fits cs
        → read_lines fold ls cs line ≡ refused k at → Stopped ls cs line k at
    unfolding Saying
    stopped [] cs line k at ok e = read_refused cs k at (sym (read_end cs line) ∙ e)
    stopped (s ∷ ls) cs line k at ok e =
        either (eqb (line_cause cs (form_of fold s)) 0)
        (λ t.
        let z : line_cause cs (form_of fold s) ≡ 0 = eqb-true (line_cause cs (form_of fold s)) 0 t in
        let p : Step s cs = step s cs ok z in
        let r : Stopped ls (cs ++ p.new) (suc line) k at =
        stopped ls (cs ++ p.new) (suc line) k at p.fits
        (sym (step_on s ls cs line z p) ∙ e)
        in
        let q : (cs ++ p.new) ++ r.es ≡ cs ++ (p.new ++ r.es) = append_assoc cs p.new r.es in
        record {
          above = s ∷ r.above;
          here = r.here;
          below = r.below;
          es = p.new ++ r.es;
          whole = ap (λ (xs : List Bytes). s ∷ xs) r.whole;
          says = p.says r.above r.es r.says;
          fits = subst Fits q r.fits;
          refused_for = subst (λ (xs : List Clause). LineRefused fold xs r.here k) q r.refused_for;
          number = omega (arith, r.number);
        })
        (λ t.
        let n : line_cause cs (form_of fold s) ≡ 0 → ⊥ = eqb-false (line_cause cs (form_of fold s)) 0 t in
        let same : refused (line_cause cs (form_of fold s)) line ≡ refused k at = sym (read_stop s ls cs line n) ∙ e in
        record {
          above = [];
          here = s;
          below = ls;
          es = [];
          whole = refl;
          says = refl;
          fits = subst Fits (sym (append-nil cs)) ok;
          refused_for = subst (λ (j : ℕ). LineRefused fold (cs ++ []) s j) (refused_number (line_cause cs (form_of fold s)) line k at same)
              (subst (λ (xs : List Clause). LineRefused fold xs s (line_cause cs (form_of fold s))) (sym (append-nil cs)) (cause_refuses s cs ok n));
          number = omega (arith, refused_line (line_cause cs (form_of fold s)) line k at same);
        })

    -- lines that say clauses are read through, where these fit
    pub read_through : (above rest : List Bytes) (cs es : List Clause) (line : ℕ) → Saying fold above es → Fits (cs ++ es)
        → read_lines fold (above ++ rest) cs line ≡ read_lines fold rest (cs ++ es) (length above + line)
    unfolding Saying
    read_through [] rest cs es line e ok =
        let z : line ≡ 0 + line = omega arith in
        ap₂ (λ (xs : List Clause) (n : ℕ). read_lines fold rest xs n) (sym (append-nil cs) ∙ ap (λ (xs : List Clause). cs ++ xs) (sym e)) z
    read_through (s ∷ above) rest cs es line (inl (q, m)) ok =
        let z : length above + suc line ≡ suc (length above) + line = omega arith in
        read_silent s (above ++ rest) cs line ((forms.forms s silent).0 q)
        ∙ read_through above rest cs es (suc line) m ok
        ∙ ap (read_lines fold rest (cs ++ es)) z
    read_through (s ∷ above) rest cs es line (inr (c, ds, q, e, m)) ok =
        let z : length above + suc line ≡ suc (length above) + line = omega arith in
        let w : cs ++ es ≡ (cs ++ (c ∷ [])) ++ ds = ap (λ (xs : List Clause). cs ++ xs) e ∙ sym (append_assoc cs (c ∷ []) ds) in
        let f : Fits ((cs ++ (c ∷ [])) ++ ds) = subst Fits w ok in
        read_rule s (above ++ rest) cs line c ((forms.forms s (rule c)).0 q) (fits_cause cs c (fits_less (cs ++ (c ∷ [])) ds f))
        ∙ read_through above rest (cs ++ (c ∷ [])) ds (suc line) m f
        ∙ ap₂ (λ (xs : List Clause) (n : ℕ). read_lines fold rest xs n) (sym w) z

    -- so a line that is refused after them stops the reading
    pub read_to_refusal : (above below : List Bytes) (here : Bytes) (cs es : List Clause) (line k : ℕ) → Saying fold above es
        → Fits (cs ++ es) → LineRefused fold (cs ++ es) here k
        → read_lines fold (above ++ (here ∷ below)) cs line ≡ refused k (length above + line)
    read_to_refusal above below here cs es line k m ok b =
        let q = refuses_cause here (cs ++ es) k b in
        read_through above (here ∷ below) cs es line m ok
        ∙ read_stop here below (cs ++ es) (length above + line) (λ z. q.1 (sym q.0 ∙ z))
        ∙ ap (λ (j : ℕ). refused j (length above + line)) q.0

    -- and without one all is read
    pub read_all : (ls : List Bytes) (cs es : List Clause) (line : ℕ) → Saying fold ls es → Fits (cs ++ es)
        → read_lines fold ls cs line ≡ read (cs ++ es)
    read_all ls cs es line m ok =
        ap (λ (xs : List Bytes). read_lines fold xs cs line) (sym (append-nil ls))
        ∙ read_through ls [] cs es line m ok
        ∙ read_end (cs ++ es) (length ls + line)
