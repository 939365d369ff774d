-- The fault of a line stands at one byte and has one number; what is known of bytes before a fault.
-- Assumes nothing.
use mathlib.Core.Path.{◌≡◌, refl, sym, ap, ◌∙◌, subst}
use mathlib.Core.Logic.{◌⊎◌, inl, inr}
use mathlib.Core.Bool.{Bool, true, false, ◌||◌}
use mathlib.Core.List.{[], ◌∷◌, ◌++◌, append_assoc, append-nil}
use Prim.Native.Nat.{ℕ, zero, suc, ◌<◌}
use native.Mathlib.Omega.{arith}
use lib.Dec.{eqb}
use lib.ListN.{length, take}
use borrow.Author.Tests.{eqb-false, ne_eqb}
use Rattle.sets.proofs.Logic.{either, clash, or_none, of_not}
use Rattle.grammar.specs.Bytes.{Bytes, blank, name_byte, all_of, colon}
use Rattle.grammar.specs.Grammar.{Listed, Viable, FaultAt, BarredByte, Unnamed, LongName, FaultNumber, Fault}
use Rattle.grammar.specs.Lines.{span, starts, barred, byte_fault}
use Rattle.grammar.proofs.Spans.{span_nil, span_yes, span_no, all_head, all_tail, all_nil, all_cons}
use Rattle.grammar.proofs.Spans.{head_fails, span_all}
use Rattle.grammar.proofs.Sorts.{byte_barred, byte_free}
use Rattle.grammar.proofs.Bodies.{split}

-- Bytes.

-- parts put together
pub nest : (f h g r : Bytes) → (f ++ (h ++ g)) ++ r ≡ f ++ (h ++ (g ++ r))
nest f h g r = append_assoc f (h ++ g) r ∙ ap (λ (x : Bytes). f ++ x) (append_assoc h g r)

-- the last byte, 0 for none
unfoldable pub final : Bytes → ℕ
final [] = 0
final (b ∷ []) = b
final (b ∷ c ∷ s) = final (c ∷ s)

pub final_behind : (x : Bytes) (c : ℕ) (s : Bytes) → final (x ++ (c ∷ s)) ≡ final (c ∷ s)
unfolding final
final_behind [] c s = refl
final_behind (b ∷ []) c s = refl
final_behind (b ∷ d ∷ x) c s = final_behind (d ∷ x) c s

pub final_all : (p : ℕ → Bool) (c : ℕ) (s : Bytes) → all_of p (c ∷ s) ≡ true → p (final (c ∷ s)) ≡ true
unfolding final
final_all p c [] e = all_head p c [] e
final_all p c (d ∷ s) e = final_all p d s (all_tail p c (d ∷ s) e)

-- bytes, and a last one
pub last : (b : ℕ) (s : Bytes) → (t : Bytes) × (c : ℕ) × (b ∷ s ≡ t ++ (c ∷ []))
last b [] = ([], b, refl)
last b (c ∷ s) = let r = last c s in (b ∷ r.0, r.1, ap (λ (x : Bytes). b ∷ x) r.2)

-- one text cut at two bytes: at the same place, or one behind the other
cut : (p q : Bytes) (b c : ℕ) (r t : Bytes) → p ++ (b ∷ r) ≡ q ++ (c ∷ t)
    → ((p ≡ q) × (b ≡ c)) ⊎ (((x : Bytes) × (q ≡ p ++ (b ∷ x))) ⊎ ((x : Bytes) × (p ≡ q ++ (c ∷ x))))
cut [] [] b c r t e = inl (refl, cc)
cut [] (d ∷ q) b c r t e = inr (inl (q, cc))
cut (d ∷ p) [] b c r t e = inr (inr (p, cc))
cut (d ∷ p) (f ∷ q) b c r t e =
    let h : d ≡ f = cc in
    let i : p ++ (b ∷ r) ≡ q ++ (c ∷ t) = cc in
    on h (cut p q b c r t i)
  where
    on : d ≡ f → ((p ≡ q) × (b ≡ c)) ⊎ (((x : Bytes) × (q ≡ p ++ (b ∷ x))) ⊎ ((x : Bytes) × (p ≡ q ++ (c ∷ x))))
        → ((d ∷ p ≡ f ∷ q) × (b ≡ c)) ⊎ (((x : Bytes) × (f ∷ q ≡ d ∷ (p ++ (b ∷ x)))) ⊎ ((x : Bytes) × (d ∷ p ≡ f ∷ (q ++ (c ∷ x)))))
    on h (inl (i, j)) = inl (cc, j)
    on h (inr (inl (x, i))) = inr (inl (x, cc))
    on h (inr (inr (x, i))) = inr (inr (x, cc))

-- more bytes than n pass: n of them, and one more
pub over : (p : ℕ → Bool) (n : ℕ) (u : Bytes) → n < span p u
    → (b : ℕ) × (t : Bytes) × (u ≡ take n u ++ (b ∷ t)) × (all_of p (take n u) ≡ true) × (p b ≡ true) × (length (take n u) ≡ n)
over p n [] l = absurd (omega (arith, l, span_nil p))
over p zero (b ∷ u) l =
    either (p b) (λ e. (b, u, refl, all_nil p, e, refl)) (λ e. absurd (omega (arith, l, span_no p b u e)))
over p (suc n) (c ∷ u) l =
    either (p c)
    (λ e.
    let r = over p n u (omega (arith, l, span_yes p c u e)) in
    (r.0, r.1, ap (λ (x : Bytes). c ∷ x) r.2, all_cons p c (take n u) e r.3, r.4, ap suc r.5))
    (λ e. absurd (omega (arith, l, span_no p c u e)))

-- no run starts in front: nor in front of a part, nor before another rest
pub span_front : (p : ℕ → Bool) (x y : Bytes) → span p (x ++ y) ≡ zero → span p x ≡ zero
span_front p [] y z = span_nil p
span_front p (b ∷ x) y z = span_no p b x (head_fails p b (x ++ y) z)

pub span_other : (p : ℕ → Bool) (x : Bytes) (b : ℕ) (r t : Bytes) → span p (x ++ (b ∷ t)) ≡ zero → span p (x ++ (b ∷ r)) ≡ zero
span_other p [] b r t z = span_no p b r (head_fails p b t z)
span_other p (c ∷ x) b r t z = span_no p c (x ++ (b ∷ r)) (head_fails p c (x ++ (b ∷ t)) z)

-- the first byte is the same before another rest
pub starts_other : (x : ℕ) (p : Bytes) (b : ℕ) (r t : Bytes) → starts x (p ++ (b ∷ r)) ≡ starts x (p ++ (b ∷ t))
unfolding starts
starts_other x [] b r t = refl
starts_other x (c ∷ p) b r t = refl

-- One place and one number.
module _ (fold : ℕ → ℕ) where
  -- what is viable with more is viable
  first_viable : (p : Bytes) (b : ℕ) (x : Bytes) → Viable fold (p ++ (b ∷ x)) → Viable fold (p ++ (b ∷ []))
  first_viable p b x (more, l) =
      (x ++ more, subst (Listed fold) (append_assoc p (b ∷ x) more ∙ sym (append_assoc p (b ∷ []) (x ++ more))) l)

  -- so the first byte that ends viability is one
  pub one_place : (s p q : Bytes) (b c : ℕ) → FaultAt fold s p b → FaultAt fold s q c → (p ≡ q) × (b ≡ c)
  one_place s p q b c x y = at (cut p q b c x.rest y.rest (sym x.shape ∙ y.shape))
    where
      at : ((p ≡ q) × (b ≡ c)) ⊎ (((z : Bytes) × (q ≡ p ++ (b ∷ z))) ⊎ ((z : Bytes) × (p ≡ q ++ (c ∷ z)))) → (p ≡ q) × (b ≡ c)
      at (inl e) = e
      at (inr (inl (z, e))) = absurd (x.ends (first_viable p b z (subst (Viable fold) e y.viable)))
      at (inr (inr (z, e))) = absurd (y.ends (first_viable q c z (subst (Viable fold) e x.viable)))

  one_number : (p : Bytes) (b j k : ℕ) → FaultNumber fold p b j → FaultNumber fold p b k → j ≡ k
  one_number p b j k (inl (e, x)) (inl (f, y)) = e ∙ sym f
  one_number p b j k (inl (e, x)) (inr (inl (f, y))) = clash y.more x.no_name
  one_number p b j k (inl (e, x)) (inr (inr (f, y, z))) = absurd (y x)
  one_number p b j k (inr (inl (e, x))) (inl (f, y)) = clash x.more y.no_name
  one_number p b j k (inr (inl (e, x))) (inr (inl (f, y))) = e ∙ sym f
  one_number p b j k (inr (inl (e, x))) (inr (inr (f, y, z))) = absurd (z x)
  one_number p b j k (inr (inr (e, x, z))) (inl (f, y)) = absurd (x y)
  one_number p b j k (inr (inr (e, x, z))) (inr (inl (f, y))) = absurd (z y)
  one_number p b j k (inr (inr (e, x, z))) (inr (inr (f, y, w))) = e ∙ sym f

  -- a line whose fault stands at a byte is not viable
  unviable : (s p : Bytes) (b : ℕ) → FaultAt fold s p b → Viable fold s → ⊥
  unviable s p b x v = x.ends (first_viable p b x.rest (subst (Viable fold) x.shape v))

  pub fault_one : (s : Bytes) (j k : ℕ) → Fault fold s j → Fault fold s k → j ≡ k
  fault_one s j k (inl (p, b, x, n)) (inl (q, c, y, m)) =
      let e : (p ≡ q) × (b ≡ c) = one_place s p q b c x y in
      one_number q c j k (subst (λ (d : ℕ). FaultNumber fold q d j) e.1 (subst (λ (u : Bytes). FaultNumber fold u b j) e.0 n)) m
  fault_one s j k (inl (p, b, x, n)) (inr (f, v, y)) = absurd (unviable s p b x v)
  fault_one s j k (inr (e, v, y)) (inl (q, c, x, m)) = absurd (unviable s q c x v)
  fault_one s j k (inr (e, v, x)) (inr (f, w, y)) = e ∙ sym f

  -- a line at fault is of no listed form
  pub fault_unlisted : (s : Bytes) (k : ℕ) → Fault fold s k → Listed fold s → ⊥
  fault_unlisted s k (inl (p, b, x, n)) l = unviable s p b x ([], subst (Listed fold) (sym (append-nil s)) l)
  fault_unlisted s k (inr (e, v, n)) l = n l

  -- The test for a barred byte.
  barred_byte : (b : ℕ) → barred fold b ≡ true → BarredByte fold b
  unfolding barred
  barred_byte b e =
      let n = or_none (name_byte fold b) (blank b || eqb b colon) (of_not (name_byte fold b || (blank b || eqb b colon)) e) in
      let m = or_none (blank b) (eqb b colon) n.1 in
      record { no_name = n.0; no_blank = m.0; no_colon = eqb-false b colon m.1 }

  byte_barred_test : (b : ℕ) → BarredByte fold b → barred fold b ≡ true
  unfolding barred
  byte_barred_test b x = rw (x.no_name, x.no_blank, ne_eqb b colon x.no_colon)

  -- the number of a fault at a byte that is not the 33rd of a run
  pub by_byte : (p : Bytes) (b : ℕ) (t : Bytes) → (LongName fold p b → ⊥) → FaultNumber fold p b (byte_fault fold (b ∷ t))
  by_byte p b t short =
      either (barred fold b) (λ e. inl (byte_barred fold b t e, barred_byte b e))
      (λ e. inr (inr (byte_free fold b t e, λ x. clash (byte_barred_test b x) e, short)))

  -- no name byte is no 33rd
  pub not_long : (p : Bytes) (b : ℕ) → name_byte fold b ≡ false → LongName fold p b → ⊥
  not_long p b z x = clash x.more z

  -- what stands before a 33rd byte ends in a name byte
  pub long_final : (p : Bytes) (b : ℕ) → LongName fold p b → name_byte fold (final p) ≡ true
  long_final p b x =
      split x.run (λ e. absurd (omega (arith, x.size, ap length e)))
      (λ c s e.
      ap (λ (u : Bytes). name_byte fold (final u)) (x.shape ∙ ap (λ (u : Bytes). x.before ++ u) e)
      ∙ ap (name_byte fold) (final_behind x.before c s) ∙ final_all (name_byte fold) c s (ap (all_of (name_byte fold)) (sym e) ∙ x.bytes))

  -- a run that stands behind more
  pub long_behind : (a p : Bytes) (b : ℕ) → span (name_byte fold) p ≡ zero → LongName fold p b → LongName fold (a ++ p) b
  long_behind a p b z x =
      record {
        before = a ++ x.before;
        run = x.run;
        shape = ap (λ (u : Bytes). a ++ u) x.shape ∙ sym (append_assoc a x.before x.run);
        begins = begins x.begins;
        size = x.size;
        bytes = x.bytes;
        more = x.more;
      }
    where
      begins : Unnamed fold x.before → Unnamed fold (a ++ x.before)
      begins (inl e) =
          let q : p ≡ x.run = x.shape ∙ ap (λ (u : Bytes). u ++ x.run) e in
          absurd (omega (arith, z, ap (span (name_byte fold)) q, span_all (name_byte fold) x.run x.bytes, x.size))
      begins (inr (t, c, e, q)) = inr (a ++ t, c, ap (λ (u : Bytes). a ++ u) e ∙ sym (append_assoc a t (c ∷ [])), q)

  -- a byte that is no name byte, put in front
  pub long_cons : (c : ℕ) (p : Bytes) (b : ℕ) → name_byte fold c ≡ false → LongName fold p b → LongName fold (c ∷ p) b
  long_cons c p b z x =
      record {
        before = c ∷ x.before;
        run = x.run;
        shape = ap (λ (u : Bytes). c ∷ u) x.shape;
        begins = begins x.begins;
        size = x.size;
        bytes = x.bytes;
        more = x.more;
      }
    where
      begins : Unnamed fold x.before → Unnamed fold (c ∷ x.before)
      begins (inl e) = inr ([], c, ap (λ (u : Bytes). c ∷ u) e, z)
      begins (inr (t, d, e, q)) = inr (c ∷ t, d, ap (λ (u : Bytes). c ∷ u) e, q)
