-- Numbers in base ten: the figures are read back as the number, they are few, and so the listing has room for its text.
-- Assumes nothing.
use mathlib.Core.Path.{◌≡◌, refl, sym, ap, ◌∙◌, subst}
use mathlib.Core.List.{List, [], ◌∷◌, ◌++◌, map}
use Prim.Native.Nat.{ℕ, zero, suc, ◌+◌, ◌-◌, ◌*◌, ◌/◌, ◌%◌, ◌^◌, ◌≤◌, ◌<◌}
use native.Mathlib.Nat.{add-zero, pow-suc}
use native.Mathlib.Omega.{arith}
use lib.Dec.{ltb}
use lib.ListN.{length, get_or, length-append, get_or-append, get_or-eq_default}
use lib.Seq.{get_or-append-add}
use borrow.Author.Tests.{ltb-true, ltb-false, lt-ltb, le-ltb}
use Rattle.limits.specs.Book.{names, name_bytes, atoms, folds}
use Rattle.sets.specs.Set.{Set, count, members}
use Rattle.sets.proofs.Logic.{either, pick_true, pick_false}
use Rattle.sets.proofs.Counting.{count_le}
use Rattle.sets.proofs.Walk.{members_count}
use Rattle.grammar.specs.Bytes.{Bytes, line_end}
use Rattle.grammar.specs.Grammar.{joined}
use Rattle.solving.specs.Listing.{figure, figures, decimal, head_line, held_names, listing_lines}
use Rattle.solving.specs.ListingClaims.{value_from, Decimal, longest_listing}

-- a number below ten is one figure
pub figures_one : (places n : ℕ) → n < 10 → figures (suc places) n ≡ figure n ∷ []
unfolding figures
figures_one places n l = pick_true _ _ (lt-ltb n 10 l)

-- another is the figures of its tenth, and its last figure
pub figures_more : (places n : ℕ) → 10 ≤ n → figures (suc places) n ≡ figures places (n / 10) ++ (figure (n % 10) ∷ [])
unfolding figures
figures_more places n l = pick_false _ _ (le-ltb n 10 l)

-- a figure more at the end
value_more : (m : ℕ) (s : Bytes) (b : ℕ) → value_from m (s ++ (b ∷ [])) ≡ value_from m s * 10 + (b - 48)
unfolding value_from
value_more m [] b = refl
value_more m (a ∷ s) b = value_more (m * 10 + (a - 48)) s b

-- the last of some entries
get_or_last : (s : Bytes) (b i : ℕ) → i ≡ length s → get_or (s ++ (b ∷ [])) i 0 ≡ b
get_or_last s b i e =
    ap (λ (k : ℕ). get_or (s ++ (b ∷ [])) k 0) (e ∙ sym (add-zero (length s))) ∙ get_or-append-add s (b ∷ []) 0 0

-- the figure of a number below ten
one_figure : (n : ℕ) → n < 10 → Decimal n (figure n ∷ [])
one_figure n l =
    record {
      value = unfold value_from in omega arith;
      figures = λ i h. at i h;
      leading = λ h. omega arith;
      zero = λ h. refl;
      some = omega arith;
    }
  where
    at : (i : ℕ) → i < 1 → (48 ≤ get_or (figure n ∷ []) i 0) × (get_or (figure n ∷ []) i 0 ≤ 57)
    at zero h = (omega arith, omega arith)
    at (suc i) h = absurd (omega arith)

-- the figures of a number's tenth, and its last figure
more_figures : (n : ℕ) (s : Bytes) → 10 ≤ n → Decimal (n / 10) s → Decimal n (s ++ (figure (n % 10) ∷ []))
more_figures n s l d =
    record {
      value = value_more 0 s (figure (n % 10)) ∙ ends d.value;
      figures = λ i h.
          either (ltb i (length s))
          (λ t.
          let m : i < length s = ltb-true _ _ t in
          let e : get_or (s ++ (figure (n % 10) ∷ [])) i 0 ≡ get_or s i 0 = get_or-append s (figure (n % 10) ∷ []) 0 i m in
          (omega (arith, (d.figures i m).0), omega (arith, (d.figures i m).1)))
          (λ t.
          let e : get_or (s ++ (figure (n % 10) ∷ [])) i 0 ≡ figure (n % 10) =
          get_or_last s (figure (n % 10)) i (omega (arith, ltb-false i (length s) t, length-append s (figure (n % 10) ∷ []))) in
          (omega arith, omega arith));
      leading = λ h.
          omega (arith, get_or-append s (figure (n % 10) ∷ []) 0 0 d.some, d.leading (omega arith));
      zero = λ h. absurd (omega arith);
      some = omega (arith, length-append s (figure (n % 10) ∷ []));
    }
  where
    ends : {v : ℕ} → v ≡ n / 10 → v * 10 + (figure (n % 10) - 48) ≡ n
    ends e = omega arith

-- with places enough the figures are those of the number
figures_decimal : (places n : ℕ) → n < places → Decimal n (figures places n)
figures_decimal zero n l = absurd (omega arith)
figures_decimal (suc places) n l =
    either (ltb n 10)
    (λ t.
    let m : n < 10 = ltb-true n 10 t in
    subst (Decimal n) (sym (figures_one places n m)) (one_figure n m))
    (λ t.
    let m : 10 ≤ n = ltb-false n 10 t in
    subst (Decimal n) (sym (figures_more places n m)) (more_figures n _ m (figures_decimal places (n / 10) (omega arith))))

-- base ten is read back
pub decimals : (n : ℕ) → Decimal n (decimal n)
unfolding decimal
decimals n = figures_decimal (suc n) n (omega arith)

-- places past those that the number needs change nothing
figures_enough : (p q n : ℕ) → n < p → n < q → figures p n ≡ figures q n
figures_enough zero q n l m = absurd (omega arith)
figures_enough (suc p) zero n l m = absurd (omega arith)
figures_enough (suc p) (suc q) n l m =
    either (ltb n 10)
    (λ t.
    let h : n < 10 = ltb-true n 10 t in
    figures_one p n h ∙ sym (figures_one q n h))
    (λ t.
    let h : 10 ≤ n = ltb-false n 10 t in
    figures_more p n h
    ∙ ap (λ (s : Bytes). s ++ (figure (n % 10) ∷ [])) (figures_enough p q (n / 10) (omega arith) (omega arith))
    ∙ sym (figures_more q n h))

-- base ten, the last figure apart
pub decimal_one : (n : ℕ) → n < 10 → decimal n ≡ figure n ∷ []
unfolding decimal
decimal_one n l = figures_one n n l

pub decimal_more : (n : ℕ) → 10 ≤ n → decimal n ≡ decimal (n / 10) ++ (figure (n % 10) ∷ [])
unfolding decimal
decimal_more n l =
    figures_more n n l
    ∙ ap (λ (s : Bytes). s ++ (figure (n % 10) ∷ [])) (figures_enough n (suc (n / 10)) (n / 10) (omega arith) (omega arith))

-- a number below ten, a hundred, .. has no more than one, two, .. figures
pub figures_short : (places n k : ℕ) → n < 10 ^ suc k → length (figures places n) ≤ suc k
figures_short zero n k l = unfold figures in omega arith
figures_short (suc places) n zero l = omega (arith, ap length (figures_one places n (omega arith)))
figures_short (suc places) n (suc k) l =
    either (ltb n 10) (λ t. omega (arith, ap length (figures_one places n (ltb-true n 10 t))))
    (λ t.
    omega (
      arith,
      ap length (figures_more places n (ltb-false n 10 t)),
      length-append (figures places (n / 10)) (figure (n % 10) ∷ []),
      figures_short places (n / 10) k (omega (arith, pow-suc 10 (suc k))),
    ))

-- a number below a thousand has at most three
pub decimal_short : (n : ℕ) → n < 1000 → length (decimal n) ≤ 3
unfolding decimal
decimal_short n l = figures_short (suc n) n 2 l

-- no line of names is longer than the longest name with its end
joined_short : (g : ℕ → Bytes) → ((a : ℕ) → length (g a) ≤ name_bytes) → (l : List ℕ) → length (joined (map g l)) ≤ length l * (name_bytes + 1)
unfolding joined
joined_short g h [] = omega arith
joined_short g h (a ∷ l) = omega (arith, length-append (g a) (line_end ∷ joined (map g l)), h a, joined_short g h l)

-- the held names with their ends
names_fit : (ns : List Bytes) (f : Set) → length ns ≤ names → ((a : ℕ) → a < length ns → length (get_or ns a []) ≤ name_bytes)
    → length (joined (held_names ns f)) ≤ names * (name_bytes + 1)
unfolding held_names
names_fit ns f l h =
    omega (
      arith,
      joined_short (λ a. get_or ns a []) each (members (length ns) f 0),
      members_count (length ns) f 0,
      count_le (length ns) (λ j. f (0 + j)),
    )
  where
    each : (a : ℕ) → length (get_or ns a []) ≤ name_bytes
    each a =
        either (ltb a (length ns)) (λ t. h a (ltb-true _ _ t))
        (λ t. omega (arith, ap length (get_or-eq_default ns [] {n = a} (ltb-false _ _ t))))

-- the head line
pub head_short : (n held k rounds : ℕ) → n ≤ names → held ≤ names → k ≤ folds → rounds ≤ atoms + 1 → length (head_line n held k rounds) ≤ 46
unfolding head_line decimal
head_short n held k rounds a b c d =
    simp length-append
    (omega (
      arith,
      decimal_short n (omega arith),
      decimal_short held (omega arith),
      figures_short (suc k) k 0 (omega arith),
      decimal_short rounds (omega arith),
    ))

-- the listing's text is no longer than the longest, so it has room in its area
pub listing_fits : (ns : List Bytes) (f : Set) (k rounds : ℕ) → length ns ≤ names → k ≤ folds → rounds ≤ atoms + 1
    → ((a : ℕ) → a < length ns → length (get_or ns a []) ≤ name_bytes) → length (joined (listing_lines ns f k rounds)) ≤ longest_listing
unfolding listing_lines joined
listing_fits ns f k rounds l c d h =
    let held : ℕ = count (length ns) f in
    omega (
      arith,
      length-append (head_line (length ns) held k rounds) (line_end ∷ joined (held_names ns f)),
      head_short (length ns) held k rounds l (omega (arith, count_le (length ns) f)) c d,
      names_fit ns f l h,
    )
