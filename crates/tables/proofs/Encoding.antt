-- Names and rules in the lent areas: written as rows they are read back, and rows that are read are written back.
-- Assumes nothing.
use mathlib.Core.Path.{◌≡◌, refl, sym, ap, ap₂, ◌∙◌, fun_ext}
use mathlib.Core.Bool.{Bool, true, false, ◌||◌}
use mathlib.Core.List.{List, [], ◌∷◌, ◌++◌, append_assoc}
use Prim.Native.Nat.{ℕ, zero, suc, ◌+◌, ◌-◌, ◌*◌, ◌≤◌, ◌<◌}
use native.Mathlib.Omega.{arith}
use lib.Dec.{eqb, ltb}
use borrow.Author.Tests.{eqb-true, ltb-true, ltb-false, le-ltb}
use lib.ListN.{length, get_or, take, drop, replicate, length-append, length-take, length-drop, length-replicate, take-append-drop}
use lib.Seq.{take_at, take-append_seam, drop-append_seam, drop-append-add, drop-drop, drop-cons, take-add}
use Rattle.limits.specs.Book.{names, name_bytes, rules, body_words, name_area, body_area}
use Rattle.sets.specs.Set.{Set, pick}
use Rattle.sets.proofs.Logic.{either, and_left, and_right, or_none, pick_true}
use Rattle.areas.specs.Area.{part, filled}
use Rattle.words.specs.Row.{row, Words, pack}
use Rattle.words.proofs.Rows.{length_pack, row_pack, row_past, pack_row}
use Rattle.areas.proofs.Parts.{length_part}
use Rattle.areas.proofs.Filled.{filled_is}
use Rattle.words.proofs.Areas.{words_part}
use Rattle.program.specs.Program.{Rule, no_rule}
use Rattle.grammar.specs.Bytes.{Bytes, all_of}
use Rattle.grammar.specs.Lines.{span, run}
use Rattle.tables.specs.Areas.{Areas, RuleTables, rules_of, short, filled_with, padded, name_rows, head_rows, body_rows, nonzero}
use Rattle.tables.specs.Areas.{name_at, names_from, names_in, rule_at, rules_from, rules_in}
use Rattle.tables.specs.Writing.{zero_from}

-- Rows of w words, one after another.

-- the first of them
part_first : (w : ℕ) (xs ys : List ℕ) → length xs ≡ w → part (zero * w) w (xs ++ ys) ≡ xs
part_first w xs ys e =
    let z : zero * w ≡ 0 = omega arith in
    ap (λ (k : ℕ). part k w (xs ++ ys)) z ∙ take_at xs ys w e

-- and a later one
part_later : (w a : ℕ) (xs ys : List ℕ) → length xs ≡ w → part (suc a * w) w (xs ++ ys) ≡ part (a * w) w ys
part_later w a xs ys e =
    let q : suc a * w ≡ length xs + a * w = omega arith in
    ap (λ (k : ℕ). part k w (xs ++ ys)) q ∙ ap (take w) (drop-append-add xs ys (a * w))

-- one row and those after it
part_more : (w m j : ℕ) (l : List ℕ) → part (j * w) w l ++ part (suc j * w) (m * w) l ≡ part (j * w) (suc m * w) l
part_more w m j l =
    let p : suc j * w ≡ j * w + w = omega arith in
    let q : suc m * w ≡ w + m * w = omega arith in
    ap (λ (k : ℕ). part (j * w) w l ++ part k (m * w) l) p
    ∙ ap (λ (k : List ℕ). part (j * w) w l ++ take (m * w) k) (sym (drop-drop w (j * w) l))
    ∙ sym (take-add w (m * w) (drop (j * w) l)) ∙ ap (λ (k : ℕ). take k (drop (j * w) l)) (sym q)

-- none are left of none
part_none : (w j : ℕ) (l : List ℕ) → [] ≡ part j (zero * w) l
part_none w j l = let z : zero * w ≡ 0 = omega arith in ap (λ (k : ℕ). part j k l) (sym z)

-- Names.

-- a name of at most 32 bytes, none of them zero
abbrev pub Fine : Bytes → Type 0
Fine n = (length n ≤ name_bytes) × (all_of nonzero n ≡ true)

abbrev pub AllFine : List Bytes → Type 0
AllFine ns = (a : ℕ) → a < length ns → Fine (get_or ns a [])

-- names of at most 32 bytes
abbrev pub AllFit : List Bytes → Type 0
AllFit ns = (a : ℕ) → a < length ns → length (get_or ns a []) ≤ name_bytes

-- a name's row has 32 bytes
pub length_padded : (n : Bytes) → length n ≤ name_bytes → length (padded n) ≡ name_bytes
unfolding padded
length_padded n h =
    length-append n (replicate (name_bytes - length n) 0) ∙ ap (λ (k : ℕ). length n + k) (length-replicate (name_bytes - length n) 0)
    ∙ sums (length n) h
  where
    sums : (k : ℕ) → k ≤ name_bytes → k + (name_bytes - k) ≡ name_bytes
    sums k h = omega arith

-- names that fit have 32 bytes each
pub length_name_rows : (ns : List Bytes) → AllFit ns → length (name_rows ns) ≡ length ns * name_bytes
unfolding name_rows
length_name_rows [] h = refl
length_name_rows (n ∷ ns) h =
    let rest : length (name_rows ns) ≡ length ns * name_bytes = length_name_rows ns (λ a l. h (suc a) (omega arith)) in
    omega (arith, length-append (padded n) (name_rows ns), length_padded n (h zero (omega arith)))

-- the rows of names after other names
pub name_rows_append : (ns ms : List Bytes) → name_rows (ns ++ ms) ≡ name_rows ns ++ name_rows ms
unfolding name_rows
name_rows_append [] ms = refl
name_rows_append (n ∷ ns) ms = ap (λ (k : List ℕ). padded n ++ k) (name_rows_append ns ms) ∙ sym (append_assoc (padded n) (name_rows ns) (name_rows ms))

-- row a holds name a
pub part_name_rows : (ns : List Bytes) (rest : List ℕ) → AllFit ns → (a : ℕ) → a < length ns
    → part (a * name_bytes) name_bytes (name_rows ns ++ rest) ≡ padded (get_or ns a [])
unfolding name_rows
part_name_rows [] rest h a l = absurd (omega arith)
part_name_rows (n ∷ ns) rest h zero l =
    ap (part (zero * name_bytes) name_bytes) (append_assoc (padded n) (name_rows ns) rest)
    ∙ part_first name_bytes (padded n) (name_rows ns ++ rest) (length_padded n (h zero l))
part_name_rows (n ∷ ns) rest h (suc a) l =
    ap (part (suc a * name_bytes) name_bytes) (append_assoc (padded n) (name_rows ns) rest)
    ∙ part_later name_bytes a (padded n) (name_rows ns ++ rest) (length_padded n (h zero (omega arith)))
    ∙ part_name_rows ns rest (λ a l. h (suc a) (omega arith)) a (omega arith)

-- the run of non-zero bytes before zeros
pub span_zeros : (n : Bytes) (k : ℕ) → all_of nonzero n ≡ true → span nonzero (n ++ replicate k 0) ≡ length n
unfolding span all_of nonzero pick
span_zeros [] zero h = refl
span_zeros [] (suc k) h = refl
span_zeros (b ∷ n) k h =
    pick_true (suc (span nonzero (n ++ replicate k 0))) zero (and_left (nonzero b) (all_of nonzero n) h)
    ∙ ap suc (span_zeros n k (and_right (nonzero b) (all_of nonzero n) h))

-- a padded name without its padding
pub run_padded : (n : Bytes) → all_of nonzero n ≡ true → run nonzero (padded n) ≡ n
unfolding padded
run_padded n h =
    ap (λ (k : ℕ). take k (n ++ replicate (name_bytes - length n) 0)) (span_zeros n (name_bytes - length n) h)
    ∙ take-append_seam n (replicate (name_bytes - length n) 0)

-- name a of the rows of names is name a of them
pub name_at_lem : (ns : List Bytes) (rest : List ℕ) → AllFine ns → (a : ℕ) → a < length ns → name_at (name_rows ns ++ rest) a ≡ get_or ns a []
unfolding name_at
name_at_lem ns rest h a l =
    ap (run nonzero) (part_name_rows ns rest (λ a l. (h a l).0) a l) ∙ run_padded (get_or ns a []) (h a l).1

-- a name is no longer than its row
pub name_fits : (area : Bytes) (a : ℕ) → length (name_at area a) ≤ name_bytes
unfolding name_at
name_fits area a =
    let r : List ℕ = part (a * name_bytes) name_bytes area in
    omega (arith, length-take (span nonzero r) r, length-take name_bytes (drop (a * name_bytes) area))

-- names read one by one
names_from_lem : (area : Bytes) (ns : List Bytes) (a : ℕ)
    → ((i : ℕ) → i < length ns → name_at area (a + i) ≡ get_or ns i []) → names_from area (length ns) a ≡ ns
unfolding names_from
names_from_lem area [] a h = refl
names_from_lem area (n ∷ ns) a h =
    let z : a ≡ a + 0 = omega arith in
    ap₂ ◌∷◌ (ap (name_at area) z ∙ h zero (omega arith))
    (names_from_lem area ns (suc a)
    (λ i l. let q : suc a + i ≡ a + suc i = omega arith in ap (name_at area) q ∙ h (suc i) (omega arith)))

-- the names read from the rows of names are these
pub names_in_lem : (ns : List Bytes) (rest : List ℕ) → AllFine ns → names_in (name_rows ns ++ rest) (length ns) ≡ ns
names_in_lem ns rest h =
    names_from_lem (name_rows ns ++ rest) ns 0
    (λ i l. let q : 0 + i ≡ i = omega arith in ap (name_at (name_rows ns ++ rest)) q ∙ name_at_lem ns rest h i l)

-- as many names are read as are asked for
pub length_names_from : (area : Bytes) (k a : ℕ) → length (names_from area k a) ≡ k
unfolding names_from
length_names_from area zero a = refl
length_names_from area (suc k) a = ap suc (length_names_from area k (suc a))

-- each as it stands in its row
pub get_or_names_from : (area : Bytes) (k a i : ℕ) → i < k → get_or (names_from area k a) i [] ≡ name_at area (a + i)
unfolding names_from
get_or_names_from area zero a i l = absurd (omega arith)
get_or_names_from area (suc k) a zero l = let z : a ≡ a + 0 = omega arith in ap (name_at area) z
get_or_names_from area (suc k) a (suc i) l =
    let q : suc a + i ≡ a + suc i = omega arith in
    get_or_names_from area k (suc a) i (omega arith) ∙ ap (name_at area) q

-- zeros alone
all_zero : (s : List ℕ) → all_of (λ (b : ℕ). eqb b 0) s ≡ true → s ≡ replicate (length s) 0
unfolding all_of
all_zero [] h = refl
all_zero (b ∷ s) h =
    ap₂ ◌∷◌ (eqb-true b 0 (and_left (eqb b 0) (all_of (λ (b : ℕ). eqb b 0) s) h))
    (all_zero s (and_right (eqb b 0) (all_of (λ (b : ℕ). eqb b 0) s) h))

pub zero_all : (k : ℕ) → all_of (λ (b : ℕ). eqb b 0) (replicate k 0) ≡ true
unfolding all_of
zero_all zero = refl
zero_all (suc k) = zero_all k

-- row a has zeros alone after its name
abbrev pub Tidy : Bytes → ℕ → Type 0
Tidy area a = all_of (λ (b : ℕ). eqb b 0) (drop (length (name_at area a)) (part (a * name_bytes) name_bytes area)) ≡ true

-- what is taken is a front of its own length
take_length_take : (k : ℕ) (s : List ℕ) → take (length (take k s)) s ≡ take k s
take_length_take zero s = refl
take_length_take (suc k) [] = refl
take_length_take (suc k) (b ∷ s) = ap (λ (t : List ℕ). b ∷ t) (take_length_take k s)

-- the name of a tidy row, padded, is the row
padded_name : (area : Bytes) (a : ℕ) → a * name_bytes + name_bytes ≤ length area → Tidy area a
    → padded (name_at area a) ≡ part (a * name_bytes) name_bytes area
unfolding padded name_at
padded_name area a h t =
    let r : List ℕ = part (a * name_bytes) name_bytes area in
    let n : Bytes = run nonzero r in
    let k : length r ≡ name_bytes = length_part (a * name_bytes) name_bytes area h in
    let z : drop (length n) r ≡ replicate (name_bytes - length n) 0 =
    all_zero (drop (length n) r) t ∙ ap (λ (i : ℕ). replicate i 0) (length-drop (length n) r ∙ ap (λ (i : ℕ). i - length n) k)
    in
    ap₂ ◌++◌ (sym (take_length_take (span nonzero r) r)) (sym z) ∙ take-append-drop (length n) r

-- the names of tidy rows, written again
rows_from : (area : Bytes) (k a : ℕ) → (a + k) * name_bytes ≤ length area → ((i : ℕ) → i < a + k → Tidy area i)
    → name_rows (names_from area k a) ≡ part (a * name_bytes) (k * name_bytes) area
unfolding name_rows names_from
rows_from area zero a h t = part_none name_bytes (a * name_bytes) area
rows_from area (suc k) a h t =
    ap₂ ◌++◌ (padded_name area a (omega arith) (t a (omega arith)))
    (rows_from area k (suc a) (omega arith) (λ i l. t i (omega arith)))
    ∙ part_more name_bytes k a area

pub rows_names : (area : Bytes) (n : ℕ) → n * name_bytes ≤ length area → ((a : ℕ) → a < n → Tidy area a)
    → name_rows (names_in area n) ≡ take (n * name_bytes) area
rows_names area n h t = rows_from area n 0 (omega arith) (λ i l. t i (omega arith))

-- Rules.

-- no body has a member at or past 128
abbrev pub Low : List (Rule ℕ) → Type 0
Low rs = (j a : ℕ) → j < length rs → names ≤ a → (get_or rs j no_rule).body a ≡ false

-- head j
get_or_head_rows : (rs : List (Rule ℕ)) (x : List ℕ) (j : ℕ) → j < length rs → get_or (head_rows rs ++ x) j 0 ≡ (get_or rs j no_rule).head
unfolding head_rows
get_or_head_rows [] x j l = absurd (omega arith)
get_or_head_rows (r ∷ rs) x zero l = refl
get_or_head_rows (r ∷ rs) x (suc j) l = get_or_head_rows rs x j (omega arith)

-- body j
part_body_rows : (rs : List (Rule ℕ)) (y : List ℕ) (j : ℕ) → j < length rs
    → part (j * body_words) body_words (body_rows rs ++ y) ≡ pack body_words (get_or rs j no_rule).body
unfolding body_rows
part_body_rows [] y j l = absurd (omega arith)
part_body_rows (r ∷ rs) y zero l =
    ap (part (zero * body_words) body_words) (append_assoc (pack body_words r.body) (body_rows rs) y)
    ∙ part_first body_words (pack body_words r.body) (body_rows rs ++ y) (length_pack body_words r.body)
part_body_rows (r ∷ rs) y (suc j) l =
    ap (part (suc j * body_words) body_words) (append_assoc (pack body_words r.body) (body_rows rs) y)
    ∙ part_later body_words j (pack body_words r.body) (body_rows rs ++ y) (length_pack body_words r.body)
    ∙ part_body_rows rs y j (omega arith)

-- a set with no member at or past 128 is that of its two words
row_pack_low : (f : Set) → ((a : ℕ) → names ≤ a → f a ≡ false) → row (pack body_words f) ≡ f
row_pack_low f h =
    fun_ext
    (λ a.
    either (ltb a names) (λ e. let l : a < names = ltb-true a names e in row_pack body_words f a l)
    (λ e.
    let l : names ≤ a = ltb-false a names e in
    row_past (pack body_words f) a (omega (arith, length_pack body_words f)) ∙ sym (h a l)))

-- rule j of the rows of rules is rule j of them
pub rule_at_lem : (rs : List (Rule ℕ)) (x y : List ℕ) (tables : RuleTables)
    → tables.heads ≡ head_rows rs ++ x → tables.bodies ≡ body_rows rs ++ y → Low rs → (j : ℕ) → j < length rs → rule_at tables j ≡ get_or rs j no_rule
unfolding rule_at
rule_at_lem rs x y tables p q h j l =
    ap₂ (λ (k : ℕ) (f : Set). record { head = k; body = f })
    (ap (λ (k : List ℕ). get_or k j 0) p ∙ get_or_head_rows rs x j l)
    (ap (λ (k : List ℕ). row (part (j * body_words) body_words k)) q ∙ ap row (part_body_rows rs y j l)
    ∙ row_pack_low (get_or rs j no_rule).body (λ a m. h j a l m))

-- rules read one by one
rules_from_lem : (tables : RuleTables) (rs : List (Rule ℕ)) (j : ℕ)
    → ((i : ℕ) → i < length rs → rule_at tables (j + i) ≡ get_or rs i no_rule) → rules_from tables (length rs) j ≡ rs
unfolding rules_from
rules_from_lem tables [] j h = refl
rules_from_lem tables (r ∷ rs) j h =
    let z : j ≡ j + 0 = omega arith in
    ap₂ ◌∷◌ (ap (rule_at tables) z ∙ h zero (omega arith))
    (rules_from_lem tables rs (suc j)
    (λ i l. let q : suc j + i ≡ j + suc i = omega arith in ap (rule_at tables) q ∙ h (suc i) (omega arith)))

-- the rules read from the rows of rules are these
pub rules_in_lem : (rs : List (Rule ℕ)) (x y : List ℕ) (tables : RuleTables)
    → tables.heads ≡ head_rows rs ++ x → tables.bodies ≡ body_rows rs ++ y → Low rs → rules_in tables (length rs) ≡ rs
rules_in_lem rs x y tables p q h =
    rules_from_lem tables rs 0 (λ i l. let e : 0 + i ≡ i = omega arith in ap (rule_at tables) e ∙ rule_at_lem rs x y tables p q h i l)

-- as many rules are read as are asked for
pub length_rules_from : (tables : RuleTables) (k j : ℕ) → length (rules_from tables k j) ≡ k
unfolding rules_from
length_rules_from tables zero j = refl
length_rules_from tables (suc k) j = ap suc (length_rules_from tables k (suc j))

-- each as it stands in its row
pub get_or_rules_from : (tables : RuleTables) (k j i : ℕ) → i < k → get_or (rules_from tables k j) i no_rule ≡ rule_at tables (j + i)
unfolding rules_from
get_or_rules_from tables zero j i l = absurd (omega arith)
get_or_rules_from tables (suc k) j zero l = let z : j ≡ j + 0 = omega arith in ap (rule_at tables) z
get_or_rules_from tables (suc k) j (suc i) l =
    let q : suc j + i ≡ j + suc i = omega arith in
    get_or_rules_from tables k (suc j) i (omega arith) ∙ ap (rule_at tables) q

-- the heads of rules that are read, written again
heads_from_lem : (tables : RuleTables) (k j : ℕ) → j + k ≤ length tables.heads → head_rows (rules_from tables k j) ≡ part j k tables.heads
unfolding head_rows rules_from rule_at
heads_from_lem tables zero j h = refl
heads_from_lem tables (suc k) j h =
    ap (λ (t : List ℕ). get_or tables.heads j 0 ∷ t) (heads_from_lem tables k (suc j) (omega arith))
    ∙ ap (take (suc k)) (sym (drop-cons tables.heads j 0 (omega arith)))

pub heads_rules : (tables : RuleTables) (m : ℕ) → m ≤ length tables.heads → head_rows (rules_in tables m) ≡ take m tables.heads
heads_rules tables m h = heads_from_lem tables m 0 (omega arith)

-- their bodies, written again
bodies_from : (tables : RuleTables) (k j : ℕ) → Words tables.bodies → (j + k) * body_words ≤ length tables.bodies
    → body_rows (rules_from tables k j) ≡ part (j * body_words) (k * body_words) tables.bodies
unfolding body_rows rules_from rule_at
bodies_from tables zero j w h = part_none body_words (j * body_words) tables.bodies
bodies_from tables (suc k) j w h =
    let r : List ℕ = part (j * body_words) body_words tables.bodies in
    let e : length r ≡ body_words = length_part (j * body_words) body_words tables.bodies (omega arith) in
    ap₂ ◌++◌
    (ap (λ (i : ℕ). pack i (row r)) (sym e) ∙ pack_row r (words_part (j * body_words) body_words tables.bodies w))
    (bodies_from tables k (suc j) w (omega arith))
    ∙ part_more body_words k j tables.bodies

pub bodies_rules : (tables : RuleTables) (m : ℕ) → Words tables.bodies → m * body_words ≤ length tables.bodies
    → body_rows (rules_in tables m) ≡ take (m * body_words) tables.bodies
bodies_rules tables m w h = bodies_from tables m 0 w (omega arith)

-- A body that is read has no member at or past 128.
pub rules_low : (tables : RuleTables) (m : ℕ) → Low (rules_in tables m)
unfolding rule_at
rules_low tables m j a l h =
    let j' : j < m = omega (arith, length_rules_from tables m 0) in
    let r : List ℕ = part ((0 + j) * body_words) body_words tables.bodies in
    let k : length r ≤ body_words = omega (arith, length-take body_words (drop ((0 + j) * body_words) tables.bodies)) in
    ap (λ (x : Rule ℕ). x.body a) (get_or_rules_from tables m 0 j j') ∙ row_past r a (omega arith)

-- Areas of their stated sizes.

-- areas that are not short are long enough
pub long_enough : (o : Areas) → short o ≡ false → (name_area ≤ length o.spellings) × (rules ≤ length o.heads) × (body_area ≤ length o.bodies)
unfolding short
long_enough o e =
    let heads : Bool = ltb (length o.heads) rules in
    let bodies : Bool = ltb (length o.bodies) body_area in
    let a = or_none (ltb (length o.spellings) name_area) (heads || bodies) e in
    let b = or_none heads bodies a.1 in (
      ltb-false (length o.spellings) name_area a.0,
      ltb-false (length o.heads) rules b.0,
      ltb-false (length o.bodies) body_area b.1,
    )

-- and the other way
pub not_short : (o : Areas) → name_area ≤ length o.spellings → rules ≤ length o.heads → body_area ≤ length o.bodies → short o ≡ false
unfolding short
not_short o a b c =
    rw (le-ltb (length o.spellings) name_area a, le-ltb (length o.heads) rules b, le-ltb (length o.bodies) body_area c)

-- Areas filled.

-- an area that holds xs and then zeros is filled with xs already
pub filled_same : (size : ℕ) (xs old : List ℕ) → length xs ≤ size → size ≤ length old
    → xs ≡ take (length xs) old → zero_from (length xs) size old ≡ true → filled size xs old ≡ old
unfolding filled zero_from
filled_same size xs old h g e z =
    let m : List ℕ = part (length xs) (size - length xs) old in
    let k : length m ≡ size - length xs = length_part (length xs) (size - length xs) old (omega arith) in
    let q : length xs + (size - length xs) ≡ size = omega arith in
    ap₂ ◌++◌ e
    (ap₂ ◌++◌ (ap (λ (i : ℕ). replicate i 0) (sym k) ∙ sym (all_zero m z))
    (ap (λ (i : ℕ). drop i old) (sym q) ∙ sym (drop-drop (size - length xs) (length xs) old))
    ∙ take-append-drop (size - length xs) (drop (length xs) old))
    ∙ take-append-drop (length xs) old

-- past the used part there are zeros up to the stated size
pub zero_filled : (size : ℕ) (xs old : List ℕ) → zero_from (length xs) size (filled size xs old) ≡ true
unfolding filled zero_from
zero_filled size xs old =
    ap (λ (t : List ℕ). all_of (λ (b : ℕ). eqb b 0) (take (size - length xs) t))
    (drop-append_seam xs (replicate (size - length xs) 0 ++ drop size old))
    ∙ ap (all_of (λ (b : ℕ). eqb b 0))
    (take_at (replicate (size - length xs) 0) (drop size old) (size - length xs) (length-replicate (size - length xs) 0))
    ∙ zero_all (size - length xs)

-- the names and the rules read from areas filled with them
pub names_filled : (ns : List Bytes) (old : List ℕ) → AllFine ns → names_in (filled name_area (name_rows ns) old) (length ns) ≡ ns
names_filled ns old h =
    ap (λ (area : List ℕ). names_in area (length ns)) (filled_is name_area (name_rows ns) old)
    ∙ names_in_lem ns (replicate (name_area - length (name_rows ns)) 0 ++ drop name_area old) h

pub rules_filled : (ns : List Bytes) (rs : List (Rule ℕ)) (old : Areas) → Low rs → rules_in (rules_of (filled_with ns rs old)) (length rs) ≡ rs
unfolding filled_with
rules_filled ns rs old h =
    rules_in_lem rs (replicate (rules - length (head_rows rs)) 0 ++ drop rules old.heads)
    (replicate (body_area - length (body_rows rs)) 0 ++ drop body_area old.bodies) (rules_of (filled_with ns rs old))
    (filled_is rules (head_rows rs) old.heads) (filled_is body_area (body_rows rs) old.bodies) h
