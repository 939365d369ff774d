-- A word entered among the names: the index of the names with it, and the name area then.
-- Assumes nothing.
use mathlib.Core.Path.{◌≡◌, refl, sym, ap, ap₂, subst, ◌∙◌}
use mathlib.Core.Logic.{◌⊎◌, ⊎_elim}
use mathlib.Core.List.{List, [], ◌∷◌, ◌++◌, append-nil}
use mathlib.Core.Bool.{true, false}
use Prim.Native.Nat.{ℕ, zero, suc, ◌+◌, ◌*◌, ◌≤◌, ◌<◌}
use native.Mathlib.Omega.{arith}
use lib.Dec.{eqb, leb, ltb}
use lib.ListN.{length, get_or, drop, set, replicate, length-append, length-set, length-replicate, get_or-replicate, get_or-append}
use lib.Seq.{get_or_at, get_or-set_same, get_or-set_other, ext_get_or}
use borrow.Author.Tests.{eqb-true, eqb-false, le-leb, lt-leb, leb-true, leb-false, lt-ltb, le-ltb}
use Rattle.limits.specs.Book.{names, name_bytes, name_area}
use Rattle.sets.specs.Set.{pick}
use Rattle.sets.proofs.Logic.{either, clash, or_left, or_right, pick_true, pick_false}
use Rattle.areas.specs.Area.{part, put, begun}
use Rattle.areas.proofs.Parts.{length_put, part_put, part_put_before, put_past}
use Rattle.areas.proofs.Begun.{put_begun}
use Rattle.grammar.specs.Bytes.{Bytes}
use Rattle.grammar.specs.Lines.{run}
use Rattle.tables.specs.Numbering.{same_bytes, place, meet}
use Rattle.tables.specs.Areas.{padded, name_rows, nonzero, name_at, names_in}
use Rattle.tables.proofs.Numbering.{meet_known, meet_new, by_place}
use Rattle.tables.proofs.Encoding.{Fine, AllFine, AllFit, length_padded, length_name_rows, name_rows_append, run_padded}
use Rattle.scan.specs.Hash.{buckets, hash_of}
use Rattle.lexicon.specs.Index.{Indexed, latest, none_added, entered, entered_area}
use Rattle.lexicon.proofs.Chains.{names_length, names_at, hash_lt, place_none}

-- a word that is a name, or for which there is no room, changes nothing
entered_kept : (ns : List Bytes) (w : Bytes) → none_added ns w ≡ true → entered ns w ≡ ns
unfolding entered
entered_kept ns w e = pick_true ns (ns ++ (w ∷ [])) e

-- a new one follows the others
entered_new : (ns : List Bytes) (w : Bytes) → none_added ns w ≡ false → entered ns w ≡ ns ++ (w ∷ [])
unfolding entered
entered_new ns w e = pick_false ns (ns ++ (w ∷ [])) e

-- then the area is as it was
area_kept : (ns : List Bytes) (w area : Bytes) → none_added ns w ≡ true → entered_area ns w area ≡ area
unfolding entered_area
area_kept ns w area e = pick_true area (put (length ns * name_bytes) (padded w) area) e

-- and its row follows the others
area_new : (ns : List Bytes) (w area : Bytes) → none_added ns w ≡ false → entered_area ns w area ≡ put (length ns * name_bytes) (padded w) area
unfolding entered_area
area_new ns w area e = pick_false area (put (length ns * name_bytes) (padded w) area) e

-- when nothing changes and when the word is new
module _ (ns : List Bytes) (w : Bytes) where
  -- w is a name
  pub settled_name : place ns w < length ns → none_added ns w ≡ true
  unfolding none_added
  settled_name l = or_left (leb names (length ns)) (lt-ltb (place ns w) (length ns) l)

  -- there is no room
  pub settled_full : names ≤ length ns → none_added ns w ≡ true
  unfolding none_added
  settled_full l = or_right (ltb (place ns w) (length ns)) (le-leb names (length ns) l)

  -- w is new and there is room
  pub settled_new : length ns ≤ place ns w → length ns < names → none_added ns w ≡ false
  unfolding none_added
  settled_new l m = rw (le-ltb (place ns w) (length ns) l, lt-leb names (length ns) m)

-- where the word is new there is room
unsettled_room : (ns : List Bytes) (w : Bytes) → none_added ns w ≡ false → length ns < names
unsettled_room ns w e =
    either (leb names (length ns)) (λ t. clash (settled_full ns w (leb-true names (length ns) t)) e) (λ f. leb-false names (length ns) f)

-- one name more
module _ (ns : List Bytes) (w : Bytes) where
  -- the names with w
  abbrev more : List Bytes
  more = ns ++ (w ∷ [])

  -- they are one more
  more_length : length more ≡ suc (length ns)
  more_length = length-append ns (w ∷ []) ∙ omega arith

  -- the first are as they were
  more_old : (a : ℕ) → a < length ns → get_or more a [] ≡ get_or ns a []
  more_old a l = get_or-append ns (w ∷ []) [] a l

  -- and w is the last
  more_last : get_or more (length ns) [] ≡ w
  more_last = get_or_at ns w [] [] (length ns) refl

  -- the first names are in the buckets as they were
  latest_old : (b k : ℕ) → k ≤ length ns → latest more b k ≡ latest ns b k
  unfolding latest
  latest_old b zero l = refl
  latest_old b (suc k) l =
      ap₂ (λ (s : Bytes) (x : ℕ). pick (eqb (hash_of s) b) (suc k) x) (more_old k l) (latest_old b k (omega arith))

  -- and the new one in its own
  latest_all : (b : ℕ) → latest more b (length more) ≡ pick (eqb (hash_of w) b) (suc (length ns)) (latest ns b (length ns))
  unfolding latest
  latest_all b =
      ap (latest more b) more_length
      ∙ ap₂ (λ (s : Bytes) (x : ℕ). pick (eqb (hash_of s) b) (suc (length ns)) x) more_last (latest_old b (length ns) (omega arith))

  -- a new word, with room for it
  module _ (first prior : List ℕ) (ix : Indexed ns first prior) (room : length ns < names) (new : length ns ≤ place ns w) where
    -- w leads its bucket, before the name that led it
    abbrev first' : List ℕ
    first' = set first (hash_of w) (suc (length ns))

    abbrev prior' : List ℕ
    prior' = set prior (length ns) (get_or first (hash_of w) 0)

    -- its bucket is one of the buckets
    low : hash_of w < buckets
    low = hash_lt (hash_of w) w refl

    -- each bucket's last name
    firsts_more : (b : ℕ) → b < buckets → get_or first' b 0 ≡ latest more b (length more)
    firsts_more b l =
        either (eqb (hash_of w) b)
        (λ t.
        let e : hash_of w ≡ b = eqb-true (hash_of w) b t in
        ap (λ (c : ℕ). get_or first' c 0) (sym e)
        ∙ get_or-set_same first (hash_of w) (suc (length ns)) 0 (rw ix.first_size low)
        ∙ sym (latest_all b ∙ pick_true (suc (length ns)) (latest ns b (length ns)) t))
        (λ f.
        get_or-set_other first (hash_of w) b (suc (length ns)) 0 (λ e. eqb-false (hash_of w) b f (sym e))
        ∙ ix.firsts b l
        ∙ sym (latest_all b ∙ pick_false (suc (length ns)) (latest ns b (length ns)) f))

    -- the name before each
    priors_more : (a : ℕ) → a < length more → get_or prior' a 0 ≡ latest more (hash_of (get_or more a [])) a
    priors_more a l =
        either (eqb a (length ns))
        (λ t.
        let e : a ≡ length ns = eqb-true a (length ns) t in
        ap (λ (c : ℕ). get_or prior' c 0) e
        ∙ get_or-set_same prior (length ns) (get_or first (hash_of w) 0) 0 (rw ix.prior_size room)
        ∙ ix.firsts (hash_of w) low
        ∙ sym (latest_old (hash_of w) (length ns) (omega arith))
        ∙ ap (λ (s : Bytes). latest more (hash_of s) (length ns)) (sym more_last)
        ∙ ap (λ (c : ℕ). latest more (hash_of (get_or more c [])) c) (sym e))
        (λ f.
        let ne : a ≡ length ns → ⊥ = eqb-false a (length ns) f in
        let m : a < length ns = omega (arith, more_length) in
        get_or-set_other prior (length ns) a (get_or first (hash_of w) 0) 0 ne
        ∙ ix.priors a m
        ∙ sym (latest_old (hash_of (get_or ns a [])) a (omega arith))
        ∙ ap (λ (s : Bytes). latest more (hash_of s) a) (sym (more_old a m)))

    -- no two names are the same
    distinct_more : (a b : ℕ) → a < b → b < length more → same_bytes (get_or more a []) (get_or more b []) ≡ false
    distinct_more a b l m =
        let k : length more ≡ suc (length ns) = more_length in
        let q : a < length ns = omega arith in
        either (eqb b (length ns))
        (λ t.
        let e : b ≡ length ns = eqb-true b (length ns) t in
        ap₂ same_bytes (more_old a q) (ap (λ (c : ℕ). get_or more c []) e ∙ more_last) ∙ place_none ns w new a q)
        (λ f.
        let ne : b ≡ length ns → ⊥ = eqb-false b (length ns) f in
        let r : b < length ns = omega arith in
        ap₂ same_bytes (more_old a q) (more_old b r) ∙ ix.distinct a b l r)

    -- the index of the names with the new one
    indexed_more : Indexed more first' prior'
    indexed_more =
        record {
          first_size = length-set first (hash_of w) (suc (length ns)) ∙ ix.first_size;
          prior_size = length-set prior (length ns) (get_or first (hash_of w) 0) ∙ ix.prior_size;
          firsts = firsts_more;
          priors = priors_more;
          distinct = distinct_more;
        }

-- what entering leaves of the first n names of an area
module _ (area w : Bytes) (n a : ℕ) (first prior : List ℕ) (ix : Indexed (names_in area n) first prior) (q : a ≡ place (names_in area n) w) where
  -- these names
  abbrev ns : List Bytes
  ns = names_in area n

  -- they are n
  size : length ns ≡ n
  size = names_length area n

  -- a name is found, or there is no room
  settled_there : (a < n) ⊎ (eqb n names ≡ true) → none_added ns w ≡ true
  settled_there =
      ⊎_elim (λ (l : a < n). settled_name ns w (omega (arith, size))) (λ e. settled_full ns w (omega (arith, size, eqb-true n names e)))

  -- the area stays as it was
  pub kept_area : (a < n) ⊎ (eqb n names ≡ true) → area ≡ entered_area ns w area
  kept_area h = sym (area_kept ns w area (settled_there h))

  -- and so does the index
  pub kept_index : (a < n) ⊎ (eqb n names ≡ true) → Indexed (entered ns w) first prior
  kept_index h = subst (λ (l : List Bytes). Indexed l first prior) (sym (entered_kept ns w (settled_there h))) ix

  -- the word is new
  module _ (l : n ≤ a) (m : n < names) where
    -- nothing holds it back
    fresh : none_added ns w ≡ false
    fresh = settled_new ns w (omega (arith, size)) (omega (arith, size))

    -- its row is in the area
    pub new_area : (last : Bytes) → last ≡ put (n * name_bytes) (padded w) area → last ≡ entered_area ns w area
    new_area last e = e ∙ ap (λ (k : ℕ). put (k * name_bytes) (padded w) area) (sym size) ∙ sym (area_new ns w area fresh)

    -- it leads its bucket in the index, before the name that led it
    pub new_index : (b : ℕ) → b ≡ hash_of w → Indexed (entered ns w) (set first b (n + 1)) (set prior n (get_or first b 0))
    new_index b e =
        let k : suc (length ns) ≡ n + 1 = omega (arith, size) in
        subst (λ (l : List Bytes). Indexed l (set first b (n + 1)) (set prior n (get_or first b 0))) (sym (entered_new ns w fresh))
        (subst (λ (c : ℕ). Indexed (ns ++ (w ∷ [])) (set first c (n + 1)) (set prior n (get_or first c 0))) (sym e)
        (subst (λ (c : ℕ). Indexed (ns ++ (w ∷ [])) (set first (hash_of w) c) (set prior n (get_or first (hash_of w) 0))) k
        (subst (λ (c : ℕ). Indexed (ns ++ (w ∷ [])) (set first (hash_of w) (suc (length ns))) (set prior c (get_or first (hash_of w) 0))) size
        (indexed_more ns w first prior ix (omega (arith, size)) (omega (arith, size))))))

-- Entering and meeting.

-- while there is room, entering a word is meeting it
pub entered_meet : (ns : List Bytes) (w : Bytes) → length (meet ns w) ≤ names → entered ns w ≡ meet ns w
entered_meet ns w h =
    by_place ns w (λ l. entered_kept ns w (settled_name ns w l) ∙ sym (meet_known ns w l))
    (λ q.
    let k : length (meet ns w) ≡ suc (length ns) = ap length (meet_new ns w q) ∙ more_length ns w in
    entered_new ns w (settled_new ns w (omega arith) (omega arith)) ∙ sym (meet_new ns w q))

-- a number below 128 says that there is room
pub meet_fits : (ns : List Bytes) (w : Bytes) → length ns ≤ names → place ns w < names → length (meet ns w) ≤ names
meet_fits ns w h m =
    by_place ns w (λ l. omega (arith, ap length (meet_known ns w l))) (λ q. omega (arith, ap length (meet_new ns w q), more_length ns w))

-- and 128 that there is none
pub meet_over : (ns : List Bytes) (w : Bytes) → length ns ≤ names → names ≤ place ns w → names < length (meet ns w)
meet_over ns w h m =
    by_place ns w (λ l. absurd (omega arith)) (λ q. omega (arith, ap length (meet_new ns w q), more_length ns w))

-- The area.

-- a fine word entered into an area
module _ (ns : List Bytes) (w area : Bytes) (f : Fine w) (long : name_area ≤ length area) where
  -- the row of a new name lies within the area
  row_fits : none_added ns w ≡ false → length ns * name_bytes + length (padded w) ≤ name_area
  row_fits e =
      let l : length ns < names = unsettled_room ns w e in
      omega (arith, length_padded w f.0)

  -- an area is as long after a word is entered
  pub entered_length : length (entered_area ns w area) ≡ length area
  entered_length =
      either (none_added ns w) (λ e. ap length (area_kept ns w area e))
      (λ e.
      let l : length ns * name_bytes + length (padded w) ≤ name_area = row_fits e in
      ap length (area_new ns w area e) ∙ length_put (length ns * name_bytes) (padded w) area (omega arith))

  -- and past the name area it is as it was
  pub entered_past : drop name_area (entered_area ns w area) ≡ drop name_area area
  entered_past =
      either (none_added ns w) (λ e. ap (drop name_area) (area_kept ns w area e))
      (λ e.
      let l : length ns * name_bytes + length (padded w) ≤ name_area = row_fits e in
      ap (drop name_area) (area_new ns w area e)
      ∙ put_past (length ns * name_bytes) (padded w) area (omega arith) name_area l)

-- the names of an area, where each stands in its row
names_are : (area : Bytes) (ms : List Bytes) → ((i : ℕ) → i < length ms → name_at area i ≡ get_or ms i []) → names_in area (length ms) ≡ ms
names_are area ms h =
    let e : length (names_in area (length ms)) ≡ length ms = names_length area (length ms) in
    ext_get_or [] (names_in area (length ms)) ms e
    (λ i l.
    let m : i < length ms = omega arith in
    names_at area (length ms) i m ∙ h i m)

-- the names of an area after a word is entered among its first n
module _ (area w : Bytes) (n : ℕ) (long : name_area ≤ length area) (f : Fine w) where
  -- the names before
  abbrev olds : List Bytes
  olds = names_in area n

  -- a new name stands in its row, and the others in theirs
  named_new : none_added olds w ≡ false → (i : ℕ) → i < length (olds ++ (w ∷ []))
      → name_at (put (length olds * name_bytes) (padded w) area) i ≡ get_or (olds ++ (w ∷ [])) i []
  unfolding name_at
  named_new e i l =
      let room : length olds * name_bytes + length (padded w) ≤ name_area = row_fits olds w area f long e in
      let fits : length olds * name_bytes + length (padded w) ≤ length area = omega arith in
      let size : length olds ≡ n = names_length area n in
      let k : length (padded w) ≡ name_bytes = length_padded w f.0 in
      let at : ℕ = length olds * name_bytes in
      either (eqb i (length olds))
      (λ t.
      let q : i ≡ length olds = eqb-true i (length olds) t in
      ap (λ (j : ℕ). run nonzero (part (j * name_bytes) name_bytes (put at (padded w) area))) q
      ∙ ap (λ (j : ℕ). run nonzero (part at j (put at (padded w) area))) (sym k)
      ∙ ap (run nonzero) (part_put at (padded w) area fits)
      ∙ run_padded w f.1
      ∙ sym (ap (λ (j : ℕ). get_or (olds ++ (w ∷ [])) j []) q ∙ more_last olds w))
      (λ g.
      let ne : i ≡ length olds → ⊥ = eqb-false i (length olds) g in
      let m : i < length olds = omega (arith, more_length olds w) in
      ap (run nonzero) (part_put_before at (padded w) area (i * name_bytes) name_bytes fits (omega arith))
      ∙ sym (more_old olds w i m ∙ names_at area n i (omega arith)))

  -- so the names read from the area are those entered
  pub entered_names : names_in (entered_area olds w area) (length (entered olds w)) ≡ entered olds w
  entered_names =
      either (none_added olds w)
      (λ e.
      ap₂ (λ (s : Bytes) (ms : List Bytes). names_in s (length ms)) (area_kept olds w area e) (entered_kept olds w e)
      ∙ ap (names_in area) (names_length area n) ∙ sym (entered_kept olds w e))
      (λ e.
      ap₂ (λ (s : Bytes) (ms : List Bytes). names_in s (length ms)) (area_new olds w area e) (entered_new olds w e)
      ∙ names_are (put (length olds * name_bytes) (padded w) area) (olds ++ (w ∷ [])) (named_new e) ∙ sym (entered_new olds w e))

-- the row of one name more
rows_more : (ns : List Bytes) (w : Bytes) → name_rows (ns ++ (w ∷ [])) ≡ name_rows ns ++ padded w
unfolding name_rows
rows_more ns w = name_rows_append ns (w ∷ []) ∙ ap (λ (r : List ℕ). name_rows ns ++ r) (append-nil (padded w))

-- an area begun with the rows of names is begun with those of the names after the word is entered
pub entered_begun : (ns : List Bytes) (w old : Bytes) → AllFit ns
    → entered_area ns w (begun (name_rows ns) old) ≡ begun (name_rows (entered ns w)) old
entered_begun ns w old h =
    either (none_added ns w)
    (λ e. area_kept ns w (begun (name_rows ns) old) e ∙ ap (λ (ms : List Bytes). begun (name_rows ms) old) (sym (entered_kept ns w e)))
    (λ e.
    area_new ns w (begun (name_rows ns) old) e
    ∙ ap (λ (k : ℕ). put k (padded w) (begun (name_rows ns) old)) (sym (length_name_rows ns h))
    ∙ put_begun (name_rows ns) (padded w) old
    ∙ ap (λ (rs : List ℕ). begun rs old) (sym (rows_more ns w))
    ∙ ap (λ (ms : List Bytes). begun (name_rows ms) old) (sym (entered_new ns w e)))

-- fine names stay fine
pub entered_fine : (ns : List Bytes) (w : Bytes) → AllFine ns → Fine w → AllFine (entered ns w)
entered_fine ns w h f =
    either (none_added ns w) (λ e. subst AllFine (sym (entered_kept ns w e)) h)
    (λ e. subst AllFine (sym (entered_new ns w e)) fine_more)
  where
    fine_more : AllFine (ns ++ (w ∷ []))
    fine_more a l =
        either (eqb a (length ns))
        (λ t. subst Fine (sym (ap (λ (j : ℕ). get_or (ns ++ (w ∷ [])) j []) (eqb-true a (length ns) t) ∙ more_last ns w)) f)
        (λ g.
        let ne : a ≡ length ns → ⊥ = eqb-false a (length ns) g in
        let m : a < length ns = omega (arith, more_length ns w) in
        subst Fine (sym (more_old ns w a m)) (h a m))

-- tables of zeros are the index of no names
pub indexed_none : Indexed [] (replicate buckets 0) (replicate names 0)
unfolding latest
indexed_none =
    record {
      first_size = length-replicate {A = ℕ} buckets 0;
      prior_size = length-replicate {A = ℕ} names 0;
      firsts = λ b l. get_or-replicate {A = ℕ} buckets b 0 0 l;
      priors = λ a l. absurd (omega arith);
      distinct = λ a b l m. absurd (omega arith);
    }
