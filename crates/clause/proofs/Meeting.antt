-- A name met: what finding and adding it need, and what it leaves.
-- Assumes nothing.
use mathlib.Core.Path.{◌≡◌, refl, sym, ap, ap₂, ◌∙◌, subst, subst₂}
use mathlib.Core.Bool.{true, false}
use mathlib.Core.Logic.{◌⊎◌, inl}
use mathlib.Core.List.{List, [], ◌∷◌, ◌++◌}
use Prim.Native.Nat.{ℕ, ◌+◌, ◌*◌, ◌≤◌, ◌<◌}
use native.Mathlib.Omega.{arith}
use lib.Dec.{eqb}
use lib.ListN.{length, get_or, drop, set, length-append}
use borrow.Author.Tests.{le-leb, lt-leb}
use Rattle.limits.specs.Book.{names, name_bytes, name_area}
use Rattle.sets.proofs.Logic.{clash, pick_true, pick_false}
use Rattle.areas.specs.Area.{put, begun}
use Rattle.areas.proofs.Begun.{begun_again}
use Rattle.grammar.specs.Bytes.{Bytes}
use Rattle.scan.specs.Hash.{hash_of}
use Rattle.tables.specs.Numbering.{place, meet}
use Rattle.tables.specs.Areas.{padded, name_rows, names_in}
use Rattle.tables.proofs.Numbering.{place_at, place_new, meet_known, meet_new, by_place}
use Rattle.lexicon.specs.Index.{Indexed, Storable, none_added, entered, entered_area}
use Rattle.lexicon.proofs.Entering.{settled_name, settled_new, kept_area, kept_index, new_area, new_index, entered_length, entered_past, entered_names, entered_begun, entered_fine}
use Rattle.lexicon.proofs.Entering.{entered_meet, meet_fits, meet_over}
use Rattle.clause.specs.Found.{Kept, Lexicon, names_at, Named, InOrder, Meeting}

-- how many names there are then
module _ (ns : List Bytes) (w : Bytes) where
  same_count : none_added ns w ≡ true → length (entered ns w) ≡ length ns
  unfolding entered
  same_count e = ap length (pick_true ns (ns ++ (w ∷ [])) e)

  more_count : none_added ns w ≡ false → length (entered ns w) ≡ length ns + 1
  unfolding entered
  more_count e = ap length (pick_false ns (ns ++ (w ∷ [])) e) ∙ length-append ns (w ∷ [])

-- a name keeps its number when it is met
pub place_meet : (ns : List Bytes) (w : Bytes) → place (meet ns w) w ≡ place ns w
place_meet ns w =
    by_place ns w (λ l. ap (λ (ms : List Bytes). place ms w) (meet_known ns w l))
    (λ q. ap (λ (ms : List Bytes). place ms w) (meet_new ns w q) ∙ place_new ns w q ∙ sym q)

-- a new name, and no room: nothing changes
pub met_full : (w : Bytes) (x : Lexicon) → InOrder x → place (names_at x) w ≡ x.count → (number : ℕ) → x.count ≡ names → Meeting w false number x x
met_full w x k new number e =
    record {
      fits = sym (lt-leb (length (meet (names_at x) w)) names (meet_over (names_at x) w (omega (arith, k.few, k.count)) (omega (arith, new))));
      number_is = λ r. clash r refl;
      named = λ r. clash r refl;
      kept = record { as_long = refl; past = refl };
    }

-- a fine word w among the names of a lexicon
module _ (w : Bytes) (x : Lexicon) (k : InOrder x) (f : Storable w) where
  abbrev ns : List Bytes
  ns = names_at x

  -- the names with it, where there is room
  module _ (y : Lexicon) (q : y.area ≡ entered_area ns w x.area) (d : Indexed (entered ns w) y.first y.prior) where
    named_entered : y.count ≡ length (entered ns w) → y.count ≤ names → Named (entered ns w) y
    named_entered c l =
        let b : y.area ≡ begun (name_rows (entered ns w)) x.area =
        q ∙ ap (entered_area ns w) k.rows ∙ entered_begun ns w x.area (λ a l. (k.fine a l).0) in
        record {
          count = c;
          few = l;
          long = omega (arith, k.long, ap length q, entered_length ns w x.area f k.long);
          fine = entered_fine ns w k.fine f;
          rows = b ∙ sym (begun_again (name_rows (entered ns w)) x.area) ∙ ap (begun (name_rows (entered ns w))) (sym b);
          there = ap₂ names_in q c ∙ entered_names x.area w x.count k.long f;
          index = d;
        }

    kept_entered : Kept name_area x.area y.area
    kept_entered =
        record {
          as_long = ap length q ∙ entered_length ns w x.area f k.long;
          past = ap (drop name_area) q ∙ entered_past ns w x.area f k.long;
        }

    -- there is room: so it is met
    with_room : (number : ℕ) → number ≡ place ns w → number < names → y.count ≡ length (entered ns w) → y.count ≤ names
        → Meeting w true number x y
    with_room number p l c e =
        let fits : length (meet ns w) ≤ names = meet_fits ns w (omega (arith, k.few, k.count)) (omega arith) in
        record {
          fits = sym (le-leb (length (meet ns w)) names fits);
          number_is = λ r. p ∙ sym (place_meet ns w);
          named = λ r. subst (λ (ms : List Bytes). Named ms y) (entered_meet ns w fits) (named_entered c e);
          kept = kept_entered;
        }

  -- a new name, and room: it has the next row, and leads its bucket
  module _ (new : place ns w ≡ x.count) where
    pub met_new : (y : Lexicon) (h : ℕ) → h ≡ hash_of w → (x.count ≡ names → ⊥) → y.count ≡ x.count + 1
        → y.area ≡ put (x.count * name_bytes) (padded w) x.area
        → y.first ≡ set x.first h (x.count + 1) → y.prior ≡ set x.prior x.count (get_or x.first h 0)
        → Meeting w true x.count x y
    met_new y h e m n a g b =
        let lt : x.count < names = omega (arith, k.few, m) in
        let s : none_added ns w ≡ false = settled_new ns w (omega (arith, new, k.count)) (omega (arith, k.count)) in
        with_room y
        (new_area x.area w x.count x.count x.first x.prior k.index (sym new) (omega arith) lt y.area a)
        (subst₂ (Indexed (entered ns w)) (sym g) (sym b)
        (new_index x.area w x.count x.count x.first x.prior k.index (sym new) (omega arith) lt h e))
        x.count (sym new) lt (omega (arith, n, more_count ns w s, k.count)) (omega (arith, n))

-- a known name: it is fit for the name area, as each of them, and nothing changes
pub met_known : (w : Bytes) (x : Lexicon) → InOrder x → (number : ℕ) → number < x.count → number ≡ place (names_at x) w → Meeting w true number x x
met_known w x k number l p =
    let ns : List Bytes = names_at x in
    let m : place ns w < length ns = omega (arith, p, k.count) in
    let f : Storable w = subst Storable (place_at ns w m) (k.fine (place ns w) m) in
    let o : (number < x.count) ⊎ (eqb x.count names ≡ true) = inl l in
    with_room w x k f x (kept_area x.area w x.count number x.first x.prior k.index p o)
    (kept_index x.area w x.count number x.first x.prior k.index p o) number p (omega (arith, k.few))
    (k.count ∙ sym (same_count ns w (settled_name ns w m))) k.few
