-- The held names, put line by line.
-- Assumes nothing.
use Rattle.std.proofs.Common.{◌≡◌, refl, sym, ap, ◌∙◌, subst, ℕ, suc, ◌+◌, ◌-◌, ◌≤◌, ◌<◌, Bool, false}
use Rattle.std.proofs.Common.{List, [], ◌∷◌, ◌++◌, length, get_or, take, drop, map, arith, add-one, length-append, drop-cons}
use Rattle.std.specs.List.{take_while}
use Rattle.std.specs.Fn.{CalledAt}
use Rattle.std.specs.Iterator.{YieldsFirst}
use Rattle.std.specs.declared.iter.TakeWhile.{TakeWhile}
use Rattle.std.specs.Iterator.Adapters.{take_while_source, take_while_callee, take_while_done, take_while_steps}
use Rattle.std.proofs.lemmas.Iterator.{YieldsList}
use Rattle.std.proofs.lemmas.Iterator.Consumers.{YieldsList-at, YieldsList-from_first}
use Rattle.std.proofs.lemmas.Iterator.Search.{YieldsList-from_take_while}
use Rattle.std.proofs.lemmas.List.{get_or-map, at_drop_all}
use denote.Param.Members.{Mut}
use denote.Ref.{Bor}
use lib.Dec.{ltb}
use lib.ListN.{length-map}
use lib.Seq.{length-take-le}
use Rattle.limits.specs.Book.{names, row_words}
use Rattle.sets.specs.Set.{members}
use Rattle.grammar.specs.Bytes.{Bytes, line_end}
use Rattle.grammar.specs.Grammar.{joined}
use Rattle.tables.proofs.Encoding.{length_names_from}
use Rattle.rows.specs.declared.members.Members.{Members}
use Rattle.rows.specs.Members.{atoms_from, left}
use Rattle.rows.proofs.Atoms.{atoms_below}
use Rattle.copying.specs.declared.text.Text.{Text}
use Rattle.copying.specs.Text.{Room, Puts}
use Rattle.copying.proofs.Texts.{Left, left_end, left_room, left_on}
use Rattle.solving.specs.Listing.{held_names}
use Rattle.listing.specs.declared.names.Names.{Names}
use Rattle.listing.specs.Names.{spelt, held}

module _ (book : Names) where
  -- the numbers of the held names
  abbrev pub numbers : List ℕ
  numbers = members book.names.count (held book) 0

  abbrev name : ℕ → Bytes
  name a = get_or (spelt book) a []

  abbrev listed : List Bytes
  listed = held_names (spelt book) (held book)

  listed_is : listed ≡ map name numbers
  unfolding held_names
  listed_is = ap (λ (k : ℕ). map name (members k (held book) 0)) (length_names_from book.names.area book.names.count 0)

  -- are the atoms of the model area below their count
  module _ {n : ℕ} (all : n ≡ book.names.count) (few : n ≤ names) where
    below : take_while (λ a. ltb a n) (atoms_from (take row_words book.model.now) 0) ≡ numbers
    below =
        let e : n - 0 ≡ book.names.count = omega arith in
        atoms_below (take row_words book.model.now) 0 n (omega arith) (omega (arith, length-take-le row_words book.model.now book.long))
        ∙ ap (λ (k : ℕ). members k (held book) 0) e

    -- which a loop comes to one after the other
    pub walk : {F : Type 0} {r s : TakeWhile Members F} {f : F} (g : Mut F (Bor ℕ × Unit {0}) Bool) → r ≡ s
        → left (take_while_source s) ≡ atoms_from (take row_words book.model.now) 0 → take_while_callee s ≡ f → take_while_done s ≡ false
        → ((a : ℕ) (b : Bool) (q : F) → CalledAt g f a b q → (q ≡ f) × (b ≡ ltb a n))
        → YieldsList (take_while_steps (YieldsFirst left) g) (λ a. a) r numbers
    walk {r = r} g i e c d t =
        subst (λ (xs : List ℕ). YieldsList (take_while_steps (YieldsFirst left) g) (λ a. a) r xs) below
        (YieldsList-at i (YieldsList-from_take_while g (λ a. ltb a n) (YieldsList-from_first (λ a. a) left _ e) c d t))

  -- number k of them is a, and w is its name
  module _ {k a : ℕ} (t : (k < length numbers) × (a ≡ get_or numbers k a)) {w : Bytes} (e : w ≡ name a) where
    name_is : get_or listed k [] ≡ w
    name_is = ap (λ (ns : List Bytes). get_or ns k []) listed_is ∙ get_or-map name numbers k a [] t.0 ∙ ap name (sym t.1) ∙ sym e

    -- its line comes next
    line : joined (drop k listed) ≡ w ++ (line_end ∷ joined (drop (k + 1) listed))
    unfolding joined
    line =
        ap joined (drop-cons listed k [] (omega (arith, t.0, ap length listed_is, length-map numbers name)))
        ∙ ap (λ (v : Bytes). v ++ (line_end ∷ joined (drop (suc k) listed))) name_is
        ∙ ap (λ (i : ℕ). w ++ (line_end ∷ joined (drop i listed))) (sym (add-one k))

    module _ {x y : Text} (room : Room x (joined listed)) (s : Left x (joined listed) (joined (drop k listed)) y) where
      -- there is room for it
      pub line_room : y.end + length w + 1 ≤ length y.area.now
      line_room = omega (arith, left_room room s, ap length line, length-append w (line_end ∷ joined (drop (k + 1) listed)))

      -- it is put
      pub onward : {z v : Text} {i : ℕ} → Puts y w z → Puts z (line_end ∷ []) v → i ≡ k + 1 → Left x (joined listed) (joined (drop i listed)) v
      onward {v = v} p q f =
          subst (λ (i : ℕ). Left x (joined listed) (joined (drop i listed)) v) (sym f) (left_on (left_on s line refl p) refl refl q)

  -- after the last all are put
  pub all_put : {x y : Text} {k : ℕ} → k ≡ length numbers → Left x (joined listed) (joined (drop k listed)) y → Puts x (joined listed) y
  unfolding joined
  all_put {k = k} e s = left_end s (at_drop_all joined listed k (omega (arith, e, ap length listed_is, length-map numbers name)))
