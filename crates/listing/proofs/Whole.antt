-- The whole listing: the head line, the held names, and zeros after them.
-- Assumes nothing.
use mathlib.Core.Path.{◌≡◌, sym, ap, ap₂, ◌∙◌}
use mathlib.Core.List.{[], ◌∷◌, ◌++◌, append_assoc}
use Prim.Native.Nat.{ℕ, ◌+◌, ◌*◌, ◌≤◌, ◌<◌}
use native.Mathlib.Omega.{arith}
use lib.ListN.{length, get_or, drop, length-append, length-take}
use Rattle.limits.specs.Book.{names, name_bytes, atoms, folds, listing_bytes}
use Rattle.sets.specs.Set.{count}
use Rattle.areas.specs.Area.{part, begun, filled, cleared}
use Rattle.areas.proofs.Filled.{begun_filled}
use Rattle.grammar.specs.Bytes.{Bytes, line_end}
use Rattle.grammar.specs.Grammar.{joined}
use Rattle.grammar.specs.Lines.{run, past}
use Rattle.grammar.proofs.Spans.{run_past}
use Rattle.tables.specs.Areas.{nonzero, name_at, names_in}
use Rattle.tables.proofs.Encoding.{length_names_from, get_or_names_from}
use Rattle.solving.specs.Listing.{head_line, held_names, listing_lines, listed}
use Rattle.solving.proofs.Decimal.{listing_fits}
use Rattle.listing.specs.Names.{spelt, held}
use Rattle.copying.specs.Text.{Room, Puts}
use Rattle.listing.specs.Write.{Listing, listing_of}
use Rattle.listing.specs.declared.names.Names.{Names}
use Rattle.copying.specs.declared.text.Text.{Text}
use Rattle.copying.proofs.Texts.{puts_on, front_begun}

-- no name is longer than its row
names_short : (area : Bytes) (n a : ℕ) → a < n → length (get_or (names_in area n) a []) ≤ name_bytes
unfolding name_at
names_short area n a l =
    let row : Bytes = part ((0 + a) * name_bytes) name_bytes area in
    omega (
      arith,
      ap length (get_or_names_from area n 0 a l),
      length-append (run nonzero row) (past nonzero row),
      ap length (run_past nonzero row),
      length-take name_bytes (drop ((0 + a) * name_bytes) area),
    )

-- listings that are the same in every part
same_listing : {i i' j j' : ℕ} {a a' : Bytes} → i ≡ i' → j ≡ j' → a ≡ a'
    → ◌≡◌ {A = Listing} (record { held = i; end = j; area = a }) (record { held = i'; end = j'; area = a' })
same_listing p q r = cc

-- text that is begun at the front of a listing area, for n names of which h are held
pub record Begun (book : Names) (k rounds n h : ℕ) (old : Bytes) (x : Text) : Type 0 where
  pub few_folds : k ≤ folds
  pub few_rounds : rounds ≤ atoms + 1
  pub long : listing_bytes ≤ length old
  pub all : n ≡ book.names.count
  pub few : n ≤ names
  pub counted : h ≡ count book.names.count (held book)
  pub front : x.end ≡ 0
  pub empty : x.area.now ≡ old

module _ {book : Names} {k rounds n h : ℕ} {old : Bytes} {x : Text} (b : Begun book k rounds n h old x) where
  abbrev line : Bytes
  line = head_line n h k rounds ++ (line_end ∷ [])

  abbrev lines : Bytes
  lines = joined (held_names (spelt book) (held book))

  many : length (spelt book) ≡ n
  many = length_names_from book.names.area book.names.count 0 ∙ sym b.all

  counted : h ≡ count (length (spelt book)) (held book)
  counted = b.counted ∙ ap (λ (m : ℕ). count m (held book)) (sym (many ∙ b.all))

  -- the text is the head line and the lines of the held names
  whole : line ++ lines ≡ joined (listing_lines (spelt book) (held book) k rounds)
  unfolding listing_lines joined
  whole =
      append_assoc (head_line n h k rounds) (line_end ∷ []) lines
      ∙ ap₂ (λ (m i : ℕ). head_line m i k rounds ++ (line_end ∷ lines)) (sym many) counted

  -- which has room
  fits : length line + length lines ≤ listing_bytes
  fits =
      omega (
        arith,
        length-append line lines,
        ap length whole,
        listing_fits (spelt book) (held book) k rounds (omega (arith, many, b.few)) b.few_folds b.few_rounds
            (λ a l. names_short book.names.area book.names.count a (omega (arith, many, b.all))),
      )

  -- there is room for the head line
  pub head_room : Room x line
  head_room = omega (arith, fits, b.front, b.long, ap length b.empty)

  module _ {y : Text} (p : Puts x line y) where
    -- and for the names after it
    pub names_room : Room y lines
    names_room = omega (arith, fits, p.end, p.long, b.front, b.long, ap length b.empty)

    -- the text is in the area, up to the end
    module _ {z : Text} (q : Puts y lines z) {end : ℕ} (at : end ≡ z.end) {new : Bytes} (left : new ≡ z.area.now) where
      -- the end is within the area's stated size, which the area has
      pub area_fits : (end ≤ listing_bytes) × (listing_bytes ≤ length new)
      area_fits = (omega (arith, fits, p.end, q.end, at, b.front), omega (arith, p.long, q.long, b.long, ap length b.empty, ap length left))

      both : Puts x (line ++ lines) z
      both = puts_on p q

      -- the text is put
      begins : new ≡ begun (line ++ lines) old
      begins = left ∙ front_begun x old b.front b.empty both

      -- and zeros after it: the listing
      pub listing_done : (last : Bytes) → last ≡ cleared end listing_bytes new
          → record { held = h; end = end; area = last } ≡ listing_of (spelt book) (held book) k rounds old
      unfolding listing_of listed
      listing_done last e =
          let m : end ≡ length (line ++ lines) = omega (arith, at, both.end, b.front) in
          same_listing counted (m ∙ ap length whole)
          (e ∙ ap₂ (λ (i : ℕ) (t : Bytes). cleared i listing_bytes t) m begins
          ∙ begun_filled listing_bytes (line ++ lines) old (omega (arith, fits, length-append line lines))
          ∙ ap (λ (w : Bytes). filled listing_bytes w old) whole)
