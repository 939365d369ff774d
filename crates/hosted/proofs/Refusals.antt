-- The line of a refusal, put field by field at the front of an area.
-- Assumes nothing.
use mathlib.Core.Path.{◌≡◌, refl, ap}
use mathlib.Core.List.{[], ◌∷◌, ◌++◌, append_assoc}
use Prim.Native.Nat.{ℕ, ◌+◌, ◌≤◌}
use native.Mathlib.Omega.{arith}
use lib.ListN.{length, length-append}
use Rattle.areas.specs.Area.{begun}
use Rattle.grammar.specs.Bytes.{Bytes, bytes, line_end}
use Rattle.solving.specs.Listing.{decimal}
use Rattle.hosting.specs.Print.{refusal_line}
use Rattle.copying.specs.Text.{Room, Puts}
use Rattle.copying.specs.declared.text.Text.{Text}
use Rattle.copying.proofs.Texts.{puts_on, puts_as, front_begun}

-- two fields and an end
fields : (a n b l e : Bytes) → ((a ++ n) ++ (b ++ l)) ++ e ≡ (a ++ (n ++ (b ++ l))) ++ e
fields a n b l e = simp append_assoc refl

abbrev first : ℕ → Bytes
first number = bytes "DPL 0001 refused=" ++ decimal number

abbrev second : ℕ → Bytes
second line = bytes " line=" ++ decimal line

-- a text that is begun at the front of an area with room for the line of a refusal and its end
pub record Begun (number line : ℕ) (old : Bytes) (x : Text) : Type 0 where
  pub fits : length (refusal_line number line) + 1 ≤ length old
  pub front : x.end ≡ 0
  pub empty : x.area.now ≡ old

module _ {number line : ℕ} {old : Bytes} {x : Text} (b : Begun number line old x) where
  abbrev whole : Bytes
  whole = refusal_line number line ++ (line_end ∷ [])

  parts : (first number ++ second line) ++ (line_end ∷ []) ≡ whole
  unfolding refusal_line
  parts = fields (bytes "DPL 0001 refused=") (decimal number) (bytes " line=") (decimal line) (line_end ∷ [])

  size : length whole ≡ length (refusal_line number line) + 1
  size = length-append (refusal_line number line) (line_end ∷ [])

  room : length (first number) + length (second line) + 1 ≤ length x.area.now
  room =
      omega (
        arith,
        b.fits,
        ap length b.empty,
        size,
        ap length parts,
        length-append (first number ++ second line) (line_end ∷ []),
        length-append (first number) (second line),
      )

  -- there is room for the first field
  pub first_room : Room x (first number)
  first_room = omega (arith, room, b.front)

  module _ {x₁ : Text} (p : Puts x (first number) x₁) where
    -- for the second
    pub second_room : Room x₁ (second line)
    second_room = omega (arith, room, b.front, p.end, p.long)

    module _ {x₂ : Text} (q : Puts x₁ (second line) x₂) where
      -- and for the end
      pub end_room : Room x₂ (line_end ∷ [])
      end_room = omega (arith, room, b.front, p.end, p.long, q.end, q.long)

      module _ {y : Text} (r : Puts x₂ (line_end ∷ []) y) where
        puts : Puts x whole y
        puts = puts_as parts (puts_on (puts_on p q) r)

        -- the area begins with the line
        pub line_put : y.area.now ≡ begun whole old
        line_put = front_begun x old b.front b.empty puts

        -- and the place is past it
        pub line_next : y.end ≡ length (refusal_line number line) + 1
        line_next = omega (arith, puts.end, b.front, size)
