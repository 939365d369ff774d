-- Text put into an area part by part: what is put so far, and what is left to put.
-- Assumes nothing.
use mathlib.Core.Path.{◌≡◌, refl, sym, ap, ap₂, subst, ◌∙◌}
use mathlib.Core.List.{[], ◌++◌, append_assoc, append-nil}
use Prim.Native.Nat.{ℕ, ◌+◌, ◌≤◌}
use native.Mathlib.Omega.{arith}
use lib.ListN.{length, drop, length-append}
use Rattle.areas.specs.Area.{put, begun}
use Rattle.grammar.specs.Bytes.{Bytes}
use Rattle.areas.proofs.Parts.{put_none}
use Rattle.copying.proofs.Putting.{put_put}
use Rattle.copying.specs.declared.text.Text.{Text}
use Rattle.copying.specs.Text.{Room, Puts}

-- nothing is put
pub puts_none : (x : Text) → Puts x [] x
puts_none x = record { end = omega arith; area = put_none x.end x.area.now; long = refl; same = refl }

-- one part and then another
pub puts_on : {x y z : Text} {s t : Bytes} → Puts x s y → Puts y t z → Puts x (s ++ t) z
puts_on {x} {y} {z} {s} {t} p q =
    record {
      end = omega (arith, p.end, q.end, length-append s t);
      area = q.area ∙ ap₂ (λ (i : ℕ) (a : Bytes). put i t a) p.end p.area ∙ put_put x.end s t x.area.now x.within;
      long = q.long ∙ p.long;
      same = q.same ∙ p.same;
    }

-- a part, written otherwise
pub puts_as : {x y : Text} {s t : Bytes} → s ≡ t → Puts x s y → Puts x t y
puts_as {x} {y} e p = subst (λ (w : Bytes). Puts x w y) e p

-- of the whole, put from x on, `rest` is left to put after y
pub record Left (x : Text) (whole rest : Bytes) (y : Text) : Type 0 where
  pub done : Bytes
  pub puts : Puts x done y
  pub all : done ++ rest ≡ whole

-- before anything is put
pub left_start : (x : Text) (whole : Bytes) → Left x whole whole x
left_start x whole = record { done = []; puts = puts_none x; all = refl }

-- what is left, written otherwise
pub left_as : {x y : Text} {whole rest other : Bytes} → Left x whole rest y → rest ≡ other → Left x whole other y
left_as s e = record { done = s.done; puts = s.puts; all = ap (λ (r : Bytes). s.done ++ r) (sym e) ∙ s.all }

-- nothing is left
pub left_end : {x y : Text} {whole rest : Bytes} → Left x whole rest y → rest ≡ [] → Puts x whole y
left_end s e = puts_as (sym (append-nil s.done) ∙ ap (λ (r : Bytes). s.done ++ r) (sym e) ∙ s.all) s.puts

-- where there is room for the whole
module _ {x y : Text} {whole rest : Bytes} (room : Room x whole) (s : Left x whole rest y) where
  -- there is room for what is left
  pub left_room : Room y rest
  left_room = omega (arith, s.puts.end, s.puts.long, length-append s.done rest, ap length s.all)

  -- its first part is `first`
  module _ (first more : Bytes) (e : rest ≡ first ++ more) {part : Bytes} (f : part ≡ first) where
    -- there is room for it
    pub part_room : Room y part
    part_room = omega (arith, left_room, ap length e, ap length f, length-append first more)

-- the first part of what is left is put
pub left_on : {x y z : Text} {whole rest part first more : Bytes} → Left x whole rest y → rest ≡ first ++ more → part ≡ first → Puts y part z
    → Left x whole more z
left_on {first = first} {more = more} s e f p =
    record {
      done = s.done ++ first;
      puts = puts_on s.puts (puts_as f p);
      all = append_assoc s.done first more ∙ ap (λ (r : Bytes). s.done ++ r) (sym e) ∙ s.all;
    }

-- a text that begins at the front of an area
module _ (x : Text) (old : Bytes) (front : x.end ≡ 0) (empty : x.area.now ≡ old) where
  -- has room for what the area has room for
  pub front_room : (whole : Bytes) → length whole ≤ length old → Room x whole
  front_room whole l = omega (arith, front, ap length empty)

  -- which the area then begins with
  pub front_begun : {whole : Bytes} {y : Text} → Puts x whole y → y.area.now ≡ begun whole old
  unfolding begun
  front_begun {whole} p =
      let n : 0 + length whole ≡ length whole = omega arith in
      p.area ∙ ap₂ (λ (i : ℕ) (t : Bytes). put i whole t) front empty ∙ ap (λ (i : ℕ). whole ++ drop i old) n
