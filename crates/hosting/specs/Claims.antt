-- Demands 1 and 3 as a host sees them: the number returned, the bytes of its listing area, and what the lister prints. Proved in
-- proofs/Theorems.antt, for any folding table that passes, any text and a listing area with any old contents: the call for any fold number and an
-- area of any length, what is printed by the call with 8 folds and an area of the stated size. The code goes by our table, which passes.
-- Assumes nothing.
use Rattle.std.specs.Prelude.{◌≡◌, ◌⊎◌, ◌↔◌, true, List, [], ◌∷◌, ◌++◌, ℕ, ◌-◌, ◌/◌, ◌%◌, ◌≤◌, ◌<◌, length, get_or, take, drop}
use Rattle.limits.specs.Book.{text_bytes, atoms, folds, listing_bytes}
use Rattle.limits.specs.Cause.{OneOf, fault_causes, line_causes, text_causes, host_causes}
use Rattle.program.specs.System.{folded, rounds_of}
use Rattle.program.specs.Standard.{standard}
use Rattle.grammar.specs.Bytes.{Bytes, all_of, Among, letters}
use Rattle.grammar.specs.Grammar.{Clause, joined, Unbroken}
use Rattle.tables.specs.Numbering.{place, names_of, program_of}
use Rattle.tables.specs.Reading.{Book, FirstFault, Refusal}
use Rattle.areas.specs.Area.{filled}
use Rattle.tables.specs.Areas.{nonzero}
use Rattle.solving.specs.Listing.{head_line}
use Rattle.solving.specs.ListingClaims.{longest_listing}
use Rattle.solving.specs.Models.{InEveryModelOf}
use Rattle.hosting.specs.Call.{CallOutcome, refusal_unit, as_one, host_call}
use Rattle.hosting.specs.Print.{refusal_line, printed}

-- the listing area, the text and the fold number are in range
abbrev pub HostRange : Bytes → ℕ → Bytes → Type 0
HostRange t k old = (listing_bytes ≤ length old) × (length t ≤ text_bytes) × (k ≤ folds)

-- the highest line of a refusal, 16,375: in the longest text the mark takes nine bytes, each line above a byte for its end, and the line
-- that is refused two at least
abbrev pub highest_line : ℕ
highest_line = text_bytes - 9

-- Demand 1 for the call: each number exactly where documents 01 and 02 give it. r is what the call returns and leaves.
pub record CallJudges (fold : ℕ → ℕ) (t : Bytes) (k : ℕ) (old : Bytes) (r : CallOutcome) : Type 0 where
  pub accepts : (r.returned ≡ 0) ↔ (HostRange t k old × ((cs : List Clause) × Book fold t cs × ((standard (program_of cs)).atoms ≤ atoms)))
  pub short : (r.returned ≡ as_one 1 0) ↔ (length old < listing_bytes)
  pub long_text : (r.returned ≡ as_one 2 0) ↔ ((listing_bytes ≤ length old) × (text_bytes < length t))
  pub over_folds : (r.returned ≡ as_one 9 0) ↔ ((listing_bytes ≤ length old) × (length t ≤ text_bytes) × (folds < k))
  -- those of a text with their line, as the grammar says
  pub text : (q line : ℕ) → OneOf q text_causes → line < refusal_unit → (r.returned ≡ as_one q line) ↔ (HostRange t k old × Refusal fold t q line)
  -- 5, 13 and 14: each exactly where the first line that is refused has that fault
  pub faults : (q line : ℕ) → OneOf q fault_causes → line < refusal_unit → (r.returned ≡ as_one q line) ↔ (HostRange t k old × FirstFault fold t q line)
  pub over_atoms : (r.returned ≡ as_one 8 0) ↔ (HostRange t k old × ((cs : List Clause) × Book fold t cs × (atoms < (standard (program_of cs)).atoms)))
  -- 0 and these are all its numbers: 10, 11, 12, 20 and 21 cannot occur
  pub no_other : (r.returned / refusal_unit ≡ 0) ⊎ OneOf (r.returned / refusal_unit) host_causes
  -- a line comes with exactly these, and is at most 16,375
  pub lined : (r.returned % refusal_unit ≡ 0 → ⊥) ↔ OneOf (r.returned / refusal_unit) line_causes
  pub line : r.returned % refusal_unit ≤ highest_line
  -- a refusal leaves the area as it was, and nothing past its stated size is ever touched
  pub kept : (r.returned ≡ 0 → ⊥) → r.listing ≡ old
  pub past : drop listing_bytes r.listing ≡ drop listing_bytes old

-- Demand 3 for the call, where it returns 0: the lines after the head line are exactly the names in every model of the text.
pub record CallLists (fold : ℕ → ℕ) (t : Bytes) (k : ℕ) (old : Bytes) (r : CallOutcome) : Type 0 where
  pub cs : List Clause
  pub book : Book fold t cs
  pub held : List Bytes
  -- the head line has the number of names, of names held, the folds and the rounds of the definition
  pub head : Bytes
  pub is_head : head ≡ head_line (length (names_of cs)) (length held) k (rounds_of (folded k (standard (program_of cs))))
  pub area : r.listing ≡ filled listing_bytes (joined (head ∷ held)) old
  -- the text has at most 4,271 bytes and none of them is zero, so at least one zero follows it: a C string
  pub fits : length (joined (head ∷ held)) ≤ longest_listing
  pub text : all_of nonzero (joined (head ∷ held)) ≡ true
  pub lines : Unbroken (head ∷ held)
  pub only : (x : Bytes) → Among x held ↔ InEveryModelOf fold t x
  -- none twice, in number order
  pub rising : (i j : ℕ) → i < j → j < length held → place (names_of cs) (get_or held i []) < place (names_of cs) (get_or held j [])

-- What the lister prints, by the call with 8 folds and an area of the stated size: its listing, or the line of its refusal.
pub record Prints (fold : ℕ → ℕ) (t : Bytes) (r : CallOutcome) : Type 0 where
  pub listed : r.returned ≡ 0 → r.listing ≡ filled listing_bytes (printed fold t) []
  -- no zero byte is printed: so the bytes printed are those before the area's zeros
  pub text : all_of nonzero (printed fold t) ≡ true
  pub refused : (q line : ℕ) → (q ≡ 0 → ⊥) → line < refusal_unit → r.returned ≡ as_one q line → printed fold t ≡ joined (refusal_line q line ∷ [])

-- what the call returns and leaves of an area cut to its stated size, with what was cut off put after
abbrev pub call_with_rest : Bytes → CallOutcome → CallOutcome
call_with_rest old r = record { returned = r.returned; listing = r.listing ++ drop listing_bytes old }

-- all together
pub record Hosts (table : List ℕ) : Type 0 where
  pub judges : (t : Bytes) (k : ℕ) (old : Bytes) → CallJudges (letters table) t k old (host_call table t k old)
  pub lists : (t : Bytes) (k : ℕ) (old : Bytes) → (host_call table t k old).returned ≡ 0 → CallLists (letters table) t k old (host_call table t k old)
  pub prints : (t old : Bytes) → length old ≡ listing_bytes → Prints (letters table) t (host_call table t folds old)
  -- what lies past the stated size is neither judged nor touched
  pub sizes : (t : Bytes) (k : ℕ) (old : Bytes) → host_call table t k old ≡ call_with_rest old (host_call table t k (take listing_bytes old))
