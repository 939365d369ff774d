-- The writer's call against the reader's.
-- Assumes nothing.
use mathlib.Core.Path.{◌≡◌, sym, ap, ap₂, subst, ◌∙◌}
use mathlib.Core.Bool.{true, false}
use mathlib.Core.Logic.{◌↔◌}
use mathlib.Core.List.{List, [], ◌∷◌, ◌++◌, map}
use Prim.Native.Nat.{ℕ, zero, suc, ◌-◌, ◌*◌, ◌≤◌}
use native.Mathlib.Omega.{arith}
use lib.Dec.{lit<}
use lib.ListN.{length, take, drop, replicate, length-map}
use Rattle.limits.specs.Book.{text_bytes, name_bytes, rules, body_words, name_area, body_area}
use Rattle.words.specs.Row.{Words, pack}
use Rattle.words.proofs.Rows.{words_pack}
use Rattle.words.proofs.Areas.{words_append, words_drop}
use Rattle.grammar.specs.Bytes.{Bytes, Folding, letters}
use Rattle.grammar.specs.Letters.{FoldTable}
use Rattle.grammar.specs.Grammar.{Clause}
use Rattle.program.specs.Program.{Rule}
use Rattle.tables.specs.Numbering.{names_of, numbered}
use Rattle.tables.specs.Reading.{book_of, read}
use Rattle.areas.specs.Area.{filled}
use Rattle.tables.specs.Areas.{Areas, short, filled_with, name_rows, head_rows, body_rows, tables_of, read_call}
use Rattle.tables.specs.Writing.{Written, well_formed, write_call}
use Rattle.tables.specs.Claims.{accepted}
use Rattle.tables.proofs.Numbering.{heads_length, bodies_length}
use Rattle.areas.proofs.Filled.{length_filled, take_filled, over_filled}
use Rattle.tables.proofs.Encoding.{length_name_rows, long_enough, not_short}
use Rattle.tables.proofs.Theorems.{judged, books_read, read_fits, read_good_at}
use Rattle.roundtrip.specs.Claims.{written_text, ReadsTo, Lent, over, wrote, WriteReady, OwnNames, WriteCalls}
use Rattle.roundtrip.proofs.Back.{own_formed}
use Rattle.roundtrip.proofs.Theorems.{round_trip}
use Rattle.roundtrip.proofs.Judging.{to_long, of_long, write_judges}

-- areas keep their lengths when filled
still_long : (ns : List Bytes) (rs : List (Rule ℕ)) (old : Areas) → length (name_rows ns) ≤ name_area → length (head_rows rs) ≤ rules
    → length (body_rows rs) ≤ body_area → short old ≡ false → short (filled_with ns rs old) ≡ false
unfolding filled_with
still_long ns rs old a b c s =
    let l = long_enough old s in
    not_short (filled_with ns rs old)
    (omega (arith, l.0, length_filled name_area (name_rows ns) old.spellings a l.0))
    (omega (arith, l.1, length_filled rules (head_rows rs) old.heads b l.1))
    (omega (arith, l.2, length_filled body_area (body_rows rs) old.bodies c l.2))

-- equal parts make equal areas
same_areas : {a b c x y z : List ℕ} → a ≡ x → b ≡ y → c ≡ z
    → ◌≡◌ {A = Areas} (record { spellings = a; heads = b; bodies = c }) (record { spellings = x; heads = y; bodies = z })
same_areas {a} {b} {c} {x} {y} {z} p q r =
    let with_names : List ℕ → Areas = λ i. record { spellings = i; heads = b; bodies = c } in
    let with_heads : List ℕ → Areas = λ i. record { spellings = x; heads = i; bodies = c } in
    let with_bodies : List ℕ → Areas = λ i. record { spellings = x; heads = y; bodies = i } in
    ap with_names p ∙ ap with_heads q ∙ ap with_bodies r

-- the words of tables are in range
words_bodies : (rs : List (Rule ℕ)) → Words (body_rows rs)
unfolding body_rows
words_bodies [] k = lit< tt
words_bodies (r ∷ rs) k = words_append (pack body_words r.body) (body_rows rs) (words_pack body_words r.body) (words_bodies rs) k

words_zeros : (n : ℕ) → Words (replicate n 0)
words_zeros zero k = lit< tt
words_zeros (suc n) zero = lit< tt
words_zeros (suc n) (suc k) = words_zeros n k

words_tables : (cs : List Clause) (old : Areas) → Words old.bodies → Words (tables_of cs old).bodies
unfolding tables_of filled_with filled
words_tables cs old h =
    let rs : List (Rule ℕ) = map (numbered (names_of cs)) cs in
    let size : ℕ = body_area - length (body_rows rs) in
    words_append (body_rows rs) (replicate size 0 ++ drop body_area old.bodies) (words_bodies rs)
    (words_append (replicate size 0) (drop body_area old.bodies) (words_zeros size) (words_drop body_area old.bodies h))

module _ (fold : ℕ → ℕ) (folding : Folding fold) where
  -- the rows of a book that was read fit their areas
  module _ (t : Bytes) (cs : List Clause) (e : book_of fold t ≡ read cs) where
    names_fit : length (name_rows (names_of cs)) ≤ name_area
    names_fit =
        let l : length (name_rows (names_of cs)) ≡ length (names_of cs) * name_bytes =
        length_name_rows (names_of cs) (λ a h. (read_good_at fold folding t cs e a h).fits)
        in
        omega (arith, l, (read_fits fold folding t cs e).1)

    heads_fit : length (head_rows (map (numbered (names_of cs)) cs)) ≤ rules
    heads_fit =
        omega (arith, heads_length (map (numbered (names_of cs)) cs), length-map cs (numbered (names_of cs)), (read_fits fold folding t cs e).0)

    bodies_fit : length (body_rows (map (numbered (names_of cs)) cs)) ≤ body_area
    bodies_fit =
        omega (arith, bodies_length (map (numbered (names_of cs)) cs), length-map cs (numbered (names_of cs)), (read_fits fold folding t cs e).0)

    -- areas that hold its tables: over the stated sizes they are its tables anywhere
    over_tables : (o old : Areas) → o ≡ tables_of cs o → over o old ≡ tables_of cs old
    unfolding over tables_of filled_with
    over_tables o old q =
        same_areas (over_filled name_area _ o.spellings old.spellings names_fit (ap (λ (x : Areas). x.spellings) q))
        (over_filled rules _ o.heads old.heads heads_fit (ap (λ (x : Areas). x.heads) q))
        (over_filled body_area _ o.bodies old.bodies bodies_fit (ap (λ (x : Areas). x.bodies) q))

    -- and they stay long enough
    tables_long : (old : Areas) → short old ≡ false → short (tables_of cs old) ≡ false
    unfolding tables_of
    tables_long old s = still_long _ _ old names_fit heads_fit bodies_fit s

-- the two calls under one table
module _ (table : List ℕ) where
  abbrev fold : ℕ → ℕ
  fold = letters table

  -- what is written reads back
  back : (o old : Areas) (n m size : ℕ) (area text : Bytes) → Words o.bodies → short old ≡ false
      → write_call table o n m area ≡ wrote size text → read_call table (take size text) old ≡ accepted n m (over o old)
  back o old n m size area text words s e =
      let w : Bytes = written_text o n m in
      let judges = write_judges table o n m area words in
      let zero_number : (write_call table o n m area).number ≡ 0 = ap (λ (x : Written). x.number) e in
      let ((long, passes), readable, fits) = judges.accepts.0 zero_number in
      let lent : Lent o = (of_long o area long, words) in
      let trip = round_trip fold passes.1 in
      let r : ReadsTo fold w o n m = trip.back o n m lent ((trip.exact o n m lent).1 readable) in
      let q : wrote size text ≡ wrote (length w) (filled text_bytes w area) = sym e ∙ judges.left zero_number in
      let same : take size text ≡ w =
      ap₂ (λ (i : ℕ) (x : Bytes). take i x) (ap (λ (x : Written). x.size) q) (ap (λ (x : Written). x.text) q) ∙ take_filled text_bytes w area
      in
      ap (λ (x : Bytes). read_call table x old) same
      ∙ ((books_read table).accepts w old (over o old) n m).1 (
        r.cs,
        s,
        passes,
        fits,
        ((judged fold passes.1).accepted w r.cs).0 r.reads,
        r.count,
        r.size,
        over_tables fold passes.1 w r.cs r.reads o old r.tables,
      )

  -- what a text that is read leaves: tables in order, whose text is no longer
  module _ (t : Bytes) (old o : Areas) (n m : ℕ) (words : Words old.bodies) (e : read_call table t old ≡ accepted n m o) where
    abbrev Leaves : Areas → ℕ → ℕ → Type 0
    Leaves x i j = Lent x × (well_formed fold x i j ≡ true) × (length (written_text x i j) ≤ length t)

    leaves : FoldTable table × (length t ≤ text_bytes) × Leaves o n m
    leaves =
        let (cs, s, passes, fits, book, a, b, c) = ((books_read table).accepts t old o n m).0 e in
        let reads : book_of fold t ≡ read cs = ((judged fold passes.1).accepted t cs).1 book in
        let r = (round_trip fold passes.1).again t cs old reads in
        let here : Leaves (tables_of cs old) (length (names_of cs)) (length cs) =
        ((tables_long fold passes.1 t cs reads old s, words_tables cs old words), r.0, r.1)
        in (
          passes,
          fits,
          subst (λ (x : Areas). Leaves x n m) (sym c)
              (subst (λ (i : ℕ). Leaves (tables_of cs old) i m) (sym a) (subst (Leaves (tables_of cs old) (length (names_of cs))) (sym b) here)),
        )

    -- they are written, and read back
    again : (area : Bytes) → text_bytes ≤ length area
        → (size : ℕ) × (text : Bytes) × (write_call table o n m area ≡ wrote size text) × (size ≤ length t)
        × ((other : Areas) → short other ≡ false → read_call table (take size text) other ≡ accepted n m (over o other))
    again area l =
        let (passes, fits, (lent, formed, shorter)) = leaves in
        let w : Bytes = written_text o n m in
        let judges = write_judges table o n m area lent.1 in
        let mine : write_call table o n m area ≡ wrote (length w) (filled text_bytes w area) =
        judges.left (judges.accepts.1
        ((to_long o area lent.0 l, passes), ((round_trip fold passes.1).exact o n m lent).0 formed, omega (arith, fits, shorter)))
        in
        (length w, filled text_bytes w area, mine, shorter, λ other g. back o other n m (length w) area (filled text_bytes w area) lent.1 g mine)

    -- under another table the names decide
    across : (area : Bytes) (another : List ℕ) → text_bytes ≤ length area → FoldTable another
        → (((write_call another o n m area).number ≡ 0) ↔ OwnNames (letters another) o n)
        × (((write_call another o n m area).number ≡ 10) ↔ (OwnNames (letters another) o n → ⊥))
    across area another l passes =
        let (passed, fits, (lent, formed, shorter)) = leaves in
        let ready : WriteReady another o area = (to_long o area lent.0 l, passes) in
        let judges = write_judges another o n m area lent.1 in
        let exact = (round_trip (letters another) passes.1).exact o n m lent in
        let own = own_formed fold (letters another) o n m formed in (
          (λ z. own.0 (exact.1 (judges.accepts.0 z).1), λ h. judges.accepts.1 (ready, exact.0 (own.1 h), omega (arith, fits, shorter))),
          (λ z h. (judges.ill_formed.0 z).1 (exact.0 (own.1 h)), λ h. judges.ill_formed.1 (ready, λ r. h (own.0 (exact.1 r)))),
        )

-- demand 1 for the writer, and demand 2 between tables and text: what is written reads back, what is read is written, and each number is given
-- exactly where documents 01 and 02 give it
pub books_written : (table : List ℕ) → WriteCalls table
books_written table =
    record {
      written_read = back table;
      read_written = λ t area old o n m words l e. again table t old o n m words e area l;
      across = λ t area old o n m another words l passes e. across table t old o n m words e area another l passes;
      judges = write_judges table;
    }
