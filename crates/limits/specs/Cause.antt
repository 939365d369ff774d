-- "Refused" of document 01, and the new numbers of document 02: which there are, as lists. A new cause is one entry of one list here; the others follow.
-- Assumes nothing.
use Rattle.std.specs.Prelude.{◌≡◌, ◌⊎◌, List, [], ◌∷◌, ◌++◌, ℕ}

-- k is one of ks
unfoldable pub OneOf : ℕ → List ℕ → Type 0
OneOf k [] = ⊥
OneOf k (x ∷ xs) = (k ≡ x) ⊎ OneOf k xs

-- a line of no listed form: an overlong name (13), a barred byte (14), any other fault (5)
abbrev pub fault_causes : List ℕ
fault_causes = 5 ∷ 13 ∷ 14 ∷ []

-- a rule that does not fit: a rule too many, a name too many
abbrev pub full_causes : List ℕ
full_causes = 7 ∷ 6 ∷ []

-- the causes of a line, which come with the line's number
abbrev pub line_causes : List ℕ
line_causes = fault_causes ++ full_causes

-- the causes of a text as a whole, its length aside: no mark, no last line end
abbrev pub whole_causes : List ℕ
whole_causes = 3 ∷ 4 ∷ []

-- the causes of a text, its length aside
abbrev pub text_causes : List ℕ
text_causes = whole_causes ++ line_causes

-- what is judged first by a call that is lent a folding table: an area too short, a reserved byte that has an entry, an entry that is not its own
abbrev pub letter_causes : List ℕ
letter_causes = 1 ∷ 20 ∷ 21 ∷ []

-- "all as it was", for the reader: these, a text too long, the text as a whole
abbrev pub kept_causes : List ℕ
kept_causes = letter_causes ++ (2 ∷ whole_causes)

-- the reader's: those, and the causes of a line
abbrev pub read_causes : List ℕ
read_causes = kept_causes ++ line_causes

-- "all as it was", for the solver: over 8 folds too
abbrev pub solve_kept_causes : List ℕ
solve_kept_causes = 9 ∷ kept_causes

-- "names, rules as read": over 256 atoms
abbrev pub atom_causes : List ℕ
atom_causes = 8 ∷ []

-- the solver's: all of these, and the causes of a line
abbrev pub solve_causes : List ℕ
solve_causes = (solve_kept_causes ++ line_causes) ++ atom_causes

-- those of the call for C and of the lister, which judge no folding table: an area too short, a text too long, over 8 folds, the causes of a text,
-- over 256 atoms
abbrev pub host_causes : List ℕ
host_causes = 1 ∷ 2 ∷ 9 ∷ (text_causes ++ atom_causes)

-- the writer's: what is judged first, tables ill formed, a written text too long
abbrev pub write_causes : List ℕ
write_causes = letter_causes ++ (10 ∷ 12 ∷ [])

-- standardising's: an area too short, tables ill formed, over 256 atoms
abbrev pub standard_causes : List ℕ
standard_causes = 1 ∷ 10 ∷ atom_causes

-- folding's: an area too short, over 8 folds, rows ill formed
abbrev pub fold_causes : List ℕ
fold_causes = 1 ∷ 9 ∷ 10 ∷ []

-- those of the rounds: an area too short, rows ill formed, a start atom lost
abbrev pub rounds_causes : List ℕ
rounds_causes = 1 ∷ 10 ∷ 11 ∷ []

-- the plain route's: an area too short, tables ill formed
abbrev pub plain_causes : List ℕ
plain_causes = 1 ∷ 10 ∷ []

-- those of the call that fills an area with our letters: an area too short
abbrev pub fill_causes : List ℕ
fill_causes = 1 ∷ []
