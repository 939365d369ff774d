-- Every limit and size of document 01 ("Limits and areas"), and the size of a folding table, once. The code's constants are proved equal to these.
-- Assumes nothing.
use Rattle.std.specs.Prelude.{ℕ, ◌*◌}

-- bytes of text
abbrev pub text_bytes : ℕ
text_bytes = 16384

-- names in a book, and the bytes of the longest
abbrev pub names : ℕ
names = 128

abbrev pub name_bytes : ℕ
name_bytes = 32

-- rules in a book
abbrev pub rules : ℕ
rules = 256

-- atoms after standardising
abbrev pub atoms : ℕ
atoms = 256

-- folds in one call
abbrev pub folds : ℕ
folds = 8

-- bits in a word: atom a is bit a mod 64 of word a div 64
abbrev pub word_bits : ℕ
word_bits = 64

-- words in a row over atoms, and in a body over names
abbrev pub row_words : ℕ
row_words = 4

abbrev pub body_words : ℕ
body_words = 2

-- bytes of a folding table: an entry for each byte value
abbrev pub letter_bytes : ℕ
letter_bytes = 256

-- bytes of a listing
abbrev pub listing_bytes : ℕ
listing_bytes = 4608

-- the sizes of the lent areas that are products of these
abbrev pub name_area : ℕ
name_area = names * name_bytes

abbrev pub body_area : ℕ
body_area = rules * body_words

abbrev pub row_area : ℕ
row_area = atoms * row_words
