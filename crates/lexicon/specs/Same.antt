-- The areas that a lexicon has lent.
-- Assumes nothing.
use Rattle.std.specs.Prelude.{◌≡◌}
use Rattle.lexicon.specs.declared.Lexicon.{Lexicon}

-- y has the areas that x has
abbrev pub Same : Lexicon → Lexicon → Type 0
Same x y = (y.spellings.ghost_name ≡ x.spellings.ghost_name) × (y.first.ghost_name ≡ x.first.ghost_name) × (y.prior.ghost_name ≡ x.prior.ghost_name)
