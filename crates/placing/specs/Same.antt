-- The areas of rows that a struct of them has lent.
-- Assumes nothing.
use Rattle.std.specs.Prelude.{◌≡◌}
use Rattle.placing.specs.declared.Rows.{Rows}

-- y has the areas that x has
abbrev pub Same : Rows → Rows → Type 0
Same x y = (y.all.ghost_name ≡ x.all.ghost_name) × (y.any.ghost_name ≡ x.any.ghost_name) × (y.model.ghost_name ≡ x.model.ghost_name)
