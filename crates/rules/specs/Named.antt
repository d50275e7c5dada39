-- The numbers that name a manner (document 02, W-205).
-- Assumes nothing.
use Rattle.std.specs.Prelude.{cond, Err, Ok, Result, ◌≡◌, ℕ, eqb}
use Rattle.rules.specs.declared.Manner.{Manner}
use Rattle.rules.specs.declared.Manner.TheVariants.{Carve, Sheet}
use Rattle.rules.specs.declared.UnknownManner.{UnknownManner}

-- what a number names: 1 and 2 a manner, and no other number any
abbrev pub manner_named : ℕ → Result Manner UnknownManner
manner_named n = cond (eqb n 1) (Ok Carve) (cond (eqb n 2) (Ok Sheet) (Err (record { 0 = n })))

abbrev pub MannerNamed : ℕ → Result Manner UnknownManner → Type 0
MannerNamed n r = r ≡ manner_named n
