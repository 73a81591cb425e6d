-- The tables are the flat tables of annex C's sizes.
use mathlib.Core.Path.{refl}
use Rattle.annex_c.specs.Sizes.{sizes}
use Rattle.annex_c_tables.proofs.steps.SizeVectors.of.Goals as goal

pub lend-requires-clause-tables : goal.lend-requires-clause-tables
unfolding sizes
lend-requires-clause-tables c = record { W = refl; α = refl; β = refl }
