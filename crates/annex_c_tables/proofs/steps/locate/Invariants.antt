-- Every size passed has another W, so what stands before the size is what was passed and what stands before it in the rest.
use mathlib.Core.Path.{◌≡◌}
use Prim.Native.Nat.{◌+◌}
use lib.ListN.{drop}
use Rattle.bits.specs.Place.{place}
use Rattle.annex_c_tables.specs.Flat.{rows_before}
use Rattle.annex_c_tables.proofs.steps.locate.Given as goal

abbrev pub invariant-loop-sizes : goal.invariant-loop-sizes
invariant-loop-sizes l =
    (l.sizes + place l.w (drop l.sizes l.widths) ≡ place l.w l.widths)
    × (l.rows + rows_before l.w (drop l.sizes l.widths) ≡ rows_before l.w l.widths)
