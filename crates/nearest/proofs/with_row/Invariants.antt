use mathlib.Core.Path.{◌≡◌}
use Rattle.nearest.specs.Search.{nearest_of}
use Rattle.nearest.proofs.with_row.Given as goal

abbrev pub invariant-loop-label : goal.invariant-loop-label
invariant-loop-label l = l.nearest ≡ nearest_of l.i l.q l.label
