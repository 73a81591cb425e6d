use mathlib.Core.Path.{◌≡◌}
use Prim.Native.Nat.{◌*◌}
use Rattle.nearest.specs.Search.{nearest_of, row}
use Rattle.nearest.proofs.label.Given as goal

abbrev pub invariant-loop-k : goal.invariant-loop-k
invariant-loop-k l = l.nearest ≡ nearest_of l.i l.q (row * l.k)
