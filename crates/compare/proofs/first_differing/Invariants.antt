-- No place before i differs: the first that does, and all that do, are those from i on.
use mathlib.Core.Path.{◌≡◌}
use Prim.Native.Nat.{◌+◌, ◌-◌, ◌≤◌}
use lib.ListN.{length, drop}
use Rattle.compare.specs.Comparison.{differing, first_place}
use Rattle.compare.proofs.first_differing.Given as goal

abbrev pub invariant-loop-i : goal.invariant-loop-i
invariant-loop-i l =
    (l.i ≤ length l.a) × (first_place l.a l.b ≡ l.i + first_place (drop l.i l.a) (drop l.i l.b))
    × (differing l.a l.b ≡ differing (drop l.i l.a) (drop l.i l.b))

abbrev pub decreases-loop-i : goal.decreases-loop-i
decreases-loop-i l = length l.a - l.i
