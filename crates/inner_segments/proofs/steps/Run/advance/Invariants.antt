-- At each position, the walk's row and column are right, and the run over the bits yet to be read ends where the whole run ends.
use mathlib.Core.Path.{◌≡◌}
use Prim.Native.Nat.{◌-◌, ◌≤◌}
use lib.ListN.{length}
use Rattle.trellis.specs.Trellis.{ends}
use Rattle.interleaver.specs.Walk.{Walked}
use Rattle.inner.specs.Left.{reads}
use Rattle.inner.specs.Lent.{π_of}
use Rattle.inner_segments.proofs.steps.Run.advance.Given as goal

abbrev pub invariant-loop-walk : goal.invariant-loop-walk
invariant-loop-walk l =
    let p = l.parameters in
    let ρ = π_of p in
    (l.walk.position.0 ≤ l.to) × Walked (length p.permutation.alpha.now) l.walk
    × (ends l.state (reads ρ l.work l.to l.walk.position.0) ≡ ends l.initial.state (reads ρ l.work l.to l.initial.walk.position.0))

abbrev pub decreases-loop-walk : goal.decreases-loop-walk
decreases-loop-walk l = l.to - l.walk.position.0
