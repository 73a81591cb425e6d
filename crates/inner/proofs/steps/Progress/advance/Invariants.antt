-- A stretch goes on past where the last one ended, and leaves the completed output as it was.
use mathlib.Core.Path.{◌≡◌}
use Prim.Native.Nat.{◌-◌, ◌≤◌}
use lib.ListN.{length}
use Rattle.trellis.specs.Trellis.{ends}
use Rattle.coder.specs.Coder.{state_in}
use Rattle.inner.specs.Left.{reads}
use Rattle.inner.specs.Lent.{π_of, Stands, completes}
use Rattle.inner.proofs.steps.Progress.advance.Given as goal

abbrev pub invariant-loop-at : goal.invariant-loop-at
invariant-loop-at l =
    let p = l.parameters in
    let i = l.at.walk.position.0 in
    let from = l.initial in
    (i ≤ l.to) × Stands p l.work l.at × (length l.out ≡ length from.out)
    × (completes p l.work l.at l.out ≡ completes p l.work from.at from.out)
    × (ends (state_in l.at.coder) (reads (π_of p) l.work l.to i) ≡ ends (state_in from.at.coder) (reads (π_of p) l.work l.to from.at.walk.position.0))

abbrev pub decreases-loop-at : goal.decreases-loop-at
decreases-loop-at l = l.to - l.at.walk.position.0
