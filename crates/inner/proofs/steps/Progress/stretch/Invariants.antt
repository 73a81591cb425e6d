-- At each position the walk's row and column are right, and what is left to store are the registers of the bits that are yet to be read.
use mathlib.Core.Path.{◌≡◌}
use Prim.Native.Nat.{◌-◌, ◌≤◌, ◌<◌}
use lib.ListN.{length}
use Rattle.trellis.specs.Trellis.{ends}
use Rattle.interleaver.specs.Walk.{InColumn}
use Rattle.coder.specs.Coder.{state_in}
use Rattle.inner.specs.Left.{reads, completed}
use Rattle.inner.specs.Lent.{π_of}
use Rattle.inner.proofs.Turns.{Going}
use Rattle.inner.proofs.steps.Progress.stretch.Given as goal

abbrev pub invariant-loop-walk : goal.invariant-loop-walk
invariant-loop-walk l =
    let p = l.parameters in
    let ρ = π_of p in
    let i = l.walk.position.0 in
    let from = l.initial in
    (i ≤ l.to) × InColumn (length p.permutation.alpha.now) l.walk × (l.walk.column ≡ from.walk.column) × (l.coder.counter < p.figures.i)
    × Going p.figures ρ l.work (length from.out) (completed p.figures ρ l.work from.walk.position.0 from.coder from.out) l.out i l.coder
    × (ends (state_in l.coder) (reads ρ l.work l.to i) ≡ ends (state_in from.coder) (reads ρ l.work l.to from.walk.position.0))

abbrev pub decreases-loop-walk : goal.decreases-loop-walk
decreases-loop-walk l = l.to - l.walk.position.0
