use mathlib.Core.Path.{◌≡◌, ap, ◌∙◌}
use Prim.Native.Nat.{◌+◌}
use native.Mathlib.Omega.{arith}
use Rattle.nearest.specs.Nearest.{distance as distance_of}
use Rattle.nearest.specs.Search.{row}
use Rattle.nearest.proofs.Turns.{found_all, found_next}
use Rattle.nearest.proofs.has_nearer.Goals as goal

pub loop-label-preserved : goal.loop-label-preserved
loop-label-preserved c =
    let new = c.distance.ensures ∙ ap (distance_of c.args.i c.args.q) c.of.ensures in
    rw new (found_next c.args.i c.args.q c.args.least c.args.first c.loop-label.label c.loop-label.nearer c.loop-label-test.true c.loop-label.invariant)

pub returns : goal.returns
returns c =
    let last : c.loop-label.label ≡ c.args.first + row = omega arith in
    found_all c.args.i c.args.q c.args.least c.args.first c.loop-label.nearer (rw last at c.loop-label.invariant)
