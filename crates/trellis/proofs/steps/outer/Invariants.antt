-- At i, what is left to store are the kept bits of the run from the present state over the rest of the pairs.
use Rattle.std.proofs.Common.{◌*◌, drop}
use Rattle.bits.proofs.Fill.{Left}
use Rattle.trellis.specs.Trellis.{outer, outer_from}
use Rattle.trellis.proofs.steps.outer.Given as goal

abbrev pub invariant-loop-i : goal.invariant-loop-i
invariant-loop-i l =
    Left l.initial.work 0 (outer l.block) l.work (3 * l.i) (outer_from l.state (drop (2 * l.i) l.block))
