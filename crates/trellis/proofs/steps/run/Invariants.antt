-- At i, the run from the present state over the rest of the bits is what is left to store, and ends where the whole run ends.
use Rattle.std.proofs.Common.{◌≡◌, ◌*◌, drop}
use Rattle.bits.proofs.Fill.{Left}
use Rattle.trellis.specs.Trellis.{run, ends}
use Rattle.trellis.proofs.steps.run.Given as goal

abbrev pub invariant-loop-i : goal.invariant-loop-i
invariant-loop-i l =
    (ends l.state (drop l.i l.bits) ≡ ends l.fn.from l.bits) × Left l.initial.out 0 (run l.fn.from l.bits) l.out (2 * l.i) (run l.state (drop l.i l.bits))
