use native.Mathlib.Omega.{arith}
use Rattle.acm.proofs.Laws.{format-sound}
use Rattle.puncture.proofs.steps.RateMatching.of.Goals as goal

pub invariant_of-result : goal.invariant_of-result
invariant_of-result c =
    rw c.record-record.ensures (record { deletes = omega (arith, (format-sound c.args.format.number c.args.format.listed).deletes) })
