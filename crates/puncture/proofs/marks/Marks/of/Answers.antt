use lib.ListN.{length-replicate}
use Prim.Native.Nat.{ℕ}
use Rattle.puncture.proofs.Slots.{filled-start, filled-on, filled-spread}
use Rattle.puncture.proofs.marks.Marks.of.Goals as goal

pub loop-position-init : goal.loop-position-init
loop-position-init c = filled-start c.args.survivors _ (length-replicate {A = ℕ} 512 0)

pub loop-position-preserved : goal.loop-position-preserved
loop-position-preserved c =
    rw (c.slot.ensures, c.pattern-pattern.ensures) (filled-on c.args.survivors c.loop-position.slots c.loop-position.position c.loop-position-test.true c.loop-position.invariant)

pub invariant_of-result : goal.invariant_of-result
invariant_of-result c =
    record { spread = filled-spread c.args.survivors c.loop-position.slots c.loop-position.position c.loop-position-test.false c.loop-position.invariant }
