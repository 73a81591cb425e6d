-- The positions so far have their marks.
use Rattle.puncture.proofs.Slots.{Filled}
use Rattle.puncture.proofs.marks.Marks.of.Given as goal

abbrev pub invariant-loop-position : goal.invariant-loop-position
invariant-loop-position l = Filled l.fn.survivors l.slots l.position
