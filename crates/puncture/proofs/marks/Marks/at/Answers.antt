use Prim.Native.Nat.{◌%◌}
use Rattle.puncture.proofs.Zeroed.{pattern-low}
use Rattle.puncture.proofs.marks.Marks.at.Goals as goal

pub returns-clause-low : goal.returns-clause-low
returns-clause-low c =
    rw (c.slot.ensures, c.args.self.now.spread.mark c.args.position c.requires) (pattern-low c.args.self.now.survivors (c.args.position % 300))
