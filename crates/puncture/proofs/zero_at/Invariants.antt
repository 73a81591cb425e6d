-- Writing 0 at the positions that are left gives what writing 0 at all of them gives at the start.
use mathlib.Core.Path.{◌≡◌}
use lib.ListN.{drop}
use Rattle.puncture.specs.Puncture.{zeroed}
use Rattle.puncture.proofs.zero_at.Given as goal

abbrev pub invariant-loop-p : goal.invariant-loop-p
invariant-loop-p l = zeroed l.out (drop l.p-index l.positions) ≡ zeroed l.initial.out l.positions
