-- Before each turn the banks before it have their multiples, and `multiple` is the next.
use mathlib.Core.Path.{◌≡◌}
use Prim.Native.Nat.{◌*◌, ◌%◌}
use Rattle.interleaver.proofs.Tables.{Filled}
use Rattle.interleaver.proofs.steps.multiples.Given as goal

abbrev pub invariant-loop-entry : goal.invariant-loop-entry
invariant-loop-entry l = (l.multiple ≡ l.w * l.entry-index % l.period) × Filled l.w l.period l.entry-items l.entry-index
