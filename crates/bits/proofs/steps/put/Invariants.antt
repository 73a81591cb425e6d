-- After i labels, the first i elements are the list's, and those behind them are as they were.
use Rattle.std.proofs.Common.{◌≡◌, ◌++◌, take, drop}
use Rattle.bits.proofs.steps.put.Given as goal

abbrev pub invariant-loop-i : goal.invariant-loop-i
invariant-loop-i l = l.out ≡ take l.i l.list ++ drop l.i l.initial.out
