-- The sum so far and the rows from i on make the whole sum.
use mathlib.Core.Path.{◌≡◌}
use Rattle.header.proofs.Descriptor.{rows_left}
use Rattle.header.proofs.steps.add_rows.Given as goal

abbrev pub invariant-loop-i : goal.invariant-loop-i
invariant-loop-i l = rows_left l.bits l.rows l.i l.word ≡ rows_left l.bits l.rows 0 0
