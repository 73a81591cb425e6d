use Prim.Native.Nat.{◌≤◌, ◌<◌}
use native.Mathlib.Omega.{arith}
use lib.ListN.{get_or}
use Rattle.samples.proofs.DigitTable.{digit_missing, digit_there, values}
use Rattle.samples.proofs.steps.digit.Goals as goal

pub returns-then-value-lt16 : goal.returns-then-value-lt16
unfolding values
returns-then-value-lt16 c =
    let low : get_or values c.args.b 0 < 16 = rw c.from.ensures at c.if-value-lt16.true in
    rw c.from.ensures (digit_there c.args.b (omega (arith, c.ranges.b)) low)

pub returns-else-value-lt16 : goal.returns-else-value-lt16
unfolding values
returns-else-value-lt16 c =
    let high : 16 ≤ get_or values c.args.b 0 = rw c.from.ensures at c.if-value-lt16.false in
    digit_missing c.args.b (omega (arith, c.ranges.b)) high
