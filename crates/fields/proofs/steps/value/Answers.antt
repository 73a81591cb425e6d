use Prim.Native.Nat.{◌^◌, ◌≤◌, ◌<◌}
use native.Mathlib.Omega.{arith}
use lib.ListN.{get_or, drop}
use Rattle.ascii.specs.Text.{zero_digit, nine_digit}
use Rattle.fields.specs.Fields.{most_digits}
use Rattle.fields.proofs.Numbers.{value_grows, value-bound, digits-at}
use Rattle.fields.proofs.steps.value.Goals.{In-loop-digit}
use Rattle.fields.proofs.steps.value.Goals as goal

low : (c : In-loop-digit) → c.loop-digit.n < 10 ^ most_digits
low c =
    let digits = c.args.digits.now in
    let l = c.loop-digit in
    omega (arith, value_grows l.n (drop l.digit-index digits), l.invariant, value-bound most_digits digits c.requires.0 c.requires.1)

digit-of : (c : In-loop-digit) → (let b = get_or c.args.digits.now c.loop-digit.digit-index 0 in (zero_digit ≤ b) × (b ≤ nine_digit))
digit-of c = digits-at _ c.requires.1 _ c.loop-digit-test.true

pub overflow_mul-n : goal.overflow_mul-n
overflow_mul-n c = omega (arith, low (goal.at.overflow_mul-n c).In-loop-digit)

pub overflow_sub-digit : goal.overflow_sub-digit
overflow_sub-digit c = omega (arith, (digit-of (goal.at.overflow_sub-digit c).In-loop-digit).0)

pub overflow_add-n : goal.overflow_add-n
overflow_add-n c = omega (arith, c.from.ensures, low (goal.at.overflow_add-n c).In-loop-digit, (digit-of (goal.at.overflow_add-n c).In-loop-digit).1)
