use mathlib.Core.Path.{◌≡◌, ap, ◌∙◌}
use Prim.Native.Nat.{ℕ, ◌+◌, ◌-◌}
use native.Mathlib.Omega.{arith}
use lib.ListN.{length}
use lib.Seq.{sets}
use Rattle.ascii.specs.Text.{decimal}
use Rattle.ascii.proofs.Decimal.{last_digits, last_digits-all}
use Rattle.ascii.proofs.Stores.{decimal-turn}
use Rattle.ascii.proofs.steps.put_decimal.Goals as goal

pub loop-i-init : goal.loop-i-init
loop-i-init c =
    let a = c.args in
    let all : a.at + c.digits.result - a.at ≡ length (decimal a.n) = omega (arith, c.digits.ensures) in
    ap (λ (k : ℕ). sets a.out.now a.at (last_digits k a.n)) all ∙ rw (last_digits-all a.n)

pub loop-i-preserved : goal.loop-i-preserved
loop-i-preserved c =
    let l = c.loop-i in
    let at = c.args.at in
    decimal-turn l.out at (l.i - 1) l.rest (l.i - 1 - at) (l.i - at) (omega arith) (omega arith) ∙ l.invariant
