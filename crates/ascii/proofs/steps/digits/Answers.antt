use mathlib.Core.Path.{◌∙◌, ap}
use Prim.Native.Nat.{ℕ, ◌+◌}
use Rattle.ascii.proofs.Decimal.{length-log}
use Rattle.ascii.proofs.steps.digits.Goals as goal

pub returns : goal.returns
returns c =
    let log = c.checked_ilog10.ensures in
    ap (λ (k : ℕ). k + 1) c.unwrap_or.ensures ∙ length-log _ _ log.none log.power_le log.next_power_gt
