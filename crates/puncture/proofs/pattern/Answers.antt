-- The positions lent are the first 300 - S of table 4-2, or all of them where there are no more.
use mathlib.Core.Path.{ap, ◌∙◌}
use mathlib.Core.List.{List}
use Prim.Native.Nat.{ℕ, ◌-◌}
use native.Mathlib.Omega.{arith}
use lib.ListN.{replicate, take}
use Rattle.puncture.specs.Puncture.{period, zeroed, pattern}
use Rattle.puncture.specs.Table42.{positions}
use Rattle.puncture.proofs.Positions.{front_low, front-most}
use Rattle.puncture.proofs.pattern.Goals as goal

pub zero_at-requires : goal.zero_at-requires
unfolding positions
zero_at-requires c = front_low c.zeros-count.result (omega arith)

pub returns : goal.returns
unfolding pattern positions
returns c =
    let ones : List ℕ = replicate period 1 in
    c.zero_at.ensures
    ∙ ap (λ (n : ℕ). zeroed ones (take n positions)) c.zeros-count.ensures
    ∙ ap (zeroed ones) (front-most (period - c.args.survivors))
