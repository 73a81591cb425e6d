-- A column is stored behind those before it.
use Prim.Native.Nat.{◌-◌}
use native.Mathlib.Nat.{mul-le-mul_left}
use native.Mathlib.Omega.{arith}
use lib.ListN.{length}
use Rattle.acm.specs.Formats.{M}
use Rattle.expansion.proofs.Entries.{column_behind}
use Rattle.expansion.proofs.steps.write.Goals as goal

pub loop-column-preserved : goal.loop-column-preserved
loop-column-preserved c =
    let W = length c.args.permutation.now.alpha.now in
    let column = c.loop-column.column in
    let last = mul-le-mul_left {m = column} {n = M - 1} W (omega arith) in
    rw (c.rows-rows.ensures, c.write_column.ensures) (
    column_behind _ W c.args.memory.now column (omega (arith, last, c.requires, c.loop-column.auto.memory)) c.loop-column.invariant
    )
