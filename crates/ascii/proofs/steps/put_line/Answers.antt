use Rattle.ascii.proofs.Stores.{line-turn}
use Rattle.ascii.proofs.steps.put_line.Goals as goal

pub loop-n-preserved : goal.loop-n-preserved
loop-n-preserved c =
    let put = c.put_number-end.ensures in
    line-turn _ _ _ c.loop-n.invariant c.loop-n-test.true put.out_after put.value
