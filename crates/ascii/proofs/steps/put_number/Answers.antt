use Rattle.std.proofs.Common.{◌∷◌, [], sym}
use Rattle.bits.proofs.Fill.{sets-append}
use Rattle.ascii.specs.Text.{decimal}
use Rattle.ascii.proofs.steps.put_number.Goals as goal

pub returns-clause-out_after : goal.returns-clause-out_after
returns-clause-out_after c =
    let put = c.put_decimal-end.ensures in
    rw (put.out_after, put.value) (sym (sets-append c.args.out.now c.args.at (decimal c.args.n) (c.args.follows ∷ [])))
