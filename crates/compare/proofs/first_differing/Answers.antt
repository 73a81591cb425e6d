use mathlib.Core.Path.{◌∙◌}
use native.Mathlib.Omega.{arith}
use Rattle.compare.proofs.Places.{same-here, other-here, none-left}
use Rattle.compare.proofs.first_differing.Goals as goal

pub loop-i-preserved : goal.loop-i-preserved
loop-i-preserved c =
    let (place, count) = same-here c.args.a.now c.args.b.now c.loop-i.i (omega arith) (omega arith) c.if-a-i-2.false in
    (omega arith, omega (arith, place), c.loop-i.invariant.2 ∙ count)

pub returns-then-a-i : goal.returns-then-a-i
returns-then-a-i c = c.loop-i.invariant.2 ∙ none-left c.args.a.now c.args.b.now c.loop-i.i (omega arith)

pub returns-then-a-i-2 : goal.returns-then-a-i-2
returns-then-a-i-2 c = (omega (arith, other-here c.args.a.now c.args.b.now c.loop-i.i (omega arith) (omega arith) c.if-a-i-2.true), omega arith)
