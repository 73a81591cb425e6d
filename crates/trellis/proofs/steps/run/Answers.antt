use Rattle.std.proofs.Common.{◌≡◌, ℕ, ◌≤◌, ap, ◌∙◌, ◌++◌, [], length, drop, arith}
use lib.ListN.{drop_of_length-le}
use Rattle.bits.proofs.Fill.{left_as, left_end}
use Rattle.trellis.specs.Trellis.{run}
use Rattle.trellis.proofs.Runs.{run_length}
use Rattle.trellis.proofs.steps.run.Goals as goal

pub returns-clause-out_after : goal.returns-clause-out_after
returns-clause-out_after c =
    let x = c.args.from in
    let b = c.args.bits.now in
    let long = run_length x b in
    let end : length b ≤ c.loop-i.i = omega arith in
    let none : run c.loop-i.state (drop c.loop-i.i b) ≡ [] = rw (drop_of_length-le b end) in
    left_end (omega (arith, long, c.requires)) (left_as none c.loop-i.invariant.1) ∙ ap (λ (n : ℕ). run x b ++ drop n c.args.out.now) long
