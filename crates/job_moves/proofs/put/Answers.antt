-- The front goes to the front of the buffer and the end behind it, and there is room for both.
use Prim.Native.Nat.{◌≤◌}
use native.Mathlib.Omega.{arith}
use borrow.Author.Tests.{le-leb}
use lib.ListN.{length, length-append}
use Rattle.std.proofs.Common.{◌++◌}
use Rattle.ascii.proofs.Stores.{front_put}
use Rattle.job_moves.proofs.put.Goals as goal

pub returns-clause-out_after : goal.returns-clause-out_after
returns-clause-out_after c =
    let a = c.args in
    let there : length (a.front.now ++ a.end.now) ≤ length a.out.now = omega (arith, c.if-out-front.false, length-append a.front.now a.end.now) in
    let put = front_put a.out.now a.front.now a.end.now c.put-at.ensures.out_after c.put-at.ensures.value there c.put.ensures.out_after c.put.ensures.value in
    rw (le-leb _ _ there) put.1
