-- At each position what is left to store are the registers of the bits that are yet to be read: the loop's law is the plain encoder's.
use Prim.Native.Nat.{◌<◌}
use lib.ListN.{length}
use Rattle.acm.specs.Formats.{format_of}
use Rattle.interleaver.specs.Interleaver.{π}
use Rattle.inner.specs.Left.{starting, completed}
use Rattle.inner.proofs.Turns.{Going}
use Rattle.inner_expanded.proofs.steps.run.Given as goal

abbrev pub invariant-loop-i : goal.invariant-loop-i
invariant-loop-i l =
    let r = format_of l.expanded.format.number in
    (l.coder.counter < r.i) × Going r (π l.expanded.format.number) l.work (length l.initial.out) (completed r (π l.expanded.format.number) l.work 0 (starting r) l.initial.out) l.out l.i l.coder
