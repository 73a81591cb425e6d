-- At each segment, the pass is the plain run, which is in the segment's starting state: setting it there changes nothing.
use Rattle.std.specs.Slice.Iter.{iter_rest}
use Rattle.std.specs.Iterator.Adapters.{zip_first, zip_second}
use Rattle.inner.specs.Lent.{π_of}
use Rattle.inner.specs.Registers.{interleaved}
use Rattle.cuts.proofs.Segments.{Ahead}
use Rattle.cuts.proofs.Sixteen.{Starting}
use Rattle.inner_segments.proofs.Passes.{Along}
use Rattle.inner_segments.proofs.steps.second.Given as goal

abbrev pub invariant-loop-to : goal.invariant-loop-to
invariant-loop-to l =
    let p = l.parameters in
    let ends = zip_first l.to-iterator in
    let from = l.at.walk.position.0 in record {
      ahead : Ahead p.figures.i from ends;
      starting : Starting (interleaved p.figures (π_of p) l.work) from ends (iter_rest (zip_second l.to-iterator));
      along : Along p l.work l.initial.out l.initial.at l.out l.at;
    }
