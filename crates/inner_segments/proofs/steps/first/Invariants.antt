-- At each segment, the ends that are left to store are those of the segments from it on.
use lib.ListN.{length}
use Rattle.std.specs.Iterator.Adapters.{enumerate_source, enumerate_count}
use Rattle.interleaver.specs.Walk.{Walked}
use Rattle.inner.specs.Lent.{π_of}
use Rattle.inner.specs.Registers.{interleaved}
use Rattle.cuts.proofs.Segments.{Ahead}
use Rattle.cuts.proofs.Sixteen.{Ending}
use Rattle.inner_segments.proofs.steps.first.Given as goal

abbrev pub invariant-loop-j : goal.invariant-loop-j
invariant-loop-j l =
    let p = l.parameters in
    let ends = enumerate_source l.j-iterator in
    let from = l.walk.position.0 in record {
      ahead : Ahead p.figures.i from ends;
      walked : Walked (length p.permutation.alpha.now) l.walk;
      ending : Ending l.cuts (interleaved p.figures (π_of p) l.work) from (enumerate_count l.j-iterator) ends l.ended;
    }
