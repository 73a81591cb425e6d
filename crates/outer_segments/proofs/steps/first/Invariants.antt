-- At each segment, the ends that are left to store are those of the segments from it on.
use lib.ListN.{length}
use Rattle.std.specs.Iterator.Adapters.{enumerate_source, enumerate_count}
use Rattle.cuts.proofs.Segments.{Ahead}
use Rattle.cuts.proofs.Sixteen.{Ending}
use Rattle.outer_segments.proofs.steps.first.Given as goal

abbrev pub invariant-loop-j : goal.invariant-loop-j
invariant-loop-j l =
    let ends = enumerate_source l.j-iterator in record {
      ahead : Ahead (length l.block) l.from ends;
      ending : Ending l.cuts l.block l.from (enumerate_count l.j-iterator) ends l.ended;
    }
