-- At each cut, the starting states that are left to store are those worked out from the present one on, of the cuts and end states that are left.
use Rattle.std.proofs.Common.{◌≡◌, true, ◌+◌, ◌≤◌, length, replicate}
use Rattle.std.specs.Slice.Iter.{iter_rest}
use Rattle.std.specs.Iterator.Adapters.{zip_first, zip_second, enumerate_source, enumerate_count}
use Rattle.bits.proofs.Fill.{Left}
use Rattle.cuts.specs.Cuts.{most_cuts, most_segments, rises_from}
use Rattle.cuts.specs.Propagation.{worked_from, worked_out}
use Rattle.cuts.proofs.steps.starts.Given as goal

abbrev pub invariant-loop-j : goal.invariant-loop-j
invariant-loop-j l =
    let cuts = iter_rest (zip_first (enumerate_source l.j-iterator)) in
    let ends = iter_rest (zip_second (enumerate_source l.j-iterator)) in record {
      rises : rises_from l.from cuts ≡ true;
      few : enumerate_count l.j-iterator + length cuts ≤ most_cuts;
      left : Left (replicate most_segments 0) 0 (worked_out l.cuts l.ended) l.started (enumerate_count l.j-iterator + 1) (worked_from l.state l.from cuts ends);
    }
