-- At each segment, the steps before it have stored their kept bits, and the trellis is in the state that the plain run has there.
use mathlib.Core.Path.{◌≡◌}
use lib.ListN.{length, take}
use Rattle.std.specs.Slice.Iter.{iter_rest}
use Rattle.std.specs.Iterator.Adapters.{zip_first, zip_second}
use Rattle.trellis.specs.Trellis.{zero-state, ends}
use Rattle.cuts.proofs.Segments.{Ahead}
use Rattle.cuts.proofs.Sixteen.{Starting}
use Rattle.outer_segments.proofs.Kept.{Stored}
use Rattle.outer_segments.proofs.steps.second.Given as goal

abbrev pub invariant-loop-to : goal.invariant-loop-to
invariant-loop-to l = record {
  ahead : Ahead (length l.block) l.from (zip_first l.to-iterator);
  starting : Starting l.block l.from (zip_first l.to-iterator) (iter_rest (zip_second l.to-iterator));
  last : l.last ≡ ends zero-state (take l.from l.block);
  stored : Stored l.block l.initial.work l.from l.work;
}
