-- After k steps, what is left to store are the kept bits of the rest, from the present state and the step i + k on.
use Rattle.std.proofs.Common.{◌≡◌, ◌+◌, drop}
use Rattle.bits.proofs.Fill.{Left}
use Rattle.trellis.specs.Trellis.{ends}
use Rattle.outer_segments.specs.Kept.{kept_from, kept_before}
use Rattle.outer_segments.proofs.steps.segment.Given as goal

abbrev pub invariant-loop-k : goal.invariant-loop-k
invariant-loop-k l = record {
  goes : ends l.state (drop l.k l.bits) ≡ ends l.fn.from l.bits;
  left : Left l.initial.work (kept_before l.i) (kept_from l.i l.fn.from l.bits) l.work (kept_before (l.i + l.k)) (kept_from (l.i + l.k) l.state (drop l.k l.bits));
}
