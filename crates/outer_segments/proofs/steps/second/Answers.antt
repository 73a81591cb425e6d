use Rattle.std.proofs.Common.{◌≡◌, ℕ, ◌∙◌, refl, ap, length, take}
use Rattle.std.specs.Iterator.Adapters.{zip_first, zip_second}
use Rattle.std.specs.Slice.Iter.{iter_rest}
use lib.Seq.{take-length}
use Rattle.trellis.specs.Trellis.{State, zero-state, ends}
use Rattle.cuts.specs.Cuts.{stops, between}
use Rattle.cuts.proofs.Propagations.{ends-between}
use Rattle.cuts.proofs.Segments.{ahead_start, ahead_up, ahead_low, ahead_next, ahead-end}
use Rattle.cuts.proofs.Sixteen.{starting_start, starting_state, starting_on, starting-end}
use Rattle.outer_segments.proofs.Kept.{stored_start, stored_next, stored-end}
use Rattle.outer_segments.proofs.steps.second.Goals as goal

pub loop-to-init : goal.loop-to-init
loop-to-init c =
    let all : zip_first c.into_iter-to-iterator.result ≡ stops (length c.args.block.now) c.args.cuts.now = cc in
    let starts : iter_rest (zip_second c.into_iter-to-iterator.result) ≡ c.args.started.now = cc in
    rw (all, starts) (record {
      ahead = ahead_start c.requires.cuts.0;
      starting = starting_start (length c.args.block.now) c.args.cuts.now c.args.block.now c.requires.cuts.1;
      last = refl;
      stored = stored_start c.args.block.now c.args.work.now;
    })

pub loop-to-preserved : goal.loop-to-preserved
loop-to-preserved c =
    let (is, first) = c.in-Some.ensures.steps in
    let i = c.loop-to.invariant in
    let begins = c.from_low_bits.ensures ∙ starting_state i.starting is first in
    let up = ahead_up i.ahead is in
    let s = c.segment-last.ensures in
    record {
      ahead = ahead_next i.ahead is;
      starting = starting_on i.starting is first;
      last =
          s.value ∙ ap (λ (x : State). ends x (between c.loop-to.from c.in-Some.to c.args.block.now)) begins
          ∙ ends-between c.args.block.now c.loop-to.from c.in-Some.to up;
      stored = stored_next c.args.block.now c.loop-to.from c.in-Some.to i.stored up (ahead_low i.ahead is) begins s.work_after;
    }

pub returns : goal.returns
returns c =
    let i = c.loop-to.invariant in
    let block = c.args.block.now in
    let all = ahead-end i.ahead (starting-end _ c.next.new.self i.starting c.in-None.ensures.steps) in
    record {
      value = i.last ∙ ap (λ (n : ℕ). ends zero-state (take n block)) all ∙ ap (ends zero-state) (take-length block);
      work_after = stored-end all i.stored;
    }
