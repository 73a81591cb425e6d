use mathlib.Core.Path.{◌≡◌, ap, ◌∙◌}
use Rattle.std.specs.Iterator.Adapters.{enumerate_source, enumerate_count}
use Rattle.trellis.specs.Trellis.{zero-state, state_number, ends}
use Rattle.inner.specs.Lent.{π_of}
use Rattle.inner.proofs.Reading.{read_length}
use Rattle.cuts.specs.Cuts.{stops}
use Rattle.cuts.proofs.Segments.{ahead_start, ahead_up, ahead_low, ahead_next, cuts_few}
use Rattle.cuts.proofs.Sixteen.{ending_start, ending_room, ending_on, ending-end}
use Rattle.inner_segments.proofs.Passes.{reads-between}
use Rattle.inner_segments.proofs.steps.first.Goals.{Start}
use Rattle.inner_segments.proofs.steps.first.Goals as goal

pub loop-j-init : goal.loop-j-init
loop-j-init c =
    let p = c.args.parameters.now in
    let cuts = c.args.cuts.now in
    let i = p.figures.i in
    let (position, walked) = c.start-walk.ensures in
    let all : enumerate_source c.into_iter-j-iterator.result ≡ stops i cuts = cc in
    let none : enumerate_count c.into_iter-j-iterator.result ≡ 0 = cc in
    record {
      ahead = rw (all, position) (ahead_start c.requires.1);
      walked = walked _;
      ending = rw (all, none, position) (ending_start cuts _ (read_length (π_of p) c.args.work.now 0 i));
    }

pub bounds-ended-j : goal.bounds-ended-j
bounds-ended-j c = rw c.in-Some.ensures.steps.1 (ending_room c.loop-j.invariant.ending (cuts_few c.requires.1) c.in-Some.ensures.steps.0)

pub loop-j-preserved : goal.loop-j-preserved
loop-j-preserved c =
    let p = c.args.parameters.now in
    let i = c.loop-j.invariant in
    let (is, here, on, _) = c.in-Some.ensures.steps in
    let (walked, position) = c.advance-end.ensures.walked in
    let bits = reads-between (π_of p) c.args.work.now p.figures.i c.loop-j.walk.position.0 c.in-Some.to (ahead_up i.ahead is) (ahead_low i.ahead is) in
    let state = c.from.ensures ∙ ap state_number (c.advance-end.ensures.state_value ∙ ap (ends zero-state) bits) in
    record { ahead = rw position (ahead_next i.ahead is); walked = walked; ending = rw (position, here, on) (ending_on i.ending is state) }

pub returns : goal.returns
returns c = ending-end c.loop-j.invariant.ending (cuts_few c.requires.1) c.in-None.ensures.steps.0.0
