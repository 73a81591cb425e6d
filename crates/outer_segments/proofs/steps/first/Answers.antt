use Rattle.std.proofs.Common.{◌≡◌, refl, length}
use Rattle.std.specs.Iterator.Adapters.{enumerate_source, enumerate_count}
use Rattle.cuts.specs.Cuts.{stops}
use Rattle.cuts.proofs.Segments.{ahead_start, cuts_few}
use Rattle.cuts.proofs.Sixteen.{ending_start, ending_room, ending-end}
use Rattle.outer_segments.proofs.steps.first.Goals as goal

pub loop-j-init : goal.loop-j-init
loop-j-init c =
    let all : enumerate_source c.into_iter-j-iterator.result ≡ stops (length c.args.block.now) c.args.cuts.now = cc in
    let none : enumerate_count c.into_iter-j-iterator.result ≡ 0 = cc in
    rw (all, none) (record { ahead = ahead_start c.requires; ending = ending_start c.args.cuts.now c.args.block.now refl })

pub bounds-ended-j : goal.bounds-ended-j
bounds-ended-j c = rw c.in-Some.ensures.steps.1 (ending_room c.loop-j.invariant.ending (cuts_few c.requires) c.in-Some.ensures.steps.0)

pub returns : goal.returns
returns c = ending-end c.loop-j.invariant.ending (cuts_few c.requires) c.in-None.ensures.steps.0.0
