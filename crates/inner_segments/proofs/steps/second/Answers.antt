use mathlib.Core.Path.{◌≡◌, sym, subst, ◌∙◌}
use Prim.Native.Nat.{◌≤◌}
use native.Mathlib.Omega.{arith}
use Rattle.std.specs.Slice.Iter.{iter_rest}
use Rattle.std.specs.Iterator.Adapters.{zip_first, zip_second}
use Rattle.inner.specs.Lent.{Stands}
use Rattle.inner.specs.declared.steps.Progress.{Progress}
use Rattle.inner.proofs.Runs.{stands_start, completes_start, completes-end}
use Rattle.cuts.specs.Cuts.{stops}
use Rattle.cuts.proofs.Segments.{ahead_start, ahead_up, ahead_low, ahead_next, ahead-end}
use Rattle.cuts.proofs.Sixteen.{starting_start, starting_state, starting_on, starting-end}
use Rattle.inner_segments.proofs.Passes.{along_start, along_next, restarted-is}
use Rattle.inner_segments.proofs.steps.second.Goals.{After-restart-from}
use Rattle.inner_segments.proofs.steps.second.Goals as goal

-- the starting state of a turn's segment is the one that the trellis is in
same : (e : After-restart-from) → e.restart-from.result ≡ e.loop-to.at
same e =
    let (is, first) = e.in-Some.ensures.steps in
    let i = e.loop-to.invariant in
    e.restart-from.ensures ∙ restarted-is e.loop-to.at _ (e.from_low_bits.ensures ∙ starting_state i.starting is first ∙ sym i.along.state)

pub loop-to-init : goal.loop-to-init
loop-to-init c =
    let p = c.args.parameters.now in
    let cuts = c.args.cuts.now in
    let i = p.figures.i in
    let (coder, position, walked) = c.start-at.ensures in
    let all : zip_first c.into_iter-to-iterator.result ≡ stops i cuts = cc in
    let starts : iter_rest (zip_second c.into_iter-to-iterator.result) ≡ c.args.started.now = cc in
    record {
      ahead = rw (all, position) (ahead_start c.requires.cuts.0);
      starting = rw (all, starts, position) (starting_start i cuts _ c.requires.cuts.1);
      along = along_start (stands_start p c.args.work.now c.start-at.result c.requires.fits coder position (walked _)) coder position _;
    }

pub advance-at-requires-clause-stands : goal.advance-at-requires-clause-stands
advance-at-requires-clause-stands c =
    let p = c.args.parameters.now in
    let i = c.loop-to.invariant in
    let (is, _) = c.in-Some.ensures.steps in
    subst (λ (q : Progress). Stands p c.args.work.now q × (q.walk.position.0 ≤ c.in-Some.to) × (c.in-Some.to ≤ p.figures.i))
    (sym (same (goal.at.advance-at-requires-clause-stands c).After-restart-from)) (i.along.stands, ahead_up i.ahead is, ahead_low i.ahead is)

pub loop-to-preserved : goal.loop-to-preserved
loop-to-preserved c =
    let i = c.loop-to.invariant in
    let m = c.advance-at.ensures in
    let position = m.stands_2.1 in
    let (is, first) = c.in-Some.ensures.steps in
    record {
      ahead = rw position (ahead_next i.ahead is);
      starting = rw position (starting_on i.starting is first);
      along =
          along_next i.along c.in-Some.to (ahead_up i.ahead is) (ahead_low i.ahead is) (same (goal.at.loop-to-preserved c).After-restart-from)
          m.stands_2.0 position c.advance-at.auto.out m.out_after m.state_value;
    }

pub returns : goal.returns
returns c =
    let p = c.args.parameters.now in
    let work = c.args.work.now in
    let i = c.loop-to.invariant in
    let (coder, position, _) = c.start-at.ensures in
    let end = ahead-end i.ahead (starting-end _ c.next.new.self i.starting c.in-None.ensures.steps) in
    c.finish.ensures
    ∙ sym (completes-end p work c.loop-to.at i.along.stands (omega (arith, end)) _)
    ∙ i.along.completing
    ∙ completes_start p work c.start-at.result c.requires.fits coder position c.args.out.now
