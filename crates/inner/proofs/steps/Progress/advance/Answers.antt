use mathlib.Core.Path.{◌≡◌, ap, ◌∙◌}
use Prim.Native.Nat.{ℕ, ◌+◌, ◌*◌, ◌≤◌, ◌<◌, min}
use native.Mathlib.Omega.{arith}
use lib.ListN.{length}
use Rattle.acm.specs.Formats.{M}
use Rattle.trellis.specs.Trellis.{State, ends}
use Rattle.interleaver.specs.Walk.{InColumn}
use Rattle.interleaver.proofs.Walks.{walked_row, in_column}
use Rattle.coder.specs.Coder.{state_in}
use Rattle.inner.specs.Left.{reads}
use Rattle.inner.specs.Lent.{π_of}
use Rattle.inner.proofs.Reading.{end_later}
use Rattle.inner.proofs.steps.Progress.advance.Goals.{After-stop-end, In-loop-at}
use Rattle.inner.proofs.steps.Progress.advance.Goals as goal

-- in a turn the walk stands inside the interleaver
module _ (t : In-loop-at) where
  abbrev W : ℕ
  W = length t.args.parameters.now.permutation.alpha.now

  inside : t.loop-at.at.walk.position.0 < M * W
  inside = omega (arith, t.loop-at-test.true, t.requires.stands.2, t.args.parameters.now.size)

  column : InColumn W t.loop-at.at.walk
  column = in_column W t.loop-at.at.walk t.loop-at.invariant.1.walked inside

  -- and a row of its column is left
  row_left : t.loop-at.at.walk.position.0 < W * (t.loop-at.at.walk.column + 1)
  row_left = omega (arith, column.position-is, walked_row W t.loop-at.at.walk t.loop-at.invariant.1.walked inside)

-- where the stretch ends
module _ (e : After-stop-end) (left : e.loop-at.at.walk.position.0 < length e.args.parameters.now.permutation.alpha.now * (e.loop-at.at.walk.column + 1)) where
  stops : e.stop-end.result ≡ min (length e.args.parameters.now.permutation.alpha.now * (e.loop-at.at.walk.column + 1)) e.args.to
  stops = rw e.rows.ensures at e.stop-end.ensures

  further : e.loop-at.at.walk.position.0 < e.stop-end.result
  further = omega (arith, left, e.loop-at-test.true, stops)

  end : e.stop-end.result ≤ e.args.to
  end = omega (arith, stops)

pub stop-end-requires : goal.stop-end-requires
stop-end-requires c =
    let t = (goal.at.stop-end-requires c).In-loop-at in
    let narrow = c.args.parameters.now.permutation.ranges.narrow in
    rw c.rows.ensures (column t, omega (arith, inside t, narrow), narrow)

pub stretch-at-requires-clause-stands : goal.stretch-at-requires-clause-stands
stretch-at-requires-clause-stands c =
    let e = (goal.at.stretch-at-requires-clause-stands c).After-stop-end in
    let left = row_left (goal.at.stretch-at-requires-clause-stands c).In-loop-at in (
      c.loop-at.invariant.1,
      further e left,
      omega (arith, end e left, c.requires.stands.2),
      omega (arith, stops e left),
    )

pub loop-at-smaller : goal.loop-at-smaller
loop-at-smaller c =
    let e = (goal.at.loop-at-smaller c).After-stop-end in
    let left = row_left (goal.at.loop-at-smaller c).In-loop-at in
    omega (arith, further e left, end e left, c.stretch-at.ensures.stands_2.1)

pub loop-at-preserved : goal.loop-at-preserved
loop-at-preserved c =
    let x = c.args in
    let ρ = π_of x.parameters.now in
    let work = x.work.now in
    let from = c.loop-at.at in
    let i = c.loop-at.invariant in
    let to = c.stop-end.result in
    let e = (goal.at.loop-at-preserved c).After-stop-end in
    let left = row_left (goal.at.loop-at-preserved c).In-loop-at in
    let m = c.stretch-at.ensures in (
      omega (arith, m.stands_2.1, end e left),
      m.stands_2.0,
      c.stretch-at.auto.out ∙ i.2,
      m.out_after ∙ i.3,
      ap (λ (y : State). ends y (reads ρ work x.to c.stretch-at.result.walk.position.0)) m.state_value
          ∙ ap (λ (k : ℕ). ends (ends (state_in from.coder) (reads ρ work to from.walk.position.0)) (reads ρ work x.to k)) m.stands_2.1
          ∙ end_later ρ work x.to from.walk.position.0 to (state_in from.coder) (omega (arith, further e left)) (end e left) ∙ i.4,
    )
