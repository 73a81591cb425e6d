use mathlib.Core.Path.{◌≡◌, sym, ap, ◌∙◌}
use Prim.Native.Nat.{ℕ, ◌+◌, ◌*◌, ◌<◌}
use native.Mathlib.Omega.{arith}
use lib.ListN.{length, get_or}
use Rattle.acm.specs.Formats.{M}
use Rattle.interleaver.specs.Walk.{InColumn}
use Rattle.interleaver.specs.declared.steps.Walk.{Walk}
use Rattle.interleaver.proofs.Walks.{walked_row, walked-column, in_column, in_column_down}
use Rattle.inner.specs.Lent.{π_of}
use Rattle.inner.proofs.Reading.{end-next}
use Rattle.inner.proofs.Runs.{position_low}
use Rattle.inner_segments.proofs.steps.Run.advance.Goals.{After-position_in-position, After-carry-walk, In-loop-walk}
use Rattle.inner_segments.proofs.steps.Run.advance.Goals as goal

-- in a turn, the position is inside the interleaver
module _ (t : In-loop-walk) where
  abbrev W : ℕ
  W = length t.args.parameters.now.permutation.alpha.now

  below : t.loop-walk.walk.position.0 < t.args.parameters.now.figures.i
  below = omega (arith, t.loop-walk-test.true, t.requires.2)

  inside : t.loop-walk.walk.position.0 < M * W
  inside = omega (arith, below, t.args.parameters.now.size)

  column : InColumn W t.loop-walk.walk
  column = in_column W t.loop-walk.walk t.loop-walk.invariant.1 inside

  row : t.loop-walk.walk.row < W
  row = walked_row W t.loop-walk.walk t.loop-walk.invariant.1 inside

-- the position that is read
read_at : (c : After-position_in-position) → InColumn (length c.args.parameters.now.permutation.alpha.now) c.loop-walk.walk
    → c.position_in-position.result.0 ≡ π_of c.args.parameters.now c.loop-walk.walk.position.0
read_at c column =
    let p = c.args.parameters.now in
    rw (c.column.ensures, c.row.ensures) at c.position_in-position.ensures ∙ ap (π_of p) (sym column.position-is)

-- one position on
past : (c : After-carry-walk) → c.carry-walk.result.position.0 ≡ c.loop-walk.walk.position.0 + 1
past c = c.carry-walk.ensures.0 ∙ ap (λ (w : Walk). w.position.0) c.down.ensures

pub position_in-position-requires : goal.position_in-position-requires
position_in-position-requires c =
    let t = (goal.at.position_in-position-requires c).In-loop-walk in
    rw (c.column.ensures, c.row.ensures) (walked-column _ c.loop-walk.walk c.loop-walk.invariant.1 (inside t), row t)

pub bounds-work-number : goal.bounds-work-number
bounds-work-number c =
    let t = (goal.at.bounds-work-number c).In-loop-walk in
    let low = position_low c.args.parameters.now c.loop-walk.walk.position.0 (below t) in
    omega (arith, c.number.ensures, read_at (goal.at.bounds-work-number c).After-position_in-position (column t), low, c.requires.3)

pub down-requires : goal.down-requires
down-requires c =
    let t = (goal.at.down-requires c).In-loop-walk in
    (omega (arith, (column t).position-is), omega (arith, inside t, c.args.parameters.now.permutation.ranges.narrow))

pub carry-walk-requires : goal.carry-walk-requires
carry-walk-requires c =
    let t = (goal.at.carry-walk-requires c).In-loop-walk in
    rw (c.down.ensures, c.rows.ensures) (
      in_column_down _ c.loop-walk.walk (column t) (row t),
      omega (arith, row t),
      walked-column _ c.loop-walk.walk c.loop-walk.invariant.1 (inside t),
    )

pub loop-walk-preserved : goal.loop-walk-preserved
loop-walk-preserved c =
    let x = c.args in
    let ρ = π_of x.parameters.now in
    let i = c.loop-walk.walk.position.0 in
    let on = past (goal.at.loop-walk-preserved c).After-carry-walk in
    let bit = ap (λ (k : ℕ). get_or x.work.now k 0) (c.number.ensures ∙ read_at (goal.at.loop-walk-preserved c).After-position_in-position (column (goal.at.loop-walk-preserved c).In-loop-walk)) in (
      omega (arith, on, c.loop-walk-test.true),
      rw c.rows.ensures at c.carry-walk.ensures.1,
      rw (c.next-state.ensures, on) (end-next ρ x.work.now x.to i c.loop-walk.state c.loop-walk-test.true bit) ∙ c.loop-walk.invariant.2,
    )
