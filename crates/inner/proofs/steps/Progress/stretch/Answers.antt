use mathlib.Core.Path.{◌≡◌, sym, ap, ◌∙◌}
use Prim.Native.Nat.{ℕ, ◌+◌, ◌*◌, ◌<◌}
use native.Mathlib.Omega.{arith}
use lib.ListN.{length, get_or}
use Rattle.acm.specs.Formats.{M}
use Rattle.interleaver.specs.Walk.{InColumn}
use Rattle.interleaver.proofs.Walks.{walked-inside, walked-column, in_column_down}
use Rattle.puncture.specs.Puncture.{survives}
use Rattle.coder.specs.Coder.{state_in}
use Rattle.inner.specs.Lent.{π_of}
use Rattle.inner.specs.declared.parameters.Parameters.{Parameters}
use Rattle.inner.proofs.Reading.{end-next}
use Rattle.inner.proofs.Runs.{position_low}
use Rattle.inner.proofs.Turns.{going_turn, counter_low}
use Rattle.inner.proofs.steps.Progress.stretch.Goals.{In-loop-walk}
use Rattle.inner.proofs.steps.Progress.stretch.Goals as goal

-- in a turn the walk stands at a row of its column, inside the interleaver
module _ (t : In-loop-walk) where
  abbrev p : Parameters
  p = t.args.parameters.now

  abbrev W : ℕ
  W = length p.permutation.alpha.now

  stands : InColumn W t.loop-walk.walk
  stands = t.loop-walk.invariant.1

  row : t.loop-walk.walk.row < W
  row = omega (arith, stands.position-is, ap (λ (k : ℕ). W * (k + 1)) t.loop-walk.invariant.2, t.loop-walk-test.true, t.requires.stands.3)

  below : t.loop-walk.walk.position.0 < p.figures.i
  below = omega (arith, t.loop-walk-test.true, t.requires.stands.2)

  inside : t.loop-walk.walk.position.0 < M * W
  inside = omega (arith, below, p.size)

  column : t.loop-walk.walk.column < M
  column = walked-column W t.loop-walk.walk (walked-inside W t.loop-walk.walk stands row) inside

  -- the position where it stands
  here : (k : ℕ) → k ≡ t.loop-walk.walk.column → π_of p (W * k + t.loop-walk.walk.row) ≡ π_of p t.loop-walk.walk.position.0
  here k e = ap (λ (c : ℕ). π_of p (W * c + t.loop-walk.walk.row)) e ∙ ap (π_of p) (sym stands.position-is)

pub place-place-requires : goal.place-place-requires
place-place-requires c =
    let t = (goal.at.place-place-requires c).In-loop-walk in
    (column t, row t)

pub bounds-work-number : goal.bounds-work-number
bounds-work-number c =
    let t = (goal.at.bounds-work-number c).In-loop-walk in
    let p = c.args.parameters.now in
    let at = c.place-place.ensures in
    let low = position_low p c.loop-walk.walk.position.0 (below t) in
    let read = c.position_of-position.ensures _ at.1 ∙ here t _ at.0 in
    omega (arith, c.number.ensures, read, low, c.requires.lent.outer-bits)

pub loop-walk-preserved : goal.loop-walk-preserved
loop-walk-preserved c =
    let p = c.args.parameters.now in
    let r = p.figures in
    let work = c.args.work.now in
    let l = c.loop-walk in
    let i = l.walk.position.0 in
    let t = (goal.at.loop-walk-preserved c).In-loop-walk in
    let at = c.place-place.ensures in
    let read = c.position_of-position.ensures _ at.1 ∙ here t _ at.0 in
    let bit = ap (λ (k : ℕ). get_or work k 0) (c.number.ensures ∙ read) in
    let marked = c.mark_of-mark.ensures.value _ at.1 ∙ ap (λ (k : ℕ). survives r.survivors k) (here t _ at.0) in
    rw (c.down-walk.ensures, c.turn-coder.ensures.value, c.turn-coder.ensures.out_after, p.total_is, p.delta_is) (
      omega (arith, c.loop-walk-test.true),
      in_column_down _ l.walk l.invariant.1 (row t),
      l.invariant.2,
      counter_low r.i r.delta l.coder.counter (omega (arith, p.deletes)) l.invariant.3,
      going_turn r (π_of p) work i l.coder l.invariant.4 c.mark_of-mark.result _ (below t) bit marked,
      end-next (π_of p) work c.args.to i (state_in l.coder) c.loop-walk-test.true bit ∙ l.invariant.5,
    )

pub carry-requires : goal.carry-requires
carry-requires c =
    let (stands, more, end, _) = c.requires.stands in
    let from : c.args.self.walk.position.0 < M * length c.args.parameters.now.permutation.alpha.now = omega (arith, more, end, c.args.parameters.now.size) in
    rw c.rows.ensures (
      c.loop-walk.invariant.1,
      omega (arith, from),
      omega (arith, walked-column _ c.args.self.walk stands.walked from, c.loop-walk.invariant.2),
    )
