use mathlib.Core.Path.{◌≡◌, ap, ap₂, ◌∙◌}
use Prim.Native.Nat.{ℕ, ◌<◌}
use native.Mathlib.Omega.{arith}
use lib.ListN.{get_or}
use Rattle.acm.specs.Formats.{format_of}
use Rattle.acm.specs.declared.table.Format.{Format}
use Rattle.acm.proofs.Laws.{format-sound}
use Rattle.interleaver.specs.Interleaver.{π}
use Rattle.interleaver.proofs.Formats.{π-permutes}
use Rattle.puncture.specs.Puncture.{survives}
use Rattle.inner.specs.Left.{starting}
use Rattle.inner.proofs.Formats.{fits_whole}
use Rattle.inner.proofs.Turns.{going_start, going_rooms, going_turn, counter_low}
use Rattle.inner_expanded.proofs.steps.run.Goals.{After-number-position}
use Rattle.inner_expanded.proofs.steps.run.Goals as goal

-- the position that is read
module _ (n : After-number-position) where
  abbrev f : ℕ
  f = n.args.expanded.now.format.number

  more : n.loop-i.i < (format_of f).i
  more = omega (arith, n.loop-i-test.true, ap (λ (r : Format). r.i) n.record-f.ensures)

  abbrev position : ℕ
  position = π f n.loop-i.i

  position-is : n.number-position.result ≡ position
  position-is = n.number-position.ensures ∙ n.position_of.ensures

  position-low : n.number-position.result < (format_of f).i
  position-low = omega (arith, position-is, (π-permutes _ n.args.expanded.now.format.listed).below _ more)

pub loop-i-init : goal.loop-i-init
loop-i-init c =
    let format = c.args.expanded.now.format in
    let f = format.number in
    let coder = c.start-coder.ensures.0 ∙ ap starting c.record-f.ensures in
    let fits = fits_whole f format.listed c.args.work.now in
    rw coder (fits.counter_low, going_start (format_of f) (π f) c.args.work.now c.args.out.now 0 (starting (format_of f)) fits)

pub bounds-work-position : goal.bounds-work-position
bounds-work-position c = omega (arith, position-low (goal.at.bounds-work-position c).After-number-position, c.requires.0)

pub at-requires : goal.at-requires
at-requires c =
    let format = c.args.expanded.now.format in
    let sound = format-sound format.number format.listed in
    omega (arith, position-low (goal.at.at-requires c).After-number-position, sound.banks, sound.widest)

pub turn-coder-requires : goal.turn-coder-requires
turn-coder-requires c =
    let a = c.args in
    let format = a.expanded.now.format in
    let f = format.number in
    let l = c.loop-i in
    let sound = format-sound f format.listed in
    let rooms = going_rooms (format_of f) (π f) a.work.now l.i l.coder l.invariant.1 c.requires.1 in (
      c.at.ensures.low,
      rooms.0,
      rooms.1,
      omega (arith, c.of-rate.ensures.total_value, l.invariant.0, sound.banks, sound.widest),
    )

pub loop-i-preserved : goal.loop-i-preserved
loop-i-preserved c =
    let a = c.args in
    let format = a.expanded.now.format in
    let f = format.number in
    let l = c.loop-i in
    let d = (format-sound f format.listed).deletes in
    let read = position-is (goal.at.loop-i-preserved c).After-number-position in
    let bit = ap (λ (k : ℕ). get_or a.work.now k 0) read in
    let survivors = c.of-marks.ensures ∙ ap (λ (r : Format). r.survivors) c.record-f.ensures in
    let marked = c.at.ensures.value ∙ ap₂ survives survivors read in
    rw (c.turn-coder.ensures.value, c.turn-coder.ensures.out_after, c.of-rate.ensures.total_value, c.of-rate.ensures.delta_value) (
      counter_low (format_of f).i (format_of f).delta l.coder.counter (omega (arith, d)) l.invariant.0,
      going_turn (format_of f) (π f) a.work.now l.i l.coder l.invariant.1 _ _ (more (goal.at.loop-i-preserved c).After-number-position) bit marked,
    )
