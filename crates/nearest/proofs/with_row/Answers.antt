use mathlib.Core.Path.{sym, ap, ap₂, ◌∙◌}
use lib.Ieee.{lt}
use Rattle.nearest.specs.Nearest.{distance as distance_of}
use Rattle.nearest.proofs.Turns.{nearer_next, nearest_stays}
use Rattle.nearest.proofs.with_row.Goals.{then-distance-nearest, else-distance-nearest}
use Rattle.nearest.proofs.with_row.Goals as goal

pub loop-label-preserved : goal.loop-label-preserved
loop-label-preserved c =
    let i = c.args.i in
    let q = c.args.q in
    let n = c.loop-label.label in
    let before = c.loop-label.invariant in
    let new = c.distance-distance.ensures ∙ ap (distance_of i q) c.of.ensures in
    let compared = ap₂ lt (sym new) (sym (ap (λ m. m.distance) before)) in
    elim c.if-distance-nearest.branch [
      | then-distance-nearest w ↦ w.nearest-is ∙ ap (λ x. record { label = n; distance = x }) new ∙ nearer_next i q n (compared ∙ w.if-distance-nearest.true)
      | else-distance-nearest w ↦ w.nearest-is ∙ before ∙ nearest_stays i q n (compared ∙ w.if-distance-nearest.false)
    ]
