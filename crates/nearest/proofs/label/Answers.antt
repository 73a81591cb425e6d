use mathlib.Core.Path.{◌≡◌, sym, ap, ◌∙◌}
use Prim.Native.Nat.{◌+◌, ◌*◌}
use native.Mathlib.Omega.{arith}
use Rattle.nearest.specs.Nearest.{distance as distance_of, nearest_label, points}
use Rattle.nearest.specs.Search.{nearest_of, row, some_nearer}
use Rattle.nearest.proofs.Turns.{none_yet, row_stays}
use Rattle.nearest.proofs.label.Goals.{then-has_nearer, else-has_nearer}
use Rattle.nearest.proofs.label.Goals as goal

pub loop-k-init : goal.loop-k-init
loop-k-init c =
    ap (λ x. record { label = 0; distance = x }) (c.distance.ensures ∙ ap (distance_of c.args.i c.args.q) c.of.ensures) ∙ sym (none_yet c.args.i c.args.q)

pub loop-k-preserved : goal.loop-k-preserved
loop-k-preserved c =
    let i = c.args.i in
    let q = c.args.q in
    let first = row * c.loop-k.k in
    let before = c.loop-k.invariant in
    let next : first + row ≡ row * (c.loop-k.k + 1) = omega arith in
    elim c.if-has_nearer.branch [
      | then-has_nearer w ↦ w.nearest-is ∙ w.with_row-nearest.ensures ∙ ap (nearest_of i q) next
      | else-has_nearer w ↦
          w.nearest-is ∙ before
          ∙ row_stays i q first row (ap (λ m. some_nearer i q first row m.distance) (sym before) ∙ sym c.has_nearer.ensures ∙ w.if-has_nearer.false)
          ∙ ap (nearest_of i q) next
    ]

pub returns : goal.returns
unfolding nearest_label
returns c =
    let all : row * c.loop-k.k ≡ points = omega arith in
    ap (λ m. m.label) (c.loop-k.invariant ∙ ap (nearest_of c.args.i c.args.q) all)
