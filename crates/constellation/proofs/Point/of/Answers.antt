-- The code's numbers are the table's ten-thousandths, each divided with one rounding: one test of all 512, by computing.
use mathlib.Core.Path.{◌≡◌, ap₂}
use mathlib.Core.List.{map}
use Prim.Native.Nat.{ℕ, ◌<◌}
use native.Mathlib.Omega.{arith}
use lib.Ieee.{Float, nan, of_bits, round}
use lib.ListN.{get_or, length}
use Rattle.std.proofs.lemmas.List.{get_or-map}
use Rattle.constellation.specs.Table.{Entry, entries, entry_of, +◌, ◌&◌}
use Rattle.constellation.specs.Points.{point, point_of, ten_thousandths}
use Rattle.constellation.proofs.Point.of.Goals as goal

component : (part : Entry → Float) (label : ℕ) → label < length entries
    → get_or (map part entries) label nan ≡ part (entry_of label)
component part label h = get_or-map part entries label (+ 0 & + 0) nan h

pub returns : goal.returns
unfolding entries point_of ten_thousandths of_bits round
returns c =
    rw c.from-at.ensures
    (ap₂ point
    (component (λ e. ten_thousandths e.x) c.args.label (omega (arith, c.ranges.label)))
    (component (λ e. ten_thousandths e.y) c.args.label (omega (arith, c.ranges.label))))
