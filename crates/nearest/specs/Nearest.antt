-- The label whose point is nearest to a pair of coordinates (document 02, L14).
use Rattle.std.specs.Prelude.{ℕ, zero, suc, if◌then◌else◌}
use Rattle.std.specs.Float.Ieee.{Float, binary64, add, sub, mul, lt}
use Rattle.constellation.specs.declared.Point.{Point}
use Rattle.constellation.specs.Points.{point_of}

abbrev pub points : ℕ
points = 256

abbrev square : Float → Float
square x = mul binary64 x x

-- subtract, square each, add: in 64-bit floats, rounded at each operation
unfoldable pub distance : Float → Float → Point → Float
distance i q p = add binary64 (square (sub binary64 i p.i)) (square (sub binary64 q p.q))

abbrev pub distance_to : Float → Float → ℕ → Float
distance_to i q label = distance i q (point_of label)

-- of the places below n the one with the least d, and of equals the lowest: another has to be strictly less
unfoldable pub least : (ℕ → Float) → ℕ → ℕ
least d zero = 0
least d (suc n) = if lt (d n) (d (least d n)) then n else least d n

unfoldable pub nearest_label : Float → Float → ℕ
nearest_label i q = least (distance_to i q) points
