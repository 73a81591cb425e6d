-- Points as 64-bit floats, and their turns (000, annex E).
use Rattle.std.specs.Prelude.{true, false, ℕ, zero, suc, ℤ, pos, negsuc}
use Rattle.std.specs.Float.Ieee.{Float, binary64, neg, round}
use Rattle.constellation.specs.declared.Point.{Point}
use Rattle.constellation.specs.Table.{entry_of}

-- so many ten-thousandths, divided by 10,000 with one rounding
unfoldable pub ten_thousandths : ℤ → Float
ten_thousandths (pos n) = round binary64 false n 10000
ten_thousandths (negsuc n) = round binary64 true (suc n) 10000

abbrev pub point : Float → Float → Point
point i q = record { i = i; q = q }

-- the point of a label
unfoldable pub point_of : ℕ → Point
point_of label = point (ten_thousandths (entry_of label).x) (ten_thousandths (entry_of label).y)

-- a quarter turn: the row of the annex's table for R = 1
abbrev pub quarter_turned : Point → Point
quarter_turned p = point (neg p.q) p.i

-- so many quarter turns
unfoldable pub turned : ℕ → Point → Point
turned zero p = p
turned (suc n) p = quarter_turned (turned n p)
