-- The rings of table 5-2 (document 02, L12). Ring k has the radius (2k - 1) / √127, by the ratios of 5.2.3.2 and the energy of 5.2.3.3.
use Rattle.std.specs.Prelude.{Bool, ◌&&◌, ℕ, ◌+◌, ◌-◌, ◌*◌, leb, nat_abs}
use Rattle.constellation.specs.Table.{Entry}

abbrev pub rings : ℕ
rings = 8

-- a and b differ by at most d
abbrev pub within : ℕ → ℕ → ℕ → Bool
within d a b = leb a (b + d) && leb b (a + d)

abbrev pub square : ℕ → ℕ
square n = n * n

-- 127 (X² + Y²) differs from (2k - 1)² 100,000,000 by at most 127 (|X| + |Y| + 1)
abbrev pub on_ring : ℕ → Entry → Bool
on_ring k e =
    let X = nat_abs e.x in
    let Y = nat_abs e.y in
    within (127 * (X + Y + 1)) (127 * (square X + square Y)) (square (2 * k - 1) * 100000000)
