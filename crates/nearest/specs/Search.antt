-- How the code searches, row by row. What the nearest label is does not stand on it.
use Rattle.std.specs.Prelude.{Bool, false, ◌||◌, ℕ, zero, suc}
use Rattle.std.specs.Float.Ieee.{Float, lt}
use Rattle.nearest.specs.declared.Nearest.{Nearest}
use Rattle.nearest.specs.Nearest.{distance_to, least}

abbrev pub row : ℕ
row = 16

-- the nearest of the first n labels, and its distance
abbrev pub nearest_of : Float → Float → ℕ → Nearest
nearest_of i q n = let label = least (distance_to i q) n in record { label = label; distance = distance_to i q label }

-- whether one of n labels is nearer than so far
unfoldable pub some_nearer : Float → Float → ℕ → ℕ → Float → Bool
some_nearer i q label zero so_far = false
some_nearer i q label (suc n) so_far = lt (distance_to i q label) so_far || some_nearer i q (suc label) n so_far
