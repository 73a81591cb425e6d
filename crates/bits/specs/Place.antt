-- Where a number stands in a list.
use Rattle.std.specs.Prelude.{List, [], ◌∷◌, ℕ, suc, eqb, if◌then◌else◌}

-- its first place, counted from 0; the list's length where there is none
unfoldable pub place : ℕ → List ℕ → ℕ
place x [] = 0
place x (y ∷ ys) = if eqb y x then 0 else suc (place x ys)
