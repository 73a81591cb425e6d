-- The number that digits are: the first weighs most.
use Rattle.std.specs.Prelude.{List, [], ◌∷◌, ℕ, ◌+◌, ◌*◌}

-- to a base, behind the digits of n
abbrev pub value_from : ℕ → ℕ → List ℕ → ℕ
value_from base n [] = n
value_from base n (d ∷ ds) = value_from base (base * n + d) ds

abbrev pub value : ℕ → List ℕ → ℕ
value base digits = value_from base 0 digits
