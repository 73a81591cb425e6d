-- The code numbers of the physical-layer randomizer (000, annex E; 004, table 9-2): there is a sequence z_n for n = 0, 1, 2, .., 2^18 - 2.
use Rattle.std.specs.Prelude.{Bool, true, [], ◌∷◌, ℕ, leb, Option, Some, None}
use Rattle.bits.specs.Checks.{◌or_else◌, first_failed, bad_code}

abbrev pub last_code : ℕ
last_code = 262142

abbrev pub is_code : ℕ → Bool
is_code n = leb n last_code

-- a code number, or none where nothing is scrambled
abbrev pub code_legal : Option ℕ → Bool
code_legal None = true
code_legal (Some n) = is_code n

abbrev pub code_number : Option ℕ → ℕ
code_number code = first_failed (code_legal code or_else bad_code ∷ [])
