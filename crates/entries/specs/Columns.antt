-- The expanded interleaver, a column at a time: one column on, an interleaved position is W more, modulo I.
use Rattle.std.specs.Prelude.{ℕ, ◌+◌, ◌-◌, ltb, if◌then◌else◌}

-- last is where the last bank starts, I - W
abbrev pub column_on : ℕ → ℕ → ℕ → ℕ
column_on W last x = if ltb x last then x + W else x - last
