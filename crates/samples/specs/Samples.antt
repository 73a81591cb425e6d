-- What is asked of a sample's coordinates (document 02, L14).
use Rattle.std.specs.Prelude.{Bool, true, ◌&&◌}
use Rattle.std.specs.Float.{Float, two_to, minus_two_to}
use Rattle.std.specs.Float.Ieee.{le}
use Rattle.samples.specs.declared.Sample.{Sample}
use Rattle.samples.specs.declared.Sample.TheVariants.{Lost, Pair}

-- a number from -2 to 2, the ends allowed; nothing is at most a NaN, or at least one
abbrev pub number_in_range : Float → Bool
number_in_range x = le (minus_two_to 1) x && le x (two_to 1)

abbrev pub sample_in_range : Sample → Bool
sample_in_range Lost = true
sample_in_range (Pair i q) = number_in_range i && number_in_range q
