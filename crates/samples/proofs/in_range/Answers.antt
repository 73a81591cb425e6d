-- The ends, as the code writes them, are 2^1 and its negative.
use mathlib.Core.Path.{◌≡◌, refl}
use lib.Ieee.{binary64, neg, of_bits}
use Rattle.std.specs.Float.{two_to, minus_two_to}
use Rattle.samples.proofs.in_range.Goals as goal

lower : neg (of_bits binary64 0x4000_0000_0000_0000) ≡ minus_two_to 1
unfolding of_bits neg
lower = refl

upper : of_bits binary64 0x4000_0000_0000_0000 ≡ two_to 1
unfolding of_bits
upper = refl

pub returns-then-x : goal.returns-then-x
returns-then-x c = rw (← lower, c.if-x.true, upper) refl

pub returns-else-x : goal.returns-else-x
returns-else-x c = rw (← lower, c.if-x.false) refl
