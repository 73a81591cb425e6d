-- The generator stays below its modulus, so that no product overflows.
use Rattle.std.proofs.Common.{◌<◌}
use Rattle.testkit.proofs.fill_seeded.Given as goal

abbrev pub invariant-loop-bit : goal.invariant-loop-bit
invariant-loop-bit l = l.x < 2147483648
