-- The register's word, fed with what is left, comes to hold what zeros come to hold, fed with all of the list.
use mathlib.Core.Path.{◌≡◌}
use Prim.Native.Nat.{◌%◌, ◌^◌, ◌<◌}
use lib.ListN.{length}
use Rattle.bits.specs.Words.{bits_of}
use Rattle.bits.specs.Legal.{all_bits}
use mathlib.Core.Bool.{true}
use Rattle.bch.specs.Bch.{check_length, zeros, lower}
use Rattle.bch.specs.Register.{byte_length, register_from}
use Rattle.bch.proofs.steps.run.Given as goal

abbrev pub invariant-loop-bits : goal.invariant-loop-bits
invariant-loop-bits l =
    (l.bits-iterator.size ≡ byte_length) × (length l.bits-iterator.rest.now % byte_length ≡ 0) × (all_bits l.bits-iterator.rest.now ≡ true) × (l.word < 2 ^ check_length)
    × (register_from lower (bits_of check_length l.word) l.bits-iterator.rest.now ≡ register_from lower (zeros check_length) l.list)
