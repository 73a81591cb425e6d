-- What is left to store after i octets are the bits of those from i on, each masked with its own mask.
use Rattle.std.proofs.Common.{◌+◌, ◌*◌, drop}
use Rattle.bits.specs.Words.{unpacked}
use Rattle.bits.proofs.Fill.{Left}
use Rattle.randomizer.specs.Randomizer.{octet_length}
use Rattle.randomizer.specs.Tables.{masked}
use Rattle.randomizer.proofs.steps.put_octets.Given as goal

abbrev pub invariant-loop-i : goal.invariant-loop-i
invariant-loop-i l =
    Left l.initial.out l.at (unpacked octet_length (masked l.octets l.masks)) l.out (l.at + octet_length * l.i) (unpacked octet_length (masked (drop l.i l.octets) (drop l.i l.masks)))
