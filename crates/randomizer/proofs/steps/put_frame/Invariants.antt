-- What is left to store before a chunk, where the masks begin, is the rest of the frame, randomized as if it began there.
use Rattle.std.proofs.Common.{◌≡◌, ◌+◌, ◌*◌, length, min}
use Rattle.bits.proofs.Fill.{Left}
use Rattle.randomizer.specs.Randomizer.{octet_length, randomized}
use Rattle.randomizer.proofs.steps.put_frame.Given as goal

abbrev pub invariant-loop-i : goal.invariant-loop-i
invariant-loop-i l =
    let rest = l.i-iterator.iter in
    (rest.size ≡ length l.masks)
    × Left l.initial.out l.at (randomized l.frame) l.out (l.at + octet_length * min (length l.masks * l.i-iterator.count) (length l.frame)) (randomized rest.rest.now)
