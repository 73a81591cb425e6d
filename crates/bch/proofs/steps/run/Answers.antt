use Rattle.std.proofs.Common.{refl, arith}
use Rattle.bits.specs.Words.{bits_of}
use Rattle.bch.proofs.steps.run.Goals as goal

pub loop-bits-init : goal.loop-bits-init
unfolding bits_of
loop-bits-init c =
    let items = c.chunks_exact-bits-items.ensures in
    rw (c.into_iter-bits-iterator.ensures.into_iter_gives, items.size, items.rest) (refl, c.requires.2, c.requires.1, omega arith, refl)
