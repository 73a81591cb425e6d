-- The rows hold G's bits, each twice, so their sum is the coded bits twice, and the exclusive or scrambles them.
use mathlib.Core.Path.{refl}
use Rattle.bits.specs.Words.{bits_of}
use Rattle.header.specs.Descriptor.{G, scrambling}
use Rattle.header.proofs.Descriptor.{choice-low, descriptor-bits}
use Rattle.header.proofs.steps.descriptor_word.Goals as goal

pub returns : goal.returns
unfolding G scrambling bits_of
returns c = descriptor-bits _ _ (choice-low c.args.pilots) _ _ (rw c.from.ensures at c.add_rows.ensures) refl
