-- The marker's words hold the marker's bits, and the descriptor follows them.
use mathlib.Core.Path.{refl}
use Rattle.bits.specs.Words.{bits_of, unpacked}
use Rattle.header.specs.declared.steps.TheConstants.{MARKER}
use Rattle.header.specs.Marker.{marker}
use Rattle.header.proofs.Headers.{header-stored}
use Rattle.header.proofs.steps.put.Goals as goal

pub returns : goal.returns
unfolding marker unpacked bits_of
returns c = header-stored _ _ MARKER c.args.out.now _ _ refl c.put_words.ensures c.put_word.ensures c.descriptor_word-descriptor.ensures
