-- The tables hold what they should, by computing; the marker's octets are left as they are, and the frame follows.
use mathlib.Core.Path.{refl}
use native.Mathlib.Omega.{arith}
use Rattle.bits.specs.Words.{bits_of, unpacked}
use Rattle.bits.proofs.Sequences.{sequence-append}
use Rattle.randomizer.specs.Randomizer.{h, all_ones, pseudo_random}
use Rattle.randomizer.specs.Tables.{masked, bytes_of}
use Rattle.transfer.specs.Transfer.{sync_marker}
use Rattle.transfer.proofs.Marked.{marked_stored}
use borrow.Author.Rules.{rules}
use Rattle.transfer.proofs.steps.put.Goals as goal

pub put_octets-requires : goal.put_octets-requires
unfolding bytes_of bits_of
put_octets-requires c = (refl, omega arith, omega arith)

pub put_frame-requires : goal.put_frame-requires
unfolding bytes_of bits_of unpacked pseudo_random
put_frame-requires c =
    (record { some = omega arith; bits = refl; anew = λ n. sequence-append h 2040 n all_ones }, refl, search rules)

pub returns : goal.returns
unfolding sync_marker masked unpacked bits_of
returns c =
    marked_stored _ _ _ _ _ c.put_octets.ensures c.put_frame.ensures
