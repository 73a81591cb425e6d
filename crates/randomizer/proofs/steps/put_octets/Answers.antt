-- The bytes of an octet's word are the bits of the octet with its mask.
use Rattle.std.proofs.Common.{◌∙◌, ap, arith}
use Rattle.std.proofs.lemmas.Nat.{xor_of_8}
use Rattle.bits.specs.Words.{bits_of}
use Rattle.bits.proofs.Fill.{fill_end}
use Rattle.randomizer.specs.Randomizer.{octet_length}
use Rattle.randomizer.proofs.Stored.{low_bytes, octets_next, octets_none, spread_at}
use Rattle.randomizer.proofs.steps.put_octets.Goals as goal

pub loop-i-preserved : goal.loop-i-preserved
loop-i-preserved c =
    let octet = c.from.ensures in
    let bits = c.copy_from_slice.ensures.after ∙ c.to_le_bytes-bits.ensures ∙ low_bytes _ ∙ spread_at c.args.spread.now c.requires.0 c.from.result (omega (arith, octet, xor_of_8)) ∙ ap (bits_of octet_length) octet in
    octets_next _ _ _ _ _ c.loop-i-test.true c.requires.1 (omega arith) (omega arith) bits c.loop-i.invariant

pub returns : goal.returns
returns c = fill_end (octets_none _ _ _ c.loop-i-test.false) c.loop-i.invariant
