-- A format's W is that of a size, and the call says of the format what is said of the size.
use Rattle.interleaver.proofs.Formats.{format-size}
use Rattle.interleaver.proofs.provenance.Goals as goal

pub stand_in-requires : goal.stand_in-requires
stand_in-requires c = rw c.record.ensures (format-size _ c.in_ok-format.format.listed)
