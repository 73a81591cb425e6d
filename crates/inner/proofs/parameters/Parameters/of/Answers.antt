use mathlib.Core.Path.{sym}
use Rattle.acm.proofs.Laws.{format-sound}
use Rattle.interleaver.proofs.Formats.{format-length}
use Rattle.inner.proofs.parameters.Parameters.of.Goals as goal

pub over-requires : goal.over-requires
over-requires c =
    let h = c.args.format.listed in
    let v = c.of_format.ensures in
    rw c.record.ensures (sym (format-length _ h v.alpha_value v.beta_value), (format-sound _ h).deletes)
