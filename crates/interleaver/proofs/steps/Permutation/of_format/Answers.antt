-- A format's W is that of a size, and the vectors that are lent are the size's.
use mathlib.Core.Path.{◌≡◌}
use native.Mathlib.Omega.{arith}
use lib.ListN.{length}
use Rattle.acm.specs.Formats.{format_of}
use Rattle.acm.proofs.Laws.{format-sound}
use Rattle.interleaver.proofs.Formats.{format-size, format-vectors, format-rows}
use Rattle.interleaver.proofs.steps.Permutation.of_format.Goals as goal

pub of-requires : goal.of-requires
of-requires c = rw c.record.ensures (format-size _ c.args.format.listed)

pub over-requires : goal.over-requires
over-requires c =
    let f = c.args.format in
    let α = rw c.record.ensures at c.of.ensures.alpha_value in
    let β = rw c.record.ensures at c.of.ensures.beta_value in
    let rows : length c.of.result.alpha.now ≡ (format_of f.number).w = format-rows _ f.listed α β in
    (format-vectors _ f.listed α β, omega (arith, rows, (format-sound f.number f.listed).some))
