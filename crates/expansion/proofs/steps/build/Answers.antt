-- The interleaver is the format's, so what is written is its expanded interleaver.
use mathlib.Core.Path.{◌∙◌}
use native.Mathlib.Omega.{arith}
use Rattle.interleaver.proofs.Formats.{format-length, format-π}
use Rattle.expansion.proofs.Entries.{built_is}
use Rattle.expansion.proofs.steps.build.Goals as goal

pub write-requires : goal.write-requires
write-requires c =
    let v = c.of_format.ensures in
    omega (arith, format-length _ c.args.format.listed v.alpha_value v.beta_value, c.requires)

pub returns : goal.returns
returns c =
    let f = c.args.format in
    let v = c.of_format.ensures in
    let memory = c.args.memory.now in
    c.write.ensures ∙ rw (format-length _ f.listed v.alpha_value v.beta_value, format-π _ f.listed v.alpha_value v.beta_value) (built_is f.number memory c.requires)
