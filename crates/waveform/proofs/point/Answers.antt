use mathlib.Core.Path.{ap, ap₂, ◌∙◌}
use Rattle.constellation.specs.Points.{point_of}
use Rattle.waveform.specs.Generators.{generated, generator_of}
use Rattle.waveform.proofs.Symbols.{answered, generated-scrambled}
use Rattle.waveform.proofs.point.Goals as goal

pub returns : goal.returns
returns c =
    let known = c.in_ok-label.ensures.known in
    let i = c.args.place in
    answered _ _ _ i _ c.in_ok-label.ensures.number
    (c.turned.ensures
    ∙ ap₂ generated (c.generator.ensures ∙ ap (λ code. generator_of code i) known.1) (c.of.ensures ∙ ap point_of known.0)
    ∙ generated-scrambled c.args.code i _ known.2)
