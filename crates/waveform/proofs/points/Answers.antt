-- A call that fails a check returns before it writes.
use mathlib.Core.Path.{sym, ap, ◌∙◌}
use mathlib.Core.List.{◌++◌}
use Prim.Native.Nat.{◌*◌}
use native.Mathlib.Omega.{arith}
use lib.ListN.{length, drop}
use Rattle.bits.proofs.Passed.{when_passed}
use Rattle.bits.proofs.Refusals.{when_err}
use Rattle.waveform.specs.Generators.{generated_coordinates, generator_of}
use Rattle.waveform.specs.Waveform.{points_output}
use Rattle.waveform.proofs.Symbols.{generated_is}
use Rattle.waveform.proofs.points.Goals as goal

pub returns-in_err-code-clause-out_after : goal.returns-in_err-code-clause-out_after
unfolding points_output
returns-in_err-code-clause-out_after c = when_err _ _ _ _ c.in_err-code.ensures.number

pub generator-requires : goal.generator-requires
generator-requires c = omega (arith, c.in_ok-code.ensures.known.2)

pub put-requires : goal.put-requires
put-requires c = (c.in_ok-code.ensures.known.1, c.in_ok-code.ensures.known.3)

pub returns-clause-out_after : goal.returns-clause-out_after
unfolding points_output
returns-clause-out_after c =
    let known = c.in_ok-code.ensures.known in
    let slots = c.args.slots.now in
    let i = c.args.place in
    c.put.ensures
    ∙ ap (λ l. l ++ drop (2 * length slots) c.args.out.now)
    (ap (λ g. generated_coordinates g slots) (c.generator.ensures ∙ ap (λ code. generator_of code i) known.0) ∙ generated_is c.args.code i slots known.2)
    ∙ when_passed _ _ _ (sym c.in_ok-code.ensures.number)
