use mathlib.Core.Path.{ap₂, ◌∙◌}
use native.Mathlib.Omega.{arith}
use Rattle.std.specs.Prelude.{Some as some}
use Rattle.bits.proofs.Fill.{left_start}
use Rattle.bits.proofs.Legal.{legal-at}
use Rattle.constellation.specs.Points.{turned}
use Rattle.waveform.specs.Waveform.{last_label}
use Rattle.waveform.proofs.Symbols.{symbol_stored, symbols_stored}
use Rattle.waveform.proofs.put_turned.Goals as goal

pub loop-k-init : goal.loop-k-init
loop-k-init c = left_start _ 0 _

pub overflow_cast-slot : goal.overflow_cast-slot
overflow_cast-slot c = record { fits = omega (arith, legal-at last_label c.args.slots.now c.requires.0 c.loop-k.k) }

pub loop-k-preserved : goal.loop-k-preserved
loop-k-preserved c =
    let point = c.of.ensures in
    let is = c.turned-point.ensures ∙ ap₂ turned c.turns.ensures point in
    rw c.later-generator.ensures (symbol_stored (some c.args.first) (some c.loop-k.generator) _ c.args.slots.now c.loop-k-test.true is c.loop-k.invariant)

pub returns : goal.returns
returns c = symbols_stored (some c.args.first) (some c.loop-k.generator) c.args.slots.now c.requires.1 (omega arith) c.loop-k.invariant
