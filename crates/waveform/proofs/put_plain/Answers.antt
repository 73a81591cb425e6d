use native.Mathlib.Omega.{arith}
use Rattle.std.specs.Prelude.{None as none}
use Rattle.bits.proofs.Fill.{left_start}
use Rattle.bits.proofs.Legal.{legal-at}
use Rattle.waveform.specs.Waveform.{last_label}
use Rattle.waveform.proofs.Symbols.{symbol_stored, symbols_stored}
use Rattle.waveform.proofs.put_plain.Goals as goal

pub loop-k-init : goal.loop-k-init
loop-k-init c = left_start _ 0 _

pub overflow_cast-slot : goal.overflow_cast-slot
overflow_cast-slot c = record { fits = omega (arith, legal-at last_label c.args.slots.now c.requires.0 c.loop-k.k) }

pub loop-k-preserved : goal.loop-k-preserved
loop-k-preserved c =
    symbol_stored none none _ c.args.slots.now c.loop-k-test.true c.of-point.ensures c.loop-k.invariant

pub returns : goal.returns
returns c = symbols_stored none none c.args.slots.now c.requires.1 (omega arith) c.loop-k.invariant
