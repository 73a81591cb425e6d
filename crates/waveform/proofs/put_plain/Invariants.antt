use Rattle.std.specs.Prelude.{None as none}
use Rattle.waveform.proofs.Symbols.{SymbolsLeft}
use Rattle.waveform.proofs.put_plain.Given as goal

abbrev pub invariant-loop-k : goal.invariant-loop-k
invariant-loop-k l = SymbolsLeft none l.slots l.fn.out l.out l.k none
