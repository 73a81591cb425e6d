use Rattle.std.specs.Prelude.{Some as some}
use Rattle.waveform.proofs.Symbols.{SymbolsLeft}
use Rattle.waveform.proofs.put_turned.Given as goal

abbrev pub invariant-loop-k : goal.invariant-loop-k
invariant-loop-k l = SymbolsLeft (some l.fn.first) l.slots l.fn.out l.out l.k (some l.generator)
