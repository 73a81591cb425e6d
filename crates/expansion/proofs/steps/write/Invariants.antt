-- Before each turn the entries of the columns before it are written.
use mathlib.Core.Path.{◌≡◌}
use Prim.Native.Nat.{◌*◌}
use lib.ListN.{length}
use lib.Seq.{sets}
use Rattle.interleaver.specs.Interleaver.{permuted}
use Rattle.interleaver.specs.Expanded.{expanded_from}
use Rattle.expansion.proofs.steps.write.Given as goal

abbrev pub invariant-loop-column : goal.invariant-loop-column
invariant-loop-column l =
    let p = l.permutation in
    l.memory ≡ sets l.fn.memory 0 (expanded_from (permuted p.alpha.now p.beta.now) 0 (length p.alpha.now * l.column))
