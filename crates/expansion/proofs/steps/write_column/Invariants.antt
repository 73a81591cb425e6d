-- Before each turn the rows before it have their entries.
use mathlib.Core.Path.{◌≡◌}
use Prim.Native.Nat.{ℕ, ◌+◌, ◌*◌, ◌<◌}
use lib.ListN.{length, get_or}
use Rattle.interleaver.specs.Interleaver.{permuted}
use Rattle.expansion.proofs.steps.write_column.Given as goal

abbrev pub invariant-loop-row : goal.invariant-loop-row
invariant-loop-row l =
    let p = l.permutation in
    let W = length p.alpha.now in
    (k : ℕ) → k < l.row → get_or l.entries k 0 ≡ permuted p.alpha.now p.beta.now (W * l.column + k)
