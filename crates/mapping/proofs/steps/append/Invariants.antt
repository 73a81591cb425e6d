-- At r the bytes before r have their bit, and those from r on are as they were.
use mathlib.Core.Path.{◌≡◌}
use mathlib.Core.List.{◌++◌}
use Prim.Native.Nat.{ℕ, ◌≤◌}
use lib.ListN.{get_or, drop, take}
use Rattle.mapping.specs.Columns.{appended}
use Rattle.mapping.proofs.steps.append.Given as goal

abbrev pub invariant-loop-r : goal.invariant-loop-r
invariant-loop-r l =
    ((k : ℕ) → l.r ≤ k → get_or l.out k 0 ≡ get_or l.initial.out k 0)
    × (take l.r l.out ++ appended (drop l.r l.column) (drop l.r l.out) ≡ appended l.column l.initial.out)
