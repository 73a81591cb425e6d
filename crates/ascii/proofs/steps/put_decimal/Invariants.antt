-- What is left to put are the last digits of the rest, as many as places before i.
use mathlib.Core.Path.{◌≡◌}
use Prim.Native.Nat.{◌-◌}
use lib.Seq.{sets}
use Rattle.ascii.specs.Text.{decimal}
use Rattle.ascii.proofs.Decimal.{last_digits}
use Rattle.ascii.proofs.steps.put_decimal.Given as goal

abbrev pub invariant-loop-i : goal.invariant-loop-i
invariant-loop-i l = sets l.out l.at (last_digits (l.i - l.at) l.rest) ≡ sets l.initial.out l.at (decimal l.n)
