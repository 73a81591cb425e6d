-- The digits before the next have the value n, which those from it on bring to the whole value.
use mathlib.Core.Path.{◌≡◌}
use lib.ListN.{drop}
use Rattle.fields.specs.Fields.{value, value_behind}
use Rattle.fields.proofs.steps.value.Given as goal

abbrev pub invariant-loop-digit : goal.invariant-loop-digit
invariant-loop-digit l = value_behind l.n (drop l.digit-index l.digits) ≡ value l.digits
