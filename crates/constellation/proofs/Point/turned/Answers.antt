use mathlib.Core.Path.{◌∙◌}
use Prim.Native.Nat.{◌%◌}
use native.Mathlib.Omega.{arith}
use Rattle.constellation.proofs.Turns.{turned-by_place, turned-over}
use Rattle.constellation.proofs.Point.turned.Goals as goal

pub returns : goal.returns
returns c = rw c.from-at.ensures (turned-by_place (c.args.turns % 4) c.args.self (omega arith) ∙ turned-over c.args.turns c.args.self)
