-- The ones of the exclusive or of two bytes are the bits in which they differ.
use mathlib.Core.Path.{sym}
use native.Mathlib.Omega.{arith}
use Rattle.compare.proofs.Bits.{apart-most, apart-xor}
use Rattle.compare.proofs.bits_apart.Goals as goal

pub returns-clause-value : goal.returns-clause-value
returns-clause-value c = sym (apart-xor 8 c.args.x c.args.y (omega arith) (omega arith))

pub returns-clause-few : goal.returns-clause-few
returns-clause-few c = omega (arith, apart-xor 8 c.args.x c.args.y (omega arith) (omega arith), apart-most 8 c.args.x c.args.y)
