use mathlib.Core.Path.{refl}
use native.Mathlib.Omega.{arith}
use Rattle.interleaver.proofs.Walks.{walked-inside}
use Rattle.interleaver.proofs.steps.Walk.carry.Goals as goal

pub returns-then-self-w : goal.returns-then-self-w
returns-then-self-w c = (refl, walked-inside _ c.args.self c.requires.0 (omega arith))
