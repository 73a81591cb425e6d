-- What is left to put after some of the numbers is the line of the others, and of the last.
use Rattle.std.proofs.Common.{◌∷◌, [], ◌++◌, drop}
use Rattle.bits.proofs.Fill.{Left}
use Rattle.ascii.specs.Text.{line}
use Rattle.ascii.proofs.steps.put_line.Given as goal

abbrev pub invariant-loop-n : goal.invariant-loop-n
invariant-loop-n l = Left l.initial.out l.at (line l.numbers) l.out l.end (line (drop l.n-index l.others ++ (l.last ∷ [])))
