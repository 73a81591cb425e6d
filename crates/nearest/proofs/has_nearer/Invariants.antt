use Rattle.nearest.proofs.Turns.{Found}
use Rattle.nearest.proofs.has_nearer.Given as goal

abbrev pub invariant-loop-label : goal.invariant-loop-label
invariant-loop-label l = Found l.i l.q l.least l.first l.label l.nearer
