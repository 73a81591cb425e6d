-- After i chunks, what is left to store are the labels that are left, with their pilots.
use Rattle.pilots.proofs.Turns.{Chunked}
use Rattle.pilots.proofs.steps.put.Given as goal

abbrev pub invariant-loop-i : goal.invariant-loop-i
invariant-loop-i l = Chunked l.initial.out l.labels l.out l.i-iterator.count l.i-iterator.iter.size l.i-iterator.iter.rest.now
