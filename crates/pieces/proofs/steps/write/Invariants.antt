-- After the pieces so far, the codewords of those that are left are left to store.
use Rattle.pieces.proofs.Written.{PiecesLeft}
use Rattle.pieces.proofs.steps.write.Given as goal

abbrev pub invariant-loop-j : goal.invariant-loop-j
invariant-loop-j l = PiecesLeft l.initial.out l.list l.out l.j-iterator.count l.j-iterator.iter.size l.j-iterator.iter.rest.now
