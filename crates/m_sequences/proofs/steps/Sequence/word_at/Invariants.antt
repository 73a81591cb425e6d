-- The word so far is the one at the place of the table's, and as many symbols later as the loop has run.
use mathlib.Core.Path.{◌≡◌}
use Prim.Native.Nat.{◌+◌, ◌*◌, ◌/◌}
use Rattle.m_sequences.specs.MSequences.{word_at}
use Rattle.m_sequences.specs.Tables.{sequence, stride}
use Rattle.m_sequences.proofs.steps.Sequence.word_at.Given as goal

abbrev pub invariant-loop : goal.invariant-loop
invariant-loop l = l.word ≡ word_at (sequence l.self) (l.place / stride * stride + l.counter)
