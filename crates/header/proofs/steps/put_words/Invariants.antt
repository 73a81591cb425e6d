-- What is left to store after i words are the bits of the words from i on.
use Prim.Native.Nat.{◌*◌}
use lib.ListN.{drop}
use Rattle.bits.specs.Words.{unpacked}
use Rattle.bits.proofs.Fill.{Left}
use Rattle.header.specs.Header.{header_slots}
use Rattle.header.specs.Words.{word_length}
use Rattle.header.proofs.steps.put_words.Given as goal

abbrev pub invariant-loop-i : goal.invariant-loop-i
invariant-loop-i l =
    Left l.initial.out 0 (header_slots (unpacked word_length l.words)) l.out (word_length * l.i) (header_slots (unpacked word_length (drop l.i l.words)))
