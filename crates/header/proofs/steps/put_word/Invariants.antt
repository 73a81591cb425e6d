-- Behind the k slots stored so far, those of the word's lowest 64 - k bits are left.
use mathlib.Core.Path.{◌≡◌}
use mathlib.Core.List.{◌++◌}
use Prim.Native.Nat.{◌-◌}
use lib.ListN.{take}
use Rattle.bits.specs.Words.{bits_of}
use Rattle.header.specs.Header.{header_slots}
use Rattle.header.specs.Words.{word_length}
use Rattle.header.proofs.steps.put_word.Given as goal

abbrev pub invariant-loop-k : goal.invariant-loop-k
invariant-loop-k l = take l.k l.out ++ header_slots (bits_of (word_length - l.k) l.word) ≡ header_slots (bits_of word_length l.word)
