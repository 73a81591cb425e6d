-- Behind the k bits stored so far, the word's lowest 52 - k bits are left.
use mathlib.Core.Path.{◌≡◌}
use mathlib.Core.List.{◌++◌}
use Prim.Native.Nat.{◌-◌}
use lib.ListN.{take}
use Rattle.bits.specs.Words.{bits_of}
use Rattle.bch.specs.Bch.{check_length}
use Rattle.bch.proofs.steps.put_bits.Given as goal

abbrev pub invariant-loop-k : goal.invariant-loop-k
invariant-loop-k l = take l.k l.out ++ bits_of (check_length - l.k) l.word ≡ bits_of check_length l.word
