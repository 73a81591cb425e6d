-- After k bits the byte has them as its lowest.
use mathlib.Core.Path.{◌≡◌}
use Prim.Native.Nat.{◌^◌, ◌<◌}
use lib.ListN.{take}
use Rattle.bits.specs.Words.{bits_of}
use Rattle.bch.proofs.steps.pack.Given as goal

abbrev pub invariant-loop-bit : goal.invariant-loop-bit
invariant-loop-bit l = (l.byte < 2 ^ l.bit-index) × (bits_of l.bit-index l.byte ≡ take l.bit-index l.bits)
