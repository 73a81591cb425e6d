-- The largest of the elements so far.
use Rattle.std.proofs.Common.{◌≡◌, take}
use Rattle.std.specs.Prelude.{fold, max}
use Rattle.bits.proofs.largest.Given as goal

abbrev pub invariant-loop-x : goal.invariant-loop-x
invariant-loop-x l = l.largest ≡ fold (λ m x. max m x) 0 (take l.x-index l.list)
