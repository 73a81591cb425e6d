-- The numbers of checks that failed: none of them is that of a call that passes.
use Rattle.std.proofs.Common.{◌≡◌, ◌∙◌, ℕ, ◌<◌, arith}
use lib.Dec.{eqb}
use Rattle.std.specs.Prelude.{if◌then◌else◌}
use Rattle.bits.proofs.Passed.{when_refused}
use Rattle.bits.specs.Checks.{check_number, passed}
use Rattle.bits.specs.declared.checks.Refusal.{Refusal}
use Rattle.bits.specs.declared.checks.Refusal.TheVariants as refusal

pub above_passed : (r : Refusal) → passed < check_number r
above_passed refusal.Format = omega arith
above_passed refusal.Length = omega arith
above_passed refusal.Element = omega arith
above_passed refusal.Workspace = omega arith
above_passed refusal.Output = omega arith
above_passed refusal.Line = omega arith
above_passed refusal.Pattern = omega arith
above_passed refusal.Place = omega arith
above_passed refusal.FrameLength = omega arith
above_passed refusal.ChannelLength = omega arith
above_passed refusal.BlockWaits = omega arith
above_passed refusal.CutCount = omega arith
above_passed refusal.CutPlace = omega arith
above_passed refusal.Pilots = omega arith
above_passed refusal.Memory = omega arith
above_passed refusal.Code = omega arith
above_passed refusal.WayBack = omega arith
above_passed refusal.Capture = omega arith
above_passed refusal.Coordinate = omega arith

pub not_passed : (r : Refusal) → check_number r ≡ passed → ⊥
not_passed r e = omega (arith, above_passed r)

-- what a refused call leaves
pub when_err : {A : Type 0} (r : Refusal) (number : ℕ) (x y : A) → check_number r ≡ number → y ≡ (if eqb number passed then x else y)
when_err r number x y e = when_refused number x y (λ p. not_passed r (e ∙ p))
