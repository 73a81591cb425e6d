-- What the number 0 says of the arguments of section: that both checks hold.
use mathlib.Core.Path.{◌≡◌, refl}
use mathlib.Core.Bool.{true}
use mathlib.Core.List.{List}
use Prim.Native.Nat.{ℕ, ◌<◌}
use borrow.Author.Tests.{ltb-true, eqb-true}
use lib.Dec.{lit<}
use lib.ListN.{length}
use Rattle.bits.specs.Checks.{◌or_else◌, passed}
use Rattle.bits.proofs.Passed.{passes}
use Rattle.framing.specs.Frame.{sections, frame_labels}
use Rattle.framing.specs.Calls.{section_checks, section_number}

pub record SectionPassed (labels : List ℕ) (place : ℕ) : Type 0 where
  pub long : length labels ≡ frame_labels
  pub inside : place < sections

pub section-passed : (labels : List ℕ) (place : ℕ) → section_number labels place ≡ passed → SectionPassed labels place
unfolding section_number
section-passed labels place e =
    let part = passes (section_checks labels place) (true or_else passed) refl e in
    record { long = eqb-true _ _ (part 0 (lit< tt)); inside = ltb-true _ _ (part 1 (lit< tt)) }
