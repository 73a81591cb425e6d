-- The part that is lent is 8,100 labels long.
use native.Mathlib.Nat.{add-sub_cancel_left}
use native.Mathlib.Omega.{arith}
use Rattle.std.proofs.lemmas.Bool.Decides.{nat_tests}
use Rattle.framing.specs.Calls.{section_labels, section_number}
use Rattle.framing.proofs.try_section.Goals as goal

pub returns-clause-part : goal.returns-clause-part
unfolding section_labels section_number
returns-clause-part c = rw add-sub_cancel_left (grind (arith, nat_tests))
