-- What a C caller finds where sccc_section points is the section that framing's call hands back.
use mathlib.Core.Path.{◌≡◌}
use mathlib.Core.List.{List}
use Prim.Native.Nat.{ℕ}
use lib.Dec.{eqb}
use lib.ListN.{take, drop}
use Rattle.bits.specs.Checks.{passed}
use Rattle.bits.proofs.Cases.{by_cases}
use Rattle.framing.specs.Calls.{section_labels, section_number}
use Rattle.sccc.specs.Structs.{range_struct}

pub section-at : (labels : List ℕ) (place : ℕ)
    → take (range_struct labels place).length (drop (range_struct labels place).start labels) ≡ section_labels labels place
unfolding section_labels
section-at labels place =
    by_cases (eqb (section_number labels place) passed) (λ t. rw t) (λ f. rw f)
