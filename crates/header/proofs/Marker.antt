-- The frame marker against what 5.1 prints, and against its two registers.
use mathlib.Core.Path.{◌≡◌, refl}
use mathlib.Core.List.{List, [], ◌∷◌}
use Prim.Native.Nat.{ℕ}
use lib.ListN.{length, take}
use Rattle.bits.specs.Sequence.{sequence}
use Rattle.bits.specs.Sum.{◌⊕*◌}
use Rattle.header.specs.Marker.{g1, g2, marker, marker_length}

pub marker_length_lem : length marker ≡ marker_length
unfolding marker
marker_length_lem = refl

-- the forty bits that 5.1 prints
abbrev pub printed : List ℕ
printed =
    1 ∷ 1 ∷ 1 ∷ 1 ∷ 1 ∷ 0 ∷ 1 ∷ 1 ∷ 0 ∷ 1 ∷ 0 ∷ 0 ∷ 0 ∷ 1 ∷ 0 ∷ 0 ∷ 0 ∷ 0 ∷ 0 ∷ 1 ∷
    1 ∷ 1 ∷ 1 ∷ 1 ∷ 0 ∷ 0 ∷ 0 ∷ 1 ∷ 1 ∷ 1 ∷ 0 ∷ 1 ∷ 1 ∷ 0 ∷ 1 ∷ 1 ∷ 1 ∷ 1 ∷ 0 ∷ 1 ∷ []

pub marker-printed : take 40 marker ≡ printed
unfolding marker
marker-printed = refl

-- The two registers' starts that give the printed bits: the marker is a Gold sequence, the sum of a sequence of g1 and one of g2.
abbrev pub start1 : List ℕ
start1 = 0 ∷ 1 ∷ 1 ∷ 0 ∷ 1 ∷ 0 ∷ 0 ∷ 1 ∷ []

abbrev pub start2 : List ℕ
start2 = 1 ∷ 0 ∷ 0 ∷ 1 ∷ 0 ∷ 0 ∷ 1 ∷ 0 ∷ []

pub marker_gold : sequence g1 marker_length start1 ⊕* sequence g2 marker_length start2 ≡ marker
unfolding marker
marker_gold = refl
