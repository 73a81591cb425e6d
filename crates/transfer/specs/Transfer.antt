-- What transfer frames put on the channel: synchronization marker (000, 3.3) and stream (004, 3.2).
use Rattle.std.specs.Prelude.{List, [], ◌∷◌, ◌++◌, map, ℕ}
use Rattle.bits.specs.Joined.{joined}
use Rattle.bits.specs.Words.{unpacked}
use Rattle.randomizer.specs.Randomizer.{randomized}

-- 1ACFFC1D (table 3-1), four bits for each hexadecimal digit
unfoldable pub sync_marker : List ℕ
sync_marker = unpacked 4 (1 ∷ 10 ∷ 12 ∷ 15 ∷ 15 ∷ 12 ∷ 1 ∷ 13 ∷ [])

abbrev pub marker_length : ℕ
marker_length = 32

-- the randomizer is not applied to the marker
unfoldable pub sync_marked : List ℕ → List ℕ
sync_marked frame = sync_marker ++ randomized frame

-- the stream of frames in order
abbrev pub stream : List (List ℕ) → List ℕ
stream frames = joined (map sync_marked frames)
