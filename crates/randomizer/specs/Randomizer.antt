-- The pseudo-randomizer (000, 3.2).
use Rattle.std.specs.Prelude.{List, [], ◌∷◌, ℕ, ◌*◌, length, replicate}
use Rattle.bits.specs.Sequence.{sequence}
use Rattle.bits.specs.Sum.{◌⊕*◌}
use Rattle.bits.specs.Words.{unpacked}

abbrev pub octet_length : ℕ
octet_length = 8

-- equation 3-1
abbrev pub h : List ℕ
h = 1 ∷ 0 ∷ 0 ∷ 1 ∷ 0 ∷ 1 ∷ 0 ∷ 1 ∷ 1 ∷ []

-- the generator's register at the first bit of each frame
abbrev pub all_ones : List ℕ
all_ones = replicate 8 1

-- n bits of the pseudo-random sequence
unfoldable pub pseudo_random : ℕ → List ℕ
pseudo_random n = sequence h n all_ones

-- a frame's octets, the heaviest bit of each first, and the sequence added bit by bit
unfoldable pub randomized : List ℕ → List ℕ
randomized frame = unpacked octet_length frame ⊕* pseudo_random (octet_length * length frame)
