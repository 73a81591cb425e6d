-- The pseudo-random sequence against what 3.2 says of it.
use mathlib.Core.Path.{◌≡◌, refl}
use mathlib.Core.List.{List, [], ◌∷◌, ◌++◌}
use Prim.Native.Nat.{ℕ, ◌+◌}
use Rattle.bits.proofs.Sequences.{sequence-append}
use Rattle.randomizer.specs.Randomizer.{h, all_ones, pseudo_random}

-- the forty bits that 3.2 prints
abbrev pub printed : List ℕ
printed =
    1 ∷ 1 ∷ 1 ∷ 1 ∷ 1 ∷ 1 ∷ 1 ∷ 1 ∷ 0 ∷ 1 ∷ 0 ∷ 0 ∷ 1 ∷ 0 ∷ 0 ∷ 0 ∷ 0 ∷ 0 ∷ 0 ∷ 0 ∷
    1 ∷ 1 ∷ 1 ∷ 0 ∷ 1 ∷ 1 ∷ 0 ∷ 0 ∷ 0 ∷ 0 ∷ 0 ∷ 0 ∷ 1 ∷ 0 ∷ 0 ∷ 1 ∷ 1 ∷ 0 ∷ 1 ∷ 0 ∷ []

pub sequence-printed : pseudo_random 40 ≡ printed
unfolding pseudo_random
sequence-printed = refl

-- it repeats after 255 bits
pub sequence-repeats : (n : ℕ) → pseudo_random (255 + n) ≡ pseudo_random 255 ++ pseudo_random n
unfolding pseudo_random
sequence-repeats n = sequence-append h 255 n all_ones
