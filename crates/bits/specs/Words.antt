-- Words of one width as bits, of which the first weighs most.
use Rattle.std.specs.Prelude.{List, [], ◌∷◌, ◌++◌, ℕ, zero, suc, ◌/◌, ◌%◌, ◌^◌}

-- the lowest n bits of a word
unfoldable pub bits_of : ℕ → ℕ → List ℕ
bits_of zero word = []
bits_of (suc n) word = word / 2 ^ n % 2 ∷ bits_of n word

-- words of so many bits each
unfoldable pub unpacked : ℕ → List ℕ → List ℕ
unpacked width [] = []
unpacked width (word ∷ words) = bits_of width word ++ unpacked width words
