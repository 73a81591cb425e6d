-- What the code's tables have to hold, and what it makes of them.
use Rattle.std.specs.Prelude.{◌≡◌, List, [], ◌∷◌, ◌++◌, map, ℕ, zero, suc, ◌+◌, ◌*◌, ◌/◌, ◌%◌, ◌<◌, length}
use Rattle.std.specs.Int.Bits.{bit_xor}
use Rattle.bits.specs.Words.{bits_of, unpacked}
use Rattle.randomizer.specs.Randomizer.{octet_length, pseudo_random}

-- octets, each with its mask added bit by bit
unfoldable pub masked : List ℕ → List ℕ → List ℕ
masked [] masks = []
masked (x ∷ xs) [] = []
masked (x ∷ xs) (m ∷ masks) = bit_xor x m ∷ masked xs masks

-- n bytes of a word, the lightest first
unfoldable pub bytes_of : ℕ → ℕ → List ℕ
bytes_of zero word = []
bytes_of (suc n) word = word % 256 ∷ bytes_of n (word / 256)

-- n numbers from i on
abbrev pub count_from : ℕ → ℕ → List ℕ
count_from i zero = []
count_from i (suc n) = i ∷ count_from (suc i) n

-- the word of each octet has the octet's bits as its bytes
abbrev pub Spread : List ℕ → Type 0
Spread words = map (bytes_of octet_length) words ≡ map (bits_of octet_length) (count_from 0 256)

-- the masks are the sequence's octets, and behind the last of them it begins anew
pub record Masks (masks : List ℕ) : Type 0 where
  pub some : 0 < length masks
  pub bits : unpacked octet_length masks ≡ pseudo_random (octet_length * length masks)
  pub anew : (n : ℕ) → pseudo_random (octet_length * length masks + n) ≡ pseudo_random (octet_length * length masks) ++ pseudo_random n
