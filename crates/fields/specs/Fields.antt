-- The fields of a line: a text cut at a byte, and numbers in decimal without leading zeros.
use Rattle.std.specs.Prelude.{Bool, true, ◌&&◌, List, [], ◌∷◌, map, ℕ, ◌+◌, ◌-◌, ◌^◌, leb, ltb, length, take, drop, if◌then◌else◌, Option, Some, None}
use Rattle.bits.specs.Digits.{value_from}
use Rattle.bits.specs.Place.{place}
use Rattle.bits.specs.Same.{same}
use Rattle.ascii.specs.Text.{zero_digit, nine_digit, decimal}

-- a number of so many digits fits in 64 bits
abbrev pub most_digits : ℕ
most_digits = 18

-- what stands before the first of a byte, and behind it
abbrev pub before : ℕ → List ℕ → List ℕ
before b text = take (place b text) text

abbrev pub behind : ℕ → List ℕ → List ℕ
behind b text = drop (place b text + 1) text

-- both, if the byte is there
abbrev pub cut_at : ℕ → List ℕ → Option (List ℕ × List ℕ)
cut_at b text = if ltb (place b text) (length text) then Some (before b text, behind b text) else None

-- the number that decimal digits write, behind those of n
abbrev pub value_behind : ℕ → List ℕ → ℕ
value_behind n digits = value_from 10 n (map (λ d. d - zero_digit) digits)

abbrev pub value : List ℕ → ℕ
value = value_behind 0

abbrev pub is_digit : ℕ → Bool
is_digit b = leb zero_digit b && leb b nine_digit

unfoldable pub all_digits : List ℕ → Bool
all_digits [] = true
all_digits (b ∷ bs) = is_digit b && all_digits bs

-- a text is a field of at most k digits if it is the text of its own value, and this has no more
unfoldable pub is_field : ℕ → List ℕ → Bool
is_field k text = ltb (value text) (10 ^ k) && same text (decimal (value text))

abbrev pub field_of : ℕ → List ℕ → Option ℕ
field_of k text = if is_field k text then Some (value text) else None
