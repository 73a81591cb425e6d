-- The frame descriptor (5.2.1; 004, 5.3.3, whose code has one row more).
use Rattle.std.specs.Prelude.{List, [], ◌∷◌, ℕ, ◌*◌, ◌/◌, ◌%◌, eqb, replicate, if◌then◌else◌}
use Rattle.bits.specs.Sum.{◌⊕*◌}
use Rattle.header.specs.declared.choice.Pilots.{Pilots}
use Rattle.header.specs.declared.choice.Pilots.TheVariants as choice

-- bits of the (32, 7) code, each of which is sent twice
abbrev pub code_length : ℕ
code_length = 32

abbrev pub descriptor_length : ℕ
descriptor_length = 2 * code_length

-- the pilot choice, which is also the bit for pilots
abbrev pub pilots_off : ℕ
pilots_off = 0

abbrev pub pilots_on : ℕ
pilots_on = 1

abbrev pub choice_number : Pilots → ℕ
choice_number choice.Off = pilots_off
choice_number choice.On = pilots_on

-- b0 to b6 (004, table 5-4): the six bits of the format number, the most significant first, and the bit for pilots
abbrev pub information : ℕ → ℕ → List ℕ
information f pilots = f / 32 % 2 ∷ f / 16 % 2 ∷ f / 8 % 2 ∷ f / 4 % 2 ∷ f / 2 % 2 ∷ f % 2 ∷ pilots ∷ []

-- the generator matrix of the (32, 7) code (004, figure 5-7): a first row, hexadecimal 90AC2DDD, and the six of 000 (figure 5-4), of which our copy of
-- 004 prints the fifth with a digit too many
unfoldable pub G : List (List ℕ)
G =
    (1 ∷ 0 ∷ 0 ∷ 1 ∷ 0 ∷ 0 ∷ 0 ∷ 0 ∷ 1 ∷ 0 ∷ 1 ∷ 0 ∷ 1 ∷ 1 ∷ 0 ∷ 0 ∷ 0 ∷ 0 ∷ 1 ∷ 0 ∷ 1 ∷ 1 ∷ 0 ∷ 1 ∷ 1 ∷ 1 ∷ 0 ∷ 1 ∷ 1 ∷ 1 ∷ 0 ∷ 1 ∷ []) ∷
    (0 ∷ 1 ∷ 0 ∷ 1 ∷ 0 ∷ 1 ∷ 0 ∷ 1 ∷ 0 ∷ 1 ∷ 0 ∷ 1 ∷ 0 ∷ 1 ∷ 0 ∷ 1 ∷ 0 ∷ 1 ∷ 0 ∷ 1 ∷ 0 ∷ 1 ∷ 0 ∷ 1 ∷ 0 ∷ 1 ∷ 0 ∷ 1 ∷ 0 ∷ 1 ∷ 0 ∷ 1 ∷ []) ∷
    (0 ∷ 0 ∷ 1 ∷ 1 ∷ 0 ∷ 0 ∷ 1 ∷ 1 ∷ 0 ∷ 0 ∷ 1 ∷ 1 ∷ 0 ∷ 0 ∷ 1 ∷ 1 ∷ 0 ∷ 0 ∷ 1 ∷ 1 ∷ 0 ∷ 0 ∷ 1 ∷ 1 ∷ 0 ∷ 0 ∷ 1 ∷ 1 ∷ 0 ∷ 0 ∷ 1 ∷ 1 ∷ []) ∷
    (0 ∷ 0 ∷ 0 ∷ 0 ∷ 1 ∷ 1 ∷ 1 ∷ 1 ∷ 0 ∷ 0 ∷ 0 ∷ 0 ∷ 1 ∷ 1 ∷ 1 ∷ 1 ∷ 0 ∷ 0 ∷ 0 ∷ 0 ∷ 1 ∷ 1 ∷ 1 ∷ 1 ∷ 0 ∷ 0 ∷ 0 ∷ 0 ∷ 1 ∷ 1 ∷ 1 ∷ 1 ∷ []) ∷
    (0 ∷ 0 ∷ 0 ∷ 0 ∷ 0 ∷ 0 ∷ 0 ∷ 0 ∷ 1 ∷ 1 ∷ 1 ∷ 1 ∷ 1 ∷ 1 ∷ 1 ∷ 1 ∷ 0 ∷ 0 ∷ 0 ∷ 0 ∷ 0 ∷ 0 ∷ 0 ∷ 0 ∷ 1 ∷ 1 ∷ 1 ∷ 1 ∷ 1 ∷ 1 ∷ 1 ∷ 1 ∷ []) ∷
    (0 ∷ 0 ∷ 0 ∷ 0 ∷ 0 ∷ 0 ∷ 0 ∷ 0 ∷ 0 ∷ 0 ∷ 0 ∷ 0 ∷ 0 ∷ 0 ∷ 0 ∷ 0 ∷ 1 ∷ 1 ∷ 1 ∷ 1 ∷ 1 ∷ 1 ∷ 1 ∷ 1 ∷ 1 ∷ 1 ∷ 1 ∷ 1 ∷ 1 ∷ 1 ∷ 1 ∷ 1 ∷ []) ∷
    (1 ∷ 1 ∷ 1 ∷ 1 ∷ 1 ∷ 1 ∷ 1 ∷ 1 ∷ 1 ∷ 1 ∷ 1 ∷ 1 ∷ 1 ∷ 1 ∷ 1 ∷ 1 ∷ 1 ∷ 1 ∷ 1 ∷ 1 ∷ 1 ∷ 1 ∷ 1 ∷ 1 ∷ 1 ∷ 1 ∷ 1 ∷ 1 ∷ 1 ∷ 1 ∷ 1 ∷ 1 ∷ []) ∷
    []

-- y and those rows of a matrix whose bits are 1, summed
abbrev pub add_rows : List ℕ → List ℕ → List (List ℕ) → List ℕ
add_rows y [] rows = y
add_rows y (b ∷ bs) [] = y
add_rows y (b ∷ bs) (row ∷ rows) = add_rows (if eqb b 1 then y ⊕* row else y) bs rows

-- y1 to y32
abbrev pub coded : List ℕ → List ℕ
coded bs = add_rows (replicate code_length 0) bs G

-- y1 y1 y2 y2 ..
abbrev pub twice : List ℕ → List ℕ
twice [] = []
twice (y ∷ ys) = y ∷ y ∷ twice ys

-- hexadecimal 719D83C953422DFA, the sequence of reference B2: our copy has lost a digit in the run of six ones
unfoldable pub scrambling : List ℕ
scrambling =
    0 ∷ 1 ∷ 1 ∷ 1 ∷ 0 ∷ 0 ∷ 0 ∷ 1 ∷ 1 ∷ 0 ∷ 0 ∷ 1 ∷ 1 ∷ 1 ∷ 0 ∷ 1 ∷ 1 ∷ 0 ∷ 0 ∷ 0 ∷ 0 ∷ 0 ∷ 1 ∷ 1 ∷ 1 ∷ 1 ∷ 0 ∷ 0 ∷ 1 ∷ 0 ∷ 0 ∷ 1 ∷
    0 ∷ 1 ∷ 0 ∷ 1 ∷ 0 ∷ 0 ∷ 1 ∷ 1 ∷ 0 ∷ 1 ∷ 0 ∷ 0 ∷ 0 ∷ 0 ∷ 1 ∷ 0 ∷ 0 ∷ 0 ∷ 1 ∷ 0 ∷ 1 ∷ 1 ∷ 0 ∷ 1 ∷ 1 ∷ 1 ∷ 1 ∷ 1 ∷ 1 ∷ 0 ∷ 1 ∷ 0 ∷ []

-- b7 is 0, so every symbol is sent twice as it is
unfoldable pub descriptor : ℕ → ℕ → List ℕ
descriptor f pilots = twice (coded (information f pilots)) ⊕* scrambling
