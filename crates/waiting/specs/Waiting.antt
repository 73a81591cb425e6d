-- Bits that wait in lent memory, a bit a byte, from byte 0 on.
use Rattle.std.specs.Prelude.{List, [], ◌∷◌, ◌++◌, ℕ, ◌+◌, leb, length, take, drop}
use Rattle.bits.specs.Checks.{Check, ◌or_else◌, first_failed, bad_length, bad_element, short_workspace}
use Rattle.bits.specs.Legal.{all_bits}

-- the memory's least length in bytes, and the most bits that may wait
abbrev pub memory_length : ℕ
memory_length = 600000

-- the bits that wait in memory: count of them, or all that are there if there are fewer
abbrev pub waiting_bits : ℕ → List ℕ → List ℕ
waiting_bits count memory = take count memory

abbrev pub waiting_checks : ℕ → List ℕ → List Check
waiting_checks count memory =
    leb count memory_length or_else bad_length
    ∷ all_bits (waiting_bits count memory) or_else bad_element
    ∷ leb memory_length (length memory) or_else short_workspace
    ∷ []

unfoldable pub waiting_number : ℕ → List ℕ → ℕ
waiting_number count memory = first_failed (waiting_checks count memory)

-- bits behind the first count
abbrev pub behind : ℕ → List ℕ → List ℕ → List ℕ
behind count bits memory = take count memory ++ bits ++ drop (count + length bits) memory

-- the n bytes from byte k on moved to the front: all behind them is as it was
abbrev pub advanced : ℕ → ℕ → List ℕ → List ℕ
advanced k n memory = take n (drop k memory) ++ drop n memory
