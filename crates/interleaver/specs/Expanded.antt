-- The expanded interleaver: a list whose entry i is the interleaved position of i.
use Rattle.std.specs.Prelude.{Bool, List, [], ◌∷◌, ℕ, zero, suc, ◌+◌, take}
use Rattle.bits.specs.Same.{same}
use Rattle.acm.specs.Formats.{format_of}
use Rattle.interleaver.specs.Interleaver.{π}

-- n entries, from that of position i on
abbrev pub expanded_from : (ℕ → ℕ) → ℕ → ℕ → List ℕ
expanded_from ρ i zero = []
expanded_from ρ i (suc n) = ρ i ∷ expanded_from ρ (i + 1) n

-- of format f: I entries
unfoldable pub expanded : ℕ → List ℕ
expanded f = expanded_from (π f) 0 (format_of f).i

-- whether the first I entries of a memory are these, each of them
unfoldable pub expands : ℕ → List ℕ → Bool
expands f memory = same (take (format_of f).i memory) (expanded f)
