-- The frame marker (5.1), a Gold sequence: the sum of a sequence of g1 and one of g2.
-- The sum of sequences of g1 and g2 is a sequence of the product g1 × g2. Its degree is 16, so sixteen bits determine the others.
-- Figure 5-2, which shows the registers at the start, is missing in our copy: the sixteen are the first of the forty bits that 5.1 prints.
use Rattle.std.specs.Prelude.{List, [], ◌∷◌, ℕ}
use Rattle.bits.specs.Polynomials.{times}
use Rattle.bits.specs.Sequence.{sequence}

abbrev pub marker_length : ℕ
marker_length = 256

-- equation 5-1
abbrev pub g1 : List ℕ
g1 = 1 ∷ 0 ∷ 0 ∷ 0 ∷ 1 ∷ 1 ∷ 1 ∷ 0 ∷ 1 ∷ []

abbrev pub g2 : List ℕ
g2 = 1 ∷ 1 ∷ 0 ∷ 1 ∷ 1 ∷ 1 ∷ 1 ∷ 0 ∷ 1 ∷ []

-- the first of the printed bits
abbrev pub first_bits : List ℕ
first_bits = 1 ∷ 1 ∷ 1 ∷ 1 ∷ 1 ∷ 0 ∷ 1 ∷ 1 ∷ 0 ∷ 1 ∷ 0 ∷ 0 ∷ 0 ∷ 1 ∷ 0 ∷ 0 ∷ []

unfoldable pub marker : List ℕ
marker = sequence (times g1 g2) marker_length first_bits
