-- The sequence of a register with a feedback polynomial g: of any bits in a row, as many as g has coefficients, those whose coefficients are 1
-- sum to 0. A polynomial is the list of the coefficients of x^0, x^1 and so on.
use Rattle.std.specs.Prelude.{List, [], ◌∷◌, ◌++◌, ℕ, zero, suc, ◌*◌}
use Rattle.bits.specs.Sum.{◌⊕◌}

-- the sum of the bits whose coefficients in g are 1
abbrev pub feedback : List ℕ → List ℕ → ℕ
feedback [] s = 0
feedback (a ∷ g) [] = 0
feedback (a ∷ g) (b ∷ s) = a * b ⊕ feedback g s

-- the register after a step: its first bit goes out, the feedback comes in behind the others
abbrev pub shifted : List ℕ → List ℕ → List ℕ
shifted g [] = []
shifted g (b ∷ s) = s ++ (feedback g (b ∷ s) ∷ [])

-- n bits of the sequence that starts with the bits s, as many as g's degree
abbrev pub sequence : List ℕ → ℕ → List ℕ → List ℕ
sequence g zero s = []
sequence g (suc n) [] = []
sequence g (suc n) (b ∷ s) = b ∷ sequence g n (shifted g (b ∷ s))
