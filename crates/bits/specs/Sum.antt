-- Sums modulo 2 (equation 6-3). A bit is the number 0 or 1.
use Rattle.std.specs.Prelude.{List, [], ◌∷◌, ℕ, ◌+◌, ◌/◌, ◌%◌, ◌^◌}

infixl 68 ◌⊕◌
abbrev pub ◌⊕◌ : ℕ → ℕ → ℕ
a ⊕ b = (a + b) % 2

-- bit by bit, for lists of one length
infixl 66 ◌⊕*◌
abbrev pub ◌⊕*◌ : List ℕ → List ℕ → List ℕ
[] ⊕* ys = []
x ∷ xs ⊕* [] = []
x ∷ xs ⊕* (y ∷ ys) = x ⊕ y ∷ (xs ⊕* ys)

-- the bit of n that weighs 2^j
abbrev pub bit : ℕ → ℕ → ℕ
bit j n = n / 2 ^ j % 2
