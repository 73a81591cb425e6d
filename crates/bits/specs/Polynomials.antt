-- Sum and product of polynomials modulo 2. A polynomial is the list of the coefficients of x^0, x^1 and so on.
use Rattle.std.specs.Prelude.{List, [], ◌∷◌, map, ℕ, ◌*◌}
use Rattle.bits.specs.Sum.{◌⊕◌}

abbrev pub plus : List ℕ → List ℕ → List ℕ
plus [] q = q
plus (a ∷ p) [] = a ∷ p
plus (a ∷ p) (b ∷ q) = a ⊕ b ∷ plus p q

abbrev pub times : List ℕ → List ℕ → List ℕ
times [] q = []
times (a ∷ p) q = plus (map (λ b. a * b) q) (0 ∷ times p q)
