-- Long division of polynomials modulo 2. A polynomial is the list of its coefficients, that of the highest power first, as bits are sent.
use Rattle.std.specs.Prelude.{List, [], ◌∷◌, map, ℕ, zero, suc, ◌-◌, ◌*◌, length}
use Rattle.bits.specs.Sum.{◌⊕◌}

-- q added to the front of p
abbrev pub add_front : List ℕ → List ℕ → List ℕ
add_front p [] = p
add_front [] (b ∷ q) = []
add_front (a ∷ p) (b ∷ q) = a ⊕ b ∷ add_front p q

-- h times q
abbrev pub scaled : ℕ → List ℕ → List ℕ
scaled h q = map (λ c. h * c) q

-- n steps of dividing p by the polynomial whose first coefficient is 1 and whose others are q: with the first coefficient of p, h, goes h times
-- the divisor, and so h times q from the others; modulo 2, to subtract is to add
abbrev pub divided : List ℕ → ℕ → List ℕ → List ℕ
divided q zero p = p
divided q (suc n) [] = []
divided q (suc n) (h ∷ p) = divided q n (add_front p (scaled h q))

-- what is left of p once it has no more coefficients than q
abbrev pub remainder : List ℕ → List ℕ → List ℕ
remainder q p = divided q (length p - length q) p
