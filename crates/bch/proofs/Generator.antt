-- The generator against outside numbers: in the field of x^13 + x^4 + x^3 + x + 1, whose root is α, it is the product of the minimal polynomials
-- of α, α^3, α^5 and α^7, as that of a code of length 8,191 which corrects four errors is; and it divides x^8191 + 1, as a cyclic code's does.
use mathlib.Core.Path.{◌≡◌, refl}
use mathlib.Core.List.{List, [], ◌∷◌, ◌++◌, reverse}
use Prim.Native.Nat.{ℕ, ◌-◌}
use lib.ListN.{drop}
use Rattle.bits.specs.Polynomials.{times}
use Rattle.bch.specs.Division.{remainder}
use Rattle.bch.specs.Bch.{check_length, zeros, printed, lower}

-- of each the coefficients of x^0 to x^13
abbrev m1 : List ℕ
m1 = 1 ∷ 1 ∷ 0 ∷ 1 ∷ 1 ∷ 0 ∷ 0 ∷ 0 ∷ 0 ∷ 0 ∷ 0 ∷ 0 ∷ 0 ∷ 1 ∷ []

abbrev m3 : List ℕ
m3 = 1 ∷ 0 ∷ 0 ∷ 0 ∷ 1 ∷ 1 ∷ 0 ∷ 1 ∷ 0 ∷ 1 ∷ 1 ∷ 0 ∷ 0 ∷ 1 ∷ []

abbrev m5 : List ℕ
m5 = 1 ∷ 1 ∷ 0 ∷ 0 ∷ 1 ∷ 0 ∷ 0 ∷ 1 ∷ 1 ∷ 0 ∷ 0 ∷ 1 ∷ 0 ∷ 1 ∷ []

abbrev m7 : List ℕ
m7 = 1 ∷ 1 ∷ 1 ∷ 1 ∷ 0 ∷ 0 ∷ 1 ∷ 0 ∷ 1 ∷ 1 ∷ 1 ∷ 0 ∷ 0 ∷ 1 ∷ []

pub generator_product : times (times m1 m3) (times m5 m7) ≡ printed
unfolding printed
generator_product = refl

-- p(x^j)
abbrev spaced : ℕ → List ℕ → List ℕ
spaced j [] = []
spaced j (a ∷ []) = a ∷ []
spaced j (a ∷ b ∷ p) = a ∷ (zeros (j - 1) ++ spaced j (b ∷ p))

-- α^j is a root of p if m1 divides p(x^j). The degree of a minimal polynomial in this field is 1 or 13, so one of degree 13 with this root is it.
abbrev root : ℕ → List ℕ → List ℕ
root j p = remainder (drop 1 (reverse m1)) (reverse (spaced j p))

pub root_3 : root 3 m3 ≡ zeros 13
root_3 = refl

pub root_5 : root 5 m5 ≡ zeros 13
root_5 = refl

pub root_7 : root 7 m7 ≡ zeros 13
root_7 = refl

pub divides_x8191 : remainder lower (1 ∷ (zeros 8190 ++ (1 ∷ []))) ≡ zeros check_length
unfolding printed lower
divides_x8191 = refl
