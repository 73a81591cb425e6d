-- The exclusive or of three lists of one length, place by place.
use Rattle.std.specs.Prelude.{List, [], ◌∷◌, ℕ, bit_xor}

-- what g makes of the three that stand at each place
abbrev pub of_three : {A : Type 0} → (A → A → A → A) → List A → List A → List A → List A
of_three g [] ys zs = []
of_three g (x ∷ xs) [] zs = []
of_three g (x ∷ xs) (y ∷ ys) [] = []
of_three g (x ∷ xs) (y ∷ ys) (z ∷ zs) = g x y z ∷ of_three g xs ys zs

-- of lists of numbers, bit by bit
abbrev pub xored : List ℕ → List ℕ → List ℕ → List ℕ
xored = of_three (λ x y z. bit_xor (bit_xor x y) z)

-- of lists of such lists
abbrev pub lists_xored : List (List ℕ) → List (List ℕ) → List (List ℕ) → List (List ℕ)
lists_xored = of_three xored
