-- Legal elements: a list of bits has none above 1, a list of labels none above 2^m - 1.
use Rattle.std.specs.Prelude.{Bool, true, ◌&&◌, List, [], ◌∷◌, ℕ, leb}

abbrev pub all_at_most : ℕ → List ℕ → Bool
all_at_most top [] = true
all_at_most top (x ∷ xs) = leb x top && all_at_most top xs

abbrev pub all_bits : List ℕ → Bool
all_bits = all_at_most 1
