-- The flat tables of the code: the sizes of annex C one behind the other, and where a size stands.
use Rattle.std.specs.Prelude.{◌≡◌, List, [], ◌∷◌, ◌++◌, map, ℕ, ◌+◌, eqb, if◌then◌else◌}
use Rattle.annex_c.specs.Sizes.{Size, sizes}

abbrev pub widths : List Size → List ℕ
widths = map (λ s. s.W)

-- one of the two vectors of each size
abbrev pub flat : (Size → List ℕ) → List Size → List ℕ
flat v [] = []
flat v (s ∷ ss) = v s ++ flat v ss

-- three lists that are annex C's tables
pub record Tables (ws xs ys : List ℕ) : Type 0 where
  pub W : ws ≡ widths sizes
  pub α : xs ≡ flat (λ s. s.α) sizes
  pub β : ys ≡ flat (λ s. s.β) sizes

-- how many rows stand before the size with this W; how many sizes do is its place among the widths
abbrev pub rows_before : ℕ → List ℕ → ℕ
rows_before w [] = 0
rows_before w (x ∷ xs) = if eqb x w then 0 else x + rows_before w xs
