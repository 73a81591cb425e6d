-- The vectors of annex C, and the sizes found by their W.
use Rattle.std.specs.Prelude.{◌≡◌, Bool, false, ◌||◌, List, [], ◌∷◌, ℕ, ◌≤◌, ◌<◌, eqb, length, get_or, if◌then◌else◌}
use Rattle.acm.specs.Formats.{M}
use Rattle.annex_c.specs.Sizes.{Size, sizes}

-- W of the largest size
abbrev pub widest : ℕ
widest = 546

-- two vectors of length W: the elements of α lie in [0, W - 1], those of β in [0, M - 1]
pub record Vectors (α β : List ℕ) : Type 0 where
  pub long : length β ≡ length α
  pub narrow : length α ≤ widest
  pub α_range : (j : ℕ) → j < length α → get_or α j 0 < length α
  pub β_range : (j : ℕ) → j < length α → get_or β j 0 < M

-- whether a list of sizes has one with this W; and that size, one without rows where there is none
abbrev pub among : ℕ → List Size → Bool
among w [] = false
among w (s ∷ ss) = eqb s.W w || among w ss

abbrev pub find : ℕ → List Size → Size
find w [] = record { W = 0; stand_in = false; α = []; β = [] }
find w (s ∷ ss) = if eqb s.W w then s else find w ss

unfoldable pub is_size : ℕ → Bool
is_size w = among w sizes

unfoldable pub size_of : ℕ → Size
size_of w = find w sizes
