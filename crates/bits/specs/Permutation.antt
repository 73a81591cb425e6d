-- f is a permutation of the numbers below n.
use Rattle.std.specs.Prelude.{◌≡◌, ℕ, ◌<◌}

pub record Permutes (n : ℕ) (f : ℕ → ℕ) : Type 0 where
  pub below : (i : ℕ) → i < n → f i < n
  pub apart : (i j : ℕ) → i < n → j < n → f i ≡ f j → i ≡ j
  pub onto : (y : ℕ) → y < n → (i : ℕ) × (i < n) × (f i ≡ y)
