-- Readings that the user gave to try; the program readings prints the others.
use Rattle.std.specs.Prelude.{◌≡◌, List, [], ◌∷◌, ◌↔◌, ◌⊎◌, ℕ, ◌<◌, get_or}
use Rattle.bits.specs.Checks.{passed}
use Rattle.trellis.specs.Trellis.{State, zero-state, Stepped, stepped, run, ends, termination}
use Rattle.puncture.specs.Puncture.{period, pattern}

-- a step that passes its check: its two bits, and the number of the state that follows
abbrev pub gives : ℕ → ℕ → ℕ → Stepped
gives s p t = record { number = passed; systematic = s; parity = p; state = t }

-- the two terminating steps from x have these bits, and end in state 00
abbrev pub Terminates : State → List ℕ → Type 0
Terminates x bits = (run x (termination x) ≡ bits) × (ends x (termination x) ≡ zero-state)

pub record Readings : Type 0 where
  pub state_00_bit_1 : stepped 0 1 ≡ gives 1 1 1
  pub state_01_bit_0 : stepped 1 0 ≡ gives 0 1 3
  pub state_11_bit_0 : stepped 3 0 ≡ gives 0 1 2
  pub state_10_bit_0 : stepped 2 0 ≡ gives 0 0 1
  pub from_00_bits_111 : (run zero-state (1 ∷ 1 ∷ 1 ∷ []) ≡ 1 ∷ 1 ∷ 1 ∷ 0 ∷ 1 ∷ 1 ∷ []) × (ends zero-state (1 ∷ 1 ∷ 1 ∷ []) ≡ zero-state)
  pub closing_from_01 : Terminates (0, 1) (1 ∷ 0 ∷ 1 ∷ 1 ∷ [])
  pub closing_from_11 : Terminates (1, 1) (0 ∷ 1 ∷ 1 ∷ 1 ∷ [])
  pub closing_from_10 : Terminates (1, 0) (1 ∷ 1 ∷ 0 ∷ 0 ∷ [])
  pub pattern_299 : (j : ℕ) → j < period → (get_or (pattern 299) j 1 ≡ 0) ↔ (j ≡ 76)
  pub pattern_298 : (j : ℕ) → j < period → (get_or (pattern 298) j 1 ≡ 0) ↔ ((j ≡ 76) ⊎ (j ≡ 1))
