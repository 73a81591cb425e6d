-- Where the code finds the mark of a position: in one of 512 slots, so that it need not divide by 300.
use Rattle.std.specs.Prelude.{◌≡◌, List, ℕ, ◌+◌, ◌*◌, ◌/◌, ◌%◌, ◌^◌, ◌<◌, length, get_or}
use Rattle.puncture.specs.Puncture.{period, pattern}

-- what p leaves, in 512ths of 300: the nine heaviest of 32 bits of p times 2^32 / 300, rounded up
abbrev pub slot : ℕ → ℕ
slot p = p * (2 ^ 32 / period + 1) % 2 ^ 32 / 2 ^ 23

-- a pattern whose marks stand in their positions' slots
pub record Spread (Ssur : ℕ) (slots : List ℕ) : Type 0 where
  pub long : length slots ≡ 512
  pub mark : (p : ℕ) → p < 2 ^ 16 → get_or slots (slot p) 0 ≡ get_or (pattern Ssur) (p % period) 0
