-- Coding rate adjustment (4.4, with Corrigendum 1): which bits of the two registers are kept.
use Rattle.std.specs.Prelude.{◌≡◌, Bool, true, false, List, [], ◌∷◌, ℕ, ◌+◌, ◌-◌, ◌*◌, ◌%◌, ◌<◌, eqb, leb, ltb, length, get_or, replicate, set, take, if◌then◌else◌}
use Rattle.puncture.specs.Table42.{positions}
use Rattle.puncture.specs.declared.steps.Matching.{Matching}

-- the length of the puncturing pattern (4.4.1)
abbrev pub period : ℕ
period = 300

-- how many positions table 4-2 has: the most that a pattern punctures
abbrev pub most_punctured : ℕ
most_punctured = 100

-- 4.4.2 a): the pattern for S_sur surviving bits has 0s at the first 300 - S_sur positions of table 4-2 and 1s elsewhere
abbrev pub zeroed : List ℕ → List ℕ → List ℕ
zeroed pattern [] = pattern
zeroed pattern (p ∷ ps) = zeroed (set pattern p 0) ps

unfoldable pub pattern : ℕ → List ℕ
pattern Ssur = zeroed (replicate period 1) (take (period - Ssur) positions)

-- the same laid out over three periods
pub record LaidOut (Ssur : ℕ) (l : List ℕ) : Type 0 where
  pub long : length l ≡ 3 * period
  pub entry : (j : ℕ) → j < 3 * period → get_or l j 0 ≡ get_or (pattern Ssur) (j % period) 0

-- b), c): position i of the upper register is kept where the pattern has a 1 at π(i) modulo 300
abbrev pub survives : ℕ → ℕ → Bool
survives Ssur p = eqb (get_or (pattern Ssur) (p % period) 0) 1

-- the elements at the positions that pass a test; the list's first stands at position i
abbrev pub kept_at : (ℕ → Bool) → ℕ → List ℕ → List ℕ
kept_at test i [] = []
kept_at test i (x ∷ xs) = if test i then x ∷ kept_at test (i + 1) xs else kept_at test (i + 1) xs

abbrev pub punctured : ℕ → (ℕ → ℕ) → List ℕ → List ℕ
punctured Ssur π bits = kept_at (λ i. survives Ssur (π i)) 0 bits

-- 4.4.3.2: its variable e is held as the difference plus - minus of two numbers that only grow.
-- "if e > 0 transmit the bit, else set e = e + I; set e = e - Δ"
abbrev pub matched : ℕ → ℕ → ℕ → ℕ → List ℕ → List ℕ
matched I Δ plus minus [] = []
matched I Δ plus minus (b ∷ bs) =
    if ltb minus plus then b ∷ matched I Δ plus (minus + Δ) bs else matched I Δ (plus + I) (minus + Δ) bs

-- "set the variable e = 1"
abbrev pub rate_matched : ℕ → ℕ → List ℕ → List ℕ
rate_matched I Δ bits = matched I Δ 1 0 bits

-- The code counts with e + Δ - 1, which is never below 0: one bit of rate matching by that counter, and its start.
abbrev pub counter_start : ℕ → ℕ
counter_start Δ = Δ

abbrev pub counted : ℕ → ℕ → ℕ → Matching
counted I Δ c =
    if leb Δ c then record { kept = true; counter = c - Δ }
    else record { kept = false; counter = c + (I - Δ) }

-- the bits that it keeps
abbrev pub counted_from : ℕ → ℕ → ℕ → List ℕ → List ℕ
counted_from I Δ c [] = []
counted_from I Δ c (b ∷ bs) =
    if (counted I Δ c).kept then b ∷ counted_from I Δ (counted I Δ c).counter bs else counted_from I Δ (counted I Δ c).counter bs
