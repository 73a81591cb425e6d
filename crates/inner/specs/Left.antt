-- The inner encoder on its way through the positions: what is left of each register, and the output that this completes.
use Rattle.std.specs.Prelude.{◌≡◌, List, ◌++◌, ℕ, ◌+◌, ◌-◌, ◌≤◌, ◌<◌, length}
use Rattle.std.proofs.lemmas.List.Edits.{sets}
use Rattle.acm.specs.Formats.{N1}
use Rattle.acm.specs.declared.table.Format.{Format}
use Rattle.trellis.specs.Trellis.{State, zero-state, parities, ends, termination}
use Rattle.puncture.specs.Puncture.{survives, kept_at, counter_start, counted_from}
use Rattle.coder.specs.Coder.{state_in}
use Rattle.coder.specs.declared.steps.Coder.{Coder}
use Rattle.inner.specs.Registers.{read_from}

-- at the first position: S is where the lower register starts
abbrev pub starting : Format → Coder
starting r = record { state = zero-state; upper = 0; lower = r.s; counter = counter_start r.delta }

-- what it has yet to read at time i
abbrev pub reads : (ℕ → ℕ) → List ℕ → ℕ → ℕ → List ℕ
reads ρ kept I i = read_from ρ kept i (I - i)

-- the registers of bits that are read from time i on, the trellis in state x and the rate-matching counter at c
abbrev pub upper_from : ℕ → (ℕ → ℕ) → ℕ → State → List ℕ → List ℕ
upper_from Ssur ρ i x bits = kept_at (λ i. survives Ssur (ρ i)) i bits ++ termination (ends x bits)

abbrev pub lower_from : ℕ → ℕ → ℕ → State → List ℕ → List ℕ
lower_from I Δ c x bits = counted_from I Δ c (parities x bits) ++ parities (ends x bits) (termination (ends x bits))

-- what is left of each register at time i
abbrev pub upper_left : Format → (ℕ → ℕ) → List ℕ → ℕ → Coder → List ℕ
upper_left r ρ kept i c = upper_from r.survivors ρ i (state_in c) (reads ρ kept r.i i)

abbrev pub lower_left : Format → (ℕ → ℕ) → List ℕ → ℕ → Coder → List ℕ
lower_left r ρ kept i c = lower_from r.i r.delta c.counter (state_in c) (reads ρ kept r.i i)

-- the output with all of that stored
abbrev pub completed : Format → (ℕ → ℕ) → List ℕ → ℕ → Coder → List ℕ → List ℕ
completed r ρ kept i c out = sets (sets out c.upper (upper_left r ρ kept i c)) c.lower (lower_left r ρ kept i c)

-- the upper register then ends at S, behind which the lower stands, and the lower at N1
pub record Fits (r : Format) (ρ : ℕ → ℕ) (kept : List ℕ) (i : ℕ) (c : Coder) : Type 0 where
  pub upper-ends : c.upper + length (upper_left r ρ kept i c) ≡ r.s
  pub lower-ends : c.lower + length (lower_left r ρ kept i c) ≡ N1 r
  pub apart : r.s ≤ c.lower
  pub counter_low : c.counter < r.i
