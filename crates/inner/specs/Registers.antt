-- From the outer kept bits to the codeword's trellis part (4.3, 4.4): the inner trellis over the interleaved bits, and the two registers.
use Rattle.std.specs.Prelude.{List, [], ◌∷◌, ◌++◌, ℕ, zero, suc, ◌+◌, get_or}
use Rattle.acm.specs.Formats.{format_of}
use Rattle.acm.specs.declared.table.Format.{Format}
use Rattle.trellis.specs.Trellis.{zero-state, ends, parities, termination}
use Rattle.interleaver.specs.Interleaver.{π}
use Rattle.puncture.specs.Puncture.{punctured, rate_matched}

-- annex C: the inner encoder reads, at time i, the bit that the outer one wrote at ρ(i); n bits from time i on
abbrev pub read_from : (ℕ → ℕ) → List ℕ → ℕ → ℕ → List ℕ
read_from ρ kept i zero = []
read_from ρ kept i (suc n) = get_or kept (ρ i) 0 ∷ read_from ρ kept (i + 1) n

-- 4.4.1: the upper register has the inner systematic bits, and the two terminating ones, which are always transmitted
abbrev pub upper : ℕ → (ℕ → ℕ) → List ℕ → List ℕ
upper Ssur ρ bits = punctured Ssur ρ bits ++ termination (ends zero-state bits)

-- 4.4.3: the lower register has the inner parity bits, and the two of the terminating steps, which are always transmitted
abbrev pub lower : ℕ → ℕ → List ℕ → List ℕ
lower I Δ bits =
    rate_matched I Δ (parities zero-state bits) ++ parities (ends zero-state bits) (termination (ends zero-state bits))

-- 4.5: the systematic bits first, then the parity bits
abbrev pub registers : Format → (ℕ → ℕ) → List ℕ → List ℕ
registers r ρ bits = upper r.survivors ρ bits ++ lower r.i r.delta bits

-- the interleaver's output, for the outer kept bits
abbrev pub interleaved : Format → (ℕ → ℕ) → List ℕ → List ℕ
interleaved r ρ kept = read_from ρ kept 0 r.i

-- the trellis part of a codeword, N1 bits, from the outer kept bits, in ACM format f, whose interleaver is π f
unfoldable pub from_outer : ℕ → List ℕ → List ℕ
from_outer f kept = registers (format_of f) (π f) (interleaved (format_of f) (π f) kept)
