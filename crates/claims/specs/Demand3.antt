-- Demand 3, over the definitions that the contracts of encode, labels and interleave cite; f is the number of the ACM format.
use Rattle.std.specs.Prelude.{◌≡◌, true, List, ◌↔◌, ℕ, ◌^◌, ◌<◌, length, get_or}
use Rattle.std.specs.Int.Bits.{bit_xor}
use Rattle.bits.specs.Legal.{all_bits}
use Rattle.bits.specs.Permutation.{Permutes}
use Rattle.bits.specs.Sum.{bit}
use Rattle.acm.specs.Formats.{symbols, is_format, format_of}
use Rattle.trellis.specs.Trellis.{zero-state, ends, terminated, outer}
use Rattle.interleaver.specs.Interleaver.{π}
use Rattle.inner.specs.Registers.{interleaved}
use Rattle.mapping.specs.Labels.{labels}
use Rattle.encoder.specs.Codeword.{trellis_part, codeword}

-- an information block of K ones and zeros
pub record Block (f : ℕ) (block : List ℕ) : Type 0 where
  pub long : length block ≡ (format_of f).k
  pub bits : all_bits block ≡ true

-- of n places, c has a one exactly where a and b differ
abbrev pub OneWhereDiffer : ℕ → List ℕ → List ℕ → List ℕ → Type 0
OneWhereDiffer n a b c = (k : ℕ) → k < n → (get_or c k 0 ≡ 1) ↔ (get_or a k 0 ≡ get_or b k 0 → ⊥)

-- the labels of a block's codeword
abbrev pub block_labels : ℕ → List ℕ → List ℕ
block_labels f block = labels (format_of f).m (codeword f block)

-- the codeword of a block has N bits, all of them ones and zeros, and its labels are 8,100 numbers of m bits: every place that is spoken of
-- below is there
pub record Whole (f : ℕ) (block : List ℕ) : Type 0 where
  pub codeword-long : length (codeword f block) ≡ (format_of f).n
  pub codeword-bits : all_bits (codeword f block) ≡ true
  pub labels-long : length (block_labels f block) ≡ symbols
  pub labels-low : (r : ℕ) → r < symbols → get_or (block_labels f block) r 0 < 2 ^ (format_of f).m

abbrev pub Wholeness : Type 0
Wholeness = (f : ℕ) → is_format f ≡ true → (block : List ℕ) → Block f block → Whole f block

module _ (f : ℕ) (a b c : List ℕ) where
  -- linearity of the codeword and of the labels, the latter bit by bit, bit j weighing 2^j, and as an exclusive or of numbers
  pub record Linear : Type 0 where
    pub codewords : OneWhereDiffer (format_of f).n (codeword f a) (codeword f b) (codeword f c)
    pub label-bits : (r : ℕ) → r < symbols → (j : ℕ) → j < (format_of f).m
        → (bit j (get_or (block_labels f c) r 0) ≡ 1) ↔ (bit j (get_or (block_labels f a) r 0) ≡ bit j (get_or (block_labels f b) r 0) → ⊥)
    pub label-numbers : (r : ℕ) → r < symbols → get_or (block_labels f c) r 0 ≡ bit_xor (get_or (block_labels f a) r 0) (get_or (block_labels f b) r 0)

abbrev pub Linearity : Type 0
Linearity =
    (f : ℕ) → is_format f ≡ true → (a b c : List ℕ) → Block f a → Block f b → Block f c → OneWhereDiffer (format_of f).k a b c → Linear f a b c

-- both trellises are in state 00 after their second terminating step, the outer one over the trellis part of the block
abbrev pub Termination : Type 0
Termination =
    (f : ℕ) → is_format f ≡ true → (block : List ℕ) → Block f block
    → (ends zero-state (terminated (trellis_part f block)) ≡ zero-state)
    × (ends zero-state (terminated (interleaved (format_of f) (π f) (outer (trellis_part f block)))) ≡ zero-state)

-- the interleaver of every format is a permutation of 0 to I - 1
abbrev pub Permutation : Type 0
Permutation = (f : ℕ) → is_format f ≡ true → Permutes (format_of f).i (π f)

pub record Demand3 : Type 0 where
  pub wholeness : Wholeness
  pub linearity : Linearity
  pub termination : Termination
  pub permutation : Permutation
