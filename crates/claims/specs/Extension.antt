-- Formats 28 to 37, by 004.
use Rattle.std.specs.Prelude.{◌≡◌, true, List, [], ◌∷◌, ◌++◌, ◌↔◌, ℕ, suc, ◌+◌, ◌-◌, ◌*◌, ◌/◌, ◌%◌, ◌^◌, ◌≤◌, ◌<◌, length, get_or, take, drop, replicate}
use Rattle.bits.specs.Legal.{all_bits}
use Rattle.bits.specs.Sum.{◌⊕*◌, bit}
use Rattle.acm.specs.Formats.{symbols, piece_length, last_format, last_one_stage, is_format, format_of, hard_bits}
use Rattle.trellis.specs.Trellis.{outer}
use Rattle.inner.specs.Registers.{from_outer}
use Rattle.mapping.specs.Labels.{labels}
use Rattle.bch.specs.Division.{remainder}
use Rattle.bch.specs.Bch.{check_length, zero_filling, zeros, lower, check_bits, coded}
use Rattle.header.specs.Descriptor.{code_length, G, add_rows, twice, scrambling, descriptor}
use Rattle.encoder.specs.Codeword.{trellis_part, hard_part, hard_coded, codeword}
use Rattle.claims.specs.Demand3.{Block, block_labels}

-- the format of 13 to 17 whose K is the K1 of format f, from 28 on
abbrev pub twin : ℕ → ℕ
twin f = 13 + (f - 28) % 5

-- piece j of a block, counted from 0
abbrev pub piece : ℕ → List ℕ → ℕ → List ℕ
piece f block j = take piece_length (drop (j * piece_length) (hard_part f block))

-- from 28 on: the codeword is that which format 13 to 17 gives to the first K1 bits, and behind it the pieces' codewords; so the first bits of
-- a label are format 13 to 17's label (4.4.2), and column j of those that follow is the codeword of piece j (figure 4-5)
pub record Extended (f : ℕ) (block : List ℕ) : Type 0 where
  pub known : is_format (twin f) ≡ true
  pub long : (format_of (twin f)).k ≡ (format_of f).k1
  pub codewords : codeword f block ≡ codeword (twin f) (trellis_part f block) ++ hard_coded f block
  pub first_bits_lem : (r : ℕ) → r < symbols → get_or (block_labels f block) r 0 / 2 ^ hard_bits (format_of f) ≡ get_or (block_labels (twin f) (trellis_part f block)) r 0
  pub columns : (j : ℕ) → j < hard_bits (format_of f) → (r : ℕ) → r < symbols
      → bit (hard_bits (format_of f) - suc j) (get_or (block_labels f block) r 0) ≡ get_or (coded (piece f block j)) r 0

abbrev pub Extends : Type 0
Extends = (f : ℕ) → is_format f ≡ true → last_one_stage < f → (block : List ℕ) → Block f block → Extended f block

-- there are such formats, those from 28 to 37, and such blocks: in every format one of zeros and one of ones
abbrev pub Extendable : Type 0
Extendable = (f : ℕ) → last_one_stage < f → f ≤ last_format → (is_format f ≡ true) × Block f (replicate (format_of f).k 0) × Block f (replicate (format_of f).k 1)

-- up to 27 codeword and labels are what they were before there were more formats, all of them from the trellises
abbrev pub Keeps : Type 0
Keeps =
    (f : ℕ) → is_format f ≡ true → f ≤ last_one_stage → (block : List ℕ) → Block f block
    → (trellis_part f block ≡ block) × (hard_coded f block ≡ []) × (codeword f block ≡ from_outer f (outer block))
    × (block_labels f block ≡ labels (format_of f).m (from_outer f (outer block)))

-- and so is the descriptor: 000's (5.2.1) is made from b1 to b6 alone, with the last six rows
abbrev pub information000 : ℕ → ℕ → List ℕ
information000 f pilots = f / 16 % 2 ∷ f / 8 % 2 ∷ f / 4 % 2 ∷ f / 2 % 2 ∷ f % 2 ∷ pilots ∷ []

abbrev pub descriptor000 : ℕ → ℕ → List ℕ
descriptor000 f pilots = twice (add_rows (replicate code_length 0) (information000 f pilots) (drop 1 G)) ⊕* scrambling

abbrev pub KeepsDescriptor : Type 0
KeepsDescriptor = (f pilots : ℕ) → f ≤ last_one_stage → descriptor f pilots ≡ descriptor000 f pilots

-- The check bits: of all 52 bits those alone with which the information bits, zeros before them, are a multiple of g(x). The zeros change nothing.
abbrev pub Multiples : Type 0
Multiples =
    (bits c : List ℕ) → all_bits bits ≡ true → all_bits c ≡ true → length c ≡ check_length
    → (remainder lower (zeros zero_filling ++ bits ++ c) ≡ zeros check_length) ↔ (c ≡ check_bits bits)

abbrev pub Filling : Type 0
Filling = (bits : List ℕ) → all_bits bits ≡ true → check_bits bits ≡ remainder lower (bits ++ zeros check_length)

pub record Extension : Type 0 where
  pub extends : Extends
  pub extendable : Extendable
  pub keeps : Keeps
  pub keeps-descriptor : KeepsDescriptor
  pub multiples : Multiples
  pub filling : Filling
