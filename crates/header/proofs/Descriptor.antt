-- Laws of the frame descriptor: the rows summed in words are the rows summed in bits, and a symbol may be doubled before the sum or after it.
use mathlib.Core.Path.{◌≡◌, refl, sym, ap, ◌∙◌}
use mathlib.Core.Bool.{Bool, true, false}
use mathlib.Core.List.{List, [], ◌∷◌, map}
use Prim.Native.Nat.{ℕ, suc, ◌+◌, ◌-◌, ◌*◌, ◌/◌, ◌%◌, ◌^◌, ◌≤◌, ◌<◌}
use native.Mathlib.Nat.{sub-zero}
use native.Mathlib.Omega.{arith}
use borrow.Author.Tests.{eqb-true, eq-eqb, ne_eqb}
use lib.Bits.{bit_xor}
use lib.Dec.{eqb}
use lib.ListN.{length, get_or, drop, replicate}
use Rattle.std.specs.Prelude.{if◌then◌else◌}
use Rattle.bits.specs.Legal.{all_bits}
use Rattle.bits.specs.Sum.{◌⊕*◌}
use Rattle.bits.specs.Words.{bits_of}
use Rattle.bits.proofs.Lists.{drop-next}
use Rattle.bits.proofs.Sums.{⊕*-bits, ⊕*-length, ⊕*_swap}
use Rattle.bits.proofs.Table.{every, left-true, right_true}
use Rattle.bits.proofs.Words.{bits-next, bits-xor}
use Rattle.header.specs.declared.choice.Pilots.{Pilots}
use Rattle.header.specs.declared.choice.Pilots.TheVariants as choice
use Rattle.header.specs.Descriptor.{G, add_rows, choice_number, code_length, coded, descriptor, descriptor_length, information, pilots_off, pilots_on, scrambling, twice}
use Rattle.header.specs.Words.{word_length}

-- the bits of each row
abbrev pub row_bits : List ℕ → List (List ℕ)
row_bits rows = map (bits_of word_length) rows

-- the sum that is left to make at row i, a word being the sum so far
abbrev pub rows_left : ℕ → List ℕ → ℕ → ℕ → List ℕ
rows_left bits rows i word = add_rows (bits_of word_length word) (bits_of (length rows - i) bits) (row_bits (drop i rows))

-- one more row
add_row : (y : List ℕ) (b : ℕ) (bs row : List ℕ) (rows : List (List ℕ)) (t : Bool) → eqb b 1 ≡ t
    → add_rows y (b ∷ bs) (row ∷ rows) ≡ add_rows (if t then y ⊕* row else y) bs rows
add_row y b bs row rows t e = ap (λ (s : Bool). add_rows (if s then y ⊕* row else y) bs rows) e

module _ (bits : ℕ) (rows : List ℕ) (i word bit : ℕ) (h : i < length rows) (b : bit ≡ bits / 2 ^ (length rows - 1 - i) % 2) where
  next : (t : Bool) → eqb bit 1 ≡ t → rows_left bits rows i word
      ≡ add_rows (if t then bits_of word_length word ⊕* bits_of word_length (get_or rows i 0) else bits_of word_length word)
      (bits_of (length rows - (i + 1)) bits) (row_bits (drop (i + 1) rows))
  next t e =
      rw (drop-next rows i h, bits-next (length rows) i bits h, ← b)
      (add_row (bits_of word_length word) bit (bits_of (length rows - (i + 1)) bits) (bits_of word_length (get_or rows i 0)) (row_bits (drop (i + 1) rows)) t e)

  pub row_added : bit ≡ 1 → rows_left bits rows i word ≡ rows_left bits rows (i + 1) (bit_xor word (get_or rows i 0))
  row_added e = rw (bits-xor word_length word (get_or rows i 0)) (next true (eq-eqb bit 1 e))

  pub row-left-out : (bit ≡ 1 → ⊥) → rows_left bits rows i word ≡ rows_left bits rows (i + 1) word
  row-left-out e = next false (ne_eqb bit 1 e)

pub rows_all : (bits : ℕ) (rows : List ℕ) → rows_left bits rows 0 0 ≡ add_rows (bits_of word_length 0) (bits_of (length rows) bits) (row_bits rows)
rows_all bits rows = rw sub-zero

pub rows_none : (bits : ℕ) (rows : List ℕ) (i word : ℕ) → length rows ≤ i → rows_left bits rows i word ≡ bits_of word_length word
unfolding bits_of
rows_none bits rows i word h = let z : length rows - i ≡ 0 = omega arith in rw z

pub twice-sum : (a b : List ℕ) → twice (a ⊕* b) ≡ twice a ⊕* twice b
twice-sum [] b = refl
twice-sum (x ∷ a) [] = refl
twice-sum (x ∷ a) (y ∷ b) = rw (twice-sum a b)

pub twice-rows : (y bs : List ℕ) (rows : List (List ℕ)) → twice (add_rows y bs rows) ≡ add_rows (twice y) bs (map twice rows)
twice-rows y [] rows = refl
twice-rows y (b ∷ bs) [] = refl
twice-rows y (b ∷ bs) (row ∷ rows) =
    twice-rows (if eqb b 1 then y ⊕* row else y) bs rows ∙ ap (λ (z : List ℕ). add_rows z bs (map twice rows)) (chosen (eqb b 1))
  where
    chosen : (t : Bool) → twice (if t then y ⊕* row else y) ≡ (if t then twice y ⊕* twice row else twice y)
    chosen true = twice-sum y row
    chosen false = refl

pub choice-low : (c : Pilots) → choice_number c ≤ 1
choice-low choice.Off = omega arith
choice-low choice.On = omega arith

-- b0 to b6 are the bits of one number
information-bits : (f pilots : ℕ) → pilots ≤ 1 → bits_of 7 (2 * f + pilots) ≡ information f pilots
unfolding bits_of
information-bits f pilots h =
    let b0 : (2 * f + pilots) / 64 % 2 ≡ f / 32 % 2 = omega arith in
    let b1 : (2 * f + pilots) / 32 % 2 ≡ f / 16 % 2 = omega arith in
    let b2 : (2 * f + pilots) / 16 % 2 ≡ f / 8 % 2 = omega arith in
    let b3 : (2 * f + pilots) / 8 % 2 ≡ f / 4 % 2 = omega arith in
    let b4 : (2 * f + pilots) / 4 % 2 ≡ f / 2 % 2 = omega arith in
    let b5 : (2 * f + pilots) / 2 % 2 ≡ f % 2 = omega arith in
    let b6 : (2 * f + pilots) / 1 % 2 ≡ pilots = omega arith in
    rw (b0, b1, b2, b3, b4, b5, b6)

-- a word that has the doubled rows' sum, scrambled
pub descriptor-bits : (f pilots : ℕ) → pilots ≤ 1 → (word scramble : ℕ)
    → bits_of word_length word ≡ add_rows (twice (replicate code_length 0)) (bits_of 7 (2 * f + pilots)) (map twice G)
    → bits_of word_length scramble ≡ scrambling
    → bits_of word_length (bit_xor word scramble) ≡ descriptor f pilots
unfolding descriptor
descriptor-bits f pilots h word scramble w s =
    bits-xor word_length word scramble
    ∙ rw (s, w, information-bits f pilots h, twice-rows (replicate code_length 0) (information f pilots) G)

length-twice : (ys : List ℕ) → length (twice ys) ≡ 2 * length ys
length-twice [] = refl
length-twice (y ∷ ys) = omega (arith, length-twice ys)

-- rows of n bits, the first of them row k
abbrev widths : ℕ → ℕ → List (List ℕ) → Bool
widths n k rows = every (λ i row. eqb (length row) n) k rows

length-rows : (n k : ℕ) (y bs : List ℕ) (rows : List (List ℕ)) → length y ≡ n → widths n k rows ≡ true → length (add_rows y bs rows) ≡ n
length-rows n k y [] rows e h = e
length-rows n k y (b ∷ bs) [] e h = e
length-rows n k y (b ∷ bs) (row ∷ rows) e h =
    length-rows n (suc k) (if eqb b 1 then y ⊕* row else y) bs rows (chosen (eqb b 1)) (right_true (eqb (length row) n) (widths n (suc k) rows) h)
  where
    wide : length row ≡ n
    wide = eqb-true (length row) n (left-true (eqb (length row) n) (widths n (suc k) rows) h)

    chosen : (t : Bool) → length (if t then y ⊕* row else y) ≡ n
    chosen true = ⊕*-length y row (e ∙ sym wide) ∙ e
    chosen false = e

pub descriptor_length_lem : (f pilots : ℕ) → length (descriptor f pilots) ≡ descriptor_length
unfolding descriptor G scrambling
descriptor_length_lem f pilots =
    let ys = coded (information f pilots) in
    let many : length (twice ys) ≡ descriptor_length = omega (arith, length-twice ys, length-rows code_length 0 (replicate code_length 0) (information f pilots) G refl refl) in
    ⊕*-length (twice ys) scrambling many ∙ many

pub descriptor-legal : (f pilots : ℕ) → all_bits (descriptor f pilots) ≡ true
unfolding descriptor
descriptor-legal f pilots = ⊕*-bits (twice (coded (information f pilots))) scrambling

-- up to 31, b0 is 0 and the first row is left out: what is added are the six rows of 000
pub six_rows : (f pilots : ℕ) → f < 32 → coded (information f pilots) ≡ add_rows (replicate code_length 0) (drop 1 (information f pilots)) (drop 1 G)
unfolding G
six_rows f pilots h = let z : f / 32 % 2 ≡ 0 = omega arith in rw z

-- the row of b6 is all ones: pilots turn every bit of the descriptor over
pub pilots-turn : (f : ℕ) → descriptor f pilots_on ≡ descriptor f pilots_off ⊕* replicate descriptor_length 1
unfolding descriptor G
pilots-turn f =
    let ys = coded (information f pilots_off) in
    let ones : List ℕ = replicate code_length 1 in
    ap (λ (y : List ℕ). y ⊕* scrambling) (twice-sum ys ones) ∙ ⊕*_swap (twice ys) (twice ones) scrambling
