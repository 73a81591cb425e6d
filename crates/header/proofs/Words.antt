-- The bits of words as slots.
use mathlib.Core.Path.{◌≡◌, ap, ◌∙◌}
use mathlib.Core.List.{List, [], ◌∷◌, ◌++◌, map-append}
use Prim.Native.Nat.{ℕ, ◌+◌, ◌-◌, ◌*◌, ◌/◌, ◌%◌, ◌^◌, ◌≤◌, ◌<◌}
use native.Mathlib.Omega.{arith}
use lib.ListN.{length, get_or, drop, length-map}
use lib.Seq.{sets}
use borrow.Rule.Slice.PartMut.{put_mid}
use Rattle.bits.specs.Words.{bits_of, unpacked}
use Rattle.bits.proofs.Fill.{Left, left_as, left_end, left-stretch}
use Rattle.bits.proofs.Parts.{sets_of_part}
use Rattle.bits.proofs.Words.{bits-next, bits_none, length-bits, length-unpacked, unpacked-next, unpacked-none}
use Rattle.header.specs.Header.{header_code, header_slots}
use Rattle.header.specs.Words.{word_length}

-- one word's bits as slots, after k of them
pub slots_next : (k word code bit : ℕ) → k < word_length → code ≡ header_code bit → bit ≡ word / 2 ^ (word_length - 1 - k) % 2
    → header_slots (bits_of (word_length - k) word) ≡ code ∷ header_slots (bits_of (word_length - (k + 1)) word)
slots_next k word code bit h e d = rw (e, d, bits-next word_length k word h)

pub slots-none : (k word : ℕ) → word_length ≤ k → header_slots (bits_of (word_length - k) word) ≡ []
slots-none k word h = ap header_slots (bits_none word_length k word h)

-- several words' bits as slots, after i words
module _ (words : List ℕ) (i : ℕ) where
  slots-split : i < length words
      → header_slots (unpacked word_length (drop i words)) ≡ header_slots (bits_of word_length (get_or words i 0)) ++ header_slots (unpacked word_length (drop (i + 1) words))
  slots-split h = rw (unpacked-next word_length words i h, map-append header_code)

  slots-long : (word : ℕ) → length (header_slots (bits_of word_length word)) ≡ word_length
  slots-long word = length-map (bits_of word_length word) header_code ∙ length-bits word_length word

  -- a word more is stored as a part of the buffer
  pub words_next : {out₀ out : List ℕ} (new : List ℕ) → i < length words → word_length * length words ≤ length out₀
      → new ≡ header_slots (bits_of word_length (get_or words i 0))
      → Left out₀ 0 (header_slots (unpacked word_length words)) out (word_length * i) (header_slots (unpacked word_length (drop i words)))
      → Left out₀ 0 (header_slots (unpacked word_length words)) (put_mid (word_length * i) (word_length * (i + 1) - word_length * i) out new) (word_length * (i + 1))
      (header_slots (unpacked word_length (drop (i + 1) words)))
  words_next {out₀} {out} new h room e l =
      let slots = header_slots (bits_of word_length (get_or words i 0)) in
      let many = slots-long (get_or words i 0) in
      let stored = sets_of_part (word_length * i) (word_length * (i + 1) - word_length * i) out new (ap length e ∙ omega (arith, many)) (omega (arith, h, room, l.same)) in
      left-stretch _ slots (header_slots (unpacked word_length (drop (i + 1) words))) (word_length * (i + 1)) (slots-split h) (stored ∙ ap (sets out (word_length * i)) e) (omega (arith, many)) l

  pub words_end : {out₀ out : List ℕ} → length words ≤ i → word_length * length words ≤ length out₀
      → Left out₀ 0 (header_slots (unpacked word_length words)) out (word_length * i) (header_slots (unpacked word_length (drop i words)))
      → out ≡ header_slots (unpacked word_length words) ++ drop (word_length * length words) out₀
  words_end {out₀} h room l =
      let many : length (header_slots (unpacked word_length words)) ≡ word_length * length words = length-map (unpacked word_length words) header_code ∙ length-unpacked word_length words in
      let none : header_slots (unpacked word_length (drop i words)) ≡ [] = ap header_slots (unpacked-none word_length words i h) in
      left_end (omega (arith, many, room)) (left_as none l) ∙ ap (λ (k : ℕ). header_slots (unpacked word_length words) ++ drop k out₀) many
