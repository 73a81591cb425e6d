-- How the stores of octets make a randomized frame.
use mathlib.Core.Path.{◌≡◌, refl, sym, ap, ap₂, ◌∙◌}
use mathlib.Core.List.{List, [], ◌∷◌, ◌++◌, append-nil}
use Prim.Native.Nat.{ℕ, zero, suc, min, ◌+◌, ◌*◌, ◌/◌, ◌%◌, ◌^◌, ◌≤◌, ◌<◌}
use native.Mathlib.Nat.{div-div-eq-div-mul, mul-suc}
use native.Mathlib.Numerals.{unary_clauses}
use native.Mathlib.Omega.{arith}
use borrow.Rule.Slice.PartMut.{put_mid}
use borrow.Author.Tests.{leb-true, leb-false}
use lib.Bits.{bit_xor}
use lib.Dec.{leb}
use lib.ListN.{length, get_or, drop, drop_of_length-le, length-append, get_or-map}
use lib.Seq.{sets}
use Rattle.std.specs.Int.{w64, byte_at, bytes_low_first, to_le_bytes}
use Rattle.bits.specs.Words.{bits_of, unpacked}
use Rattle.bits.proofs.Cases.{by_cases}
use Rattle.bits.proofs.Fill.{Left, left-stretch}
use Rattle.bits.proofs.Lists.{drop-next}
use Rattle.bits.proofs.Parts.{sets_of_part}
use Rattle.bits.proofs.Words.{length-bits}
use Rattle.randomizer.specs.Randomizer.{octet_length, randomized}
use Rattle.randomizer.specs.Tables.{masked, bytes_of, count_from, Spread, Masks}
use Rattle.randomizer.proofs.Randomized.{masked-is, randomized-anew, randomized-length}

-- a word's bytes, as the library has them: those from byte i on are the bytes of the word without its first i
bytes_from : (i n word : ℕ) → bytes_low_first i n word ≡ bytes_of n (word / 256 ^ i)
unfolding bytes_of
bytes_from i zero word = refl
bytes_from i (suc n) word = ap₂ (λ (b : ℕ) (l : List ℕ). b ∷ l) (byte_is i) (bytes_from (suc i) n word ∙ ap (bytes_of n) next)
  where
    byte_is : (i : ℕ) → byte_at i word ≡ word / 256 ^ i % 256
    byte_is zero = omega arith
    byte_is (suc i) = refl

    next : word / 256 ^ suc i ≡ word / 256 ^ i / 256
    next = simp unary_clauses (sym (div-div-eq-div-mul word (256 ^ i) 256))

pub low_bytes : (word : ℕ) → to_le_bytes w64 word ≡ bytes_of octet_length word
low_bytes word = let e : word / 256 ^ 0 ≡ word = omega arith in bytes_from 0 8 word ∙ ap (bytes_of octet_length) e

-- the bytes of an octet's word are the octet's bits
count_at : (i n k : ℕ) → k < n → get_or (count_from i n) k 0 ≡ i + k
count_at i zero k h = absurd (omega arith)
count_at i (suc n) zero h = omega arith
count_at i (suc n) (suc k) h = count_at (suc i) n k (omega arith) ∙ omega arith

pub spread_at : (words : List ℕ) → Spread words → (x : ℕ) → x < 256 → bytes_of octet_length (get_or words x 0) ≡ bits_of octet_length x
unfolding bytes_of bits_of
spread_at words table x h =
    sym (get_or-map (bytes_of octet_length) words x 0)
    ∙ ap (λ (l : List (List ℕ)). get_or l x (bytes_of octet_length 0)) table
    ∙ get_or-map (bits_of octet_length) (count_from 0 256) x 0
    ∙ ap (bits_of octet_length) (count_at 0 256 x h ∙ omega arith)

-- the octets from i on, each masked with its own mask
module _ (octets masks : List ℕ) (i : ℕ) where
  masked-next : i < length octets → length octets ≤ length masks
      → masked (drop i octets) (drop i masks) ≡ bit_xor (get_or octets i 0) (get_or masks i 0) ∷ masked (drop (i + 1) octets) (drop (i + 1) masks)
  unfolding masked
  masked-next inside fewer = rw (drop-next octets i inside, drop-next masks i (omega arith))

  pub octets_next : {out₀ ws out : List ℕ} {at : ℕ} (k : ℕ) (bytes : List ℕ) → i < length octets → length octets ≤ length masks
      → at + octet_length * length octets ≤ length out → k ≡ octet_length → bytes ≡ bits_of octet_length (bit_xor (get_or octets i 0) (get_or masks i 0))
      → Left out₀ at ws out (at + octet_length * i) (unpacked octet_length (masked (drop i octets) (drop i masks)))
      → Left out₀ at ws (put_mid (at + octet_length * i) k out bytes) (at + octet_length * (i + 1)) (unpacked octet_length (masked (drop (i + 1) octets) (drop (i + 1) masks)))
  unfolding unpacked
  octets_next {out₀} {ws} {out} {at} k bytes inside fewer room all is l =
      let octet = bit_xor (get_or octets i 0) (get_or masks i 0) in
      let long : length bytes ≡ octet_length = ap length is ∙ length-bits octet_length octet in
      left-stretch (put_mid (at + octet_length * i) k out bytes) bytes (unpacked octet_length (masked (drop (i + 1) octets) (drop (i + 1) masks))) (at + octet_length * (i + 1))
      (rw (masked-next inside fewer, is)) (sets_of_part (at + octet_length * i) k out bytes (omega arith) (omega arith)) (omega arith) l

  pub octets_none : length octets ≤ i → unpacked octet_length (masked (drop i octets) (drop i masks)) ≡ []
  unfolding masked unpacked
  octets_none past = rw (drop_of_length-le octets past)

-- one chunk more
pub chunks-next : (m i : ℕ) → m * (i + 1) ≡ m * i + m
chunks-next m i = let e : i + 1 ≡ suc i = omega arith in rw e (omega (arith, mul-suc m i))

-- before a chunk, as many octets as come before it are stored
pub chunk-place : {out₀ out : List ℕ} {at : ℕ} (q : ℕ) (frame rest : List ℕ) → 0 < length rest
    → Left out₀ at (randomized frame) out (at + octet_length * min q (length frame)) (randomized rest) → q + length rest ≡ length frame
chunk-place q frame rest some l = omega (arith, some, l.count, randomized-length frame, randomized-length rest)

-- a chunk of the frame, as many octets as there are masks or else all that are left, and what follows it
module _ (masks : List ℕ) (table : Masks masks) (rest chunk next : List ℕ) (parts : rest ≡ chunk ++ next) (many : length chunk ≡ min (length masks) (length rest)) where
  chunk-parts : randomized rest ≡ unpacked octet_length (masked chunk masks) ++ randomized next
  unfolding randomized unpacked
  chunk-parts =
      let masked_is = masked-is masks table chunk (omega arith) in
      let long = ap length parts ∙ length-append chunk next in
      by_cases (leb (length masks) (length rest))
      (λ t. ap randomized parts ∙ randomized-anew masks table chunk next (omega (arith, leb-true _ _ t)) ∙ ap (λ (l : List ℕ). l ++ randomized next) (sym masked_is))
      (λ f. let end : next ≡ [] = drop_of_length-le next {i = 0} (omega (arith, long, leb-false _ _ f)) in
      ap randomized (parts ∙ ap (λ (l : List ℕ). chunk ++ l) end ∙ append-nil chunk)
      ∙ sym masked_is
      ∙ sym (append-nil (unpacked octet_length (masked chunk masks)))
      ∙ ap (λ (l : List ℕ). unpacked octet_length (masked chunk masks) ++ randomized l) (sym end))

  pub chunk-next : {out₀ out : List ℕ} {at : ℕ} (frame : List ℕ) (q q' : ℕ) (new : List ℕ) → 0 < length rest → q' ≡ q + length masks
      → new ≡ sets out (at + octet_length * q) (unpacked octet_length (masked chunk masks))
      → Left out₀ at (randomized frame) out (at + octet_length * min q (length frame)) (randomized rest)
      → Left out₀ at (randomized frame) new (at + octet_length * min q' (length frame)) (randomized next)
  chunk-next {out₀} {out} {at} frame q q' new some on stored l =
      let bits = unpacked octet_length (masked chunk masks) in
      let long : length bits ≡ octet_length * length chunk = ap length (masked-is masks table chunk (omega arith)) ∙ randomized-length chunk in
      let here = chunk-place q frame rest some l in
      let e : at + octet_length * q ≡ at + octet_length * min q (length frame) = omega (arith, here) in
      left-stretch new bits (randomized next) (at + octet_length * min q' (length frame)) chunk-parts (rw e at stored) (omega (arith, on, long, here, many)) l

pub chunk-none : (rest : List ℕ) → length rest ≡ 0 → randomized rest ≡ []
unfolding randomized unpacked
chunk-none [] none = refl
chunk-none (x ∷ rest) none = absurd (omega arith)
