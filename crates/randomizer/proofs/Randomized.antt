-- The masks are the pseudo-random sequence in octets: so masked octets are randomized bits, and behind the last mask all begins anew.
use mathlib.Core.Path.{◌≡◌, refl, sym, ap, ◌∙◌}
use mathlib.Core.Bool.{true}
use mathlib.Core.List.{List, [], ◌∷◌, ◌++◌, append-nil}
use Prim.Native.Nat.{ℕ, ◌+◌, ◌-◌, ◌*◌, ◌≤◌}
use native.Mathlib.Omega.{arith}
use lib.Bits.{bit_xor}
use lib.ListN.{length, length-append}
use Rattle.bits.specs.Legal.{all_bits}
use Rattle.bits.specs.Sum.{◌⊕*◌}
use Rattle.bits.specs.Three.{xored}
use Rattle.bits.specs.Words.{bits_of, unpacked}
use Rattle.bits.proofs.Sequences.{sequence-append, sequence-length}
use Rattle.bits.proofs.Sums.{⊕*-append, ⊕*-bits, ⊕*-length, ⊕*_thrice}
use Rattle.bits.proofs.Three.{three-length, unpacked-xored, xored-bits}
use Rattle.bits.proofs.Words.{bits-xor, length-bits, length-unpacked, unpacked-append}
use Rattle.randomizer.specs.Randomizer.{h, octet_length, all_ones, pseudo_random, randomized}
use Rattle.randomizer.specs.Tables.{masked, Masks}

sequence-long : (n : ℕ) → length (pseudo_random n) ≡ n
unfolding pseudo_random
sequence-long n = sequence-length h n all_ones (omega arith)

-- the bits of a frame, and as many of the sequence
same-long : (frame : List ℕ) → length (unpacked octet_length frame) ≡ length (pseudo_random (octet_length * length frame))
same-long frame = length-unpacked octet_length frame ∙ sym (sequence-long (octet_length * length frame))

-- masks added to octets are their bits added
masked-bits : (octets masks : List ℕ) → length octets ≤ length masks
    → unpacked octet_length (masked octets masks) ≡ unpacked octet_length octets ⊕* unpacked octet_length masks
unfolding masked unpacked
masked-bits [] masks h = refl
masked-bits (x ∷ xs) [] h = absurd (omega arith)
masked-bits (x ∷ xs) (m ∷ masks) h =
    ap (λ (l : List ℕ). bits_of octet_length (bit_xor x m) ++ l) (masked-bits xs masks (omega arith))
    ∙ ap (λ (l : List ℕ). l ++ (unpacked octet_length xs ⊕* unpacked octet_length masks)) (bits-xor octet_length x m)
    ∙ sym (⊕*-append (bits_of octet_length x) (bits_of octet_length m) (unpacked octet_length xs) (unpacked octet_length masks) (length-bits octet_length x ∙ sym (length-bits octet_length m)))

-- bits beyond those of the shorter list do not matter
beyond : (a b c : List ℕ) → length a ≡ length b → a ⊕* (b ++ c) ≡ a ⊕* b
beyond a b c e = ap (λ (l : List ℕ). l ⊕* (b ++ c)) (sym (append-nil a)) ∙ ⊕*-append a b [] c e ∙ append-nil (a ⊕* b)

module _ (masks : List ℕ) (table : Masks masks) where
  pub masked-is : (octets : List ℕ) → length octets ≤ length masks → unpacked octet_length (masked octets masks) ≡ randomized octets
  unfolding randomized pseudo_random
  masked-is octets fewer =
      let n = octet_length * length octets in
      let more = octet_length * (length masks - length octets) in
      let all : octet_length * length masks ≡ n + more = omega arith in
      masked-bits octets masks fewer
      ∙ ap (λ (l : List ℕ). unpacked octet_length octets ⊕* l) (table.bits ∙ ap pseudo_random all ∙ sequence-append h n more all_ones)
      ∙ beyond (unpacked octet_length octets) (pseudo_random n) _ (same-long octets)

  -- a whole period of a frame, and the rest of it
  pub randomized-anew : (period rest : List ℕ) → length period ≡ length masks → randomized (period ++ rest) ≡ randomized period ++ randomized rest
  unfolding randomized
  randomized-anew period rest e =
      let n = octet_length * length period in
      let many : octet_length * length (period ++ rest) ≡ octet_length * length masks + octet_length * length rest = omega (arith, length-append period rest) in
      ap (λ (l : List ℕ). unpacked octet_length (period ++ rest) ⊕* l) (ap pseudo_random many ∙ table.anew (octet_length * length rest) ∙ ap (λ (k : ℕ). pseudo_random (octet_length * k) ++ pseudo_random (octet_length * length rest)) (sym e))
      ∙ ap (λ (l : List ℕ). l ⊕* (pseudo_random n ++ pseudo_random (octet_length * length rest))) (unpacked-append octet_length period rest)
      ∙ ⊕*-append (unpacked octet_length period) (pseudo_random n) (unpacked octet_length rest) (pseudo_random (octet_length * length rest)) (same-long period)

-- how long it is, and that it is bits
pub randomized-length : (frame : List ℕ) → length (randomized frame) ≡ octet_length * length frame
unfolding randomized
randomized-length frame =
    ⊕*-length (unpacked octet_length frame) (pseudo_random (octet_length * length frame)) (same-long frame) ∙ length-unpacked octet_length frame

pub randomized-bits : (frame : List ℕ) → all_bits (randomized frame) ≡ true
unfolding randomized
randomized-bits frame = ⊕*-bits (unpacked octet_length frame) (pseudo_random (octet_length * length frame))

-- three frames of one length: the sequence is added three times, which is once
pub randomized-xored : (a b c : List ℕ) → length a ≡ length b → length b ≡ length c
    → randomized (xored a b c) ≡ xored (randomized a) (randomized b) (randomized c)
unfolding randomized
randomized-xored a b c e f =
    let n = octet_length in
    let u = unpacked n a in
    let v = unpacked n b in
    let w = unpacked n c in
    let s = pseudo_random (n * length a) in
    let sb : pseudo_random (n * length b) ≡ s = ap (λ (k : ℕ). pseudo_random (n * k)) (sym e) in
    let sc : pseudo_random (n * length c) ≡ s = ap (λ (k : ℕ). pseudo_random (n * k)) (sym (e ∙ f)) in
    let long : length (xored a b c) ≡ length a = three-length _ a b c e f in
    let lu = length-unpacked n a in
    let lv = length-unpacked n b in
    let lw = length-unpacked n c in
    rw (long, sb, sc)
    (ap (λ (l : List ℕ). l ⊕* s) (unpacked-xored n a b c e f)
    ∙ ⊕*_thrice u v w s (omega (arith, lu, lv, e)) (omega (arith, lv, lw, f)) (omega (arith, lw, e, f, sequence-long (n * length a)))
    ∙ sym (xored-bits (u ⊕* s) (v ⊕* s) (w ⊕* s) (⊕*-bits u s) (⊕*-bits v s) (⊕*-bits w s)))
