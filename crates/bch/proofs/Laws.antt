-- The check bits: how many they are, that they are linear, that the zeros before the bits change nothing, and that the register holds them.
use mathlib.Core.Path.{◌≡◌, refl, sym, ap, ◌∙◌}
use mathlib.Core.Bool.{true}
use mathlib.Core.List.{List, ◌++◌}
use mathlib.Core.Logic.{◌↔◌}
use Prim.Native.Nat.{ℕ, ◌+◌, ◌-◌, ◌<◌}
use native.Mathlib.Omega.{arith}
use lib.ListN.{length, length-append}
use Rattle.bits.specs.Legal.{all_bits}
use Rattle.bits.specs.Sum.{◌⊕*◌}
use Rattle.bits.proofs.Legal.{legal-append, legal_repeated}
use Rattle.bits.proofs.Sums.{⊕*-append}
use Rattle.bch.specs.Division.{remainder}
use Rattle.bch.specs.Bch.{check_length, zero_filling, zeros, printed, lower, check_bits, coded}
use Rattle.bch.specs.Register.{register_from}
use Rattle.bch.proofs.Division.{divided-length, divided-bits, remainder-sum}
use Rattle.bch.proofs.Registers.{zeros-sum, sum_itself, same_bits, register_length, register_bits, remainder_is, zeros-before}

pub lower-length : length lower ≡ check_length
unfolding lower printed
lower-length = refl

-- the information bits, filled with zeros, times x^52
abbrev raised : List ℕ → List ℕ
raised bits = zeros zero_filling ++ bits ++ zeros check_length

raised-length : (bits : List ℕ) → length (raised bits) ≡ zero_filling + (length bits + check_length)
raised-length bits =
    length-append (zeros zero_filling ++ bits) (zeros check_length) ∙ omega (arith, length-append (zeros zero_filling) bits)

pub check_length_lem : (bits : List ℕ) → length (check_bits bits) ≡ check_length
unfolding check_bits
check_length_lem bits = divided-length lower (length (raised bits) - length lower) (raised bits) ∙ omega (arith, raised-length bits, lower-length)

pub coded-length : (bits : List ℕ) → length (coded bits) ≡ length bits + check_length
coded-length bits = length-append bits (check_bits bits) ∙ omega (arith, check_length_lem bits)

zeros-bits : (n : ℕ) → all_bits (zeros n) ≡ true
zeros-bits n = legal_repeated 1 n 0 (omega arith)

module _ (bits : List ℕ) (h : all_bits bits ≡ true) where
  pub check_bits_lem : all_bits (check_bits bits) ≡ true
  unfolding check_bits
  check_bits_lem =
      divided-bits lower (length (raised bits) - length lower) (raised bits)
      (legal-append 1 (zeros zero_filling ++ bits) (zeros check_length) (legal-append 1 (zeros zero_filling) bits (zeros-bits zero_filling) h) (zeros-bits check_length))

  pub coded-bits : all_bits (coded bits) ≡ true
  coded-bits = legal-append 1 bits (check_bits bits) h check_bits_lem

-- linear
module _ (a b : List ℕ) (e : length a ≡ length b) where
  raised-sum : raised (a ⊕* b) ≡ raised a ⊕* raised b
  raised-sum =
      let same : length (zeros zero_filling ++ a) ≡ length (zeros zero_filling ++ b) = omega (arith, length-append (zeros zero_filling) a, length-append (zeros zero_filling) b, e) in
      ap (λ (l : List ℕ). l ++ zeros check_length) (sym (⊕*-append (zeros zero_filling) (zeros zero_filling) a b refl))
      ∙ sym (⊕*-append (zeros zero_filling ++ a) (zeros zero_filling ++ b) (zeros check_length) (zeros check_length) same)

  check_sum : check_bits (a ⊕* b) ≡ check_bits a ⊕* check_bits b
  unfolding check_bits
  check_sum = ap (remainder lower) raised-sum ∙ remainder-sum lower (raised a) (raised b) (omega (arith, raised-length a, raised-length b, e))

  pub coded-sum : coded (a ⊕* b) ≡ coded a ⊕* coded b
  coded-sum = ap (λ (l : List ℕ). (a ⊕* b) ++ l) check_sum ∙ sym (⊕*-append a b (check_bits a) (check_bits b) e)

pub some : 0 < length lower
some = omega (arith, lower-length)

module _ (bits : List ℕ) (h : all_bits bits ≡ true) where
  -- the remainder of the information bits and 52 more
  remains : (c : List ℕ) → length c ≡ check_length → all_bits c ≡ true → remainder lower (zeros zero_filling ++ bits ++ c) ≡ c ⊕* register_from lower (zeros check_length) bits
  remains c e hc =
      let us = zeros zero_filling ++ bits in
      remainder_is lower some us c (e ∙ sym lower-length) (legal-append 1 us c (legal-append 1 (zeros zero_filling) bits (zeros-bits zero_filling) h) hc)
      ∙ ap (λ (l : List ℕ). c ⊕* l) (zeros-before lower some zero_filling bits)
      ∙ ap (λ (n : ℕ). c ⊕* register_from lower (zeros n) bits) lower-length

  alone : zeros check_length ⊕* register_from lower (zeros check_length) bits ≡ register_from lower (zeros check_length) bits
  alone =
      let held = register_from lower (zeros check_length) bits in
      let long : length held ≡ check_length = register_length lower (zeros check_length) bits (sym lower-length) ∙ lower-length in
      ap (λ (n : ℕ). zeros n ⊕* held) (sym long) ∙ zeros-sum held (register_bits lower (zeros check_length) bits (zeros-bits check_length))

  -- the register, from zeros, comes to hold the check bits
  pub register_is : register_from lower (zeros check_length) bits ≡ check_bits bits
  unfolding check_bits
  register_is = sym (remains (zeros check_length) refl (zeros-bits check_length) ∙ alone)

  -- the zeros before the information bits change nothing
  pub filling : check_bits bits ≡ remainder lower (bits ++ zeros check_length)
  filling =
      sym register_is ∙ sym alone
      ∙ ap (λ (n : ℕ). zeros check_length ⊕* register_from lower (zeros n) bits) (sym lower-length)
      ∙ sym (remainder_is lower some bits (zeros check_length) (sym lower-length) (legal-append 1 bits (zeros check_length) h (zeros-bits check_length)))

  -- a codeword is a multiple of g(x), and no other bits behind the information bits make one
  module _ (c : List ℕ) (e : length c ≡ check_length) (hc : all_bits c ≡ true) where
    multiple : remainder lower (zeros zero_filling ++ bits ++ c) ≡ c ⊕* check_bits bits
    multiple = remains c e hc ∙ ap (λ (l : List ℕ). c ⊕* l) register_is

    pub multiples : (remainder lower (zeros zero_filling ++ bits ++ c) ≡ zeros check_length) ↔ (c ≡ check_bits bits)
    multiples = (
      (λ z. same_bits c (check_bits bits) hc (check_bits_lem bits h) (sym multiple ∙ z ∙ ap zeros (sym e)) (e ∙ sym (check_length_lem bits))),
      (λ is. multiple ∙ ap (λ (l : List ℕ). l ⊕* check_bits bits) is ∙ sum_itself (check_bits bits) ∙ ap zeros (check_length_lem bits)),
    )
