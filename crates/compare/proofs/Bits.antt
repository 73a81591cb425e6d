-- The bits in which labels differ: those of two labels are the ones of their exclusive or, whatever the width; those of two lists are as many
-- either way round, and lie between the places that differ and m times these.
use mathlib.Core.Path.{◌≡◌, refl, sym, ap, ap₂, ◌∙◌}
use mathlib.Core.Bool.{true}
use mathlib.Core.List.{List, [], ◌∷◌}
use Prim.Native.Nat.{ℕ, zero, suc, zero-le, ◌+◌, ◌-◌, ◌*◌, ◌/◌, ◌%◌, ◌^◌, ◌≤◌, ◌<◌}
use native.Mathlib.Nat.{mod-lt, mod-eq_of_lt, lt_of_lt_of_le, pow-suc}
use native.Mathlib.Omega.{arith}
use borrow.Author.Tests.{eqb-true, eqb-false}
use lib.Bits.{bit_xor, xor_lt, xor_shr, xor_add_and}
use lib.Count.{ones, ones_step, ones_cat}
use lib.Dec.{eqb}
use lib.Pow.{pow_mono, pow_pos, lt_of_le_ones}
use Rattle.std.specs.Prelude.{if◌then◌else◌}
use Rattle.bits.specs.Legal.{all_at_most}
use Rattle.bits.specs.Sum.{◌⊕◌, bit}
use Rattle.bits.specs.Words.{bits_of}
use Rattle.bits.proofs.Cases.{by_cases}
use Rattle.bits.proofs.Legal.{legal_head, legal-tail}
use Rattle.bits.proofs.Sums.{bit-xor}
use Rattle.bits.proofs.Words.{length-bits, low-next, bits-same}
use Rattle.compare.specs.Comparison.{differing, apart, differing_bits}
use Rattle.compare.proofs.Differing.{differing_self, differing-none, differing_swap, differing-most}

two_bits : (u v : ℕ) → u < 2 → v < 2 → (if eqb u v then 0 else 1) ≡ u ⊕ v
two_bits u v hu hv =
    by_cases (eqb u v)
    (λ t. rw t (omega (arith, eqb-true u v t)))
    (λ f. rw f (omega (arith, eqb-false u v f)))

ones_bit : (u : ℕ) → u < 2 → ones u ≡ u
unfolding ones
ones_bit zero h = refl
ones_bit (suc zero) h = refl
ones_bit (suc (suc u)) h = absurd (omega arith)

-- of the lowest m bits
apart-ones : (m x y : ℕ) → apart m x y ≡ ones (bit_xor x y % 2 ^ m)
unfolding differing bits_of ones
apart-ones zero x y = let e : 0 ≡ bit_xor x y % 2 ^ 0 = omega arith in ap ones e
apart-ones (suc m) x y =
    let n = bit_xor x y in
    ap₂ (λ (u v : ℕ). u + v)
    (two_bits (bit m x) (bit m y) (omega arith) (omega arith) ∙ sym (bit-xor m x y) ∙ sym (ones_bit (bit m n) (omega arith)))
    (apart-ones m x y)
    ∙ sym (ones_cat m (bit m n) (n % 2 ^ m) (mod-lt n (pow_pos m)))
    ∙ ap ones (sym (low-next m n))

module _ (m x y : ℕ) (hx : x < 2 ^ m) (hy : y < 2 ^ m) where
  pub apart-xor : apart m x y ≡ ones (bit_xor x y)
  apart-xor = apart-ones m x y ∙ ap ones (mod-eq_of_lt (xor_lt m x y hx hy))

  apart_none : apart m x y ≡ 0 → x ≡ y
  apart_none z =
      let e = differing-none (bits_of m x) (bits_of m y) (length-bits m x ∙ sym (length-bits m y)) z in
      sym (mod-eq_of_lt hx) ∙ bits-same m x y e ∙ mod-eq_of_lt hy

  apart_some : (x ≡ y → ⊥) → 0 < apart m x y
  apart_some d =
      by_cases (eqb (apart m x y) 0)
      (λ z. absurd (d (apart_none (eqb-true (apart m x y) 0 z))))
      (λ n. omega (arith, eqb-false (apart m x y) 0 n))

-- one more bit behind each
pub apart_next : (m x y u v : ℕ) → x < 2 ^ m → y < 2 ^ m → u ≤ 1 → v ≤ 1
    → apart (suc m) (2 * x + u) (2 * y + v) ≡ (if eqb u v then 0 else 1) + apart m x y
apart_next m x y u v hx hy hu hv =
    let X = 2 * x + u in
    let Y = 2 * y + v in
    let last : bit_xor X Y % 2 ≡ u ⊕ v = omega (arith, xor_add_and X Y) in
    let x-above : X / 2 ^ 1 ≡ x = omega arith in
    let y-above : Y / 2 ^ 1 ≡ y = omega arith in
    apart-xor (suc m) X Y (omega (arith, pow-suc 2 m)) (omega (arith, pow-suc 2 m))
    ∙ ones_step (bit_xor X Y)
    ∙ ap₂ (λ (s t : ℕ). s + t)
    (last ∙ sym (two_bits u v (omega arith) (omega arith)))
    (ap ones (xor_shr X Y 1 ∙ ap₂ bit_xor x-above y-above) ∙ sym (apart-xor m x y hx hy))

pub apart-most : (m x y : ℕ) → apart m x y ≤ m
apart-most m x y = omega (arith, differing-most (bits_of m x) (bits_of m y), length-bits m x)

-- of labels of m bits a wider word has no bits more that differ
pub bits_width : (m n : ℕ) → m ≤ n → (a b : List ℕ) → all_at_most (2 ^ m - 1) a ≡ true → all_at_most (2 ^ m - 1) b ≡ true
    → differing_bits m a b ≡ differing_bits n a b
unfolding differing_bits
bits_width m n h [] b ha hb = refl
bits_width m n h (x ∷ a) [] ha hb = refl
bits_width m n h (x ∷ a) (y ∷ b) ha hb =
    let hx = lt_of_le_ones m (legal_head (2 ^ m - 1) x a ha) in
    let hy = lt_of_le_ones m (legal_head (2 ^ m - 1) y b hb) in
    ap₂ (λ (u v : ℕ). u + v)
    (apart-xor m x y hx hy ∙ sym (apart-xor n x y (lt_of_lt_of_le hx (pow_mono h)) (lt_of_lt_of_le hy (pow_mono h))))
    (bits_width m n h a b (legal-tail (2 ^ m - 1) x a ha) (legal-tail (2 ^ m - 1) y b hb))

pub bits_swap : (m : ℕ) (a b : List ℕ) → differing_bits m a b ≡ differing_bits m b a
unfolding differing_bits
bits_swap m [] [] = refl
bits_swap m [] (y ∷ b) = refl
bits_swap m (x ∷ a) [] = refl
bits_swap m (x ∷ a) (y ∷ b) = ap₂ (λ (u v : ℕ). u + v) (differing_swap (bits_of m x) (bits_of m y)) (bits_swap m a b)

-- a place that differs has at least one bit that does, and at most m
pub bits-least : (m : ℕ) (a b : List ℕ) → all_at_most (2 ^ m - 1) a ≡ true → all_at_most (2 ^ m - 1) b ≡ true → differing a b ≤ differing_bits m a b
unfolding differing differing_bits
bits-least m [] b ha hb = zero-le
bits-least m (x ∷ a) [] ha hb = zero-le
bits-least m (x ∷ a) (y ∷ b) ha hb =
    let hx = lt_of_le_ones m (legal_head (2 ^ m - 1) x a ha) in
    let hy = lt_of_le_ones m (legal_head (2 ^ m - 1) y b hb) in
    let rest = bits-least m a b (legal-tail (2 ^ m - 1) x a ha) (legal-tail (2 ^ m - 1) y b hb) in
    by_cases (eqb x y)
    (λ t. rw t (omega (arith, rest)))
    (λ f. rw f (omega (arith, rest, apart_some m x y hx hy (eqb-false x y f))))

pub bits_most : (m : ℕ) (a b : List ℕ) → differing_bits m a b ≤ m * differing a b
unfolding differing differing_bits
bits_most m [] b = zero-le
bits_most m (x ∷ a) [] = zero-le
bits_most m (x ∷ a) (y ∷ b) =
    by_cases (eqb x y)
    (λ t. rw t (omega (arith, bits_most m a b, ap (apart m x) (sym (eqb-true x y t)) ∙ differing_self (bits_of m x))))
    (λ f. rw f (omega (arith, bits_most m a b, apart-most m x y)))
