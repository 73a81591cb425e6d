-- The labels of a sum are the exclusive or of the labels.
use mathlib.Core.Path.{◌≡◌, refl, sym, ap, ap₂, ◌∙◌}
use mathlib.Core.Bool.{true}
use mathlib.Core.List.{List, [], ◌∷◌}
use Prim.Native.Nat.{ℕ, zero, suc, ◌+◌, ◌*◌, ◌^◌, ◌≤◌, ◌<◌}
use native.Mathlib.Omega.{arith}
use borrow.Author.Tests.{le-leb}
use lib.Bits.{bit_xor, xor_block}
use lib.ListN.{length, get_or}
use lib.Seq.{ext_get_or}
use Rattle.bits.specs.Digits.{value_from, value}
use Rattle.bits.specs.Legal.{all_bits}
use Rattle.bits.specs.Sum.{◌⊕◌, ◌⊕*◌}
use Rattle.bits.specs.Three.{xored}
use Rattle.bits.proofs.Legal.{legal-at, legal_head, legal-tail}
use Rattle.bits.proofs.Sums.{xor_of_bits, ⊕*-at, ⊕*-bits, ⊕*-length}
use Rattle.bits.proofs.Three.{three-at, three-length, xored-bits}
use Rattle.acm.specs.Formats.{symbols}
use Rattle.mapping.specs.Labels.{row_from, label, labels}
use Rattle.mapping.proofs.Rows.{label_at, labels-long}

-- bits into a number: packing commutes with the exclusive or
packed_xor : (n m x y : ℕ) → x ≤ 1 → y ≤ 1 → 2 * bit_xor n m + x ⊕ y ≡ bit_xor (2 * n + x) (2 * m + y)
packed_xor n m x y hx hy =
    let double : (k z : ℕ) → k * 2 ^ 1 + z ≡ 2 * k + z = λ k z. omega arith in
    sym (ap₂ bit_xor (sym (double n x)) (sym (double m y)) ∙ xor_block 1 n m x y (omega arith) (omega arith) ∙ omega (arith, xor_of_bits x y hx hy))

value_from-xor : (n m : ℕ) (a b : List ℕ) → length a ≡ length b → all_bits a ≡ true → all_bits b ≡ true
    → value_from 2 (bit_xor n m) (a ⊕* b) ≡ bit_xor (value_from 2 n a) (value_from 2 m b)
value_from-xor n m [] [] e ha hb = refl
value_from-xor n m [] (y ∷ b) e ha hb = absurd (omega arith)
value_from-xor n m (x ∷ a) [] e ha hb = absurd (omega arith)
value_from-xor n m (x ∷ a) (y ∷ b) e ha hb =
    ap (λ (k : ℕ). value_from 2 k (a ⊕* b)) (packed_xor n m x y (legal_head 1 x a ha) (legal_head 1 y b hb))
    ∙ value_from-xor (2 * n + x) (2 * m + y) a b (omega arith) (legal-tail 1 x a ha) (legal-tail 1 y b hb)

pub value-xor : (a b : List ℕ) → length a ≡ length b → all_bits a ≡ true → all_bits b ≡ true → value 2 (a ⊕* b) ≡ bit_xor (value 2 a) (value 2 b)
value-xor a b e ha hb = value_from-xor 0 0 a b e ha hb

-- a row of a codeword
row-length : (codeword : List ℕ) (p m : ℕ) → length (row_from codeword p m) ≡ m
row-length codeword p zero = refl
row-length codeword p (suc m) = ap suc (row-length codeword (p + symbols) m)

row_bits_lem : (codeword : List ℕ) → all_bits codeword ≡ true → (p m : ℕ) → all_bits (row_from codeword p m) ≡ true
row_bits_lem codeword h p zero = refl
row_bits_lem codeword h p (suc m) = rw (le-leb (get_or codeword p 0) 1 (legal-at 1 codeword h p)) (row_bits_lem codeword h (p + symbols) m)

row-sum : (a b : List ℕ) → length a ≡ length b → (p m : ℕ) → row_from (a ⊕* b) p m ≡ row_from a p m ⊕* row_from b p m
row-sum a b e p zero = refl
row-sum a b e p (suc m) = rw (⊕*-at a b p e, row-sum a b e (p + symbols) m)

module _ (m : ℕ) (a b : List ℕ) (e : length a ≡ length b) (ha : all_bits a ≡ true) (hb : all_bits b ≡ true) (r : ℕ) (h : r < symbols) where
  label-xor : label m (a ⊕* b) r ≡ bit_xor (label m a r) (label m b r)
  label-xor =
      ap (value 2) (row-sum a b e r m)
      ∙ value-xor (row_from a r m) (row_from b r m) (row-length a r m ∙ sym (row-length b r m)) (row_bits_lem a ha r m) (row_bits_lem b hb r m)

  -- label r of a sum
  pub labels-xor : get_or (labels m (a ⊕* b)) r 0 ≡ bit_xor (get_or (labels m a) r 0) (get_or (labels m b) r 0)
  labels-xor = label_at m (a ⊕* b) r h ∙ label-xor ∙ ap₂ bit_xor (sym (label_at m a r h)) (sym (label_at m b r h))

-- the labels of the exclusive or of three lists of bits
pub labels-xored : (m : ℕ) (a b c : List ℕ) → length a ≡ length b → length b ≡ length c
    → all_bits a ≡ true → all_bits b ≡ true → all_bits c ≡ true → labels m (xored a b c) ≡ xored (labels m a) (labels m b) (labels m c)
labels-xored m a b c e f ha hb hc =
    ap (labels m) (xored-bits a b c ha hb hc)
    ∙ ext_get_or 0 (labels m (a ⊕* b ⊕* c)) (xored (labels m a) (labels m b) (labels m c)) (labels-long m (a ⊕* b ⊕* c) ∙ sym long) place
  where
    same : (x y : List ℕ) → length (labels m x) ≡ length (labels m y)
    same x y = labels-long m x ∙ sym (labels-long m y)

    long : length (xored (labels m a) (labels m b) (labels m c)) ≡ symbols
    long = three-length _ (labels m a) (labels m b) (labels m c) (same a b) (same b c) ∙ labels-long m a

    place : (r : ℕ) → r < length (labels m (a ⊕* b ⊕* c)) → get_or (labels m (a ⊕* b ⊕* c)) r 0 ≡ get_or (xored (labels m a) (labels m b) (labels m c)) r 0
    place r h =
        let low : r < symbols = omega (arith, h, labels-long m (a ⊕* b ⊕* c)) in
        labels-xor m (a ⊕* b) c (⊕*-length a b e ∙ e ∙ f) (⊕*-bits a b) hc r low
        ∙ ap (λ (n : ℕ). bit_xor n (get_or (labels m c) r 0)) (labels-xor m a b e ha hb r low)
        ∙ sym (three-at _ (labels m a) (labels m b) (labels m c) r 0 (omega (arith, low, labels-long m a)) (same a b) (same b c))
