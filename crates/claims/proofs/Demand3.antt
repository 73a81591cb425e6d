-- Demand 3, from the laws of each layer.
use mathlib.Core.Path.{◌≡◌, sym, ap, subst, ◌∙◌}
use mathlib.Core.Bool.{true}
use mathlib.Core.List.{List}
use mathlib.Core.Logic.{◌↔◌}
use Prim.Native.Nat.{ℕ, ◌≤◌, ◌<◌}
use native.Mathlib.Omega.{arith}
use borrow.Author.Tests.{eqb-true, eqb-false}
use lib.Bits.{bit_xor}
use lib.Dec.{eqb}
use lib.ListN.{length, get_or}
use lib.Seq.{ext_get_or}
use Rattle.bits.specs.Sum.{◌⊕◌, ◌⊕*◌, bit}
use Rattle.bits.proofs.Cases.{by_cases}
use Rattle.bits.proofs.Legal.{legal-at}
use Rattle.bits.proofs.Sums.{⊕*-length, ⊕*-at, bit-xor}
use Rattle.acm.specs.Formats.{symbols, is_format, format_of}
use Rattle.trellis.specs.Trellis.{outer}
use Rattle.trellis.proofs.Runs.{terminated-ends}
use Rattle.interleaver.specs.Interleaver.{π}
use Rattle.interleaver.proofs.Formats.{π-permutes}
use Rattle.inner.specs.Registers.{interleaved}
use Rattle.mapping.specs.Labels.{labels}
use Rattle.mapping.proofs.Rows.{label-low, labels-long, label_at}
use Rattle.mapping.proofs.Xor.{labels-xor}
use Rattle.encoder.specs.Codeword.{trellis_part, codeword}
use Rattle.encoder.proofs.Codewords.{codeword-length, codeword-bits}
use Rattle.encoder.proofs.Linear.{codeword-sum}
use Rattle.claims.specs.Demand3.{Block, OneWhereDiffer, block_labels, Linear, Wholeness, Linearity, Termination, Demand3}

-- of two bits, the sum is one exactly where they differ
one_where_differ : (x y : ℕ) → x ≤ 1 → y ≤ 1 → (x ⊕ y ≡ 1) ↔ (x ≡ y → ⊥)
one_where_differ x y hx hy = ((λ e q. omega arith), (λ d. differ x y hx hy d))
  where
    differ : (x y : ℕ) → x ≤ 1 → y ≤ 1 → (x ≡ y → ⊥) → x ⊕ y ≡ 1
    differ x y hx hy d = omega (arith, d)

-- the list with ones exactly where two lists differ is their sum
is_sum : (n : ℕ) (a b c : List ℕ) → length a ≡ n → length b ≡ n → length c ≡ n → ((k : ℕ) → get_or a k 0 ≤ 1) → ((k : ℕ) → get_or b k 0 ≤ 1)
    → ((k : ℕ) → get_or c k 0 ≤ 1) → OneWhereDiffer n a b c → c ≡ a ⊕* b
is_sum n a b c la lb lc ha hb hc d =
    ext_get_or 0 c (a ⊕* b) (lc ∙ sym (⊕*-length a b (la ∙ sym lb) ∙ la)) (λ k h. place k (omega (arith, lc)) ∙ sym (⊕*-at a b k (la ∙ sym lb)))
  where
    place : (k : ℕ) → k < n → get_or c k 0 ≡ get_or a k 0 ⊕ get_or b k 0
    place k h =
        let x = get_or a k 0 in
        let y = get_or b k 0 in
        by_cases (eqb x y)
        (λ t. let e : x ≡ y = eqb-true x y t in
        let z : get_or c k 0 ≡ 1 → ⊥ = λ q. (d k h).0 q e in
        omega (arith, hc k, ha k))
        (λ f. (d k h).1 (eqb-false x y f) ∙ sym ((one_where_differ x y (ha k) (hb k)).1 (eqb-false x y f)))

-- two lists of bits and their sum
sum-differs : (n : ℕ) (a b : List ℕ) → length a ≡ length b → ((k : ℕ) → get_or a k 0 ≤ 1) → ((k : ℕ) → get_or b k 0 ≤ 1) → OneWhereDiffer n a b (a ⊕* b)
sum-differs n a b e ha hb k h = rw (⊕*-at a b k e) (one_where_differ (get_or a k 0) (get_or b k 0) (ha k) (hb k))

module _ (f : ℕ) (h : is_format f ≡ true) (a b : List ℕ) (A : Block f a) (B : Block f b) where
  same : length (codeword f a) ≡ length (codeword f b)
  same = codeword-length f h a A.long ∙ sym (codeword-length f h b B.long)

  numbers : (r : ℕ) → r < symbols → get_or (block_labels f (a ⊕* b)) r 0 ≡ bit_xor (get_or (block_labels f a) r 0) (get_or (block_labels f b) r 0)
  numbers r l =
      ap (λ (w : List ℕ). get_or (labels (format_of f).m w) r 0) (codeword-sum f h a b A.long B.long)
      ∙ labels-xor (format_of f).m (codeword f a) (codeword f b) same (codeword-bits f h a A.bits) (codeword-bits f h b B.bits) r l

  linear_sum : Linear f a b (a ⊕* b)
  linear_sum =
      record {
        codewords =
            subst (OneWhereDiffer (format_of f).n (codeword f a) (codeword f b)) (sym (codeword-sum f h a b A.long B.long))
            (sum-differs (format_of f).n (codeword f a) (codeword f b) same (legal-at 1 (codeword f a) (codeword-bits f h a A.bits))
            (legal-at 1 (codeword f b) (codeword-bits f h b B.bits)));
        label-bits = λ r l j s.
            (let x = bit j (get_or (block_labels f a) r 0) in
            let y = bit j (get_or (block_labels f b) r 0) in
            subst (λ (z : ℕ). (z ≡ 1) ↔ (x ≡ y → ⊥)) (sym (ap (bit j) (numbers r l) ∙ bit-xor j (get_or (block_labels f a) r 0) (get_or (block_labels f b) r 0)))
            (one_where_differ x y (omega arith) (omega arith)));
        label-numbers = numbers;
      }

wholeness : Wholeness
wholeness f h block B =
    let m = (format_of f).m in
    let w = codeword f block in
    let bits = codeword-bits f h block B.bits in
    record {
      codeword-long = codeword-length f h block B.long;
      codeword-bits = bits;
      labels-long = labels-long m w;
      labels-low = (λ r l. rw (label_at m w r l) (label-low m w r bits));
    }

linearity : Linearity
linearity f h a b c A B C d =
    let sum = is_sum (format_of f).k a b c A.long B.long C.long (legal-at 1 a A.bits) (legal-at 1 b B.bits) (legal-at 1 c C.bits) d in
    subst (Linear f a b) (sym sum) (linear_sum f h a b A B)

termination : Termination
termination f h block B =
    (terminated-ends (trellis_part f block), terminated-ends (interleaved (format_of f) (π f) (outer (trellis_part f block))))

pub demand3 : Demand3
demand3 = record { wholeness = wholeness; linearity = linearity; termination = termination; permutation = π-permutes }
