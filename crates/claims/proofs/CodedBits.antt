-- Column by column: one more column of two codewords adds to the bits in which their labels differ the places at which the columns do.
use mathlib.Core.Path.{◌≡◌, refl, sym, ap, ap₂, ◌∙◌}
use mathlib.Core.Bool.{true}
use mathlib.Core.List.{List, ◌++◌}
use Prim.Native.Nat.{ℕ, zero, suc, ◌+◌, ◌*◌, ◌≤◌}
use native.Mathlib.Omega.{arith}
use lib.ListN.{length, get_or, take, drop}
use lib.Seq.{take-add, take_all, length-take-le}
use Rattle.bits.specs.Checks.{passed}
use Rattle.bits.specs.Legal.{all_bits}
use Rattle.bits.proofs.Legal.{legal-at}
use Rattle.bits.proofs.Lists.{drop-next}
use Rattle.acm.specs.Formats.{symbols, is_format, format_of}
use Rattle.acm.proofs.Laws.{format-sound}
use Rattle.mapping.specs.Labels.{label, labels_from, labels}
use Rattle.mapping.proofs.Rows.{label-next, label-low, labels-legal, labels-long}
use Rattle.compare.specs.Comparison.{differing, differing_bits, compare_number}
use Rattle.compare.proofs.Bits.{apart_next, bits_most}
use Rattle.compare.proofs.Checked.{compare_passes}
use Rattle.compare.proofs.Differing.{differing-append}
use Rattle.compare.proofs.Laws.{compare_bits}
use Rattle.claims.specs.Comparison.{Coded}

module _ (a b : List ℕ) (e : length a ≡ length b) (ha : all_bits a ≡ true) (hb : all_bits b ≡ true) where
  -- k labels from r on, of c bits and of one more
  column_adds : (c r k : ℕ) → r + c * symbols + k ≤ length a
      → differing_bits (suc c) (labels_from (suc c) a r k) (labels_from (suc c) b r k)
      ≡ differing_bits c (labels_from c a r k) (labels_from c b r k) + differing (take k (drop (r + c * symbols) a)) (take k (drop (r + c * symbols) b))
  unfolding differing differing_bits
  column_adds c r zero h = refl
  column_adds c r (suc k) h =
      let p = r + c * symbols in
      let past : p + 1 ≡ r + 1 + c * symbols = omega arith in
      let here =
      apart_next c (label c a r) (label c b r) (get_or a p 0) (get_or b p 0) (label-low c a r ha) (label-low c b r hb) (legal-at 1 a ha p) (legal-at 1 b hb p) in
      rw (drop-next a p (omega arith), drop-next b p (omega arith), label-next c a r, label-next c b r, past)
      (omega (arith, here, column_adds c (r + 1) k (omega arith)))

  -- labels of c bits stand for the first c columns; n is 8,100
  columns : (n : ℕ) → n ≡ symbols → (c : ℕ) → c * n ≤ length a
      → differing_bits c (labels_from c a 0 n) (labels_from c b 0 n) ≡ differing (take (c * n) a) (take (c * n) b)
  unfolding differing
  columns n s zero h = let z : 0 * n ≡ 0 = omega arith in rw z (omega (arith, bits_most 0 (labels_from 0 a 0 n) (labels_from 0 b 0 n)))
  columns n s (suc c) h =
      let at : 0 + c * symbols ≡ c * n = omega (arith, ap (λ (k : ℕ). c * k) s) in
      let more : suc c * n ≡ c * n + n = omega arith in
      let parts : (l : List ℕ) → take (suc c * n) l ≡ take (c * n) l ++ take n (drop (c * n) l) = λ l. ap (λ (k : ℕ). take k l) more ∙ take-add (c * n) n l in
      let long : length (take (c * n) a) ≡ length (take (c * n) b) =
      length-take-le (c * n) a (omega arith) ∙ sym (length-take-le (c * n) b (omega arith)) in
      column_adds c 0 n (omega (arith, at, more))
      ∙ ap₂ (λ (u v : ℕ). u + v) (columns n s c (omega arith)) (ap (λ (k : ℕ). differing (take n (drop k a)) (take n (drop k b))) at)
      ∙ sym (differing-append (take (c * n) a) (take (c * n) b) (take n (drop (c * n) a)) (take n (drop (c * n) b)) long)
      ∙ sym (ap₂ differing (parts a) (parts b))

module _ (f : ℕ) (h : is_format f ≡ true) (a b : List ℕ) (la : length a ≡ (format_of f).n) (lb : length b ≡ (format_of f).n) (ha : all_bits a ≡ true)
    (hb : all_bits b ≡ true) where
  abbrev m : ℕ
  m = (format_of f).m

  passes : compare_number f (labels m a) (labels m b) ≡ passed
  passes =
      compare_passes f (labels m a) (labels m b)
      record {
        known = h;
        long_a = labels-long m a;
        long_b = labels-long m b;
        legal_a = labels-legal m a ha;
        legal_b = labels-legal m b hb;
      }

  all : differing_bits m (labels m a) (labels m b) ≡ differing a b
  unfolding labels
  all =
      let long : m * symbols ≡ (format_of f).n = omega (arith, (format-sound f h).labels) in
      columns a b (la ∙ sym lb) ha hb symbols refl m (omega (arith, long))
      ∙ ap₂ differing (take_all (m * symbols) a (omega (arith, long))) (take_all (m * symbols) b (omega (arith, long)))

  pub coded : Coded f a b
  coded = record { passes = passes; counts = compare_bits f (labels m a) (labels m b) passes ∙ all }
