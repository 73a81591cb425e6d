-- The count of bits over two lists, and how the first place that differs and the number of those that do go on from one place to the next.
use mathlib.Core.Path.{◌≡◌, refl, ap, ◌∙◌}
use mathlib.Core.List.{List, [], ◌∷◌}
use Prim.Native.Nat.{ℕ, zero-le, ◌+◌, ◌≤◌, ◌<◌}
use native.Mathlib.Omega.{arith}
use borrow.Author.Tests.{eq-eqb, ne_eqb}
use lib.Dec.{eqb}
use lib.ListN.{length, get_or, drop, drop_of_length-le}
use Rattle.std.specs.List.{sum_by, zip}
use Rattle.std.proofs.lemmas.List.Sums.{sum_by-cons}
use Rattle.bits.proofs.Lists.{drop-next}
use Rattle.bits.proofs.Cases.{by_cases}
use Rattle.compare.specs.Comparison.{apart, differing, differing_bits, first_place}

-- added over the pairs of the two lists
pub bits-zipped : (m : ℕ) (a b : List ℕ) → sum_by (λ (p : ℕ × ℕ). apart m p.0 p.1) (zip a b) ≡ differing_bits m a b
unfolding differing_bits
bits-zipped m [] b = refl
bits-zipped m (x ∷ a) [] = refl
bits-zipped m (x ∷ a) (y ∷ b) = sum_by-cons (λ (p : ℕ × ℕ). apart m p.0 p.1) (x, y) (zip a b) ∙ ap (λ (n : ℕ). apart m x y + n) (bits-zipped m a b)

-- whether the labels of a pair are unequal
pub nowhere-first : (a b : List ℕ) → length a ≡ length b → differing a b ≡ 0 → length a ≤ first_place a b
unfolding differing first_place
nowhere-first [] b e z = zero-le
nowhere-first (x ∷ a) [] e z = absurd (omega arith)
nowhere-first (x ∷ a) (y ∷ b) e z =
    by_cases (eqb x y) (λ t. rw t (omega (arith, nowhere-first a b (omega arith) (omega (arith, rw t at z))))) (λ f. absurd (omega (arith, rw f at z)))

-- from one place of two lists to the next: the first that differs, and how many do
module _ (a b : List ℕ) (i : ℕ) (ha : i < length a) (hb : i < length b) where
  pub same-here : get_or a i 0 ≡ get_or b i 0
      → (first_place (drop i a) (drop i b) ≡ 1 + first_place (drop (i + 1) a) (drop (i + 1) b)) × (differing (drop i a) (drop i b) ≡ differing (drop (i + 1) a) (drop (i + 1) b))
  unfolding first_place differing
  same-here e = rw (drop-next a i ha, drop-next b i hb, eq-eqb _ _ e) (omega arith, omega arith)

  pub other-here : (get_or a i 0 ≡ get_or b i 0 → ⊥) → first_place (drop i a) (drop i b) ≡ 0
  unfolding first_place
  other-here e = rw (drop-next a i ha, drop-next b i hb, ne_eqb _ _ e)

pub none-left : (a b : List ℕ) (i : ℕ) → length a ≤ i → differing (drop i a) (drop i b) ≡ 0
unfolding differing
none-left a b i h = rw (drop_of_length-le a)
