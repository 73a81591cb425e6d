-- The nearest label: its distance is at most any label's, and less than that of each lower label, for coordinates that are numbers.
use mathlib.Core.Path.{◌≡◌, refl}
use mathlib.Core.Bool.{Bool, true, ◌&&◌}
use Prim.Native.Nat.{ℕ, zero, suc, ◌<◌}
use native.Mathlib.Omega.{arith}
use lib.Dec.{eqb, ltb}
use lib.Ieee.{Float, nan, inf, fin, lt, round}
use Rattle.std.specs.Float.{NotNan, float_is_finite, ◌≤ᶠ◌, ◌<ᶠ◌}
use Rattle.std.specs.Prelude.{if◌then◌else◌}
use Rattle.std.proofs.lemmas.Float.{T_from_true, T_from_false, le_refl, le_of_lt, le_of_not-lt, lt_of_lt_of_le, lt_irrefl}
use borrow.Author.Tests.{eqb-true, eqb-false, ltb-true, ltb-false}
use Rattle.bits.proofs.Cases.{by_cases}
use Rattle.bits.proofs.Table.{below_at, left-true, right_true}
use Rattle.constellation.specs.Table.{entries}
use Rattle.constellation.specs.Points.{point_of, ten_thousandths}
use Rattle.nearest.specs.Nearest.{distance_to, least, nearest_label, points}
use Rattle.nearest.proofs.Distances.{Finite, distance-number}

-- r is the place of the least of the first n
pub record Least (d : ℕ → Float) (n r : ℕ) : Type 0 where
  pub inside : r < n
  pub at_most : (k : ℕ) → k < n → d r ≤ᶠ d k
  pub below : (k : ℕ) → k < r → d r <ᶠ d k

module _ (d : ℕ → Float) where
  -- what holds before n and at n
  with_last : {P : ℕ → Type 0} (n : ℕ) → ((k : ℕ) → k < n → P k) → P n → (k : ℕ) → k < suc n → P k
  with_last {P} n before last k h =
      by_cases (eqb k n) (λ t. rw (eqb-true k n t) last) (λ f. before k (omega (arith, eqb-false k n f)))

  turned : (n r : ℕ) → ((k : ℕ) → k < suc n → NotNan (d k)) → Least d n r → Least d (suc n) (if lt (d n) (d r) then n else r)
  turned n r numbers l =
      let number = numbers n (omega arith) in
      by_cases
      (lt (d n) (d r))
      (λ t.
      let less : (k : ℕ) → k < n → d n <ᶠ d k = λ k h. lt_of_lt_of_le _ _ _ (T_from_true _ t) (l.at_most k h) in
      rw t
      record {
        inside = omega arith;
        at_most = with_last n (λ k h. le_of_lt _ _ (less k h)) (le_refl _ number);
        below = less;
      })
      (λ f.
      rw f
      record {
        inside = omega (arith, l.inside);
        at_most = with_last n l.at_most (le_of_not-lt _ _ number (numbers r (omega (arith, l.inside))) (T_from_false _ f));
        below = l.below;
      })

  least_is : (n : ℕ) → ((k : ℕ) → k < suc n → NotNan (d k)) → Least d (suc n) (least d (suc n))
  unfolding least
  least_is zero numbers =
      let only : Least d 1 0 =
      record {
        inside = omega arith;
        at_most = with_last 0 (λ k h. absurd (omega arith)) (le_refl _ (numbers 0 (omega arith)));
        below = (λ k h. absurd (omega arith));
      } in
      by_cases (lt (d 0) (d 0)) (λ t. rw t only) (λ f. rw f only)
  least_is (suc n) numbers = turned (suc n) (least d (suc n)) numbers (least_is n (λ k h. numbers k (omega arith)))

-- each point's coordinates are finite: one test of all, by computing
finite : (x : Float) → float_is_finite x ≡ true → Finite x
unfolding float_is_finite
finite nan t = cc
finite (inf s) t = cc
finite (fin s m e) t = Finite.number s m e

plain : ℕ → Bool
unfolding float_is_finite point_of ten_thousandths entries round
plain label = float_is_finite (point_of label).i && float_is_finite (point_of label).q

module _ (i q : Float) (fi : Finite i) (fq : Finite q) where
  distance_to-number : (label : ℕ) → label < points → NotNan (distance_to i q label)
  unfolding plain
  distance_to-number label h =
      let all = below_at plain points refl label h in
      distance-number (point_of label) fi fq (finite _ (left-true _ _ all)) (finite _ (right_true _ _ all))

  pub nearest_least : Least (distance_to i q) points (nearest_label i q)
  unfolding nearest_label
  nearest_least = least_is (distance_to i q) 255 distance_to-number

-- there is no other such place
pub least_once : (d : ℕ → Float) (n r s : ℕ) → Least d n r → Least d n s → r ≡ s
least_once d n r s a b =
    by_cases
    (ltb r s)
    (λ t. absurd (lt_irrefl _ (lt_of_lt_of_le _ _ _ (b.below r (ltb-true r s t)) (a.at_most s b.inside))))
    (λ f.
    by_cases
    (ltb s r)
    (λ t. absurd (lt_irrefl _ (lt_of_lt_of_le _ _ _ (a.below s (ltb-true s r t)) (b.at_most r a.inside))))
    (λ g. omega (arith, ltb-false r s f, ltb-false s r g)))
