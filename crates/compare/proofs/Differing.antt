-- Places of two lists of one length: they differ nowhere exactly if they are equal, as often either way round, and the first is the first to differ.
use mathlib.Core.Path.{◌≡◌, refl, sym, ◌∙◌}
use mathlib.Core.List.{List, [], ◌∷◌, ◌++◌}
use Prim.Native.Nat.{ℕ, zero, suc, zero-le, ◌+◌, ◌≤◌, ◌<◌}
use native.Mathlib.Omega.{arith}
use borrow.Author.Tests.{eqb-true, eqb-false, eq-eqb, ne_eqb}
use lib.Dec.{eqb}
use lib.ListN.{length, get_or}
use Rattle.bits.proofs.Cases.{by_cases}
use Rattle.compare.specs.Comparison.{differing, first_place}

-- two lists of one length differ nowhere exactly if they are equal
pub differing_self : (a : List ℕ) → differing a a ≡ 0
unfolding differing
differing_self [] = refl
differing_self (x ∷ a) = rw (eq-eqb x x refl, differing_self a)

pub differing-none : (a b : List ℕ) → length a ≡ length b → differing a b ≡ 0 → a ≡ b
unfolding differing
differing-none [] [] e z = refl
differing-none [] (y ∷ b) e z = absurd (omega arith)
differing-none (x ∷ a) [] e z = absurd (omega arith)
differing-none (x ∷ a) (y ∷ b) e z =
    by_cases (eqb x y)
    (λ t. rw (eqb-true x y t, differing-none a b (omega arith) (omega (arith, rw t at z))))
    (λ f. absurd (omega (arith, rw f at z)))

pub differing-most : (a b : List ℕ) → differing a b ≤ length a
unfolding differing
differing-most [] b = zero-le
differing-most (x ∷ a) [] = zero-le
differing-most (x ∷ a) (y ∷ b) = by_cases (eqb x y) (λ t. rw t (omega (arith, differing-most a b))) (λ f. rw f (omega (arith, differing-most a b)))

-- counted apart in two parts
pub differing-append : (a b xs ys : List ℕ) → length a ≡ length b → differing (a ++ xs) (b ++ ys) ≡ differing a b + differing xs ys
unfolding differing
differing-append [] [] xs ys e = omega arith
differing-append [] (y ∷ b) xs ys e = absurd (omega arith)
differing-append (x ∷ a) [] xs ys e = absurd (omega arith)
differing-append (x ∷ a) (y ∷ b) xs ys e = omega (arith, differing-append a b xs ys (omega arith))

-- the first place differs, and none before it
pub first-differs : (a b : List ℕ) → length a ≡ length b → (differing a b ≡ 0 → ⊥)
    → (first_place a b < length a) × (get_or a (first_place a b) 0 ≡ get_or b (first_place a b) 0 → ⊥)
unfolding differing first_place
first-differs [] b e d = absurd (d refl)
first-differs (x ∷ a) [] e d = absurd (d refl)
first-differs (x ∷ a) (y ∷ b) e d =
    by_cases (eqb x y)
    (λ t. let r = first-differs a b (omega arith) (λ z. d (rw (t, z))) in rw t (omega (arith, r.0), r.1))
    (λ f. rw f (omega arith, eqb-false x y f))

pub before-first : (a b : List ℕ) (k : ℕ) → k < first_place a b → get_or a k 0 ≡ get_or b k 0
unfolding first_place
before-first [] b k h = absurd (omega arith)
before-first (x ∷ a) [] k h = absurd (omega arith)
before-first (x ∷ a) (y ∷ b) zero h =
    by_cases (eqb x y) (eqb-true x y) (λ f. absurd (omega (arith, rw f at h)))
before-first (x ∷ a) (y ∷ b) (suc k) h =
    by_cases (eqb x y) (λ t. before-first a b k (omega (arith, rw t at h))) (λ f. absurd (omega (arith, rw f at h)))

-- either way round
eqb_swap : (x y : ℕ) → eqb x y ≡ eqb y x
eqb_swap x y = by_cases (eqb x y) (λ t. t ∙ sym (eq-eqb y x (sym (eqb-true x y t)))) (λ f. f ∙ sym (ne_eqb y x (λ e. eqb-false x y f (sym e))))

pub differing_swap : (a b : List ℕ) → differing a b ≡ differing b a
unfolding differing
differing_swap [] [] = refl
differing_swap [] (y ∷ b) = refl
differing_swap (x ∷ a) [] = refl
differing_swap (x ∷ a) (y ∷ b) = rw (eqb_swap x y, differing_swap a b)

pub first_swap : (a b : List ℕ) → first_place a b ≡ first_place b a
unfolding first_place
first_swap [] [] = refl
first_swap [] (y ∷ b) = refl
first_swap (x ∷ a) [] = refl
first_swap (x ∷ a) (y ∷ b) = rw (eqb_swap x y, first_swap a b)
