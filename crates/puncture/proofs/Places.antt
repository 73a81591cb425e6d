-- How many places below n pass a test: the same for a permutation of the places, and by whole periods for a periodic test.
use mathlib.Core.Path.{◌≡◌, refl, sym, ap, ap₂, ◌∙◌}
use mathlib.Core.Bool.{Bool, true}
use mathlib.Core.List.{List, [], ◌∷◌}
use Prim.Native.Nat.{ℕ, zero, suc, ◌+◌, ◌*◌, ◌<◌}
use native.Mathlib.Nat.{suc-mul, zero-mul, add-zero, zero-add, suc-add}
use native.Mathlib.Numerals.{add-one}
use native.Mathlib.Omega.{arith}
use borrow.Author.Tests.{eq-eqb, eqb-true, eqb-false}
use lib.Dec.{eqb}
use lib.ListN.{length}
use Rattle.std.specs.Prelude.{if◌then◌else◌}
use Rattle.bits.specs.Permutation.{Permutes}
use Rattle.bits.proofs.Cases.{by_cases}
use Rattle.puncture.specs.Puncture.{kept_at}

-- the sum of g(0), .., g(n - 1)
abbrev pub sum_to : ℕ → (ℕ → ℕ) → ℕ
sum_to zero g = 0
sum_to (suc n) g = g n + sum_to n g

abbrev pub one : Bool → ℕ
one b = if b then 1 else 0

-- how many places below n pass the test
abbrev pub places : (ℕ → Bool) → ℕ → ℕ
places test n = sum_to n (λ i. one (test i))

sum_same : (n : ℕ) (g h : ℕ → ℕ) → ((i : ℕ) → i < n → g i ≡ h i) → sum_to n g ≡ sum_to n h
sum_same zero g h e = refl
sum_same (suc n) g h e = ap₂ (λ (x y : ℕ). x + y) (e n (omega arith)) (sum_same n g h (λ i l. e i (omega arith)))

sum-zero : (n : ℕ) → sum_to n (λ i. 0) ≡ 0
sum-zero zero = refl
sum-zero (suc n) = omega (arith, sum-zero n)

sum-plus : (n : ℕ) (g h : ℕ → ℕ) → sum_to n (λ i. g i + h i) ≡ sum_to n g + sum_to n h
sum-plus zero g h = refl
sum-plus (suc n) g h = omega (arith, sum-plus n g h)

-- rows first or columns first
sum_swap : (n m : ℕ) (g : ℕ → ℕ → ℕ) → sum_to n (λ i. sum_to m (g i)) ≡ sum_to m (λ j. sum_to n (λ i. g i j))
sum_swap zero m g = sym (sum-zero m)
sum_swap (suc n) m g =
    ap (λ (x : ℕ). sum_to m (g n) + x) (sum_swap n m g) ∙ sym (sum-plus m (g n) (λ j. sum_to n (λ i. g i j)))

-- a sum with one term: x where the test holds, which it does at k alone
sum-single : (n k x : ℕ) (test : ℕ → Bool) → k < n → test k ≡ true → ((i : ℕ) → i < n → test i ≡ true → i ≡ k)
    → sum_to n (λ i. if test i then x else 0) ≡ x
sum-single zero k x test h t only = absurd (omega arith)
sum-single (suc n) k x test h t only =
    by_cases (eqb n k)
    (λ e. let at : n ≡ k = eqb-true n k e in
    let here : test n ≡ true = ap test at ∙ t in
    let none : sum_to n (λ i. if test i then x else 0) ≡ 0 =
    sum_same n (λ i. if test i then x else 0) (λ i. 0) (λ i l. by_cases (test i) (λ q. absurd (lower i l q at)) (λ q. rw q)) ∙ sum-zero n in
    rw here (omega (arith, none)))
    (λ e. let away : n ≡ k → ⊥ = eqb-false n k e in
    let rest : sum_to n (λ i. if test i then x else 0) ≡ x = sum-single n k x test (omega arith) t (λ i l. only i (omega arith)) in
    by_cases (test n) (λ q. absurd (away (only n (omega arith) q))) (λ q. rw q (omega (arith, rest))))
  where
    lower : (i : ℕ) → i < n → test i ≡ true → n ≡ k → ⊥
    lower i l q at = omega (arith, only i (omega arith) q)

pub places-permuted : (n : ℕ) (π : ℕ → ℕ) → Permutes n π → (test : ℕ → Bool) → places (λ i. test (π i)) n ≡ places test n
places-permuted n π p test =
    sum_same n (λ i. one (test (π i))) (λ i. sum_to n (λ j. if eqb j (π i) then one (test j) else 0)) (λ i h. sym (column i h))
    ∙ sum_swap n n (λ i j. if eqb j (π i) then one (test j) else 0)
    ∙ sum_same n (λ j. sum_to n (λ i. if eqb j (π i) then one (test j) else 0)) (λ j. one (test j)) row
  where
    column : (i : ℕ) → i < n → sum_to n (λ j. if eqb j (π i) then one (test j) else 0) ≡ one (test (π i))
    column i h =
        sum_same n (λ j. if eqb j (π i) then one (test j) else 0) (λ j. if eqb j (π i) then one (test (π i)) else 0)
        (λ j l. by_cases (eqb j (π i)) (λ t. rw (t, eqb-true j (π i) t)) (λ f. rw f))
        ∙ sum-single n (π i) (one (test (π i))) (λ j. eqb j (π i)) (p.below i h) (eq-eqb (π i) (π i) refl) (λ j l t. eqb-true j (π i) t)

    row : (j : ℕ) → j < n → sum_to n (λ i. if eqb j (π i) then one (test j) else 0) ≡ one (test j)
    row j h =
        let (k, low, e) = p.onto j h in
        sum-single n k (one (test j)) (λ i. eqb j (π i)) low (eq-eqb j (π k) (sym e))
        (λ i l t. p.apart i k l low (sym (eqb-true j (π i) t) ∙ sym e))

pub kept-places : (test : ℕ → Bool) (i : ℕ) (l : List ℕ) → places test i + length (kept_at test i l) ≡ places test (i + length l)
kept-places test i [] = omega (arith, ap (places test) (add-zero i))
kept-places test i (x ∷ xs) =
    let next : i + length (x ∷ xs) ≡ i + 1 + length xs = omega arith in
    let here : places test (i + 1) ≡ one (test i) + places test i = rw (add-one i) in
    let rest = kept-places test (i + 1) xs in
    rw next (by_cases (test i) (λ t. rw t (omega (arith, rest, rw t at here))) (λ f. rw f (omega (arith, rest, rw f at here))))

-- a test that repeats after p places
module _ (p : ℕ) (test : ℕ → Bool) (repeats : (k : ℕ) → test (k + p) ≡ test k) where
  places_shift : (n : ℕ) → places test (n + p) ≡ places test n + places test p
  places_shift zero = ap (places test) (zero-add p) ∙ sym (zero-add (places test p))
  places_shift (suc n) = ap (places test) (suc-add n p) ∙ omega (arith, ap one (repeats n), places_shift n)

  pub places_periods : (q r : ℕ) → places test (r + q * p) ≡ places test r + q * places test p
  places_periods zero r = rw (zero-mul p, add-zero r, zero-mul (places test p)) (sym (add-zero (places test r)))
  places_periods (suc q) r =
      let next : r + suc q * p ≡ r + q * p + p = omega (arith, suc-mul q p) in
      rw next (places_shift (r + q * p) ∙ omega (arith, places_periods q r, suc-mul q (places test p)))
