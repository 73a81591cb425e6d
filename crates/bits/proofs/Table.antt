-- A rule of a table, from one test that is computed over all of its entries.
use mathlib.Core.Path.{◌≡◌, refl, subst}
use mathlib.Core.Bool.{Bool, true, false, ◌&&◌, false≢true}
use mathlib.Core.List.{List, [], ◌∷◌}
use Prim.Native.Nat.{ℕ, zero, suc, ◌+◌, ◌<◌}
use native.Mathlib.Omega.{arith}
use borrow.Author.Tests.{eqb-true, eqb-false}
use lib.Dec.{eqb}
use lib.ListN.{length, get_or}
use Rattle.bits.proofs.Cases.{by_cases}

pub left-true : (a b : Bool) → a && b ≡ true → a ≡ true
left-true true b e = refl
left-true false b e = e

pub right_true : (a b : Bool) → a && b ≡ true → b ≡ true
right_true true b e = e
right_true false b e = absurd (false≢true e)

-- the test holds at each entry and its place, the first of which is i
abbrev pub every : {A : Type 0} → (ℕ → A → Bool) → ℕ → List A → Bool
every test i [] = true
every test i (x ∷ xs) = test i x && every test (suc i) xs

every_from : {A : Type 0} (test : ℕ → A → Bool) (l : List A) (d : A) (i k : ℕ) → every test i l ≡ true → k < length l
    → test (i + k) (get_or l k d) ≡ true
every_from test [] d i k e h = absurd (omega arith)
every_from test (x ∷ xs) d i zero e h =
    let z : i ≡ i + 0 = omega arith in
    subst (λ (n : ℕ). test n x ≡ true) z (left-true (test i x) (every test (suc i) xs) e)
every_from test (x ∷ xs) d i (suc k) e h =
    let z : suc i + k ≡ i + suc k = omega arith in
    subst (λ (n : ℕ). test n (get_or xs k d) ≡ true) z
    (every_from test xs d (suc i) k (right_true (test i x) (every test (suc i) xs) e) (omega arith))

pub every-at : {A : Type 0} (test : ℕ → A → Bool) (l : List A) (d : A) → every test 0 l ≡ true → (k : ℕ) → k < length l
    → test k (get_or l k d) ≡ true
every-at test l d e k h =
    let z : 0 + k ≡ k = omega arith in
    subst (λ (n : ℕ). test n (get_or l k d) ≡ true) z (every_from test l d 0 k e h)

-- the test holds at each number below n
abbrev pub below : (ℕ → Bool) → ℕ → Bool
below test zero = true
below test (suc n) = test n && below test n

pub below_at : (test : ℕ → Bool) (n : ℕ) → below test n ≡ true → (k : ℕ) → k < n → test k ≡ true
below_at test zero e k h = absurd (omega arith)
below_at test (suc n) e k h =
    by_cases (eqb k n)
    (λ t. rw (eqb-true k n t) (left-true (test n) (below test n) e))
    (λ f. below_at test n (right_true (test n) (below test n) e) k (omega (arith, eqb-false k n f)))
