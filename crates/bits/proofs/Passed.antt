-- A call whose answer is 0 has passed all of its checks, each of which has a number other than 0.
use mathlib.Core.Path.{◌≡◌, refl}
use mathlib.Core.Bool.{Bool, true}
use mathlib.Core.List.{List, [], ◌∷◌, ◌++◌}
use Prim.Native.Nat.{ℕ, suc, ◌<◌}
use native.Mathlib.Omega.{arith}
use borrow.Author.Tests.{ltb-true, eq-eqb, ne_eqb, eqb-true}
use lib.Dec.{eqb, ltb}
use lib.ListN.{length, get_or}
use Rattle.bits.specs.Checks.{Check, first_failed, passed}
use Rattle.std.specs.Prelude.{if◌then◌else◌}
use Rattle.bits.proofs.Cases.{by_cases}
use Rattle.bits.proofs.Table.{every, every-at, left-true, right_true}

abbrev pub numbered : List Check → Bool
numbered = every (λ i c. ltb 0 c.number) 0

all_hold : (cs : List Check) (i : ℕ) → every (λ i c. ltb 0 c.number) i cs ≡ true → first_failed cs ≡ passed
    → every (λ i c. c.holds) i cs ≡ true
all_hold [] i n e = refl
all_hold (c ∷ cs) i n e =
    by_cases c.holds
    (λ t. rw t (all_hold cs (suc i) (right_true (ltb 0 c.number) (every (λ i c. ltb 0 c.number) (suc i) cs) n) (rw t at e)))
    (λ f. absurd (clash (rw f at e)))
  where
    clash : c.number ≡ passed → ⊥
    clash q = omega (arith, ltb-true 0 c.number (left-true (ltb 0 c.number) (every (λ i c. ltb 0 c.number) (suc i) cs) n))

pub passes : (cs : List Check) (d : Check) → numbered cs ≡ true → first_failed cs ≡ passed → (k : ℕ) → k < length cs
    → (get_or cs k d).holds ≡ true
passes cs d n e = every-at (λ i c. c.holds) cs d (all_hold cs 0 n e)

-- two lists of checks, one behind the other: the first decides where one of its checks fails, and else the second
pub fails_first : (cs ds : List Check) → (first_failed cs ≡ passed → ⊥) → first_failed (cs ++ ds) ≡ first_failed cs
fails_first [] ds n = absurd (n refl)
fails_first (c ∷ cs) ds n = by_cases c.holds (λ t. rw t (fails_first cs ds (rw t at n))) (λ f. rw f)

pub fails_later : (cs ds : List Check) → numbered cs ≡ true → first_failed cs ≡ passed → first_failed (cs ++ ds) ≡ first_failed ds
fails_later cs ds n e = all_past cs 0 (all_hold cs 0 n e)
  where
    all_past : (cs : List Check) (i : ℕ) → every (λ i c. c.holds) i cs ≡ true → first_failed (cs ++ ds) ≡ first_failed ds
    all_past [] i h = refl
    all_past (c ∷ cs) i h =
        rw (left-true c.holds (every (λ i c. c.holds) (suc i) cs) h) (all_past cs (suc i) (right_true c.holds (every (λ i c. c.holds) (suc i) cs) h))

-- what a call leaves: x if it has passed, y if it is refused
pub when_passed : {A : Type 0} (number : ℕ) (x y : A) → number ≡ passed → x ≡ (if eqb number passed then x else y)
when_passed number x y e = rw (eq-eqb number passed e)

pub when_refused : {A : Type 0} (number : ℕ) (x y : A) → (number ≡ passed → ⊥) → y ≡ (if eqb number passed then x else y)
when_refused number x y e = rw (ne_eqb number passed e)

-- checks behind others, whose number is n, are asked only if those hold
pub passed-before : (n later : ℕ) → (if eqb n passed then later else n) ≡ passed → n ≡ passed
passed-before n later e = by_cases (eqb n passed) (λ t. eqb-true n passed t) (λ f. rw f at e)
