-- Lists that are found to be the same are equal.
use mathlib.Core.Path.{◌≡◌, refl}
use mathlib.Core.Bool.{true, ◌&&◌, false≢true}
use mathlib.Core.List.{List, [], ◌∷◌, ◌++◌}
use Prim.Native.Nat.{ℕ}
use borrow.Author.Tests.{eqb-true, eq-eqb}
use lib.Dec.{eqb}
use lib.ListN.{length, take, drop}
use lib.Pointwise.{pointwise}
use Rattle.std.proofs.Common.{nat_eq}
use Rattle.bits.specs.Same.{same}
use Rattle.bits.proofs.Cases.{by_cases}
use Rattle.bits.proofs.Table.{left-true, right_true}

pub same_self : (l : List ℕ) → same l l ≡ true
same_self [] = refl
same_self (x ∷ l) = rw (eq-eqb x x refl, same_self l)

pub same-equal : (a b : List ℕ) → same a b ≡ true → a ≡ b
same-equal [] [] e = refl
same-equal [] (y ∷ b) e = absurd (false≢true e)
same-equal (x ∷ a) [] e = absurd (false≢true e)
same-equal (x ∷ a) (y ∷ b) e =
    rw (eqb-true x y (left-true (eqb x y) (same a b) e), same-equal a b (right_true (eqb x y) (same a b) e))

-- std's `==` of lists
pub same_found : (a b : List ℕ) → pointwise nat_eq a b ≡ same a b
same_found [] [] = refl
same_found [] (y ∷ b) = refl
same_found (x ∷ a) [] = refl
same_found (x ∷ a) (y ∷ b) = rw (same_found a b)

-- a list and two others, one behind the other: the same if the first is its front and the second the rest
pub same-append : (a b list : List ℕ) → same list (a ++ b) ≡ (same (take (length a) list) a && same (drop (length a) list) b)
same-append [] b list = refl
same-append (x ∷ a) b [] = refl
same-append (x ∷ a) b (y ∷ list) = by_cases (eqb y x) (λ t. rw t (same-append a b list)) (λ f. rw f refl)
