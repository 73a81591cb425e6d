-- Where a number stands in the rest of a list, from one element to the next.
use mathlib.Core.Path.{◌≡◌}
use mathlib.Core.List.{List, [], ◌∷◌}
use Prim.Native.Nat.{ℕ, ◌+◌, ◌≤◌, ◌<◌}
use native.Mathlib.Omega.{arith}
use borrow.Author.Tests.{eqb-true, eq-eqb, ne_eqb}
use lib.Dec.{eqb}
use lib.ListN.{length, get_or, drop, drop_of_length-le}
use Rattle.bits.specs.Place.{place}
use Rattle.bits.proofs.Cases.{by_cases}
use Rattle.bits.proofs.Lists.{drop-next}

module _ (x : ℕ) (l : List ℕ) (i : ℕ) where
  pub place_here : i < length l → get_or l i 0 ≡ x → place x (drop i l) ≡ 0
  unfolding place
  place_here h e = rw (drop-next l i h, eq-eqb _ _ e)

  pub place_later : i < length l → (get_or l i 0 ≡ x → ⊥) → place x (drop i l) ≡ 1 + place x (drop (i + 1) l)
  unfolding place
  place_later h n = rw (drop-next l i h, ne_eqb _ _ n) (omega arith)

  pub place_end : length l ≤ i → place x (drop i l) ≡ 0
  unfolding place
  place_end h = rw (drop_of_length-le l)

pub place-most : (x : ℕ) (l : List ℕ) → place x l ≤ length l
unfolding place
place-most x [] = omega arith
place-most x (y ∷ ys) = by_cases (eqb y x) (λ t. rw t (omega arith)) (λ f. rw f (omega (arith, place-most x ys)))

-- where it stands at all
pub place_is : (x : ℕ) (l : List ℕ) → place x l < length l → get_or l (place x l) 0 ≡ x
unfolding place
place_is x [] h = absurd (omega arith)
place_is x (y ∷ ys) h = by_cases (eqb y x) (λ t. rw (t, eqb-true y x t)) (λ f. rw f (place_is x ys (omega (arith, rw f at h))))
