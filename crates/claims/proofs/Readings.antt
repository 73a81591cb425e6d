-- The trellis rows by computing, the pattern rows by one test over its 300 places.
use mathlib.Core.Path.{◌≡◌, refl, sym, subst, ◌∙◌}
use mathlib.Core.Bool.{Bool, true, false, ◌||◌, beq}
use mathlib.Core.Logic.{◌⊎◌, inl, inr}
use Prim.Native.Nat.{ℕ, ◌<◌}
use borrow.Author.Tests.{eqb-true, eq-eqb}
use lib.Dec.{eqb}
use lib.ListN.{get_or}
use Rattle.bits.proofs.Cases.{by_cases}
use Rattle.bits.proofs.Table.{every, every-at}
use Rattle.puncture.specs.Puncture.{period, pattern}
use Rattle.puncture.specs.Table42.{positions}
use Rattle.puncture.proofs.Zeroed.{pattern-length}
use Rattle.claims.specs.Readings.{Readings}

-- the zeros of a pattern are the places that pass a test
zeros : (S : ℕ) (test : ℕ → Bool) → every (λ j x. beq (eqb x 0) (test j)) 0 (pattern S) ≡ true → (j : ℕ) → j < period
    → eqb (get_or (pattern S) j 1) 0 ≡ test j
zeros S test e j h =
    same _ _ (every-at (λ j x. beq (eqb x 0) (test j)) (pattern S) 1 e j (subst (λ (n : ℕ). j < n) (sym (pattern-length S)) h))
  where
    same : (a b : Bool) → beq a b ≡ true → a ≡ b
    same true true e = refl
    same true false e = sym e
    same false true e = e
    same false false e = refl

tested_299 : every (λ j x. beq (eqb x 0) (eqb j 76)) 0 (pattern 299) ≡ true
unfolding pattern positions
tested_299 = refl

tested_298 : every (λ j x. beq (eqb x 0) (eqb j 76 || eqb j 1)) 0 (pattern 298) ≡ true
unfolding pattern positions
tested_298 = refl

either : (j : ℕ) → (eqb j 76 || eqb j 1) ≡ true → (j ≡ 76) ⊎ (j ≡ 1)
either j e = by_cases (eqb j 76) (λ t. inl (eqb-true j 76 t)) (λ f. inr (eqb-true j 1 (rw f at e)))

either_back : (j : ℕ) → (j ≡ 76) ⊎ (j ≡ 1) → (eqb j 76 || eqb j 1) ≡ true
either_back j (inl e) = rw (eq-eqb j 76 e)
either_back j (inr e) = rw e

pub readings : Readings
readings =
    record {
      state_00_bit_1 = refl;
      state_01_bit_0 = refl;
      state_11_bit_0 = refl;
      state_10_bit_0 = refl;
      from_00_bits_111 = (refl, refl);
      closing_from_01 = (refl, refl);
      closing_from_11 = (refl, refl);
      closing_from_10 = (refl, refl);
      pattern_299 = λ j h.
          (let e = zeros 299 (λ j. eqb j 76) tested_299 j h in
          ((λ z. eqb-true j 76 (sym e ∙ eq-eqb _ 0 z)), (λ z. eqb-true _ 0 (e ∙ eq-eqb j 76 z))));
      pattern_298 = λ j h.
          (let e = zeros 298 (λ j. eqb j 76 || eqb j 1) tested_298 j h in
          ((λ z. either j (sym e ∙ eq-eqb _ 0 z)), (λ z. eqb-true _ 0 (e ∙ either_back j z))));
    }
