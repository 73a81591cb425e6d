-- The table has each digit's value, and 16 for a byte that is none: one test of all entries.
use mathlib.Core.Path.{◌≡◌, refl, ◌∙◌}
use mathlib.Core.List.{List, [], ◌∷◌}
use Prim.Native.Nat.{ℕ, zero, suc, ◌≤◌, ◌<◌}
use native.Mathlib.Omega.{arith}
use borrow.Author.Tests.{eqb-true}
use lib.Dec.{eqb}
use lib.ListN.{get_or}
use Rattle.std.specs.Prelude.{Some, None, if◌then◌else◌}
use Rattle.bits.proofs.Cases.{by_cases}
use Rattle.bits.proofs.Table.{every-at}
use Rattle.samples.specs.Reader.{digit_of, is_digit}
use Rattle.samples.specs.Text.{digit_value}
use Rattle.samples.proofs.Words.{value_low}

abbrev valued : ℕ → ℕ
valued b = if is_digit b then digit_value b else 16

-- the entries of n bytes, from b on
unfoldable values_from : ℕ → ℕ → List ℕ
values_from zero b = []
values_from (suc n) b = valued b ∷ values_from n (suc b)

unfoldable pub values : List ℕ
unfolding values_from
values = values_from 256 0

module _ (b : ℕ) (inside : b < 256) where
  entry_is : get_or values b 0 ≡ valued b
  unfolding values
  entry_is = eqb-true _ _ (every-at (λ b v. eqb v (valued b)) values 0 refl b inside)

  pub digit_there : get_or values b 0 < 16 → Some (get_or values b 0) ≡ digit_of b
  digit_there low =
      by_cases
      (is_digit b)
      (λ t. let is : get_or values b 0 ≡ digit_value b = entry_is ∙ rw t refl in rw (is, t) refl)
      (λ f. let is : get_or values b 0 ≡ 16 = entry_is ∙ rw f refl in absurd (omega (arith, low, is)))

  pub digit_missing : 16 ≤ get_or values b 0 → None ≡ digit_of b
  digit_missing high =
      by_cases
      (is_digit b)
      (λ t. let is : get_or values b 0 ≡ digit_value b = entry_is ∙ rw t refl in absurd (omega (arith, high, is, value_low b t)))
      (λ f. rw f refl)
