-- The decimal text of any number has digits alone, its value is the number, and it leads with a zero only if it has one digit.
use mathlib.Core.Path.{◌≡◌, ap, ◌∙◌}
use mathlib.Core.Bool.{true}
use mathlib.Core.List.{List, [], ◌∷◌, ◌++◌, map}
use Prim.Native.Nat.{ℕ, zero, suc, ◌-◌, ◌/◌, ◌%◌, ◌≤◌, ◌<◌}
use native.Mathlib.Omega.{arith}
use borrow.Author.Tests.{le-leb, ltb-true, ltb-false}
use lib.Dec.{ltb}
use lib.ListN.{length, get_or, get_or-append}
use Rattle.std.proofs.lemmas.List.{map-append}
use Rattle.bits.proofs.Cases.{by_cases}
use Rattle.bits.proofs.Digits.{value-last}
use Rattle.bits.proofs.Table.{left-true, right_true}
use Rattle.ascii.specs.Text.{zero_digit, nine_digit, digit, decimal}
use Rattle.ascii.proofs.Decimal.{decimal-one, decimal-more, decimal-some}
use Rattle.fields.specs.Fields.{is_digit, all_digits, value}

digits_last : (xs : List ℕ) (d : ℕ) → all_digits xs ≡ true → is_digit d ≡ true → all_digits (xs ++ d ∷ []) ≡ true
unfolding all_digits
digits_last [] d t e = rw e
digits_last (x ∷ xs) d t e =
    rw (left-true (is_digit x) (all_digits xs) t) (digits_last xs d (right_true (is_digit x) (all_digits xs) t) e)

digit-is : (d : ℕ) → d < 10 → is_digit (digit d) ≡ true
digit-is d h = rw (le-leb zero_digit (digit d) (omega arith), le-leb (digit d) nine_digit (omega arith))

record Good (n : ℕ) : Type 0 where
  digits : all_digits (decimal n) ≡ true
  is : value (decimal n) ≡ n
  leads : 0 < n → zero_digit < get_or (decimal n) 0 0

good-one : (n : ℕ) → n < 10 → Good n
unfolding all_digits
good-one n h =
    record {
      digits = rw (decimal-one n h, digit-is n h);
      is = rw (decimal-one n h) (omega arith);
      leads = (λ some. rw (decimal-one n h) (omega arith));
    }

good_more : (n : ℕ) → 10 ≤ n → Good (n / 10) → Good n
good_more n h g =
    let front = decimal (n / 10) in
    let last = digit (n % 10) in
    record {
      digits = rw (decimal-more n h) (digits_last front last g.digits (digit-is (n % 10) (omega arith)));
      is = rw (decimal-more n h, map-append (λ d. d - zero_digit) front (last ∷ [])) (value-last 10 0 (map (λ d. d - zero_digit) front) (last - zero_digit) ∙ omega (arith, g.is));
      leads = (λ some. rw (decimal-more n h, get_or-append front (last ∷ []) 0 0 (decimal-some (n / 10))) (g.leads (omega arith)));
    }

good : (k n : ℕ) → n ≤ k → Good n
good zero n h = good-one n (omega arith)
good (suc k) n h =
    by_cases (ltb n 10)
    (λ t. good-one n (ltb-true n 10 t))
    (λ f. good_more n (ltb-false n 10 f) (good k (n / 10) (omega (arith, ltb-false n 10 f))))

pub decimal-digits : (n : ℕ) → all_digits (decimal n) ≡ true
decimal-digits n = (good n n (omega arith)).digits

pub decimal-value : (n : ℕ) → value (decimal n) ≡ n
decimal-value n = (good n n (omega arith)).is

pub decimal-leads : (n : ℕ) → get_or (decimal n) 0 0 ≡ zero_digit → length (decimal n) ≡ 1
decimal-leads zero e = ap length (decimal-one 0 (omega arith))
decimal-leads (suc n) e = absurd (omega (arith, (good (suc n) (suc n) (omega arith)).leads (omega arith)))
