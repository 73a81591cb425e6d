-- A number's decimal text is that of its digits but the last, and the last; it has at most as many digits as the power of ten above it.
-- Of any number: std's lemmas on its own decimal text ask for a bound.
use mathlib.Core.Path.{◌≡◌, refl, sym, ap, ◌∙◌}
use mathlib.Core.List.{List, [], ◌∷◌, ◌++◌}
use Prim.Native.Nat.{ℕ, zero, suc, ◌+◌, ◌*◌, ◌/◌, ◌%◌, ◌^◌, ◌≤◌, ◌<◌}
use native.Mathlib.Nat.{pow-succ'}
use native.Mathlib.Numerals.{add-one}
use native.Mathlib.Omega.{arith}
use borrow.Author.Tests.{lt-ltb, le-ltb, ltb-true, ltb-false}
use lib.Dec.{ltb}
use lib.ListN.{length, length-append}
use Rattle.std.specs.Prelude.{Option, None, Some}
use Rattle.std.specs.Option.{IfNone, IfSome, unwrap_or}
use Rattle.bits.proofs.Cases.{by_cases}
use Rattle.ascii.specs.Text.{digit, decimal, decimal_within}

-- the bound of the recursion does not matter
within : (j k n : ℕ) → n ≤ j → n ≤ k → decimal_within j n ≡ decimal_within k n
unfolding decimal_within
within zero zero n hj hk = refl
within zero (suc k) n hj hk = rw (lt-ltb n 10 (omega arith))
within (suc j) zero n hj hk = rw (lt-ltb n 10 (omega arith))
within (suc j) (suc k) n hj hk =
    by_cases (ltb n 10)
    (λ t. rw t)
    (λ f. let high = ltb-false n 10 f in rw (f, within j k (n / 10) (omega arith) (omega arith)))

pub decimal-one : (n : ℕ) → n < 10 → decimal n ≡ digit n ∷ []
unfolding decimal decimal_within
decimal-one zero h = refl
decimal-one (suc n) h = rw (lt-ltb (suc n) 10 h)

pub decimal-more : (n : ℕ) → 10 ≤ n → decimal n ≡ decimal (n / 10) ++ (digit (n % 10) ∷ [])
unfolding decimal decimal_within
decimal-more zero h = absurd (omega arith)
decimal-more (suc n) h = rw (le-ltb (suc n) 10 h, within n (suc n / 10) (suc n / 10) (omega arith) (omega arith))

pub length_more : (n : ℕ) → 10 ≤ n → length (decimal n) ≡ length (decimal (n / 10)) + 1
length_more n h = ap length (decimal-more n h) ∙ length-append (decimal (n / 10)) (digit (n % 10) ∷ [])

pub decimal-some : (n : ℕ) → 0 < length (decimal n)
decimal-some n =
    by_cases (ltb n 10)
    (λ t. rw (decimal-one n (ltb-true n 10 t)) (omega arith))
    (λ f. omega (arith, length_more n (ltb-false n 10 f)))

-- a digit behind a number
pub decimal_push : (n d : ℕ) → 0 < n → d < 10 → decimal (10 * n + d) ≡ decimal n ++ (digit d ∷ [])
decimal_push n d h low =
    let front : (10 * n + d) / 10 ≡ n = omega arith in
    let last : (10 * n + d) % 10 ≡ d = omega arith in
    decimal-more (10 * n + d) (omega arith) ∙ rw (front, last)

pub decimal-length : (k n : ℕ) → n < 10 ^ suc k → length (decimal n) ≤ suc k
decimal-length zero n h = rw (decimal-one n h) (omega arith)
decimal-length (suc k) n h =
    by_cases (ltb n 10)
    (λ t. rw (decimal-one n (ltb-true n 10 t)) (omega arith))
    (λ f.
    let front = decimal-length k (n / 10) (omega (arith, pow-succ' 10 (suc k))) in
    omega (arith, length_more n (ltb-false n 10 f)))

-- a number's digits, counted by its logarithm
length-power : (k n : ℕ) → 10 ^ k ≤ n → n < 10 * 10 ^ k → length (decimal n) ≡ k + 1
length-power zero n low high = rw (decimal-one n high) refl
length-power (suc k) n low high =
    let up = pow-succ' 10 k in
    omega (arith, length_more n (omega arith), length-power k (n / 10) (omega arith) (omega arith))

pub length-log : (n : ℕ) (log : Option ℕ) → IfNone log (n ≡ 0) → IfSome log (λ k. 10 ^ k ≤ n) → IfSome log (λ k. n < 10 * 10 ^ k)
    → unwrap_or log 0 + 1 ≡ length (decimal n)
length-log n None none low high = rw (none, decimal-one 0 (omega arith)) refl
length-log n (Some k) none low high = sym (length-power k n low high)

-- the last k digits of a number, and so all of them
abbrev pub last_digits : ℕ → ℕ → List ℕ
last_digits zero n = []
last_digits (suc k) n = last_digits k (n / 10) ++ (digit (n % 10) ∷ [])

pub last_digits-length : (k n : ℕ) → length (last_digits k n) ≡ k
last_digits-length zero n = refl
last_digits-length (suc k) n = omega (arith, length-append (last_digits k (n / 10)) (digit (n % 10) ∷ []), last_digits-length k (n / 10))

all_within : (k n : ℕ) → n ≤ k → last_digits (length (decimal n)) n ≡ decimal n
all_within zero n h =
    let e : n % 10 ≡ n = omega arith in
    rw (decimal-one n (omega arith), e) refl
all_within (suc k) n h =
    by_cases (ltb n 10)
    (λ t.
    let e : n % 10 ≡ n = omega (arith, ltb-true n 10 t) in
    rw (decimal-one n (ltb-true n 10 t), e) refl)
    (λ f.
    let high = ltb-false n 10 f in
    rw (decimal-more n high, length-append (decimal (n / 10)) (digit (n % 10) ∷ []), add-one, all_within k (n / 10) (omega arith)) refl)

pub last_digits-all : (n : ℕ) → last_digits (length (decimal n)) n ≡ decimal n
last_digits-all n = all_within n n (omega arith)
