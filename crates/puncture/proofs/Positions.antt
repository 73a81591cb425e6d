-- The rules of table 4-2, each from one test over its 100 lines.
use mathlib.Core.Path.{◌≡◌, refl, sym, ap, ◌∙◌}
use mathlib.Core.Bool.{Bool, true, not, ◌&&◌}
use mathlib.Core.List.{List, [], ◌∷◌}
use Prim.Native.Nat.{ℕ, suc, ◌+◌, ◌-◌, ◌*◌, ◌/◌, ◌≤◌, ◌<◌, min}
use native.Mathlib.Omega.{arith}
use borrow.Author.Tests.{leb-true, leb-false, ltb-true, eqb-true}
use lib.Dec.{eqb, leb, ltb}
use lib.ListN.{length, get_or, take}
use lib.Seq.{length-take-le, get_or-take, take_all}
use Rattle.bits.proofs.Cases.{by_cases}
use Rattle.bits.proofs.Table.{every, every-at}
use Rattle.puncture.specs.Puncture.{period, most_punctured}
use Rattle.puncture.specs.Table42.{positions, rates}

low : every (λ i p. ltb p period) 0 positions ≡ true
unfolding positions
low = refl

pub positions-length : length positions ≡ most_punctured
unfolding positions
positions-length = refl

pub position-low : (k : ℕ) → k < most_punctured → get_or positions k 0 < period
position-low k h = ltb-true _ _ (every-at (λ i p. ltb p period) positions 0 low k (omega (arith, positions-length)))

-- the first n of them
pub front_length : (n : ℕ) → n ≤ most_punctured → length (take n positions) ≡ n
front_length n h = length-take-le n positions (omega (arith, positions-length))

pub front_low : (n : ℕ) → n ≤ most_punctured → (k : ℕ) → k < length (take n positions) → get_or (take n positions) k 0 < period
front_low n h k inside =
    let k-low : k < n = omega (arith, front_length n h) in
    rw (get_or-take n positions k 0 k-low) (position-low k (omega arith))

pub front-most : (n : ℕ) → take (min n most_punctured) positions ≡ take n positions
front-most n =
    by_cases (leb n most_punctured)
    (λ t. let e : min n most_punctured ≡ n = omega (arith, leb-true n most_punctured t) in ap (λ (k : ℕ). take k positions) e)
    (λ f. let e : min n most_punctured ≡ most_punctured = omega (arith, leb-false n most_punctured f) in
    ap (λ (k : ℕ). take k positions) e
    ∙ take_all most_punctured positions (omega (arith, positions-length))
    ∙ sym (take_all n positions (omega (arith, positions-length, leb-false n most_punctured f))))

-- no entry of a list is one of those behind it
abbrev pub absent : ℕ → List ℕ → Bool
absent x = every (λ i y. not (eqb x y)) 0

abbrev pub distinct : List ℕ → Bool
distinct [] = true
distinct (x ∷ xs) = absent x xs && distinct xs

pub positions-distinct : distinct positions ≡ true
unfolding positions
positions-distinct = refl

-- the rate in ten-thousandths, a half rounded up: of the period's 300 bits 200 are information, whatever S survive
abbrev information : ℕ
information = 200

abbrev pub rate_of : ℕ → ℕ
rate_of S = (2 * (information * 10000) + S) / (2 * S)

rates_right : every (λ i r. eqb r (rate_of (period - suc i))) 0 rates ≡ true
unfolding rates
rates_right = refl

rates-length : length rates ≡ most_punctured
unfolding rates
rates-length = refl

-- index k + 1 of the table, for which S is 300 - (k + 1)
pub rate_right : (k : ℕ) → k < most_punctured → get_or rates k 0 ≡ rate_of (period - suc k)
rate_right k h =
    eqb-true _ _ (every-at (λ i r. eqb r (rate_of (period - suc i))) rates 0 rates_right k (omega (arith, rates-length)))
