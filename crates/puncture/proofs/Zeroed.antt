-- The pattern: that for S_sur from 200 to 300 it has S_sur ones among its 300 bits.
use mathlib.Core.Path.{◌≡◌, refl, sym, ◌∙◌}
use mathlib.Core.Bool.{true, not}
use mathlib.Core.List.{List, [], ◌∷◌}
use Prim.Native.Nat.{ℕ, zero, suc, ◌+◌, ◌-◌, ◌≤◌, ◌<◌}
use native.Mathlib.Omega.{arith}
use borrow.Author.Tests.{eqb-false, not-true}
use lib.Dec.{eqb}
use lib.ListN.{length, get_or, take, set, replicate, length-set, length-replicate, get_or-replicate, get_or-eq_default}
use Rattle.std.specs.Prelude.{sum}
use Rattle.std.proofs.lemmas.List.Folds.{sum_by-replicate}
use Rattle.std.proofs.lemmas.List.Sums.{sum_by-set}
use lib.Seq.{get_or-set_other, get_or-take, length-take-le}
use Rattle.bits.proofs.Table.{every, every-at, left-true, right_true}
use Rattle.puncture.specs.Puncture.{period, most_punctured, zeroed, pattern}
use Rattle.puncture.specs.Table42.{positions}
use Rattle.puncture.proofs.Positions.{absent, distinct, positions-length, position-low, positions-distinct}

pub zeroed-length : (out positions : List ℕ) → length (zeroed out positions) ≡ length out
zeroed-length out [] = refl
zeroed-length out (p ∷ ps) = zeroed-length (set out p 0) ps ∙ length-set out p 0

pub pattern-length : (S : ℕ) → length (pattern S) ≡ period
unfolding pattern
pattern-length S = zeroed-length (replicate period 1) (take (period - S) positions) ∙ length-replicate {A = ℕ} period 1

-- each of its elements is 0 or 1
ones_low : (n k : ℕ) → get_or (replicate n 1) k 0 ≤ 1
ones_low zero k = omega arith
ones_low (suc n) zero = omega arith
ones_low (suc n) (suc k) = ones_low n k

set-low : (l : List ℕ) (p : ℕ) → ((k : ℕ) → get_or l k 0 ≤ 1) → (k : ℕ) → get_or (set l p 0) k 0 ≤ 1
set-low [] p low k = low k
set-low (x ∷ l) zero low zero = omega arith
set-low (x ∷ l) zero low (suc k) = low (suc k)
set-low (x ∷ l) (suc p) low zero = low zero
set-low (x ∷ l) (suc p) low (suc k) = set-low l p (λ j. low (suc j)) k

zeroed-low : (out ps : List ℕ) → ((k : ℕ) → get_or out k 0 ≤ 1) → (k : ℕ) → get_or (zeroed out ps) k 0 ≤ 1
zeroed-low out [] low k = low k
zeroed-low out (p ∷ ps) low k = zeroed-low (set out p 0) ps (set-low out p low) k

pub pattern-low : (S k : ℕ) → get_or (pattern S) k 0 ≤ 1
unfolding pattern
pattern-low S k = zeroed-low (replicate period 1) (take (period - S) positions) (ones_low period) k

-- the sum of a list of bits is the number of its ones: a zero in place of a one takes one from it
sum-zero-at : (l : List ℕ) (p : ℕ) → get_or l p 0 ≡ 1 → sum (set l p 0) + 1 ≡ sum l
sum-zero-at l p e =
    let past : length l ≤ p → get_or l p 0 ≡ 0 = get_or-eq_default l 0 in
    let inside : p < length l = grind arith in
    omega (arith, sum_by-set (λ (x : ℕ). x) l p 0 0 inside, e)

-- each of several distinct positions that hold a one takes one from the sum
zeroed-sum : (out ps : List ℕ) → distinct ps ≡ true → ((k : ℕ) → k < length ps → get_or out (get_or ps k 0) 0 ≡ 1)
    → sum (zeroed out ps) + length ps ≡ sum out
zeroed-sum out [] d ones = omega arith
zeroed-sum out (p ∷ ps) d ones =
    let away = every-at (λ i q. not (eqb p q)) ps 0 (left-true (absent p ps) (distinct ps) d) in
    let rest = zeroed-sum (set out p 0) ps (right_true (absent p ps) (distinct ps) d)
    (λ k h. get_or-set_other out p (get_or ps k 0) 0 0 (λ e. eqb-false p (get_or ps k 0) (not-true _ (away k h)) (sym e)) ∙ ones (suc k) (omega arith)) in
    omega (arith, rest, sum-zero-at out p (ones 0 (omega arith)))

absent-take : (x n i : ℕ) (l : List ℕ) → every (λ i y. not (eqb x y)) i l ≡ true → every (λ i y. not (eqb x y)) i (take n l) ≡ true
absent-take x zero i l e = refl
absent-take x (suc n) i [] e = refl
absent-take x (suc n) i (y ∷ l) e =
    let test = not (eqb x y) in
    let rest = every (λ i y. not (eqb x y)) (suc i) l in
    rw (left-true test rest e) (absent-take x n (suc i) l (right_true test rest e))

distinct-take : (n : ℕ) (l : List ℕ) → distinct l ≡ true → distinct (take n l) ≡ true
distinct-take zero l e = refl
distinct-take (suc n) [] e = refl
distinct-take (suc n) (x ∷ l) e =
    rw (absent-take x n 0 l (left-true (absent x l) (distinct l) e)) (distinct-take n l (right_true (absent x l) (distinct l) e))

pub pattern-ones : (S : ℕ) → period - most_punctured ≤ S → S ≤ period → sum (pattern S) ≡ S
unfolding pattern
pattern-ones S low high =
    let ps = take (period - S) positions in
    let many : length ps ≡ period - S = length-take-le (period - S) positions (omega (arith, positions-length)) in
    let counted = zeroed-sum (replicate period 1) ps (distinct-take (period - S) positions positions-distinct)
    (λ k h. let inside : k < period - S = omega (arith, many) in
    rw (get_or-take (period - S) positions k 0 inside) (get_or-replicate period (get_or positions k 0) 1 0 (position-low k (omega arith)))) in
    omega (arith, counted, many, sum_by-replicate (λ (x : ℕ). x) period 1)
