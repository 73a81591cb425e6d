-- Four quarter turns are none, of any point: a number negated twice is itself, its sign bit too.
use mathlib.Core.Path.{◌≡◌, refl, sym, ap, ap₂, ◌∙◌}
use mathlib.Core.Bool.{true, false}
use mathlib.Core.List.{List, [], ◌∷◌}
use Prim.Native.Nat.{ℕ, zero, suc, ◌+◌, ◌*◌, ◌/◌, ◌%◌, ◌<◌}
use native.Mathlib.Omega.{arith}
use lib.Ieee.{Float, nan, inf, fin, neg}
use lib.ListN.{get_or}
use Rattle.constellation.specs.declared.Point.{Point}
use Rattle.constellation.specs.Points.{point, quarter_turned, turned}

pub neg-neg : (x : Float) → neg (neg x) ≡ x
unfolding neg
neg-neg nan = refl
neg-neg (inf true) = refl
neg-neg (inf false) = refl
neg-neg (fin true m e) = refl
neg-neg (fin false m e) = refl

pub four-turns : (p : Point) → turned 4 p ≡ p
unfolding turned
four-turns p = ap₂ point (neg-neg p.i) (neg-neg p.q)

four-before : (n : ℕ) (p : Point) → turned (n + 4) p ≡ turned n p
unfolding turned
four-before zero p = four-turns p
four-before (suc n) p = let step : suc n + 4 ≡ suc (n + 4) = omega arith in rw step (ap quarter_turned (four-before n p))

turned-fours : (n k : ℕ) (p : Point) → turned (n + 4 * k) p ≡ turned n p
turned-fours n zero p = let z : n + 4 * 0 ≡ n = omega arith in rw z
turned-fours n (suc k) p =
    let more : n + 4 * suc k ≡ n + 4 * k + 4 = omega arith in
    rw more (four-before (n + 4 * k) p ∙ turned-fours n k p)

-- only how many are over counts
pub turned-over : (n : ℕ) (p : Point) → turned (n % 4) p ≡ turned n p
turned-over n p =
    let parts : n ≡ n % 4 + 4 * (n / 4) = omega arith in
    sym (ap (λ n. turned n p) parts ∙ turned-fours (n % 4) (n / 4) p)

-- the row of the annex's table for R = 3
pub three-turns : (p : Point) → point p.q (neg p.i) ≡ turned 3 p
unfolding turned
three-turns p = ap (λ i. point i (neg p.i)) (sym (neg-neg p.q))

-- what becomes of each coordinate, by the turns
abbrev pub by_turns : Point → List Float
by_turns p = p.i ∷ neg p.q ∷ neg p.i ∷ p.q ∷ []

pub turned-by_place : (n : ℕ) (p : Point) → n < 4 → point (get_or (by_turns p) n nan) (get_or (by_turns p) ((n + 3) % 4) nan) ≡ turned n p
unfolding turned
turned-by_place zero p h = refl
turned-by_place (suc zero) p h = refl
turned-by_place (suc (suc zero)) p h = refl
turned-by_place (suc (suc (suc zero))) p h = three-turns p
turned-by_place (suc (suc (suc (suc n)))) p h = absurd (omega arith)
