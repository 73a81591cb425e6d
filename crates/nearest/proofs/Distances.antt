-- What the distances of finite coordinates are: infinite, or numbers without a sign, and never NaN, so that any two are in order.
use mathlib.Core.Bool.{Bool, true, false, not, ◌&&◌, beq, cond}
use Prim.Native.Nat.{ℕ, zero, suc, ◌+◌, ◌-◌, ◌*◌, ◌/◌, ◌^◌}
use lib.IntN.{ℤ, pos}
use lib.Count.{count_trailing_zeros}
use lib.Dec.{ltb}
use lib.Ieee.{Float, inf, fin, Format, binary64, up, down, round, units, odd, add, sub, sum, mul, minus, low, emax, prec, is_nan}
use lib.Ieee.Fits.{round_is}
use Rattle.std.specs.Float.{NotNan}
use Rattle.constellation.specs.declared.Point.{Point}
use Rattle.nearest.specs.Nearest.{distance}

pub data Finite : Float → Type 0 where
  number : (s : Bool) (m : ℕ) (e : ℤ) → Finite (fin s m e)

-- infinite, or a number
data Ordered : Float → Type 0 where
  infinite : (s : Bool) → Ordered (inf s)
  number : (s : Bool) (m : ℕ) (e : ℤ) → Ordered (fin s m e)

-- of these those without a sign
data Unsigned : Float → Type 0 where
  infinite : Unsigned (inf false)
  number : (m : ℕ) (e : ℤ) → Unsigned (fin false m e)

cond_both : (P : Float → Type 0) (b : Bool) {x y : Float} → P x → P y → P (cond b x y)
cond_both P true p q = p
cond_both P false p q = q

-- what is rounded
odd-ordered : (d : ℕ) (s : Bool) (q k l : ℕ) → Ordered (odd d s q k l)
unfolding odd
odd-ordered d s zero k l = Ordered.number s 0 (pos 0)
odd-ordered d s (suc q) k l = Ordered.number s (suc q / 2 ^ count_trailing_zeros d (suc q)) (minus (k + count_trailing_zeros d (suc q)) l)

odd-unsigned : (d q k l : ℕ) → Unsigned (odd d false q k l)
unfolding odd
odd-unsigned d zero k l = Unsigned.number 0 (pos 0)
odd-unsigned d (suc q) k l = Unsigned.number (suc q / 2 ^ count_trailing_zeros d (suc q)) (minus (k + count_trailing_zeros d (suc q)) l)

module _ (f : Format) where
  units-ordered : (s : Bool) (q k : ℕ) → Ordered (units f s q k)
  unfolding units
  units-ordered s q k = cond_both Ordered (ltb (q * 2 ^ k) (2 ^ (low f + suc (emax f)))) (odd-ordered (suc (prec f)) s q k (low f)) (Ordered.infinite s)

  units-unsigned : (q k : ℕ) → Unsigned (units f false q k)
  unfolding units
  units-unsigned q k = cond_both Unsigned (ltb (q * 2 ^ k) (2 ^ (low f + suc (emax f)))) (odd-unsigned (suc (prec f)) q k (low f)) Unsigned.infinite

  round-ordered : (s : Bool) (a c : ℕ) → Ordered (round f s a c)
  round-ordered s a c = rw round_is (units-ordered s _ _)

  round-unsigned : (a c : ℕ) → Unsigned (round f false a c)
  round-unsigned a c = rw round_is (units-unsigned _ _)

  sum-ordered : (s : Bool) (a : ℕ) (t : Bool) (b c : ℕ) → Ordered (sum f s a t b c)
  unfolding sum
  sum-ordered s a t b c =
      cond_both Ordered (beq s t) (round-ordered s (a + b) c)
      (cond_both Ordered (ltb a b) (round-ordered t (b - a) c) (round-ordered (s && ltb b a) (a - b) c))

  sub-ordered : {x y : Float} → Finite x → Finite y → Ordered (sub f x y)
  unfolding sub
  sub-ordered (Finite.number s m e) (Finite.number t n d) = sum-ordered s (m * up e * down d) (not t) (n * up d * down e) (down e * down d)

  square-unsigned : {x : Float} → Ordered x → Unsigned (mul f x x)
  unfolding mul
  square-unsigned (Ordered.infinite true) = Unsigned.infinite
  square-unsigned (Ordered.infinite false) = Unsigned.infinite
  square-unsigned (Ordered.number true m e) = round-unsigned _ _
  square-unsigned (Ordered.number false m e) = round-unsigned _ _

  add-unsigned : {x y : Float} → Unsigned x → Unsigned y → Unsigned (add f x y)
  unfolding add sum
  add-unsigned Unsigned.infinite Unsigned.infinite = Unsigned.infinite
  add-unsigned Unsigned.infinite (Unsigned.number n d) = Unsigned.infinite
  add-unsigned (Unsigned.number m e) Unsigned.infinite = Unsigned.infinite
  add-unsigned (Unsigned.number m e) (Unsigned.number n d) = round-unsigned _ _

unsigned-number : {x : Float} → Unsigned x → NotNan x
unfolding is_nan
unsigned-number Unsigned.infinite = tt
unsigned-number (Unsigned.number m e) = tt

pub distance-number : {i q : Float} (p : Point) → Finite i → Finite q → Finite p.i → Finite p.q → NotNan (distance i q p)
unfolding distance
distance-number p fi fq pi pq =
    unsigned-number
    (add-unsigned binary64 (square-unsigned binary64 (sub-ordered binary64 fi pi)) (square-unsigned binary64 (sub-ordered binary64 fq pq)))
