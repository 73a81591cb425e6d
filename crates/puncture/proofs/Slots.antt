-- A position's slot tells what it leaves modulo 300, and what it leaves tells its slot: so marks that are stored by the slots of 0 to 299 are found
-- by the slot of any position below 2^16.
use mathlib.Core.Path.{◌≡◌, ap, ◌∙◌}
use mathlib.Core.List.{List}
use Prim.Native.Nat.{ℕ, ◌+◌, ◌*◌, ◌/◌, ◌%◌, ◌^◌, ◌≤◌, ◌<◌}
use native.Mathlib.Omega.{arith}
use borrow.Author.Tests.{eqb-true, eqb-false}
use lib.Dec.{eqb}
use lib.ListN.{length, get_or, set, length-set}
use lib.Seq.{get_or-set_same, get_or-set_other}
use Rattle.bits.proofs.Cases.{by_cases}
use Rattle.puncture.specs.Puncture.{period, pattern}
use Rattle.puncture.specs.Slots.{slot, Spread}

-- a slot in 300ths, rounded up, is what its positions leave: below 2^16 the rounding of 2^32 / 300 adds less than a slot
slot-rest : (p : ℕ) → p < 2 ^ 16 → (300 * slot p + 511) / 512 ≡ p % period
slot-rest p h = omega (arith, h)

same-slot : (p : ℕ) → p < 2 ^ 16 → slot p ≡ slot (p % period)
same-slot p h = omega (arith, h)

pub slot-low : (p : ℕ) → slot p < 512
slot-low p = omega arith

-- the marks of the first n positions stand in their slots
pub record Filled (S : ℕ) (slots : List ℕ) (n : ℕ) : Type 0 where
  pub long : length slots ≡ 512
  pub mark : (p : ℕ) → p < n → get_or slots (slot p) 0 ≡ get_or (pattern S) p 0

pub filled-start : (S : ℕ) (slots : List ℕ) → length slots ≡ 512 → Filled S slots 0
filled-start S slots e = record { long = e; mark = λ p h. omega (arith, h) }

-- no position of a period takes another's slot
pub filled-on : (S : ℕ) (slots : List ℕ) (n : ℕ) → n < period → Filled S slots n → Filled S (set slots (slot n) (get_or (pattern S) n 0)) (n + 1)
filled-on S slots n low f = record {
  long = length-set slots (slot n) (get_or (pattern S) n 0) ∙ f.long;
  mark = λ p h. by_cases (eqb p n)
      (λ t. let e : p ≡ n = eqb-true p n t in rw e (get_or-set_same slots (slot n) (get_or (pattern S) n 0) 0 (omega (arith, f.long))))
      (λ a. let away = eqb-false p n a in
      get_or-set_other slots (slot n) (slot p) (get_or (pattern S) n 0) 0 (λ e. omega (arith, slot-rest p (omega (arith, h, low)), slot-rest n (omega (arith, low)), e, away, h, low)) ∙ f.mark p (omega (arith, away, h)));
}

pub filled-spread : (S : ℕ) (slots : List ℕ) (n : ℕ) → period ≤ n → Filled S slots n → Spread S slots
filled-spread S slots n all f = record {
  long = f.long;
  mark = λ p h. ap (λ (k : ℕ). get_or slots k 0) (same-slot p h) ∙ f.mark (p % period) (omega (arith, all));
}
