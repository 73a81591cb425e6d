-- Of a state's bits no more counts than what they are modulo 2: a state of any two numbers steps and terminates as that of their lowest bits.
use mathlib.Core.Path.{◌≡◌}
use Prim.Native.Nat.{ℕ, ◌%◌}
use native.Mathlib.Omega.{arith}
use Rattle.bits.specs.Sum.{◌⊕◌}
use Rattle.trellis.specs.Trellis.{parity, next, termination_of}

low-left : (a b : ℕ) → a % 2 ⊕ b ≡ a ⊕ b
low-left a b = omega arith

low-right : (a b : ℕ) → a ⊕ b % 2 ≡ a ⊕ b
low-right a b = omega arith

pub parity-low : (x0 x1 u : ℕ) → parity (x0 % 2, x1 % 2) u ≡ parity (x0, x1) u
parity-low x0 x1 u = low-right u x1

pub next-low : (x0 x1 u : ℕ) → (next (x0 % 2, x1 % 2) u).1 ≡ (next (x0, x1) u).1
next-low x0 x1 u = omega arith

pub termination-low : (x0 x1 : ℕ) → termination_of (x0 % 2, x1 % 2) ≡ termination_of (x0, x1)
termination-low x0 x1 = simp (low-left, low-right)
