-- The sequence of a register, cut at a place: from there on it is the sequence of the register as it then is.
use mathlib.Core.Path.{◌≡◌, refl, ap}
use mathlib.Core.List.{List, [], ◌∷◌, ◌++◌}
use Prim.Native.Nat.{ℕ, zero, suc, ◌+◌, ◌<◌}
use native.Mathlib.Omega.{arith}
use lib.ListN.{length, length-append}
use Rattle.bits.specs.Sequence.{feedback, shifted, sequence}

-- the register after n steps
abbrev pub after : List ℕ → ℕ → List ℕ → List ℕ
after g zero s = s
after g (suc n) s = after g n (shifted g s)

empty : (g : List ℕ) (a b : ℕ) → [] ≡ sequence g b (after g a [])
empty g zero zero = refl
empty g zero (suc b) = refl
empty g (suc a) b = empty g a b

pub sequence-append : (g : List ℕ) (a b : ℕ) (s : List ℕ) → sequence g (a + b) s ≡ sequence g a s ++ sequence g b (after g a s)
sequence-append g zero b s = let z : 0 + b ≡ b = omega arith in rw z
sequence-append g (suc a) b [] = let z : suc a + b ≡ suc (a + b) = omega arith in rw z (empty g a b)
sequence-append g (suc a) b (x ∷ s) = let z : suc a + b ≡ suc (a + b) = omega arith in rw z (ap (λ (l : List ℕ). x ∷ l) (sequence-append g a b (shifted g (x ∷ s))))

shifted-length : (g s : List ℕ) → length (shifted g s) ≡ length s
shifted-length g [] = refl
shifted-length g (x ∷ s) = omega (arith, length-append s (feedback g (x ∷ s) ∷ []))

-- a register that is not empty never ends
pub sequence-length : (g : List ℕ) (n : ℕ) (s : List ℕ) → 0 < length s → length (sequence g n s) ≡ n
sequence-length g zero s h = refl
sequence-length g (suc n) [] h = absurd (omega arith)
sequence-length g (suc n) (x ∷ s) h =
    ap suc (sequence-length g n (shifted g (x ∷ s)) (omega (arith, shifted-length g (x ∷ s))))
