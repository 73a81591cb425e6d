-- Linearity: a run over the sum of two lists is the sum of their runs.
use mathlib.Core.Path.{◌≡◌, refl, sym, ap, ◌∙◌}
use mathlib.Core.List.{List, [], ◌∷◌, ◌++◌}
use Prim.Native.Nat.{ℕ}
use native.Mathlib.Omega.{arith}
use lib.ListN.{length}
use Rattle.bits.specs.Sum.{◌⊕◌, ◌⊕*◌}
use Rattle.bits.proofs.Sums.{interchange, ⊕*-append}
use Rattle.trellis.specs.Trellis.{State, zero-state, ◌⊕ₛ◌, parity, next, run, parities, ends, terminating, termination, terminated, kept, outer}

pub parity-sum : (x y : State) (u v : ℕ) → parity (x ⊕ₛ y) (u ⊕ v) ≡ parity x u ⊕ parity y v
parity-sum x y u v = interchange u v x.1 y.1

next-bit-sum : (x y : State) (u v : ℕ) → (next (x ⊕ₛ y) (u ⊕ v)).1 ≡ (next x u).1 ⊕ (next y v).1
next-bit-sum x y u v =
    ap (λ (n : ℕ). n ⊕ (u ⊕ v)) (interchange x.0 y.0 x.1 y.1) ∙ interchange (x.0 ⊕ x.1) (y.0 ⊕ y.1) u v

pub next-sum : (x y : State) (u v : ℕ) → next (x ⊕ₛ y) (u ⊕ v) ≡ next x u ⊕ₛ next y v
next-sum x y u v = ap (λ (n : ℕ). (x.1 ⊕ y.1, n)) (next-bit-sum x y u v)

pub terminating-sum : (x y : State) → terminating (x ⊕ₛ y) ≡ terminating x ⊕ terminating y
terminating-sum x y = interchange x.0 y.0 x.1 y.1

pub run-sum : (x y : State) (a b : List ℕ) → run (x ⊕ₛ y) (a ⊕* b) ≡ run x a ⊕* run y b
run-sum x y [] b = refl
run-sum x y (u ∷ a) [] = refl
run-sum x y (u ∷ a) (v ∷ b) = rw (parity-sum x y u v, next-bit-sum x y u v, run-sum (next x u) (next y v) a b)

pub parities-sum : (x y : State) (a b : List ℕ) → parities (x ⊕ₛ y) (a ⊕* b) ≡ parities x a ⊕* parities y b
parities-sum x y [] b = refl
parities-sum x y (u ∷ a) [] = refl
parities-sum x y (u ∷ a) (v ∷ b) = rw (parity-sum x y u v, next-bit-sum x y u v, parities-sum (next x u) (next y v) a b)

pub ends-sum : (x y : State) (a b : List ℕ) → length a ≡ length b → ends (x ⊕ₛ y) (a ⊕* b) ≡ ends x a ⊕ₛ ends y b
ends-sum x y [] [] e = refl
ends-sum x y [] (v ∷ b) e = absurd (omega arith)
ends-sum x y (u ∷ a) [] e = absurd (omega arith)
ends-sum x y (u ∷ a) (v ∷ b) e =
    ap (λ (z : State). ends z (a ⊕* b)) (next-sum x y u v) ∙ ends-sum (next x u) (next y v) a b (omega arith)

pub termination-sum : (x y : State) → termination (x ⊕ₛ y) ≡ termination x ⊕* termination y
termination-sum x y =
    let t = terminating x in
    let s = terminating y in
    ap (λ (u : ℕ). u ∷ terminating (next (x ⊕ₛ y) u) ∷ []) (terminating-sum x y)
    ∙ ap (λ (z : State). t ⊕ s ∷ terminating z ∷ []) (next-sum x y t s)
    ∙ ap (λ (u : ℕ). t ⊕ s ∷ u ∷ []) (terminating-sum (next x t) (next y s))

module _ (a b : List ℕ) (e : length a ≡ length b) where
  -- a sum that starts at 00 ends in the sum of the ends
  pub zero-ends-sum : ends zero-state (a ⊕* b) ≡ ends zero-state a ⊕ₛ ends zero-state b
  zero-ends-sum = ends-sum zero-state zero-state a b e

  pub terminated-sum : terminated (a ⊕* b) ≡ terminated a ⊕* terminated b
  terminated-sum =
      ap (λ (x : State). (a ⊕* b) ++ termination x) zero-ends-sum
      ∙ ap (λ (l : List ℕ). (a ⊕* b) ++ l) (termination-sum (ends zero-state a) (ends zero-state b))
      ∙ sym (⊕*-append a b (termination (ends zero-state a)) (termination (ends zero-state b)) e)

kept-sum : (s t p q : List ℕ) → kept (s ⊕* t) (p ⊕* q) ≡ kept s p ⊕* kept t q
kept-sum [] t p q = refl
kept-sum (a ∷ []) [] p q = refl
kept-sum (a ∷ []) (b ∷ t) p q = refl
kept-sum (a ∷ c ∷ s) [] [] q = refl
kept-sum (a ∷ c ∷ s) [] (u ∷ []) q = refl
kept-sum (a ∷ c ∷ s) [] (u ∷ v ∷ p) q = refl
kept-sum (a ∷ c ∷ s) (b ∷ []) [] q = refl
kept-sum (a ∷ c ∷ s) (b ∷ []) (u ∷ []) [] = refl
kept-sum (a ∷ c ∷ s) (b ∷ []) (u ∷ []) (w ∷ q) = refl
kept-sum (a ∷ c ∷ s) (b ∷ []) (u ∷ v ∷ p) q = refl
kept-sum (a ∷ c ∷ s) (b ∷ d ∷ t) [] q = refl
kept-sum (a ∷ c ∷ s) (b ∷ d ∷ t) (u ∷ []) [] = refl
kept-sum (a ∷ c ∷ s) (b ∷ d ∷ t) (u ∷ []) (w ∷ q) = refl
kept-sum (a ∷ c ∷ s) (b ∷ d ∷ t) (u ∷ v ∷ p) [] = refl
kept-sum (a ∷ c ∷ s) (b ∷ d ∷ t) (u ∷ v ∷ p) (w ∷ []) = refl
kept-sum (a ∷ c ∷ s) (b ∷ d ∷ t) (u ∷ v ∷ p) (w ∷ z ∷ q) = ap (λ (l : List ℕ). a ⊕ b ∷ u ⊕ w ∷ c ⊕ d ∷ l) (kept-sum s t p q)

pub outer-sum : (a b : List ℕ) → length a ≡ length b → outer (a ⊕* b) ≡ outer a ⊕* outer b
outer-sum a b e =
    ap (λ (l : List ℕ). kept l (parities zero-state l)) (terminated-sum a b e)
    ∙ ap (λ (l : List ℕ). kept (terminated a ⊕* terminated b) l) (parities-sum zero-state zero-state (terminated a) (terminated b))
    ∙ kept-sum (terminated a) (terminated b) (parities zero-state (terminated a)) (parities zero-state (terminated b))
