-- Long division is linear, keeps bits, and shortens by one coefficient a step.
use mathlib.Core.Path.{◌≡◌, refl, sym, ap, ap₂, ◌∙◌}
use mathlib.Core.Bool.{true}
use mathlib.Core.List.{List, [], ◌∷◌}
use Prim.Native.Nat.{ℕ, zero, suc, ◌+◌, ◌-◌, ◌*◌, ◌/◌, ◌%◌}
use native.Mathlib.Nat.{mod-add-mod, add-mod-mod, mod-add-div, add-mul-mod_self_left}
use native.Mathlib.Omega.{arith}
use borrow.Author.Tests.{le-leb}
use lib.ListN.{length}
use Rattle.bits.specs.Legal.{all_bits}
use Rattle.bits.specs.Sum.{◌⊕◌, ◌⊕*◌}
use Rattle.bits.proofs.Legal.{legal-tail}
use Rattle.bits.proofs.Sums.{⊕*-length}
use Rattle.bch.specs.Division.{add_front, scaled, divided, remainder}

pub add-length : (p q : List ℕ) → length (add_front p q) ≡ length p
add-length p [] = refl
add-length [] (b ∷ q) = refl
add-length (a ∷ p) (b ∷ q) = ap suc (add-length p q)

pub divided-length : (q : List ℕ) (n : ℕ) (p : List ℕ) → length (divided q n p) ≡ length p - n
divided-length q zero p = omega arith
divided-length q (suc n) [] = omega arith
divided-length q (suc n) (h ∷ p) = divided-length q n (add_front p (scaled h q)) ∙ omega (arith, add-length p (scaled h q))

add-bits : (p q : List ℕ) → all_bits p ≡ true → all_bits (add_front p q) ≡ true
add-bits p [] h = h
add-bits [] (b ∷ q) h = refl
add-bits (a ∷ p) (b ∷ q) h = rw (le-leb (a ⊕ b) 1 (omega arith)) (add-bits p q (legal-tail 1 a p h))

pub divided-bits : (q : List ℕ) (n : ℕ) (p : List ℕ) → all_bits p ≡ true → all_bits (divided q n p) ≡ true
divided-bits q zero p h = h
divided-bits q (suc n) [] h = refl
divided-bits q (suc n) (a ∷ p) h = divided-bits q n (add_front p (scaled a q)) (add-bits p (scaled a q) (legal-tail 1 a p h))

-- a ⊕ h c and b ⊕ k c, summed
mod_times : (h c : ℕ) → h % 2 * c % 2 ≡ h * c % 2
mod_times h c =
    let e : h * c ≡ h % 2 * c + 2 * (h / 2 * c) = ap (λ (n : ℕ). n * c) (sym (mod-add-div h 2)) ∙ omega arith in
    sym (ap (λ (n : ℕ). n % 2) e ∙ add-mul-mod_self_left (h % 2 * c) 2 (h / 2 * c))

sum-at : (a b h k c : ℕ) → (a ⊕ b) ⊕ (h ⊕ k) * c ≡ (a ⊕ h * c) ⊕ (b ⊕ k * c)
sum-at a b h k c =
    sym (add-mod-mod (a ⊕ b) ((h ⊕ k) * c) 2)
    ∙ ap (λ (n : ℕ). ((a ⊕ b) + n) % 2) (mod_times (h + k) c)
    ∙ simp (mod-add-mod, add-mod-mod) (ap (λ (n : ℕ). n % 2) (omega arith))

add-sum : (p r q : List ℕ) (h k : ℕ) → length p ≡ length r → add_front (p ⊕* r) (scaled (h ⊕ k) q) ≡ add_front p (scaled h q) ⊕* add_front r (scaled k q)
add-sum p r [] h k e = refl
add-sum [] [] (c ∷ q) h k e = refl
add-sum [] (b ∷ r) (c ∷ q) h k e = absurd (omega arith)
add-sum (a ∷ p) [] (c ∷ q) h k e = absurd (omega arith)
add-sum (a ∷ p) (b ∷ r) (c ∷ q) h k e = ap₂ (λ (n : ℕ) (l : List ℕ). n ∷ l) (sum-at a b h k c) (add-sum p r q h k (omega arith))

pub divided-sum : (q : List ℕ) (n : ℕ) (p r : List ℕ) → length p ≡ length r → divided q n (p ⊕* r) ≡ divided q n p ⊕* divided q n r
divided-sum q zero p r e = refl
divided-sum q (suc n) [] [] e = refl
divided-sum q (suc n) [] (k ∷ r) e = absurd (omega arith)
divided-sum q (suc n) (h ∷ p) [] e = absurd (omega arith)
divided-sum q (suc n) (h ∷ p) (k ∷ r) e =
    ap (divided q n) (add-sum p r q h k (omega arith))
    ∙ divided-sum q n (add_front p (scaled h q)) (add_front r (scaled k q)) (omega (arith, add-length p (scaled h q), add-length r (scaled k q)))

pub remainder-sum : (q p r : List ℕ) → length p ≡ length r → remainder q (p ⊕* r) ≡ remainder q p ⊕* remainder q r
remainder-sum q p r e =
    ap (λ (n : ℕ). divided q (n - length q) (p ⊕* r)) (⊕*-length p r e)
    ∙ divided-sum q (length p - length q) p r e
    ∙ ap (λ (n : ℕ). remainder q p ⊕* divided q (n - length q) r) e
