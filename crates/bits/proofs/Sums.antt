-- Laws of sums modulo 2, of bits and of lists of bits.
use mathlib.Core.Path.{◌≡◌, refl, ap, ap₂}
use mathlib.Core.Bool.{true}
use mathlib.Core.List.{List, [], ◌∷◌, ◌++◌}
use Prim.Native.Nat.{ℕ, zero, suc, ◌/◌, ◌%◌, ◌^◌, ◌≤◌}
use native.Mathlib.Nat.{mod-add-mod, add-mod-mod}
use native.Mathlib.Omega.{arith}
use borrow.Author.Tests.{le-leb}
use lib.Bits.{bit_xor, xor_add_and, xor_lt, xor_shr}
use lib.ListN.{length, get_or, take, drop}
use Rattle.bits.specs.Legal.{all_bits}
use Rattle.bits.specs.Sum.{◌⊕◌, ◌⊕*◌, bit}

-- the law behind every linearity: sums may be added in either grouping
pub interchange : (a b c d : ℕ) → (a ⊕ b) ⊕ (c ⊕ d) ≡ (a ⊕ c) ⊕ (b ⊕ d)
interchange a b c d = simp (mod-add-mod, add-mod-mod) (ap (λ (n : ℕ). n % 2) (omega arith))

-- of bits, the exclusive or is their sum
pub xor_of_bits : (x y : ℕ) → x ≤ 1 → y ≤ 1 → bit_xor x y ≡ x ⊕ y
xor_of_bits x y hx hy = omega (arith, xor_add_and x y, xor_lt 1 x y (omega arith) (omega arith))

-- of as many bits
pub ⊕*-length : (xs ys : List ℕ) → length xs ≡ length ys → length (xs ⊕* ys) ≡ length xs
⊕*-length [] ys e = refl
⊕*-length (x ∷ xs) [] e = absurd (omega arith)
⊕*-length (x ∷ xs) (y ∷ ys) e = ap suc (⊕*-length xs ys (omega arith))

pub ⊕*-append : (a b xs ys : List ℕ) → length a ≡ length b → (a ++ xs) ⊕* (b ++ ys) ≡ (a ⊕* b) ++ (xs ⊕* ys)
⊕*-append [] [] xs ys e = refl
⊕*-append [] (v ∷ b) xs ys e = absurd (omega arith)
⊕*-append (u ∷ a) [] xs ys e = absurd (omega arith)
⊕*-append (u ∷ a) (v ∷ b) xs ys e = ap (λ (l : List ℕ). u ⊕ v ∷ l) (⊕*-append a b xs ys (omega arith))

pub ⊕*-take : (n : ℕ) (xs ys : List ℕ) → take n (xs ⊕* ys) ≡ take n xs ⊕* take n ys
⊕*-take zero xs ys = refl
⊕*-take (suc n) [] ys = refl
⊕*-take (suc n) (x ∷ xs) [] = refl
⊕*-take (suc n) (x ∷ xs) (y ∷ ys) = ap (λ (l : List ℕ). x ⊕ y ∷ l) (⊕*-take n xs ys)

pub ⊕*-drop : (n : ℕ) (xs ys : List ℕ) → length xs ≡ length ys → drop n (xs ⊕* ys) ≡ drop n xs ⊕* drop n ys
⊕*-drop zero xs ys e = refl
⊕*-drop (suc n) [] ys e = refl
⊕*-drop (suc n) (x ∷ xs) [] e = absurd (omega arith)
⊕*-drop (suc n) (x ∷ xs) (y ∷ ys) e = ⊕*-drop n xs ys (omega arith)

pub ⊕*-at : (xs ys : List ℕ) (k : ℕ) → length xs ≡ length ys → get_or (xs ⊕* ys) k 0 ≡ get_or xs k 0 ⊕ get_or ys k 0
⊕*-at [] [] k e = refl
⊕*-at [] (y ∷ ys) k e = absurd (omega arith)
⊕*-at (x ∷ xs) [] k e = absurd (omega arith)
⊕*-at (x ∷ xs) (y ∷ ys) zero e = refl
⊕*-at (x ∷ xs) (y ∷ ys) (suc k) e = ⊕*-at xs ys k (omega arith)

pub ⊕*-bits : (xs ys : List ℕ) → all_bits (xs ⊕* ys) ≡ true
⊕*-bits [] ys = refl
⊕*-bits (x ∷ xs) [] = refl
⊕*-bits (x ∷ xs) (y ∷ ys) = rw (le-leb (x ⊕ y) 1 (omega arith)) (⊕*-bits xs ys)

-- two lists may be added in either order
pub ⊕*_swap : (a b c : List ℕ) → a ⊕* b ⊕* c ≡ a ⊕* c ⊕* b
⊕*_swap [] b c = refl
⊕*_swap (x ∷ a) [] [] = refl
⊕*_swap (x ∷ a) [] (z ∷ c) = refl
⊕*_swap (x ∷ a) (y ∷ b) [] = refl
⊕*_swap (x ∷ a) (y ∷ b) (z ∷ c) =
    let e : x ⊕ y ⊕ z ≡ x ⊕ z ⊕ y = omega arith in
    rw (e, ⊕*_swap a b c)

-- what is added to each of three is added once
pub ⊕*_thrice : (a b c s : List ℕ) → length a ≡ length b → length b ≡ length c → length c ≡ length s
    → a ⊕* b ⊕* c ⊕* s ≡ (a ⊕* s) ⊕* (b ⊕* s) ⊕* (c ⊕* s)
⊕*_thrice [] b c s e f g = refl
⊕*_thrice (x ∷ a) [] c s e f g = absurd (omega arith)
⊕*_thrice (x ∷ a) (y ∷ b) [] s e f g = absurd (omega arith)
⊕*_thrice (x ∷ a) (y ∷ b) (z ∷ c) [] e f g = absurd (omega arith)
⊕*_thrice (x ∷ a) (y ∷ b) (z ∷ c) (u ∷ s) e f g =
    let once : x ⊕ y ⊕ z ⊕ u ≡ (x ⊕ u) ⊕ (y ⊕ u) ⊕ (z ⊕ u) = simp (mod-add-mod, add-mod-mod) (omega arith) in
    ap₂ (λ (n : ℕ) (l : List ℕ). n ∷ l) once (⊕*_thrice a b c s (omega arith) (omega arith) (omega arith))

-- the bits of an exclusive or are the sums of the bits
pub bit-xor : (j a b : ℕ) → bit j (bit_xor a b) ≡ bit j a ⊕ bit j b
bit-xor j a b = rw xor_shr (omega (arith, xor_add_and (a / 2 ^ j) (b / 2 ^ j)))
