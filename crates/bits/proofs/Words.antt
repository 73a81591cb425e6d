-- Laws of bits that are packed in words.
use mathlib.Core.Path.{◌≡◌, refl, sym, ap, ap₂, ◌∙◌}
use mathlib.Core.Bool.{true}
use mathlib.Core.List.{List, [], ◌∷◌, ◌++◌, append_assoc}
use Prim.Native.Nat.{ℕ, zero, suc, ◌+◌, ◌-◌, ◌*◌, ◌/◌, ◌%◌, ◌^◌, ◌≤◌, ◌<◌}
use native.Mathlib.Nat.{suc-add, mul-add-div_right, div-div-eq-div-mul, div-add-mod'}
use native.Mathlib.Omega.{arith}
use borrow.Author.Tests.{le-leb}
use lib.Bits.{bit_xor}
use lib.ListN.{length, get_or, drop, drop_of_length-le, length-append}
use lib.Pow.{mod-pow-add, pow-add, pow_pos}
use Rattle.bits.specs.Legal.{all_bits}
use Rattle.bits.specs.Sum.{◌⊕*◌}
use Rattle.bits.specs.Words.{bits_of, unpacked}
use Rattle.bits.proofs.Lists.{drop-next}
use Rattle.bits.proofs.Sums.{bit-xor}

-- the first of the bits that follow k others, and none where all are past
pub bits-next : (n k word : ℕ) → k < n → bits_of (n - k) word ≡ word / 2 ^ (n - 1 - k) % 2 ∷ bits_of (n - (k + 1)) word
unfolding bits_of
bits-next n k word h =
    let e : n - k ≡ suc (n - 1 - k) = omega arith in
    let d : n - (k + 1) ≡ n - 1 - k = omega arith in
    rw (e, d)

pub bits_none : (n k word : ℕ) → n ≤ k → bits_of (n - k) word ≡ []
unfolding bits_of
bits_none n k word h = let z : n - k ≡ 0 = omega arith in rw z

pub length-bits : (n word : ℕ) → length (bits_of n word) ≡ n
unfolding bits_of
length-bits zero word = refl
length-bits (suc n) word = ap suc (length-bits n word)

-- the number that the lowest n + 1 bits make: the first of them, and the n that follow
pub low-next : (n word : ℕ) → word % 2 ^ suc n ≡ word / 2 ^ n % 2 * 2 ^ n + word % 2 ^ n
low-next n word = let e : suc n ≡ 1 + n = omega arith in ap (λ (k : ℕ). word % 2 ^ k) e ∙ mod-pow-add word 1 n

-- words with the same lowest n bits have the same number there
pub bits-same : (n a b : ℕ) → bits_of n a ≡ bits_of n b → a % 2 ^ n ≡ b % 2 ^ n
unfolding bits_of
bits-same zero a b e = omega arith
bits-same (suc n) a b e =
    low-next n a ∙ ap₂ (λ (u v : ℕ). u * 2 ^ n + v) (ap (λ (l : List ℕ). get_or l 0 0) e) (bits-same n a b (ap (drop 1) e)) ∙ sym (low-next n b)

-- the exclusive or of two words is the sum of their bits
pub bits-xor : (n a b : ℕ) → bits_of n (bit_xor a b) ≡ bits_of n a ⊕* bits_of n b
unfolding bits_of
bits-xor zero a b = refl
bits-xor (suc n) a b = rw (bit-xor n a b, bits-xor n a b)

-- the high bits of a word, then the low
pub bits-split : (n k w : ℕ) → bits_of (n + k) w ≡ bits_of n (w / 2 ^ k) ++ bits_of k w
unfolding bits_of
bits-split zero k w = let z : 0 + k ≡ k = omega arith in rw z
bits-split (suc n) k w =
    let e : w / 2 ^ (n + k) ≡ w / 2 ^ k / 2 ^ n = ap (λ (j : ℕ). w / j) (pow-add 2 n k ∙ omega arith) ∙ sym (div-div-eq-div-mul w (2 ^ k) (2 ^ n)) in
    rw (suc-add n k) (ap₂ (λ (b : ℕ) (l : List ℕ). b % 2 ∷ l) e (bits-split n k w))

-- what weighs 2^n or more does not show in the low bits
pub bits-low : (n k q w : ℕ) → k ≤ n → bits_of k (q * 2 ^ n + w) ≡ bits_of k w
unfolding bits_of
bits-low n zero q w h = refl
bits-low n (suc k) q w h =
    let s : n ≡ n - suc k + 1 + k = omega arith in
    let p : 2 ^ n ≡ 2 ^ (n - suc k) * 2 * 2 ^ k = ap (λ (j : ℕ). 2 ^ j) s ∙ pow-add 2 (n - suc k + 1) k ∙ ap (λ (j : ℕ). j * 2 ^ k) (pow-add 2 (n - suc k) 1) in
    let x = q * 2 ^ (n - suc k) in
    let m : q * 2 ^ n + w ≡ x * 2 * 2 ^ k + w = ap (λ (j : ℕ). q * j + w) p ∙ omega arith in
    let e : (q * 2 ^ n + w) / 2 ^ k ≡ x * 2 + w / 2 ^ k = ap (λ (j : ℕ). j / 2 ^ k) m ∙ mul-add-div_right (pow_pos k) (x * 2) w in
    ap₂ (λ (b : ℕ) (l : List ℕ). b ∷ l) (ap (λ (j : ℕ). j % 2) e ∙ omega arith) (bits-low n k q w (omega arith))

pub bits-mod : (n w : ℕ) → bits_of n (w % 2 ^ n) ≡ bits_of n w
bits-mod n w = sym (bits-low n n (w / 2 ^ n) (w % 2 ^ n) (omega arith)) ∙ ap (bits_of n) (div-add-mod' w (2 ^ n))

pub bits-legal : (n w : ℕ) → all_bits (bits_of n w) ≡ true
unfolding bits_of
bits-legal zero w = refl
bits-legal (suc n) w = rw (le-leb (w / 2 ^ n % 2) 1 (omega arith)) (bits-legal n w)

-- one more bit behind those of a word
pub bits-more : (n w b : ℕ) → b ≤ 1 → bits_of (n + 1) (2 * w + b) ≡ bits_of n w ++ (b ∷ [])
unfolding bits_of
bits-more n w b h =
    let half : (2 * w + b) / 2 ≡ w = omega arith in
    let last : (2 * w + b) / 1 % 2 ≡ b = omega arith in
    bits-split n 1 (2 * w + b) ∙ ap₂ (λ (k j : ℕ). bits_of n k ++ (j ∷ [])) half last

-- the first of the words that follow i others, and none where all are past
pub unpacked-next : (width : ℕ) (words : List ℕ) (i : ℕ) → i < length words
    → unpacked width (drop i words) ≡ bits_of width (get_or words i 0) ++ unpacked width (drop (i + 1) words)
unfolding unpacked
unpacked-next width words i h = rw (drop-next words i h)

pub unpacked-none : (width : ℕ) (words : List ℕ) (i : ℕ) → length words ≤ i → unpacked width (drop i words) ≡ []
unfolding unpacked
unpacked-none width words i h = rw (drop_of_length-le words h)

pub length-unpacked : (width : ℕ) (words : List ℕ) → length (unpacked width words) ≡ width * length words
unfolding unpacked
length-unpacked width [] = omega arith
length-unpacked width (word ∷ words) =
    omega (arith, length-append (bits_of width word) (unpacked width words), length-bits width word, length-unpacked width words)

pub unpacked-append : (width : ℕ) (a b : List ℕ) → unpacked width (a ++ b) ≡ unpacked width a ++ unpacked width b
unfolding unpacked
unpacked-append width [] b = refl
unpacked-append width (x ∷ a) b = rw (unpacked-append width a b, append_assoc)
