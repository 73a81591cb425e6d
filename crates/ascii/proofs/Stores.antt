-- How text goes into a buffer: a number's digits, of which the last is stored first, a line of numbers, and two texts at the front.
use mathlib.Core.Path.{◌≡◌, refl, ap, ◌∙◌}
use mathlib.Core.List.{List, [], ◌∷◌, ◌++◌, append_assoc}
use Prim.Native.Nat.{ℕ, suc, ◌+◌, ◌/◌, ◌%◌, ◌≤◌, ◌<◌}
use native.Mathlib.Nat.{add-zero}
use native.Mathlib.Omega.{arith}
use lib.ListN.{length, get_or, drop, set, length-append}
use lib.Seq.{sets, length-sets, set_comm}
use Rattle.bits.proofs.Fill.{Left, left-stretch, sets-append, sets-front}
use Rattle.bits.proofs.Lists.{drop-next}
use Rattle.ascii.specs.Text.{comma, digit, decimal, separator, line, at_front}
use Rattle.ascii.proofs.Decimal.{last_digits, last_digits-length}

-- the last may be stored first
sets_last : (out : List ℕ) (at : ℕ) (xs : List ℕ) (y : ℕ) → sets (set out (at + length xs) y) at xs ≡ sets out at (xs ++ (y ∷ []))
sets_last out at [] y = rw add-zero
sets_last out at (x ∷ xs) y =
    let s : at + suc (length xs) ≡ suc at + length xs = omega arith in
    rw (s, set_comm out (suc at + length xs) at y x (λ e. omega arith)) (sets_last (set out at x) (suc at) xs y)

-- the last of k + 1 digits is stored at i
pub decimal-turn : (out : List ℕ) (at i n k k' : ℕ) → i ≡ at + k → k' ≡ suc k → sets (set out i (digit (n % 10))) at (last_digits k (n / 10)) ≡ sets out at (last_digits k' n)
decimal-turn out at i n k k' here e =
    let place : i ≡ at + length (last_digits k (n / 10)) = omega (arith, last_digits-length k (n / 10)) in
    rw (place, e) (sets_last out at (last_digits k (n / 10)) (digit (n % 10)))

-- a line of numbers, of which those from i on are left to put, and the last
separator-more : (ns : List ℕ) (last : ℕ) → separator (ns ++ (last ∷ [])) ≡ comma
separator-more [] last = refl
separator-more (n ∷ ns) last = refl

line-next : (ns : List ℕ) (last i : ℕ) → i < length ns
    → line (drop i ns ++ (last ∷ [])) ≡ (decimal (get_or ns i 0) ++ (comma ∷ [])) ++ line (drop (i + 1) ns ++ (last ∷ []))
line-next ns last i h = rw (drop-next ns i h, separator-more (drop (i + 1) ns) last, append_assoc)

module _ (ns : List ℕ) (last i : ℕ) {out₀ ws out : List ℕ} {at end : ℕ} (l : Left out₀ at ws out end (line (drop i ns ++ (last ∷ [])))) where
  pub line-turn : {new : List ℕ} {next : ℕ} → i < length ns → new ≡ sets out end (decimal (get_or ns i 0) ++ (comma ∷ [])) → next ≡ end + length (decimal (get_or ns i 0)) + 1
      → Left out₀ at ws new next (line (drop (i + 1) ns ++ (last ∷ [])))
  line-turn {new} {next} h stored past =
      left-stretch new (decimal (get_or ns i 0) ++ (comma ∷ [])) _ next (line-next ns last i h) stored
      (omega (arith, past, length-append (decimal (get_or ns i 0)) (comma ∷ []))) l

-- two texts to the front of a buffer, one behind the other
module _ (out₀ xs ys : List ℕ) {out₁ : List ℕ} {at : ℕ} (first : out₁ ≡ sets out₀ 0 xs) (e : at ≡ 0 + length xs) where
  pub front-room : length (xs ++ ys) ≤ length out₀ → at + length ys ≤ length out₁
  front-room room = omega (arith, length-append xs ys, ap length first, length-sets out₀ 0 xs)

  pub front_put : {out₂ : List ℕ} {end : ℕ} → length (xs ++ ys) ≤ length out₀ → out₂ ≡ sets out₁ at ys → end ≡ at + length ys
      → (end ≡ length (xs ++ ys)) × (out₂ ≡ at_front (xs ++ ys) out₀)
  front_put room second e' =
      (omega (arith, length-append xs ys), second ∙ rw (first, e, ← sets-append out₀ 0 xs ys) (sets-front (xs ++ ys) out₀ room))
