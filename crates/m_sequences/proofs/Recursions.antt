-- The words follow annex E: a word's bits are the symbols from its place on, and the symbol behind them is the feedback.
use mathlib.Core.Path.{◌≡◌, refl, sym, ap, ◌∙◌}
use mathlib.Core.Bool.{Bool}
use mathlib.Core.List.{List, [], ◌∷◌}
use Prim.Native.Nat.{ℕ, zero, suc, ◌+◌, ◌-◌, ◌*◌, ◌/◌, ◌%◌, ◌^◌, ◌<◌}
use native.Mathlib.Nat.{add-mul-div_right, add-mul-mod_self_right, div-div-eq-div-mul, mod-lt, mul_assoc, pow-suc, pow-succ', zero-lt-suc}
use native.Mathlib.Omega.{arith}
use lib.Dec.{eqb, lit<}
use lib.Pow.{pow-add, pow_pos}
use borrow.Author.Tests.{eqb-true}
use Rattle.bits.proofs.Table.{below_at}
use Rattle.bits.specs.Sum.{◌⊕◌, bit}
use Rattle.m_sequences.specs.MSequences.{MSequence, degree, feedback, symbol, word_at, x, y}

feedback_bit : (js : List ℕ) (word : ℕ) → feedback js word < 2
feedback_bit [] word = omega arith
feedback_bit (j ∷ js) word = mod-lt _ (zero-lt-suc 1)

-- Every bit of a word but the last moves one place down: what comes in on top is an even multiple of each place's weight.
bit-down : (word b j : ℕ) → j < degree - 1 → bit j (word / 2 + b * 2 ^ (degree - 1)) ≡ bit (suc j) word
bit-down word b j h =
    let places : degree - 1 ≡ suc (degree - 2 - j) + j = omega arith in
    let even : b * 2 ^ (degree - 1) ≡ b * 2 ^ (degree - 2 - j) * 2 * 2 ^ j
    = ap (λ n. b * 2 ^ n) places ∙ ap (λ n. b * n) (pow-add 2 (suc (degree - 2 - j)) j ∙ ap (λ n. n * 2 ^ j) (pow-suc 2 (degree - 2 - j)))
    ∙ sym (mul_assoc b (2 ^ (degree - 2 - j) * 2) (2 ^ j)) ∙ ap (λ n. n * 2 ^ j) (sym (mul_assoc b (2 ^ (degree - 2 - j)) 2)) in
    ap (λ n. bit j (word / 2 + n)) even
    ∙ ap (λ n. n % 2) (add-mul-div_right (word / 2) (b * 2 ^ (degree - 2 - j) * 2) (pow_pos j))
    ∙ add-mul-mod_self_right (word / 2 / 2 ^ j) (b * 2 ^ (degree - 2 - j)) 2
    ∙ ap (λ n. n % 2) (div-div-eq-div-mul word 2 (2 ^ j) ∙ ap (λ n. word / n) (sym (pow-succ' 2 j)))

module _ (s : MSequence) (start : s.first < 2 ^ degree) where
  word_fits : (i : ℕ) → word_at s i < 2 ^ degree
  unfolding word_at
  word_fits zero = start
  word_fits (suc i) = omega (arith, word_fits i, feedback_bit s.exponents (word_at s i))

  bits-later : (i j t : ℕ) → t + j < degree → bit t (word_at s (i + j)) ≡ bit (t + j) (word_at s i)
  unfolding word_at
  bits-later i zero t h = let e : i + 0 ≡ i = omega arith in let f : t + 0 ≡ t = omega arith in rw (e, f) refl
  bits-later i (suc j) t h =
      let e : i + suc j ≡ suc (i + j) = omega arith in
      let f : t + suc j ≡ suc t + j = omega arith in
      rw (e, f) (bit-down (word_at s (i + j)) (feedback s.exponents (word_at s (i + j))) t (omega arith) ∙ bits-later i j (suc t) (omega arith))

  pub symbol-later : (i j : ℕ) → j < degree → bit j (word_at s i) ≡ symbol s (i + j)
  symbol-later i j h = let z : 0 + j ≡ j = omega arith in ap (λ n. bit n (word_at s i)) (sym z) ∙ sym (bits-later i j 0 (omega arith))

  pub symbol_fed : (i : ℕ) → symbol s (i + degree) ≡ feedback s.exponents (word_at s i)
  unfolding word_at
  symbol_fed i =
      let last : i + degree ≡ suc i + (degree - 1) = omega arith in
      ap (symbol s) last
      ∙ sym (symbol-later (suc i) (degree - 1) (omega arith))
      ∙ on-top (word_at s i) (feedback s.exponents (word_at s i)) (word_fits i) (feedback_bit s.exponents (word_at s i))
    where
      on-top : (word b : ℕ) → word < 2 ^ degree → b < 2 → bit (degree - 1) (word / 2 + b * 2 ^ (degree - 1)) ≡ b
      on-top word b h l = omega arith

-- annex E, in its words: x(i+18) = x(i+7) + x(i) and y(i+18) = y(i+10) + y(i+7) + y(i+5) + y(i), modulo 2
pub x_next : (i : ℕ) → symbol x (i + 18) ≡ (symbol x (i + 7) + symbol x i) % 2
x_next i = symbol_fed x (lit< tt) i ∙ two (bit 0 (word_at x i)) (bit 7 (word_at x i)) (symbol x (i + 7)) (symbol-later x (lit< tt) i 7 (lit< tt))
  where
    two : (a b b' : ℕ) → b ≡ b' → a ⊕ (b ⊕ 0) ≡ (b' + a) % 2
    two a b b' e = omega (arith, e)

pub y_next : (i : ℕ) → symbol y (i + 18) ≡ (symbol y (i + 10) + symbol y (i + 7) + symbol y (i + 5) + symbol y i) % 2
y_next i =
    symbol_fed y (lit< tt) i
    ∙ four (bit 0 (word_at y i)) (later 5 (lit< tt)) (later 7 (lit< tt)) (later 10 (lit< tt))
  where
    later : (j : ℕ) → j < degree → bit j (word_at y i) ≡ symbol y (i + j)
    later j h = symbol-later y (lit< tt) i j h

    four : (a : ℕ) {b c d b' c' d' : ℕ} → b ≡ b' → c ≡ c' → d ≡ d' → a ⊕ (b ⊕ (c ⊕ (d ⊕ 0))) ≡ (d' + c' + b' + a) % 2
    four a p q r = omega (arith, p, q, r)

-- the first eighteen symbols, by computing
x_test : ℕ → Bool
unfolding word_at
x_test j = eqb (symbol x (suc j)) 0

y_test : ℕ → Bool
unfolding word_at
y_test j = eqb (symbol y j) 1

pub x_zeros : (j : ℕ) → j < 17 → symbol x (suc j) ≡ 0
unfolding x_test
x_zeros j h = eqb-true _ _ (below_at x_test 17 refl j h)

pub y_ones : (j : ℕ) → j < degree → symbol y j ≡ 1
unfolding y_test
y_ones j h = eqb-true _ _ (below_at y_test degree refl j h)
