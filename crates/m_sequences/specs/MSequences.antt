-- The m-sequences of the physical-layer randomizer (000, annex E).
use Rattle.std.specs.Prelude.{List, [], ◌∷◌, ℕ, zero, suc, ◌+◌, ◌-◌, ◌*◌, ◌/◌, ◌^◌}
use Rattle.bits.specs.Sum.{◌⊕◌, bit}

-- the degree of both polynomials
abbrev pub degree : ℕ
degree = 18

abbrev pub period : ℕ
period = 2 ^ degree - 1

-- The exponents below 18 that a sequence's polynomial has, and its first eighteen symbols as a word, of which the first weighs least.
pub record MSequence : Type 0 where
  pub exponents : List ℕ
  pub first : ℕ

-- h(x) = 1 + x^7 + x^18; x(0) = 1, x(1) = .. = x(17) = 0
abbrev pub x : MSequence
x = record { exponents = 0 ∷ 7 ∷ []; first = 1 }

-- g(y) = 1 + y^5 + y^7 + y^10 + y^18; y(0) = .. = y(17) = 1
abbrev pub y : MSequence
y = record { exponents = 0 ∷ 5 ∷ 7 ∷ 10 ∷ []; first = 2 ^ degree - 1 }

-- the sum of the symbols that exponents name
abbrev pub feedback : List ℕ → ℕ → ℕ
feedback [] word = 0
feedback (j ∷ js) word = bit j word ⊕ feedback js word

-- the word a symbol later: the first goes out, and the feedback comes in as the last
abbrev pub stepped : List ℕ → ℕ → ℕ
stepped exponents word = word / 2 + feedback exponents word * 2 ^ (degree - 1)

-- the eighteen symbols from i on
unfoldable pub word_at : MSequence → ℕ → ℕ
word_at s zero = s.first
word_at s (suc i) = stepped s.exponents (word_at s i)

abbrev pub symbol : MSequence → ℕ → ℕ
symbol s i = bit 0 (word_at s i)
