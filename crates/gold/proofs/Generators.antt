-- A generator gives each symbol its turns, from one place to the next.
use mathlib.Core.Path.{◌≡◌, refl, sym, ap, ap₂, ◌∙◌}
use Prim.Native.Nat.{ℕ, ◌+◌, ◌*◌, ◌%◌, ◌<◌}
use native.Mathlib.Omega.{arith}
use Rattle.bits.specs.Sum.{◌⊕◌}
use Rattle.m_sequences.specs.MSequences.{MSequence, period, stepped, symbol, word_at, x, y}
use Rattle.m_sequences.proofs.Period.{Again, word-next, x-period, y-period}
use Rattle.gold.specs.declared.steps.Generator.{Generator}
use Rattle.gold.specs.Gold.{R, half}
use Rattle.gold.specs.Generator.{generator_at, later, turns_of}

over : (i : ℕ) → i < period → i % period ≡ i
over i h = omega arith

around : (n i : ℕ) → (i + half + n) % period ≡ ((i + half) % period + n) % period
around n i = omega arith

pub generator-turns : (n i : ℕ) → i < period → turns_of (generator_at n i) ≡ R n i
unfolding R
generator-turns n i h =
    ap₂ (λ j k. 2 * (symbol x j ⊕ symbol y ((i + half) % period)) + (symbol x ((i + n) % period) ⊕ symbol y k)) (around n i) (over i h)

-- a word of a sequence, so many places on
later-word : (s : MSequence) → Again s → (i k : ℕ) → stepped s.exponents (word_at s ((i + k) % period)) ≡ word_at s ((i + 1 + k) % period)
later-word s again i k = let place : i + 1 + k ≡ i + k + 1 = omega arith in
    sym (ap (λ n. word_at s (n % period)) place ∙ word-next s again (i + k))

same : {a b c d a' b' c' d' : ℕ} → a ≡ a' → b ≡ b' → c ≡ c' → d ≡ d'
    → ◌≡◌ {A = Generator} record { x = a; y = b; half_x = c; half_y = d } record { x = a'; y = b'; half_x = c'; half_y = d' }
same p q r s = rw (p, q, r, s) refl

pub generator-later : (n i : ℕ) → later (generator_at n i) ≡ generator_at n (i + 1)
generator-later n i =
    same
    (later-word x x-period i n)
    (word-later y y-period i)
    (later-word x x-period (i + half) n ∙ ap (λ j. word_at x ((j + n) % period)) (behind i))
    (word-later y y-period (i + half) ∙ ap (λ j. word_at y (j % period)) (behind i))
  where
    behind : (i : ℕ) → i + half + 1 ≡ i + 1 + half
    behind i = omega arith

    word-later : (s : MSequence) → Again s → (i : ℕ) → stepped s.exponents (word_at s (i % period)) ≡ word_at s ((i + 1) % period)
    word-later s again i = sym (word-next s again i)
