-- Both sequences begin anew after their period.
use mathlib.Core.Path.{◌≡◌, refl, sym, ap, ◌∙◌}
use Prim.Native.Nat.{ℕ, zero, suc, ◌+◌, ◌%◌}
use native.Mathlib.Nat.{suc-add}
use native.Mathlib.Omega.{arith}
use borrow.Author.Tests.{eqb-true, eqb-false}
use lib.Dec.{eqb}
use Rattle.bits.specs.Sum.{bit}
use Rattle.bits.proofs.Cases.{by_cases}
use Rattle.m_sequences.specs.MSequences.{MSequence, period, stepped, symbol, word_at, x, y}
use Rattle.m_sequences.proofs.Linked.{after_x, after_x_lem, after_y, after_y_lem, later, word-later}

x-again : later after_x period x.first ≡ x.first
unfolding later
x-again = refl

y-again : later after_y period y.first ≡ y.first
unfolding later
y-again = refl

-- Such a sequence's word a symbol later, where places are counted anew after the period.
abbrev pub Again : MSequence → Type 0
Again s = word_at s period ≡ s.first

pub x-period : Again x
unfolding word_at
x-period = word-later after_x x after_x_lem 0 period ∙ x-again

pub y-period : Again y
unfolding word_at
y-period = word-later after_y y after_y_lem 0 period ∙ y-again

-- a place's successor, counted anew after the period
wraps : (i : ℕ) → suc (i % period) ≡ period → (i + 1) % period ≡ 0
wraps i e = omega arith

goes_on : (i : ℕ) → (suc (i % period) ≡ period → ⊥) → (i + 1) % period ≡ suc (i % period)
goes_on i n = omega arith

pub word-next : (s : MSequence) → Again s → (i : ℕ) → word_at s ((i + 1) % period) ≡ stepped s.exponents (word_at s (i % period))
unfolding word_at
word-next s again i =
    by_cases (eqb (suc (i % period)) period)
    (λ t. let last = eqb-true _ _ t in ap (word_at s) (wraps i last) ∙ sym again ∙ ap (word_at s) (sym last))
    (λ f. ap (word_at s) (goes_on i (eqb-false _ _ f)))

word-again : (s : MSequence) → Again s → (i : ℕ) → word_at s (i + period) ≡ word_at s i
unfolding word_at
word-again s again zero = again
word-again s again (suc i) = ap (word_at s) (suc-add i period) ∙ ap (stepped s.exponents) (word-again s again i)

pub symbol-again : (s : MSequence) → Again s → (i : ℕ) → symbol s (i + period) ≡ symbol s i
symbol-again s again i = ap (bit 0) (word-again s again i)
