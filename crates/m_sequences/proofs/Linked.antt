-- The words of a table, each found from the one before it.
use mathlib.Core.Path.{◌≡◌, sym, ap, ◌∙◌}
use mathlib.Core.Bool.{Bool, true, ◌&&◌}
use mathlib.Core.List.{List, [], ◌∷◌}
use Prim.Native.Nat.{ℕ, zero, suc, ◌+◌, ◌*◌, ◌/◌, ◌%◌, ◌<◌}
use native.Mathlib.Omega.{arith}
use borrow.Author.Tests.{eqb-true}
use lib.Dec.{eqb}
use lib.ListN.{length, get_or}
use Rattle.bits.proofs.Table.{left-true, right_true}
use Rattle.m_sequences.specs.MSequences.{MSequence, stepped, word_at, x, y}
use Rattle.m_sequences.specs.Tables.{Words, entries, stride}

-- the word n symbols later, by a function f that takes one to the next
unfoldable pub later : (ℕ → ℕ) → ℕ → ℕ → ℕ
later f zero word = word
later f (suc n) word = later f n (f word)

-- the first word of a table is the one given, and each is `stride` symbols later than the one before it
unfoldable pub linked : (ℕ → ℕ) → ℕ → List ℕ → Bool
linked f word [] = true
linked f word (w ∷ ws) = eqb word w && linked f (later f stride w) ws

module _ (f : ℕ → ℕ) (s : MSequence) (is : (word : ℕ) → f word ≡ stepped s.exponents word) where
  pub word-later : (i n : ℕ) → word_at s (i + n) ≡ later f n (word_at s i)
  unfolding later word_at
  word-later i zero = let z : i + 0 ≡ i = omega arith in rw z
  word-later i (suc n) = let step : i + suc n ≡ suc i + n = omega arith in rw (step, is (word_at s i)) (word-later (suc i) n)

  word_linked : (i : ℕ) (ws : List ℕ) → linked f (word_at s i) ws ≡ true → (k : ℕ) → k < length ws
      → get_or ws k 0 ≡ word_at s (i + k * stride)
  unfolding linked
  word_linked i [] t k h = absurd (omega arith)
  word_linked i (w ∷ ws) t zero h =
      let z : i + 0 * stride ≡ i = omega arith in
      rw z (sym (eqb-true (word_at s i) w (left-true _ _ t)))
  word_linked i (w ∷ ws) t (suc k) h =
      let e : word_at s i ≡ w = eqb-true (word_at s i) w (left-true _ _ t) in
      let next : word_at s (i + stride) ≡ later f stride w = word-later i stride ∙ ap (later f stride) e in
      let step : i + suc k * stride ≡ i + stride + k * stride = omega arith in
      rw step (word_linked (i + stride) ws (rw next (right_true _ _ t)) k (omega arith))

  pub linked-words : (ws : List ℕ) → length ws ≡ entries → linked f s.first ws ≡ true → Words s ws
  unfolding word_at
  linked-words ws l t =
      record {
        long = l;
        at_stride = λ k h. let z : k * stride ≡ 0 + k * stride = omega arith in rw z (word_linked 0 ws t k (omega (arith, l)));
      }

-- each sequence's next word in fewer operations: the tests compute with these
abbrev pub after_x : ℕ → ℕ
after_x word = word / 2 + (word % 2 + word / 128 % 2) % 2 * 131072

abbrev pub after_y : ℕ → ℕ
after_y word = word / 2 + (word % 2 + word / 32 % 2 + word / 128 % 2 + word / 1024 % 2) % 2 * 131072

pub after_x_lem : (word : ℕ) → after_x word ≡ stepped x.exponents word
after_x_lem word = omega arith

pub after_y_lem : (word : ℕ) → after_y word ≡ stepped y.exponents word
after_y_lem word = omega arith
