-- Equation A-1 over any two vectors. A position is a row of W rows in one of M banks: α moves the row, β turns the bank. So π permutes the
-- positions where α permutes the rows.
use mathlib.Core.Path.{◌≡◌, sym, ap, ◌∙◌}
use mathlib.Core.List.{List}
use Prim.Native.Nat.{ℕ, ◌+◌, ◌*◌, ◌-◌, ◌/◌, ◌%◌, ◌<◌}
use native.Mathlib.Nat.{mod-lt, div-add-mod, div-lt_iff_lt-mul, mul-add-div, mul-add-mod_self_left, div-eq_of_lt, mod-eq_of_lt, mul-le-mul_left}
use native.Mathlib.Omega.{arith}
use lib.ListN.{length, get_or}
use Rattle.bits.specs.Permutation.{Permutes}
use Rattle.acm.specs.Formats.{M}
use Rattle.annex_c.specs.AnnexC.{Vectors}
use Rattle.interleaver.specs.Interleaver.{permuted}

-- the row and the bank of a position
module _ (W i : ℕ) (h : i < M * W) where
  some : 0 < W
  some = omega arith

  pub row_low : i % W < W
  row_low = mod-lt i some

  pub bank_low : i / W < M
  bank_low = (div-lt_iff_lt-mul some).1 h

-- the position of a row in a bank
module _ (W bank row : ℕ) (h : row < W) where
  pub bank_of : (W * bank + row) / W ≡ bank
  bank_of = mul-add-div (omega arith) bank row ∙ omega (arith, div-eq_of_lt h)

  pub row_of : (W * bank + row) % W ≡ row
  row_of = mul-add-mod_self_left W bank row ∙ mod-eq_of_lt h

  pub inside : bank < M → W * bank + row < M * W
  inside l = omega (arith, mul-le-mul_left {m = bank} {n = M - 1} W (omega arith))

apart : (W x y r s : ℕ) → r < W → s < W → W * x + r ≡ W * y + s → (x ≡ y) × (r ≡ s)
apart W x y r s h l e = (
  sym (bank_of W x r h) ∙ ap (λ (n : ℕ). n / W) e ∙ bank_of W y s l,
  sym (row_of W x r h) ∙ ap (λ (n : ℕ). n % W) e ∙ row_of W y s l,
)

-- a bank turned back by b and then by b, and two banks turned by b
turned : (bank b : ℕ) → bank < M → b < M → ((bank + (M - b)) % M + b) % M ≡ bank
turned bank b h l = omega arith

turned_apart : (x y b : ℕ) → x < M → y < M → b < M → (x + b) % M ≡ (y + b) % M → x ≡ y
turned_apart x y b h l k e = omega arith

module _ (α β : List ℕ) (v : Vectors α β) where
  pub permuted-below : (i : ℕ) → i < M * length α → permuted α β i < M * length α
  unfolding permuted
  permuted-below i h = inside (length α) _ _ (v.α_range _ (row_low _ i h)) (omega arith)

  module _ (p : Permutes (length α) (λ j. get_or α j 0)) where
    permuted-apart : (i k : ℕ) → i < M * length α → k < M * length α → permuted α β i ≡ permuted α β k → i ≡ k
    unfolding permuted
    permuted-apart i k h l e =
        let W = length α in
        let hi = row_low W i h in
        let hk = row_low W k l in
        let parts = apart W _ _ _ _ (v.α_range _ hi) (v.α_range _ hk) e in
        let rows = p.apart _ _ hi hk parts.1 in
        let banks = turned_apart (i / W) (k / W) _ (bank_low W i h) (bank_low W k l) (v.β_range _ hk) (rw rows at parts.0) in
        sym (div-add-mod i W) ∙ rw (rows, banks) (div-add-mod k W)

    permuted-onto : (y : ℕ) → y < M * length α → (i : ℕ) × (i < M * length α) × (permuted α β i ≡ y)
    unfolding permuted
    permuted-onto y h =
        let W = length α in
        let row = p.onto (y % W) (row_low W y h) in
        let j = row.0 in
        let bank = (y / W + (M - get_or β j 0)) % M in (
          W * bank + j,
          inside W bank j row.1 (omega arith),
          rw (row_of W bank j row.1, bank_of W bank j row.1, row.2, turned (y / W) (get_or β j 0) (bank_low W y h) (v.β_range j row.1))
              (div-add-mod y W),
        )

    pub permutes : Permutes (M * length α) (permuted α β)
    permutes = record { below = permuted-below; apart = permuted-apart; onto = permuted-onto }
