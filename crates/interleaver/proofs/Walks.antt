-- A walk's row and column are those that division gives, down a column and over the carry; and what the tables of multiples give at a walk.
use mathlib.Core.Path.{◌≡◌, sym, ap, ◌∙◌}
use mathlib.Core.List.{List}
use Prim.Native.Nat.{ℕ, ◌+◌, ◌*◌, ◌-◌, ◌%◌, ◌≤◌, ◌<◌}
use native.Mathlib.Nat.{mod-lt, mod-eq_of_lt, mod-add-mod, div-add-mod}
use native.Mathlib.Omega.{arith}
use lib.ListN.{length, get_or}
use Rattle.acm.specs.Formats.{M}
use Rattle.annex_c.specs.AnnexC.{Vectors}
use Rattle.interleaver.specs.Interleaver.{permuted}
use Rattle.interleaver.specs.Walk.{Walked, InColumn, Multiples, down_one}
use Rattle.interleaver.specs.declared.steps.Walk.{Walk}
use Rattle.interleaver.proofs.Laws.{row_low, bank_low, row_of, bank_of, inside}

-- at a row of its column
pub walked-inside : (W : ℕ) (at : Walk) → InColumn W at → at.row < W → Walked W at
walked-inside W at c h = record {
  row_is = sym (ap (λ (i : ℕ). i % W) c.position-is ∙ row_of W at.column at.row h);
  column-is = sym (rw c.position-is (bank_of W at.column at.row h));
}

-- below the last row, where the position is the first of the next column
pub walked_carried : (W : ℕ) (at : Walk) → InColumn W at → 0 < W → W ≤ at.row → Walked W (record { position = at.position; row = at.row - W; column = at.column + 1 })
walked_carried W at c some h =
    let row : at.row - W < W = omega (arith, c.row_low) in
    let first : at.position.0 ≡ W * (at.column + 1) + (at.row - W) = omega (arith, c.position-is) in
    record {
      row_is = sym (ap (λ (i : ℕ). i % W) first ∙ row_of W (at.column + 1) (at.row - W) row);
      column-is = sym (rw first (bank_of W (at.column + 1) (at.row - W) row));
    }

-- the way down starts at any position of the size
module _ (W : ℕ) (at : Walk) (walked : Walked W at) (h : at.position.0 < M * W) where
  pub walked_row : at.row < W
  walked_row = rw walked.row_is (row_low W at.position.0 h)

  pub walked-column : at.column < M
  walked-column = rw walked.column-is (bank_low W at.position.0 h)

  pub in_column : InColumn W at
  in_column = record {
    position-is = rw (walked.row_is, walked.column-is) (sym (div-add-mod at.position.0 W));
    row_low = omega (arith, walked_row);
  }

-- at the first position
pub in_first : (W : ℕ) (at : Walk) → at.position.0 ≡ 0 → Walked 1 at → InColumn W at × (at.column ≡ 0)
in_first W at first walked =
    let row : at.row ≡ 0 = omega (arith, walked.row_is, first) in
    let column : at.column ≡ 0 = omega (arith, walked.column-is, first) in
    (record { position-is = omega (arith, ap (λ (k : ℕ). W * k) column); row_low = omega arith }, column)

pub in_column_down : (W : ℕ) (at : Walk) → InColumn W at → at.row < W → InColumn W (down_one at)
in_column_down W at c h = record { position-is = omega (arith, c.position-is); row_low = omega arith }

-- equation A-1 at a row of a column; its bank is the column and the row's β, added, modulo M
module _ (α β : List ℕ) (v : Vectors α β) (column row : ℕ) (c : column < M) (r : row < length α) where
  abbrev sum : ℕ
  sum = column + get_or β row 0

  abbrev position : ℕ
  position = permuted α β (length α * column + row)

  pub sum_low : sum < 2 * M
  sum_low = omega (arith, v.β_range row r)

  permuted-in : position ≡ length α * (sum % M) + get_or α row 0
  unfolding permuted
  permuted-in = rw (row_of (length α) column row r, bank_of (length α) column row r)

  -- with W × bank looked up
  pub interleaved-in : (starts : List ℕ) → Multiples (length α) (M * length α) starts → get_or starts sum 0 + get_or α row 0 ≡ position
  interleaved-in starts m =
      let bank : length α * (sum % M) < M * length α = omega (arith, inside (length α) (sum % M) 0 (omega arith) (mod-lt sum (omega arith))) in
      rw permuted-in (ap (λ (k : ℕ). k + get_or α row 0) (m.entry sum sum_low ∙ mod-eq_of_lt bank))

  pub residue_in : (P : ℕ) (residues : List ℕ) → Multiples (length α) P residues → (get_or residues sum 0 + get_or α row 0) % P ≡ position % P
  residue_in P residues m =
      rw permuted-in (ap (λ (k : ℕ). (k + get_or α row 0) % P) (m.entry sum sum_low) ∙ mod-add-mod (length α * (sum % M)) P (get_or α row 0))
