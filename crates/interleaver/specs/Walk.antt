-- A walk over the positions in order: row and column are running values, and W × bank is looked up.
use Rattle.std.specs.Prelude.{◌≡◌, List, ℕ, ◌+◌, ◌*◌, ◌/◌, ◌%◌, ◌≤◌, ◌<◌, length, get_or}
use Rattle.acm.specs.Formats.{M}
use Rattle.interleaver.specs.declared.steps.Walk.{Walk}

-- the row and the column are those that division gives (A-1, A-2)
pub record Walked (W : ℕ) (at : Walk) : Type 0 where
  pub row_is : at.row ≡ at.position.0 % W
  pub column-is : at.column ≡ at.position.0 / W

-- on its way down a column: at a row of it, or below the last, before the carry
pub record InColumn (W : ℕ) (at : Walk) : Type 0 where
  pub position-is : at.position.0 ≡ W * at.column + at.row
  pub row_low : at.row ≤ W

-- one row on
abbrev pub down_one : Walk → Walk
down_one at = record { position = record { 0 = at.position.0 + 1 }; row = at.row + 1; column = at.column }

-- W × bank modulo P, for each such sum
pub record Multiples (W P : ℕ) (l : List ℕ) : Type 0 where
  pub long : length l ≡ 2 * M
  pub entry : (j : ℕ) → j < 2 * M → get_or l j 0 ≡ W * (j % M) % P
