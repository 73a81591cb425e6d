-- A row of the interleaver by its elements of α and β.
use Rattle.std.specs.Prelude.{◌≡◌, List, ℕ, ◌<◌, length, get_or}
use Rattle.interleaver.specs.declared.place.Place.{Place}

-- a place has a row's elements of the two vectors
pub record OfRow (α β : List ℕ) (row : ℕ) (at : Place) : Type 0 where
  pub row_low : row < length α
  pub address-is : at.address ≡ get_or α row 0
  pub shift-is : at.shift ≡ get_or β row 0
