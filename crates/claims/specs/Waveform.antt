-- Points of symbols, for a signal generator (document 02, L12).
use Rattle.std.specs.Prelude.{◌≡◌, true, List, ◌↔◌, ℕ, ◌+◌, ◌-◌, ◌*◌, ◌%◌, ◌^◌, ◌≤◌, ◌<◌, length, get_or, Option, Some as some, None as none}
use Rattle.std.specs.Float.{Float, float_zero}
use Rattle.std.specs.Float.Ieee.{neg}
use Rattle.std.specs.List.{filter}
use Rattle.bits.specs.Checks.{passed}
use Rattle.scrambling.specs.Code.{code_legal}
use Rattle.constellation.specs.Table.{entries, entry_of}
use Rattle.constellation.specs.Points.{point, turned}
use Rattle.constellation.specs.Rings.{on_ring, rings}
use Rattle.m_sequences.specs.MSequences.{period, symbol, x, y}
use Rattle.gold.specs.Gold.{R, z}
use Rattle.waveform.specs.Waveform.{coordinates, last_label, pointed, point_number, points_number, symbol_point}

-- no point of table 5-2 fails: each is on a ring, and ring k has 4 (2k - 1) of them
abbrev pub OnRings : Type 0
OnRings = (label : ℕ) → label ≤ last_label → (k : ℕ) × (1 ≤ k) × (k ≤ rings) × (on_ring k (entry_of label) ≡ true)

abbrev pub Full : Type 0
Full = (k : ℕ) → 1 ≤ k → k ≤ rings → length (filter (on_ring k) entries) ≡ 4 * (2 * k - 1)

-- annex E's table for R = 0, 1, 2, 3, of a point with any coordinates; four quarter turns give the same bits back
pub record Turns (i q : Float) : Type 0 where
  pub none : turned 0 (point i q) ≡ point i q
  pub one : turned 1 (point i q) ≡ point (neg q) i
  pub two : turned 2 (point i q) ≡ point (neg i) (neg q)
  pub three : turned 3 (point i q) ≡ point q (neg i)
  pub four : turned 4 (point i q) ≡ point i q

-- annex E's sequences, in its words, and that they begin anew after 2^18 - 1 symbols
pub record AnnexE : Type 0 where
  pub x_one : symbol x 0 ≡ 1
  pub x_zeros : (i : ℕ) → 1 ≤ i → i ≤ 17 → symbol x i ≡ 0
  pub y_ones : (i : ℕ) → i ≤ 17 → symbol y i ≡ 1
  pub x_next : (i : ℕ) → symbol x (i + 18) ≡ (symbol x (i + 7) + symbol x i) % 2
  pub y_next : (i : ℕ) → symbol y (i + 18) ≡ (symbol y (i + 10) + symbol y (i + 7) + symbol y (i + 5) + symbol y i) % 2
  pub z_is : (n i : ℕ) → z n i ≡ (symbol x ((i + n) % (2 ^ 18 - 1)) + symbol y i) % 2
  pub R_is : (n i : ℕ) → R n i ≡ 2 * z n ((i + 131072) % (2 ^ 18 - 1)) + z n i
  pub R-most : (n i : ℕ) → R n i ≤ 3
  pub x_again : (i : ℕ) → symbol x (i + period) ≡ symbol x i
  pub y_again : (i : ℕ) → symbol y (i + period) ≡ symbol y i

-- what the call passes, and that it is the same in its five formats
pub record Asked (f slot : ℕ) (code : Option ℕ) (i : ℕ) : Type 0 where
  pub least : 33 ≤ f
  pub most : f ≤ 37
  pub label : slot ≤ 255
  pub legal : code_legal code ≡ true
  pub inside : i < 133760

abbrev pub Passes : Type 0
Passes = (f slot : ℕ) (code : Option ℕ) (i : ℕ) → (point_number f slot code i ≡ passed) ↔ Asked f slot code i

abbrev pub Formats : Type 0
Formats = (f slot : ℕ) (code : Option ℕ) (i : ℕ) → 33 ≤ f → f ≤ 37 → pointed f slot code i ≡ pointed 33 slot code i

-- symbols in a row have the points that each has by itself
pub record Each (f : ℕ) (slots : List ℕ) (code : Option ℕ) (i k : ℕ) : Type 0 where
  pub asked : point_number f (get_or slots k 0) code (i + k) ≡ passed
  pub in-phase : get_or (coordinates code i slots) (2 * k) float_zero ≡ (symbol_point code (i + k) (get_or slots k 0)).i
  pub quadrature : get_or (coordinates code i slots) (2 * k + 1) float_zero ≡ (symbol_point code (i + k) (get_or slots k 0)).q

abbrev pub InARow : Type 0
InARow =
    (f : ℕ) (slots : List ℕ) (code : Option ℕ) (i room : ℕ) → points_number f slots code i room ≡ passed
    → (length (coordinates code i slots) ≡ 2 * length slots) × ((k : ℕ) → k < length slots → Each f slots code i k)

-- there are such calls, and symbols that are turned; and the point that a note of 004 (5.2.3.4) names, label E5, is on the second ring
pub record Some : Type 0 where
  pub plain : (pointed 33 0 none 0).number ≡ passed
  pub scrambled : (pointed 37 255 (some 262142) 133759).number ≡ passed
  pub is_turned : R 0 18 % 2 ≡ 1
  pub second-ring : on_ring 2 (entry_of 0xE5) ≡ true

pub record Waveform : Type 0 where
  pub on_rings : OnRings
  pub full : Full
  pub turns : (i q : Float) → Turns i q
  pub annex_E : AnnexE
  pub passes : Passes
  pub formats : Formats
  pub in-a-row : InARow
  pub some : Some
