-- Symbols in a row: where each one's coordinates stand.
use mathlib.Core.Path.{◌≡◌, refl}
use mathlib.Core.List.{List, [], ◌∷◌}
use Prim.Native.Nat.{ℕ, zero, suc, ◌+◌, ◌*◌, ◌<◌}
use native.Mathlib.Omega.{arith}
use lib.Ieee.{Float}
use lib.ListN.{length, get_or}
use Rattle.std.specs.Prelude.{Option}
use Rattle.waveform.specs.Waveform.{coordinates, symbol_point}

pub coordinates_length : (code : Option ℕ) (i : ℕ) (slots : List ℕ) → length (coordinates code i slots) ≡ 2 * length slots
unfolding coordinates
coordinates_length code i [] = refl
coordinates_length code i (slot ∷ slots) = omega (arith, coordinates_length code (i + 1) slots)

pub record At (code : Option ℕ) (i : ℕ) (slots : List ℕ) (d : Float) (k : ℕ) : Type 0 where
  pub in-phase : get_or (coordinates code i slots) (2 * k) d ≡ (symbol_point code (i + k) (get_or slots k 0)).i
  pub quadrature : get_or (coordinates code i slots) (2 * k + 1) d ≡ (symbol_point code (i + k) (get_or slots k 0)).q

pub coordinates_at : (code : Option ℕ) (i : ℕ) (slots : List ℕ) (d : Float) (k : ℕ) → k < length slots → At code i slots d k
unfolding coordinates
coordinates_at code i [] d k h = absurd (omega arith)
coordinates_at code i (slot ∷ slots) d zero h = let z : i + 0 ≡ i = omega arith in record { in-phase = rw z refl; quadrature = rw z refl }
coordinates_at code i (slot ∷ slots) d (suc k) h =
    let later : i + suc k ≡ i + 1 + k = omega arith in
    let two : 2 * suc k ≡ suc (suc (2 * k)) = omega arith in
    let three : 2 * suc k + 1 ≡ suc (suc (2 * k + 1)) = omega arith in
    let rest = coordinates_at code (i + 1) slots d k (omega arith) in
    record { in-phase = rw (later, two) rest.in-phase; quadrature = rw (later, three) rest.quadrature }
