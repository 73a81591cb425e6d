-- The outer trellis's kept bits (4.2, figure 4-3), of a part of the run: which parities are kept goes by the step's number in the whole run.
use Rattle.std.specs.Prelude.{List, [], ◌∷◌, ℕ, ◌+◌, ◌/◌, ◌%◌, eqb, if◌then◌else◌}
use Rattle.trellis.specs.Trellis.{State, parity, next}

-- from the i-th step on
abbrev pub kept_from : ℕ → State → List ℕ → List ℕ
kept_from i x [] = []
kept_from i x (u ∷ us) =
    if eqb (i % 2) 0
    then u ∷ parity x u ∷ kept_from (i + 1) (next x u) us
    else u ∷ kept_from (i + 1) (next x u) us

-- where they stand: behind i systematic bits and the parities of the even steps among them
abbrev pub kept_before : ℕ → ℕ
kept_before i = i + (i + 1) / 2
