-- One more column of bits behind the labels so far.
use Rattle.std.specs.Prelude.{List, [], ◌∷◌, ℕ, ◌+◌, ◌*◌}

abbrev pub appended : List ℕ → List ℕ → List ℕ
appended [] out = out
appended (b ∷ column) [] = []
appended (b ∷ column) (n ∷ out) = (2 * n + b) ∷ appended column out
