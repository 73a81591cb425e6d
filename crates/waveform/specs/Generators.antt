-- The points as the code has them: by a generator that goes from symbol to symbol.
use Rattle.std.specs.Prelude.{List, [], ◌∷◌, ℕ, Option, Some, None, option_map}
use Rattle.std.specs.Float.Ieee.{Float}
use Rattle.constellation.specs.declared.Point.{Point}
use Rattle.constellation.specs.Points.{point_of, turned}
use Rattle.gold.specs.declared.steps.Generator.{Generator}
use Rattle.gold.specs.Generator.{generator_at, later, turns_of}

-- that of a code number, and none where there is no code number
abbrev pub generator_of : Option ℕ → ℕ → Option Generator
generator_of code i = option_map (λ n. generator_at n i) code

abbrev pub generated : Option Generator → Point → Point
generated None p = p
generated (Some g) p = turned (turns_of g) p

unfoldable pub generated_coordinates : Option Generator → List ℕ → List Float
generated_coordinates g [] = []
generated_coordinates g (slot ∷ slots) =
    let p = generated g (point_of slot) in
    p.i ∷ p.q ∷ generated_coordinates (option_map later g) slots
