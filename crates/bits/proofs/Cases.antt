-- A test's two outcomes, each with its equation.
use mathlib.Core.Path.{◌≡◌, refl}
use mathlib.Core.Bool.{Bool, true, false}

pub by_cases : {P : Type 0} (b : Bool) → (b ≡ true → P) → (b ≡ false → P) → P
by_cases true yes-case no-case = yes-case refl
by_cases false yes-case no-case = no-case refl
