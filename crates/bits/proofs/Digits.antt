-- One more digit behind the others.
use mathlib.Core.Path.{◌≡◌, refl}
use mathlib.Core.List.{List, [], ◌∷◌, ◌++◌}
use Prim.Native.Nat.{ℕ, ◌+◌, ◌*◌}
use Rattle.bits.specs.Digits.{value_from}

pub value-last : (base n : ℕ) (ds : List ℕ) (d : ℕ) → value_from base n (ds ++ d ∷ []) ≡ base * value_from base n ds + d
value-last base n [] d = refl
value-last base n (c ∷ ds) d = value-last base (base * n + c) ds d
