-- How the starting states are worked out (6, equations 6-6 and 6-7), from where the runs from 00 end and from the segments' lengths alone.
use Rattle.std.specs.Prelude.{List, [], ◌∷◌, ℕ, zero, suc, ◌-◌}
use Rattle.trellis.specs.Trellis.{State, zero-state, ◌⊕ₛ◌, state_number, state_of, next}

-- the matrix A to the power n, times x: n steps without input
abbrev pub propagated : ℕ → State → State
propagated zero x = x
propagated (suc n) x = propagated n (next x 0)

-- equation 6-6: the state after n bits from x, over which the run from 00 ends in the state with the number e
abbrev pub following : State → ℕ → ℕ → State
following x n e = propagated n x ⊕ₛ state_of e

-- so from each start the next one: at these cuts, the first of which ends a segment that begins at `from` in the state x
abbrev pub worked_from : State → ℕ → List ℕ → List ℕ → List ℕ
worked_from x from [] es = []
worked_from x from (c ∷ cs) [] = []
worked_from x from (c ∷ cs) (e ∷ es) =
    let y = following x (c - from) e in
    state_number y ∷ worked_from y c cs es

abbrev pub worked_out : List ℕ → List ℕ → List ℕ
worked_out cuts es = 0 ∷ worked_from zero-state 0 cuts es
