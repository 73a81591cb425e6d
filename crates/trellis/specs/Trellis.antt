-- The convolutional code of both trellises (4.2; 6, equations 6-1 to 6-4).
use Rattle.std.specs.Prelude.{Bool, ◌&&◌, List, [], ◌∷◌, ◌++◌, ℕ, ◌+◌, ◌*◌, ◌/◌, ◌%◌, leb, if◌then◌else◌}
use Rattle.bits.specs.Checks.{passed, bad_element}
use Rattle.bits.specs.Sum.{◌⊕◌}
use Rattle.trellis.specs.declared.state.Termination.{Termination}

-- the state x of equation 6-2, x.0 and x.1 its two bits
abbrev pub State : Type 0
State = ℕ × ℕ

abbrev pub zero-state : State
zero-state = (0, 0)

-- states add bit by bit (6-3)
infixl 68 ◌⊕ₛ◌
abbrev pub ◌⊕ₛ◌ : State → State → State
x ⊕ₛ y = (x.0 ⊕ y.0, x.1 ⊕ y.1)

-- equation 6-1 with the matrices of 6-4: on the bit u the step gives u and then this parity,
abbrev pub parity : State → ℕ → ℕ
parity x u = u ⊕ x.1

-- and goes on to this state
abbrev pub next : State → ℕ → State
next x u = (x.1, x.0 ⊕ x.1 ⊕ u)

-- The step in numbers: states are the numbers 2 * x0 + x1.
abbrev pub state_number : State → ℕ
state_number x = 2 * x.0 + x.1

abbrev pub state_of : ℕ → State
state_of s = (s / 2, s % 2)

abbrev pub is_state : ℕ → Bool
is_state s = leb s 3

-- an answer in numbers: the number of the check, the two output bits and the state that follows. A refusal has 0 in every other
-- field
pub record Stepped : Type 0 where
  pub number : ℕ
  pub systematic : ℕ
  pub parity : ℕ
  pub state : ℕ

abbrev pub step_refused : ℕ → Stepped
step_refused number = record { number = number; systematic = 0; parity = 0; state = 0 }

abbrev pub refused : Stepped
refused = step_refused bad_element

abbrev pub stepped : ℕ → ℕ → Stepped
stepped s u =
    if is_state s && leb u 1
    then record { number = passed; systematic = u; parity = parity (state_of s) u; state = state_number (next (state_of s) u) }
    else refused

-- A run from a state over a list of bits: each bit and its parity in turn, the parities alone, and the state that it ends in.
abbrev pub run : State → List ℕ → List ℕ
run x [] = []
run x (u ∷ us) = u ∷ parity x u ∷ run (next x u) us

abbrev pub parities : State → List ℕ → List ℕ
parities x [] = []
parities x (u ∷ us) = parity x u ∷ parities (next x u) us

abbrev pub ends : State → List ℕ → State
ends x [] = x
ends x (u ∷ us) = ends (next x u) us

-- Termination: two steps, each on the bit x0 ⊕ x1.
abbrev pub terminating : State → ℕ
terminating x = x.0 ⊕ x.1

abbrev pub termination : State → List ℕ
termination x = terminating x ∷ terminating (next x (terminating x)) ∷ []

abbrev pub termination_of : State → Termination
termination_of x =
    let u = terminating x in
    let v = terminating (next x u) in
    record { s0 = u; p0 = parity x u; s1 = v; p1 = parity (next x u) v }

-- the bits of a terminated run: those given, and the terminating ones
abbrev pub terminated_from : State → List ℕ → List ℕ
terminated_from x bits = bits ++ termination (ends x bits)

abbrev pub terminated : List ℕ → List ℕ
terminated bits = terminated_from zero-state bits

-- The outer trellis (4.2, figure 4-3): of the systematic bits and the parities, every systematic bit and the parities of the even steps are
-- kept, in the order s0 p0 s1 s2 p2 s3 and so on.
abbrev pub kept : List ℕ → List ℕ → List ℕ
kept [] ps = []
kept (s ∷ []) ps = []
kept (s ∷ t ∷ ss) [] = []
kept (s ∷ t ∷ ss) (p ∷ []) = []
kept (s ∷ t ∷ ss) (p ∷ q ∷ ps) = s ∷ p ∷ t ∷ kept ss ps

abbrev pub outer_from : State → List ℕ → List ℕ
outer_from x bits = kept (terminated_from x bits) (parities x (terminated_from x bits))

abbrev pub outer : List ℕ → List ℕ
outer block = outer_from zero-state block
