-- A run: from the state with the number s, over a list of bits, into an output of so many bytes.
use Rattle.std.specs.Prelude.{◌&&◌, List, [], ◌∷◌, ◌++◌, ℕ, ◌*◌, eqb, leb, length, drop, if◌then◌else◌}
use Rattle.bits.specs.Checks.{Check, ◌or_else◌, first_failed, passed, bad_element, short_output}
use Rattle.bits.specs.Legal.{all_bits}
use Rattle.trellis.specs.Trellis.{state_number, state_of, is_state, run, ends}

abbrev pub run_checks : ℕ → List ℕ → ℕ → List Check
run_checks s bits room =
    (is_state s && all_bits bits) or_else bad_element
    ∷ leb (2 * length bits) room or_else short_output
    ∷ []

unfoldable pub run_number : ℕ → List ℕ → ℕ → ℕ
run_number s bits room = first_failed (run_checks s bits room)

-- an answer: the number of the check, and the number of the state that the run ends in. A refusal has the state 0
pub record Ran : Type 0 where
  pub number : ℕ
  pub state : ℕ

unfoldable pub ran : ℕ → List ℕ → ℕ → Ran
ran s bits room =
    if eqb (run_number s bits room) passed
    then record { number = passed; state = state_number (ends (state_of s) bits) }
    else record { number = run_number s bits room; state = 0 }

unfoldable pub run_output : ℕ → List ℕ → List ℕ → List ℕ
run_output s bits out =
    if eqb (run_number s bits (length out)) passed
    then run (state_of s) bits ++ drop (2 * length bits) out
    else out
