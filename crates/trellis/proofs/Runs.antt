-- Runs: over joined lists, their bits, where they end, and where a terminated one does.
use mathlib.Core.Path.{◌≡◌, refl, ap, ◌∙◌}
use mathlib.Core.Bool.{true}
use mathlib.Core.List.{List, [], ◌∷◌, ◌++◌}
use Prim.Native.Nat.{ℕ, zero, suc, ◌+◌, ◌*◌, ◌/◌, ◌%◌, ◌≤◌, ◌<◌}
use native.Mathlib.Omega.{arith}
use borrow.Author.Tests.{le-leb}
use lib.ListN.{length, get_or, length-append}
use Rattle.bits.specs.Legal.{all_bits}
use Rattle.bits.proofs.Legal.{legal-append}
use Rattle.trellis.specs.Trellis.{State, zero-state, state_number, state_of, parity, next, run, parities, ends, terminating, termination, terminated_from, terminated}

-- a run over two lists joined is the run over the first, and then over the second from where that ended
pub ends-append : (x : State) (a b : List ℕ) → ends x (a ++ b) ≡ ends (ends x a) b
ends-append x [] b = refl
ends-append x (u ∷ a) b = ends-append (next x u) a b

pub run-append : (x : State) (a b : List ℕ) → run x (a ++ b) ≡ run x a ++ run (ends x a) b
run-append x [] b = refl
run-append x (u ∷ a) b = rw (run-append (next x u) a b)

pub parities-append : (x : State) (a b : List ℕ) → parities x (a ++ b) ≡ parities x a ++ parities (ends x a) b
parities-append x [] b = refl
parities-append x (u ∷ a) b = rw (parities-append (next x u) a b)

pub run_length : (x : State) (bits : List ℕ) → length (run x bits) ≡ 2 * length bits
run_length x [] = refl
run_length x (u ∷ us) = omega (arith, run_length (next x u) us)

-- every second bit of a run is a bit that was given, and those between are the parities
pub run-alternates : (x : State) (bits : List ℕ) (i : ℕ) → i < length bits
    → (get_or (run x bits) (2 * i) 0 ≡ get_or bits i 0) × (get_or (run x bits) (2 * i + 1) 0 ≡ get_or (parities x bits) i 0)
run-alternates x [] i h = absurd (omega arith)
run-alternates x (u ∷ us) zero h = (refl, refl)
run-alternates x (u ∷ us) (suc i) h =
    let past : 2 * suc i ≡ suc (suc (2 * i)) = omega arith in
    let odd : 2 * suc i + 1 ≡ suc (suc (2 * i + 1)) = omega arith in
    rw (odd, past) (run-alternates (next x u) us i (omega arith))

pub parities-length : (x : State) (bits : List ℕ) → length (parities x bits) ≡ length bits
parities-length x [] = refl
parities-length x (u ∷ us) = ap suc (parities-length (next x u) us)

pub terminated-length : (x : State) (bits : List ℕ) → length (terminated_from x bits) ≡ length bits + 2
terminated-length x bits = length-append bits (termination (ends x bits))

-- parities and terminating bits are bits, whatever the state
pub parities-bits : (x : State) (bits : List ℕ) → all_bits (parities x bits) ≡ true
parities-bits x [] = refl
parities-bits x (u ∷ us) = rw (le-leb (parity x u) 1 (omega arith)) (parities-bits (next x u) us)

pub termination-bits : (x : State) → all_bits (termination x) ≡ true
termination-bits x =
    let t = terminating x in
    rw (le-leb t 1 (omega arith), le-leb (terminating (next x t)) 1 (omega arith))

pub terminated-bits : (x : State) (bits : List ℕ) → all_bits bits ≡ true → all_bits (terminated_from x bits) ≡ true
terminated-bits x bits h = legal-append 1 bits (termination (ends x bits)) h (termination-bits (ends x bits))

-- a state is found again from its number
pub state_back : (x : State) → x.1 ≤ 1 → state_of (state_number x) ≡ x
state_back x h =
    let first : (2 * x.0 + x.1) / 2 ≡ x.0 = omega arith in
    let second : (2 * x.0 + x.1) % 2 ≡ x.1 = omega arith in
    rw (first, second)

-- a state of two bits stays one, with a number from 0 to 3
pub ends-bits : (x : State) (bits : List ℕ) → x.0 ≤ 1 → x.1 ≤ 1 → ((ends x bits).0 ≤ 1) × ((ends x bits).1 ≤ 1)
ends-bits x [] h k = (h, k)
ends-bits x (u ∷ us) h k = ends-bits (next x u) us k (omega arith)

module _ (s : ℕ) (bits : List ℕ) (h : s ≤ 3) where
  abbrev end : State
  end = ends (state_of s) bits

  two_bits : (end.0 ≤ 1) × (end.1 ≤ 1)
  two_bits = ends-bits (state_of s) bits (omega arith) (omega arith)

  pub end_state_lem : state_number end ≤ 3
  end_state_lem = omega (arith, two_bits.0, two_bits.1)

  pub end_back : state_of (state_number end) ≡ end
  end_back = state_back end two_bits.1

-- the two terminating steps end in the state 00, from any state
pub terminates : (x : State) → ends x (termination x) ≡ zero-state
terminates x =
    let t = terminating x in
    let y = next x t in
    let first : y.1 ≡ 0 = omega arith in
    let second : (next y (terminating y)).1 ≡ 0 = omega arith in
    rw (second, first)

-- so a terminated run ends there, for every list of bits
pub terminated-ends : (bits : List ℕ) → ends zero-state (terminated bits) ≡ zero-state
terminated-ends bits = ends-append zero-state bits (termination (ends zero-state bits)) ∙ terminates (ends zero-state bits)
