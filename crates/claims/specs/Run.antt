-- A trellis run from any state x, and the calls for one, which take the state's number s.
use Rattle.std.specs.Prelude.{◌≡◌, true, List, ◌++◌, ℕ, ◌+◌, ◌*◌, ◌≤◌, ◌<◌, length, get_or, take, drop}
use Rattle.bits.specs.Checks.{passed}
use Rattle.bits.specs.Legal.{all_bits}
use Rattle.trellis.specs.Run.{run_number, ran, run_output}
use Rattle.trellis.specs.Trellis.{State, run, parities, ends}

-- a run over two lists joined is the run over the first, then over the second from where that ended: the bits written, and the state
pub record Joined (x : State) (a b : List ℕ) : Type 0 where
  pub bits : run x (a ++ b) ≡ run x a ++ run (ends x a) b
  pub state : ends x (a ++ b) ≡ ends (ends x a) b

abbrev pub Joins : Type 0
Joins = (x : State) (a b : List ℕ) → Joined x a b

-- so it is with the calls: one over a, and then one over b from the state that it answered, into what it left of the output
module _ (s : ℕ) (a b out : List ℕ) where
  abbrev pub middle : ℕ
  middle = (ran s a (length out)).state

  abbrev pub rest : List ℕ
  rest = drop (2 * length a) (run_output s a out)

  -- the second answers what the call over both lists answers, number and state; if that passes, the two have written what it writes
  pub record Resumed : Type 0 where
    pub answer : ran s (a ++ b) (length out) ≡ ran middle b (length rest)
    pub output : run_number s (a ++ b) (length out) ≡ passed
        → run_output s (a ++ b) out ≡ take (2 * length a) (run_output s a out) ++ run_output middle b rest

-- whatever the second list is, if the first call passes
abbrev pub Resumes : Type 0
Resumes = (s : ℕ) (a b out : List ℕ) → run_number s a (length out) ≡ passed → Resumed s a b out

-- a run that passes may be stopped anywhere: its first part passes too
abbrev pub Stops : Type 0
Stops = (s : ℕ) (a b : List ℕ) (room : ℕ) → run_number s (a ++ b) room ≡ passed → run_number s a room ≡ passed

-- and there are such: from each of the four states, over any bits, into any output with two bytes for each of them
abbrev pub Passes : Type 0
Passes = (s : ℕ) → s ≤ 3 → (bits : List ℕ) → all_bits bits ≡ true → (room : ℕ) → 2 * length bits ≤ room → run_number s bits room ≡ passed

-- what a run writes is each bit and its parity; the parities are those of which the encoder's registers are made
abbrev pub Alternates : Type 0
Alternates =
    (x : State) (bits : List ℕ) (i : ℕ) → i < length bits
    → (get_or (run x bits) (2 * i) 0 ≡ get_or bits i 0) × (get_or (run x bits) (2 * i + 1) 0 ≡ get_or (parities x bits) i 0)

pub record Running : Type 0 where
  pub joins : Joins
  pub resumes : Resumes
  pub stops : Stops
  pub passes : Passes
  pub alternates : Alternates
