-- The inner encoder, a bit at a time: the trellis' state, where each register goes on, and the counter of rate matching.
use Rattle.std.specs.Prelude.{List, ℕ, ◌+◌, eqb, set, if◌then◌else◌}
use Rattle.std.proofs.lemmas.List.Edits.{sets}
use Rattle.trellis.specs.Trellis.{State, parity, next, parities, termination}
use Rattle.puncture.specs.Puncture.{counted}
use Rattle.coder.specs.declared.steps.Coder.{Coder}

abbrev pub state_in : Coder → State
state_in c = c.state

-- a turn on the bit u, whose mark is 1 where the upper register keeps it: the coder and the output
abbrev pub turned : ℕ → ℕ → ℕ → ℕ → Coder → Coder
turned I Δ mark u c = record {
  state = next (state_in c) u;
  upper = if eqb mark 1 then c.upper + 1 else c.upper;
  lower = if (counted I Δ c.counter).kept then c.lower + 1 else c.lower;
  counter = (counted I Δ c.counter).counter;
}

abbrev pub stored : ℕ → Coder → List ℕ → List ℕ
stored u c out = set (set out c.upper u) c.lower (parity (state_in c) u)

-- the terminating bits
abbrev pub finished : Coder → List ℕ → List ℕ
finished c out =
    let t = termination (state_in c) in
    sets (sets out c.upper t) c.lower (parities (state_in c) t)
