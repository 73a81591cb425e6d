-- The segmented machine (6): the input of a trellis is cut into segments. The states where each begins, and where its run from 00 ends.
use Rattle.std.specs.Prelude.{Bool, true, ◌&&◌, List, [], ◌∷◌, ◌++◌, map, ◌≡◌, ℕ, ◌+◌, ◌-◌, leb, length, take, drop, replicate}
use Rattle.bits.specs.Legal.{all_at_most}
use Rattle.trellis.specs.Trellis.{zero-state, state_number, ends}
use Rattle.cuts.specs.declared.States.{States}

-- n cuts make n + 1 segments of an input of so many bits: each ends at its cut, the last at the input's end
abbrev pub stops : ℕ → List ℕ → List ℕ
stops long cuts = cuts ++ (long ∷ [])

-- the bits from one place up to another
abbrev pub between : ℕ → ℕ → List ℕ → List ℕ
between from to bits = take (to - from) (drop from bits)

-- the segments that end at these places, the first of which begins at `from`
abbrev pub segments_from : ℕ → List ℕ → List ℕ → List (List ℕ)
segments_from from [] bits = []
segments_from from (to ∷ later) bits = between from to bits ∷ segments_from to later bits

abbrev pub segments : List ℕ → List ℕ → List (List ℕ)
segments cuts bits = segments_from 0 (stops (length bits) cuts) bits

-- the state in which a run from 00 ends, as its number
abbrev pub end_state : List ℕ → ℕ
end_state bits = state_number (ends zero-state bits)

-- FS of equation 6-6: where the run from 00 over each segment ends
abbrev pub end_states : List ℕ → List ℕ → List ℕ
end_states cuts bits = map end_state (segments cuts bits)

-- x(0) of equation 6-6: the state that the plain run, over all the bits before it, has where each segment begins
abbrev pub start_states : List ℕ → List ℕ → List ℕ
start_states cuts bits = map (λ c. end_state (take c bits)) (0 ∷ cuts)

-- A list of cuts has at most fifteen,
abbrev pub most_cuts : ℕ
most_cuts = 15

abbrev pub is_few : List ℕ → Bool
is_few cuts = leb (length cuts) most_cuts

-- none of which falls below the one before it or is above the input's length
abbrev pub rises_from : ℕ → List ℕ → Bool
rises_from from [] = true
rises_from from (c ∷ cs) = leb from c && rises_from c cs

abbrev pub is_inside : ℕ → List ℕ → Bool
is_inside long cuts = rises_from 0 cuts && all_at_most long cuts

-- a list that passes both checks, for an input of so many bits
pub record Cuts (long : ℕ) (cuts : List ℕ) : Type 0 where
  pub few : is_few cuts ≡ true
  pub inside : is_inside long cuts ≡ true

-- sixteen states, 0 past the last segment
abbrev pub most_segments : ℕ
most_segments = most_cuts + 1

abbrev pub padded : List ℕ → List ℕ
padded states = states ++ replicate (most_segments - length states) 0

-- the states of the segments of an input, and those of a refusal
abbrev pub states_of : List ℕ → List ℕ → States
states_of cuts bits = record { ended = padded (end_states cuts bits); started = padded (start_states cuts bits) }

abbrev pub no_states : States
no_states = record { ended = replicate most_segments 0; started = replicate most_segments 0 }
