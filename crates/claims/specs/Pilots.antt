-- Pilots.
use Rattle.std.specs.Prelude.{◌≡◌, true, List, [], ◌∷◌, ◌++◌, ◌↔◌, ℕ, ◌+◌, ◌*◌, ◌≤◌, ◌<◌, leb, eqb, length, get_or, take, drop, replicate, if◌then◌else◌}
use Rattle.bits.specs.Checks.{◌or_else◌, first_failed, passed, bad_format, bad_length, bad_element, short_output}
use Rattle.bits.specs.Legal.{all_at_most}
use Rattle.acm.specs.Formats.{symbols, is_format, top_label}
use Rattle.header.specs.Marker.{marker_length, marker}
use Rattle.header.specs.Descriptor.{descriptor, pilots_off, pilots_on}
use Rattle.header.specs.Header.{header_length, header_zero, header_one, header_slots}
use Rattle.pilots.specs.Pilots.{subsection_labels, subsection_pilots, pilot, with_pilots, piloted_length}
use Rattle.framing.specs.Frame.{sections, frame_labels, frame_length, frame, section}
use Rattle.framing.specs.Calls.{frame_number, frame_output}
use Rattle.framing.specs.Places.{is_pilot, label_slot, without_pilots}

-- The call as it was before there was a choice: its checks, and what it left in the output.
abbrev pub number01 : ℕ → List ℕ → ℕ → ℕ
number01 f labels room =
    first_failed
    (is_format f or_else bad_format
    ∷ eqb (length labels) 129600 or_else bad_length
    ∷ all_at_most (top_label f) labels or_else bad_element
    ∷ leb 129920 room or_else short_output
    ∷ [])

abbrev pub output01 : ℕ → List ℕ → List ℕ → List ℕ
output01 f labels out =
    if eqb (number01 f labels (length out)) passed
    then header_slots (marker ++ descriptor f 0) ++ labels ++ drop 129920 out
    else out

-- without pilots the call is what it was, for every argument
abbrev pub Stays : Type 0
Stays =
    (f : ℕ) (labels out : List ℕ)
    → (frame_number f pilots_off labels (length out) ≡ number01 f labels (length out)) × (frame_output f pilots_off labels out ≡ output01 f labels out)

-- sixteen codewords' labels of format f
pub record FrameLabels (f : ℕ) (labels : List ℕ) : Type 0 where
  pub long : length labels ≡ frame_labels
  pub legal : all_at_most (top_label f) labels ≡ true

-- where a receiver finds what: a slot is 258 if it is a pilot's and else not; label i has a slot of its own; section k, with its own pilots,
-- follows the k before it
pub record Placed (f : ℕ) (labels : List ℕ) : Type 0 where
  pub pilots : (s : ℕ) → s < frame_length pilots_on → (get_or (frame f pilots_on labels) s 0 ≡ pilot) ↔ (is_pilot s ≡ true)
  pub labels_at : (i : ℕ) → i < frame_labels → get_or (frame f pilots_on labels) (label_slot i) 0 ≡ get_or labels i 0
  pub parts : (k : ℕ) → k < sections
      → take (piloted_length symbols) (drop (header_length + k * piloted_length symbols) (frame f pilots_on labels)) ≡ with_pilots (section labels k)

abbrev pub Places : Type 0
Places = (f : ℕ) → is_format f ≡ true → (labels : List ℕ) → FrameLabels f labels → Placed f labels

-- the slots a are as many as the slots b and the same, but for the descriptor's, of which each bit is turned over
pub record Turned (a b : List ℕ) : Type 0 where
  pub long : length a ≡ length b
  pub before : (s : ℕ) → s < marker_length → get_or a s 0 ≡ get_or b s 0
  pub descriptor : (s : ℕ) → marker_length ≤ s → s < header_length → get_or a s 0 + get_or b s 0 ≡ header_zero + header_one
  pub behind : (s : ℕ) → header_length ≤ s → get_or a s 0 ≡ get_or b s 0

-- so are those of a frame with pilots, without the pilots' slots, and those of the frame without
abbrev pub TakesOut : Type 0
TakesOut = (f : ℕ) (labels : List ℕ) → Turned (without_pilots (frame f pilots_on labels)) (frame f pilots_off labels)

-- the call passes them with either choice; and in every format there are some, zeros for one
abbrev pub Passes : Type 0
Passes =
    (f pilots : ℕ) → is_format f ≡ true → pilots ≤ pilots_on → (labels : List ℕ) → FrameLabels f labels
    → frame_number f pilots labels (frame_length pilots) ≡ passed

abbrev pub Some : Type 0
Some = (f : ℕ) → FrameLabels f (replicate frame_labels 0)

-- table 5-2, and the number of slots of a frame with pilots
pub record Counts : Type 0 where
  pub subsections : symbols ≡ 15 * subsection_labels
  pub section-pilots : 15 * subsection_pilots ≡ 240
  pub section-slots : piloted_length symbols ≡ 8340
  pub slots : frame_length pilots_on ≡ 133760

pub record Piloting : Type 0 where
  pub stays : Stays
  pub places : Places
  pub takes_out : TakesOut
  pub passes : Passes
  pub some : Some
  pub counts : Counts
