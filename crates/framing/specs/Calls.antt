-- The calls: the number that each answers, and what it leaves in the output or hands back.
use Rattle.std.specs.Prelude.{List, [], ◌∷◌, ◌++◌, ℕ, leb, ltb, eqb, length, drop, if◌then◌else◌}
use Rattle.bits.specs.Checks.{Check, ◌or_else◌, first_failed, passed, bad_format, bad_length, bad_element, short_output, bad_place, bad_pilots}
use Rattle.bits.specs.Legal.{all_at_most}
use Rattle.acm.specs.Formats.{is_format, top_label}
use Rattle.header.specs.Descriptor.{pilots_on}
use Rattle.framing.specs.Frame.{sections, frame_labels, frame_length, frame, section}

-- frame: the labels are lent, and an output of so many slots
abbrev pub frame_checks : ℕ → ℕ → List ℕ → ℕ → List Check
frame_checks f pilots labels room =
    is_format f or_else bad_format
    ∷ leb pilots pilots_on or_else bad_pilots
    ∷ eqb (length labels) frame_labels or_else bad_length
    ∷ all_at_most (top_label f) labels or_else bad_element
    ∷ leb (frame_length pilots) room or_else short_output
    ∷ []

unfoldable pub frame_number : ℕ → ℕ → List ℕ → ℕ → ℕ
frame_number f pilots labels room = first_failed (frame_checks f pilots labels room)

unfoldable pub frame_output : ℕ → ℕ → List ℕ → List ℕ → List ℕ
frame_output f pilots labels out =
    if eqb (frame_number f pilots labels (length out)) passed
    then frame f pilots labels ++ drop (frame_length pilots) out
    else out

-- section: any byte is a label, since no format is given
abbrev pub section_checks : List ℕ → ℕ → List Check
section_checks labels place =
    eqb (length labels) frame_labels or_else bad_length
    ∷ ltb place sections or_else bad_place
    ∷ []

unfoldable pub section_number : List ℕ → ℕ → ℕ
section_number labels place = first_failed (section_checks labels place)

unfoldable pub section_labels : List ℕ → ℕ → List ℕ
section_labels labels place =
    if eqb (section_number labels place) passed
    then section labels place
    else []
