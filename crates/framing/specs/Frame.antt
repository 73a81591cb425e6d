-- The frame (figure 5-1; 5.3), and a codeword section of its labels.
use Rattle.std.specs.Prelude.{List, ◌++◌, ℕ, ◌+◌, ◌*◌, eqb, drop, take, if◌then◌else◌}
use Rattle.acm.specs.Formats.{symbols}
use Rattle.header.specs.Descriptor.{pilots_on}
use Rattle.header.specs.Header.{header_length, header}
use Rattle.pilots.specs.Pilots.{piloted_length, with_pilots}

-- codeword sections of a frame
abbrev pub sections : ℕ
sections = 16

abbrev pub frame_labels : ℕ
frame_labels = sections * symbols

-- what follows the header: a label's slot is the label
abbrev pub body : ℕ → List ℕ → List ℕ
body pilots labels = if eqb pilots pilots_on then with_pilots labels else labels

abbrev pub frame : ℕ → ℕ → List ℕ → List ℕ
frame f pilots labels = header f pilots ++ body pilots labels

-- the slots of a frame
abbrev pub frame_length : ℕ → ℕ
frame_length pilots = header_length + (if eqb pilots pilots_on then piloted_length frame_labels else frame_labels)

-- the codeword section at a place
abbrev pub section : List ℕ → ℕ → List ℕ
section labels place = take symbols (drop (place * symbols) labels)
