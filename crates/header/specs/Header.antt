-- The slots of the header: the marker (5.1), then the descriptor (5.2).
use Rattle.std.specs.Prelude.{List, ◌++◌, map, ℕ, ◌+◌, eqb, if◌then◌else◌}
use Rattle.header.specs.Marker.{marker_length, marker}
use Rattle.header.specs.Descriptor.{descriptor_length, descriptor}

abbrev pub header_length : ℕ
header_length = marker_length + descriptor_length

-- the slots of a marker or descriptor bit
abbrev pub header_zero : ℕ
header_zero = 256

abbrev pub header_one : ℕ
header_one = 257

abbrev pub header_code : ℕ → ℕ
header_code bit = if eqb bit 0 then header_zero else header_one

abbrev pub header_slots : List ℕ → List ℕ
header_slots bits = map header_code bits

unfoldable pub header : ℕ → ℕ → List ℕ
header f pilots = header_slots (marker ++ descriptor f pilots)
