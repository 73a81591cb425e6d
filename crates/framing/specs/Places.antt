-- For a receiver: where labels and pilots stand in a frame with pilots. The marker's first slot is slot 0.
use Rattle.std.specs.Prelude.{Bool, ◌&&◌, List, [], ◌∷◌, ℕ, suc, ◌+◌, ◌-◌, ◌*◌, ◌/◌, ◌%◌, leb, if◌then◌else◌}
use Rattle.header.specs.Header.{header_length}
use Rattle.pilots.specs.Pilots.{subsection_labels, subsection_length}

-- whether slot s is a pilot's
abbrev pub is_pilot : ℕ → Bool
is_pilot s = leb header_length s && leb subsection_labels ((s - header_length) % subsection_length)

-- the slot of label i
abbrev pub label_slot : ℕ → ℕ
label_slot i = header_length + (i / subsection_labels * subsection_length + i % subsection_labels)

-- slots, the first of them slot s, without the pilots'
abbrev pub without_from : ℕ → List ℕ → List ℕ
without_from s [] = []
without_from s (x ∷ xs) = if is_pilot s then without_from (suc s) xs else x ∷ without_from (suc s) xs

unfoldable pub without_pilots : List ℕ → List ℕ
without_pilots slots = without_from 0 slots
