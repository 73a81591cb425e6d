-- The number of a call, where every check but the last holds.
use mathlib.Core.Path.{◌≡◌, refl}
use mathlib.Core.Bool.{true}
use mathlib.Core.List.{List, [], ◌∷◌}
use Prim.Native.Nat.{ℕ, ◌≤◌, ◌<◌}
use borrow.Author.Tests.{le-leb, lt-ltb}
use lib.Dec.{leb}
use Rattle.bits.specs.Checks.{Check, ◌or_else◌, passed, short_output}
use Rattle.bits.proofs.Passed.{fails_later}
use Rattle.acm.specs.Formats.{is_format}
use Rattle.waiting.specs.Waiting.{memory_length, waiting_checks, waiting_number}
use Rattle.slicer.specs.declared.Slicer.{Slicer}
use Rattle.slicer.specs.Calls.{least_frame, most_frame, K, fits_channel, push_number, block_number}
use Rattle.slicer.specs.Change.{change_number}

pub push_last : (s : Slicer) (octets : ℕ) (memory : List ℕ) → is_format s.format ≡ true → least_frame ≤ octets → octets ≤ most_frame
    → fits_channel s.octets octets ≡ true → s.waiting < K s → waiting_number s.waiting memory ≡ push_number s octets memory
unfolding push_number waiting_number
push_last s octets memory known least most fits few = simp (known, le-leb _ _ least, le-leb _ _ most, fits, lt-ltb _ _ few)

pub block-fits : (s : Slicer) (memory : List ℕ) (room : ℕ) → is_format s.format ≡ true → waiting_number s.waiting memory ≡ passed → K s ≤ room
    → passed ≡ block_number s memory room
unfolding block_number waiting_number
block-fits s memory room known sound fits =
    let last : List Check = leb (K s) room or_else short_output ∷ [] in
    rw (known, fails_later (waiting_checks s.waiting memory) last refl sound, le-leb _ _ fits)

pub change-fits : (s : Slicer) (f : ℕ) → is_format s.format ≡ true → is_format f ≡ true → s.waiting ≤ memory_length → passed ≡ change_number s f
unfolding change_number
change-fits s f own known few = simp (own, known, le-leb _ _ few)
