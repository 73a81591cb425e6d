-- The slicer's calls (000, 3.4): what each answers, and what it leaves in each buffer.
use Rattle.std.specs.Prelude.{Bool, true, false, ◌&&◌, ◌||◌, not, List, [], ◌∷◌, ◌++◌, ℕ, ◌+◌, ◌-◌, eqb, leb, ltb, length, take, drop, if◌then◌else◌, Result, Ok, Err}
use Rattle.bits.specs.Checks.{Check, ◌or_else◌, first_failed, check_number, passed, bad_format, short_output, bad_frame_length, other_frame_length, block_waits}
use Rattle.bits.specs.declared.checks.Refusal.{Refusal}
use Rattle.acm.specs.Formats.{is_format, format_of}
use Rattle.transfer.specs.Transfer.{sync_marked}
use Rattle.waiting.specs.Waiting.{waiting_checks, behind, advanced}
use Rattle.slicer.specs.declared.Slicer.{Slicer}
use Rattle.slicer.specs.declared.Sliced.{Sliced}
use Rattle.slicer.specs.declared.Sliced.TheVariants.{Block, Wait}

-- octets of the shortest and of the longest transfer frame (004, 3.2.2)
abbrev pub least_frame : ℕ
least_frame = 223

abbrev pub most_frame : ℕ
most_frame = 65536

abbrev pub fresh : ℕ → Slicer
fresh f = record { format = f; octets = 0; waiting = 0 }

-- bits of a block in the slicer's format
abbrev pub K : Slicer → ℕ
K s = (format_of s.format).k

-- all frames of a channel are as long as its first, 0 standing for none yet
abbrev pub fits_channel : ℕ → ℕ → Bool
fits_channel first octets = eqb first 0 || eqb first octets

-- an answer in numbers: the number of the check that failed, 0 if none did, and the slicer, as it came if one did
pub record Answer : Type 0 where
  pub number : ℕ
  pub slicer : Slicer

-- what a call on a slicer answers
abbrev pub answer_of : Slicer → Result Slicer Refusal → Answer
answer_of s (Ok after) = record { number = passed; slicer = after }
answer_of s (Err refusal) = record { number = check_number refusal; slicer = s }

-- push: a frame of so many octets
abbrev pub push_checks : Slicer → ℕ → List ℕ → List Check
push_checks s octets memory =
    is_format s.format or_else bad_format
    ∷ (leb least_frame octets && leb octets most_frame) or_else bad_frame_length
    ∷ fits_channel s.octets octets or_else other_frame_length
    ∷ ltb s.waiting (K s) or_else block_waits
    ∷ waiting_checks s.waiting memory

unfoldable pub push_number : Slicer → ℕ → List ℕ → ℕ
push_number s octets memory = first_failed (push_checks s octets memory)

-- a slicer that has taken a frame in
abbrev pub with_frame : Slicer → List ℕ → Slicer
with_frame s frame = record { format = s.format; octets = length frame; waiting = s.waiting + length (sync_marked frame) }

unfoldable pub pushed : Slicer → List ℕ → List ℕ → Answer
pushed s frame memory =
    let number = push_number s (length frame) memory in
    record { number = number; slicer = if eqb number passed then with_frame s frame else s }

unfoldable pub push_memory : Slicer → List ℕ → List ℕ → List ℕ
push_memory s frame memory =
    if eqb (push_number s (length frame) memory) passed
    then behind s.waiting (sync_marked frame) memory
    else memory

-- block: an output of so many bytes is lent
abbrev pub block_checks : Slicer → List ℕ → ℕ → List Check
block_checks s memory room =
    is_format s.format or_else bad_format
    ∷ (waiting_checks s.waiting memory ++ (leb (K s) room or_else short_output ∷ []))

unfoldable pub block_number : Slicer → List ℕ → ℕ → ℕ
block_number s memory room = first_failed (block_checks s memory room)

-- a slicer that has handed a block out
abbrev pub without_block : Slicer → Slicer
without_block s = record { format = s.format; octets = s.octets; waiting = s.waiting - K s }

-- an answer in numbers: a block is handed out, or "wait" said, which has the number 0 too, or the call is refused
pub record BlockAnswer : Type 0 where
  pub number : ℕ
  pub block : Bool
  pub wait : Bool
  pub slicer : Slicer

abbrev pub handed : Slicer → BlockAnswer
handed s = record { number = passed; block = true; wait = false; slicer = s }

abbrev pub waits : Slicer → BlockAnswer
waits s = record { number = passed; block = false; wait = true; slicer = s }

abbrev pub refused : ℕ → Slicer → BlockAnswer
refused number s = record { number = number; block = false; wait = false; slicer = s }

-- what a call on a slicer answers
abbrev pub block_answer_of : Slicer → Result Sliced Refusal → BlockAnswer
block_answer_of s (Ok (Block after)) = handed after
block_answer_of s (Ok Wait) = waits s
block_answer_of s (Err refusal) = refused (check_number refusal) s

unfoldable pub sliced : Slicer → List ℕ → ℕ → BlockAnswer
sliced s memory room =
    if not (eqb (block_number s memory room) passed) then refused (block_number s memory room) s
    else (if ltb s.waiting (K s) then waits s
    else handed (without_block s))

unfoldable pub block_memory : Slicer → List ℕ → ℕ → List ℕ
block_memory s memory room =
    if (sliced s memory room).block
    then advanced (K s) (s.waiting - K s) memory
    else memory

unfoldable pub block_output : Slicer → List ℕ → List ℕ → List ℕ
block_output s memory out =
    if (sliced s memory (length out)).block
    then take (K s) memory ++ drop (K s) out
    else out
