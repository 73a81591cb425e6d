-- Encoding through an interleaver memory: the number that the call answers, the size that the memory holds then, and what is left
-- in each buffer.
use Rattle.std.specs.Prelude.{true, List, [], ◌∷◌, ◌++◌, ℕ, eqb, leb, length, drop, if◌then◌else◌, Result, Ok, Err}
use Rattle.bits.specs.Checks.{Check, ◌or_else◌, check_number, first_failed, passed, bad_element, short_memory}
use Rattle.bits.specs.declared.checks.Refusal.{Refusal}
use Rattle.acm.specs.Formats.{format_of}
use Rattle.interleaver.specs.Expanded.{expanded, expands}
use Rattle.encoder.specs.Calls.{encode_number, encode_workspace, encode_output}

-- the checks of the memory: its room and, if it is said to hold the format's size, its entries
abbrev pub memory_checks : ℕ → List ℕ → ℕ → List Check
memory_checks f memory held =
    leb (format_of f).i (length memory) or_else short_memory
    ∷ (if eqb held (format_of f).i then expands f memory else true) or_else bad_element
    ∷ []

-- behind those of encode
unfoldable pub shared_number : ℕ → List ℕ → ℕ → ℕ → List ℕ → ℕ → ℕ
shared_number f block work_room out_room memory held =
    if eqb (encode_number f block work_room out_room) passed
    then first_failed (memory_checks f memory held)
    else encode_number f block work_room out_room

-- an answer, as it is numbered: the size that the memory holds, 0 for none
pub record Shared : Type 0 where
  pub number : ℕ
  pub held : ℕ

-- of a call whose memory held so much before
abbrev pub answer_of : ℕ → Result ℕ Refusal → Shared
answer_of held (Ok size) = record { number = passed; held = size }
answer_of held (Err refusal) = record { number = check_number refusal; held = held }

-- the answer: the memory holds the format's size, on refusal what it held
unfoldable pub shared : ℕ → List ℕ → ℕ → ℕ → List ℕ → ℕ → Shared
shared f block work_room out_room memory held =
    if eqb (shared_number f block work_room out_room memory held) passed
    then record { number = passed; held = (format_of f).i }
    else record { number = shared_number f block work_room out_room memory held; held = held }

-- the memory: the format's expanded interleaver, and behind it what stood there
unfoldable pub shared_memory : ℕ → List ℕ → ℕ → ℕ → List ℕ → ℕ → List ℕ
shared_memory f block work_room out_room memory held =
    if eqb (shared_number f block work_room out_room memory held) passed
    then expanded f ++ drop (format_of f).i memory
    else memory

-- the other buffers, as encode leaves them
unfoldable pub shared_workspace : ℕ → List ℕ → List ℕ → List ℕ → List ℕ → ℕ → List ℕ
shared_workspace f block work out memory held =
    if eqb (shared_number f block (length work) (length out) memory held) passed
    then encode_workspace f block work out
    else work

unfoldable pub shared_output : ℕ → List ℕ → List ℕ → List ℕ → List ℕ → ℕ → List ℕ
shared_output f block work out memory held =
    if eqb (shared_number f block (length work) (length out) memory held) passed
    then encode_output f block work out
    else out
