-- Calls on a slicer, each given slicer and memory as the last left them.
use Rattle.std.specs.Prelude.{◌≡◌, true, List, [], ◌∷◌, ◌++◌, ◌↔◌, ℕ, ◌≤◌, ◌<◌, eqb, length, take, if◌then◌else◌}
use Rattle.bits.specs.Checks.{passed}
use Rattle.bits.specs.Joined.{joined}
use Rattle.acm.specs.Formats.{is_format}
use Rattle.transfer.specs.Transfer.{stream}
use Rattle.waiting.specs.Waiting.{memory_length, waiting_bits}
use Rattle.slicer.specs.declared.Slicer.{Slicer}
use Rattle.slicer.specs.Calls.{least_frame, most_frame, fresh, K, fits_channel, push_number, pushed, push_memory, block_number, sliced, block_memory, block_output}
use Rattle.slicer.specs.Change.{change_number, changed}

-- a call, with its arguments besides slicer and memory: a transfer frame, an output as it is lent, or a commanded format
pub data Call : Type 0 where
  Push : List ℕ → Call
  Block : List ℕ → Call
  Change : ℕ → Call

-- a channel after some calls: slicer and memory, and in order the frames accepted and the blocks handed out
pub record Channel : Type 0 where
  pub slicer : Slicer
  pub memory : List ℕ
  pub frames : List (List ℕ)
  pub blocks : List (List ℕ)

-- with a fresh slicer of format f
abbrev pub begun : ℕ → List ℕ → Channel
begun f memory = record { slicer = fresh f; memory = memory; frames = []; blocks = [] }

-- a frame is accepted if push answers 0; a block is what stands in the first K bytes of the output, K being that of the format then in use
abbrev pub call : Channel → Call → Channel
call c (Push frame) =
    let answer = pushed c.slicer frame c.memory in
    record {
      slicer = answer.slicer;
      memory = push_memory c.slicer frame c.memory;
      frames = if eqb answer.number passed then c.frames ++ (frame ∷ []) else c.frames;
      blocks = c.blocks;
    }
call c (Block out) =
    let answer = sliced c.slicer c.memory (length out) in
    record {
      slicer = answer.slicer;
      memory = block_memory c.slicer c.memory (length out);
      frames = c.frames;
      blocks = if answer.block then c.blocks ++ (take (K c.slicer) (block_output c.slicer c.memory out) ∷ []) else c.blocks;
    }
call c (Change f) = record { slicer = (changed c.slicer f).slicer; memory = c.memory; frames = c.frames; blocks = c.blocks }

abbrev pub calls : Channel → List Call → Channel
calls c [] = c
calls c (x ∷ xs) = calls (call c x) xs

-- the blocks handed out, joined, and then the bits that wait, are the stream of the accepted frames
abbrev pub InOrder : Channel → Type 0
InOrder c = joined c.blocks ++ waiting_bits c.slicer.waiting c.memory ≡ stream c.frames

abbrev pub Streams : Type 0
Streams = (f : ℕ) (memory : List ℕ) (xs : List Call) → InOrder (calls (begun f memory) xs)

-- a call for a block that passes its checks says "wait" exactly if fewer than K bits wait
abbrev pub Waits : Type 0
Waits =
    (s : Slicer) (memory : List ℕ) (room : ℕ) → block_number s memory room ≡ passed
    → ((sliced s memory room).wait ≡ true) ↔ (s.waiting < K s)

-- a channel on which no call need be refused: every frame that is as long as it should be is taken in while fewer than K bits wait, a block is
-- handed out, or "wait" said, wherever the output has room for it, and the format may change to any that there is
pub record Open (c : Channel) : Type 0 where
  pub takes : (frame : List ℕ) → least_frame ≤ length frame → length frame ≤ most_frame → fits_channel c.slicer.octets (length frame) ≡ true
      → c.slicer.waiting < K c.slicer → push_number c.slicer (length frame) c.memory ≡ passed
  pub gives : (room : ℕ) → K c.slicer ≤ room → block_number c.slicer c.memory room ≡ passed
  pub changes : (f : ℕ) → is_format f ≡ true → change_number c.slicer f ≡ passed

-- so is every channel with a format that there is and memory of at least 600,000 bytes, after any calls
abbrev pub StaysOpen : Type 0
StaysOpen = (f : ℕ) → is_format f ≡ true → (memory : List ℕ) → memory_length ≤ length memory → (xs : List Call) → Open (calls (begun f memory) xs)

pub record Slicing : Type 0 where
  pub streams : Streams
  pub waits : Waits
  pub stays_open : StaysOpen
