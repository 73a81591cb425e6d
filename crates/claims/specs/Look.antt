-- The block that follows a change of format, and the look ahead.
use Rattle.std.specs.Prelude.{◌≡◌, true, List, [], ◌∷◌, ◌++◌, ◌↔◌, ℕ, zero, suc, ◌≤◌, ◌<◌, length, take}
use Rattle.bits.specs.Checks.{passed}
use Rattle.acm.specs.Formats.{is_format, format_of}
use Rattle.waiting.specs.Waiting.{memory_length, waiting_bits}
use Rattle.slicer.specs.Calls.{most_frame, BlockAnswer, sliced}
use Rattle.slicer.specs.Change.{change_number, LookAnswer, looked}
use Rattle.claims.specs.Stream.{Call, Push, Block, Change, Channel, begun, call, calls}

-- what a channel answers to a call for a block
abbrev pub answered : Channel → List ℕ → BlockAnswer
answered c out = sliced c.slicer c.memory (length out)

-- format f is commanded, and a block handed out: it is the first of the bits that waited, as many as K of format f
pub record Follows (c : Channel) (f : ℕ) (out : List ℕ) : Type 0 where
  pub block : (calls c (Change f ∷ Block out ∷ [])).blocks ≡ c.blocks ++ (take (format_of f).k (waiting_bits c.slicer.waiting c.memory) ∷ [])
  pub long : (format_of f).k ≤ length (waiting_bits c.slicer.waiting c.memory)

abbrev pub NextBlock : Type 0
NextBlock =
    (c : Channel) (f : ℕ) (out : List ℕ) → change_number c.slicer f ≡ passed → (answered (call c (Change f)) out).block ≡ true → Follows c f out

-- the command, and then n calls for a block, lent out 0, out 1 and so on
abbrev pub commanded : ℕ → (ℕ → List ℕ) → ℕ → List Call
commanded f out zero = Change f ∷ []
commanded f out (suc n) = commanded f out n ++ (Block (out n) ∷ [])

-- they are made on a copy of a channel c
module _ (c : Channel) (f : ℕ) (out : ℕ → List ℕ) where
  abbrev pub after : ℕ → Channel
  after n = calls c (commanded f out n)

  -- what the call for a block that comes next answers
  abbrev pub next : ℕ → BlockAnswer
  next n = answered (after n) (out n)

  -- each of the first n calls for a block hands one out
  abbrev pub Blocks : ℕ → Type 0
  Blocks n = (k : ℕ) → k < n → (next k).block ≡ true

  -- no call is refused, up to the first that says "wait"
  pub record NoneRefused : Type 0 where
    pub change : change_number c.slicer f ≡ passed
    pub blocks : (n : ℕ) → Blocks n → (next n).number ≡ passed

  -- so many calls hand a block out, the next one says "wait", and so many bits wait
  pub record Ends (a : LookAnswer) : Type 0 where
    pub number : a.number ≡ passed
    pub blocks : Blocks a.blocks
    pub wait : (next a.blocks).wait ≡ true
    pub bits : (after a.blocks).slicer.waiting ≡ a.bits

-- where none is refused the calls come to an end, and the look's answer is what they come to, and no other is
abbrev pub Looks : Type 0
Looks = (c : Channel) (f : ℕ) (out : ℕ → List ℕ) → NoneRefused c f out → (a : LookAnswer) → (a ≡ looked c.slicer f) ↔ Ends c f out a

-- none is refused on any channel that was begun with a format that there is and memory of at least 600,000 bytes, whatever was called since, if
-- the commanded format is one and the outputs have room for its blocks
abbrev pub Passes : Type 0
Passes =
    (g : ℕ) → is_format g ≡ true → (memory : List ℕ) → memory_length ≤ length memory → (xs : List Call)
    → (f : ℕ) → is_format f ≡ true → (out : ℕ → List ℕ) → ((n : ℕ) → (format_of f).k ≤ length (out n))
    → NoneRefused (calls (begun g memory) xs) f out

-- and blocks are handed out: a first frame of the greatest length brings at least one of any format
abbrev pub Yields : Type 0
Yields =
    (g : ℕ) → is_format g ≡ true → (memory : List ℕ) → memory_length ≤ length memory → (frame : List ℕ) → length frame ≡ most_frame
    → (f : ℕ) → is_format f ≡ true → 1 ≤ (looked (call (begun g memory) (Push frame)).slicer f).blocks

pub record Looking : Type 0 where
  pub next-block : NextBlock
  pub looks : Looks
  pub none-refused : Passes
  pub some : Yields
