-- Three frames make a frame (document 02, L13).
use Rattle.std.specs.Prelude.{◌≡◌, true, List, [], ◌∷◌, map, ℕ, ◌*◌, ◌≤◌, ◌<◌, bit_xor, length, get_or, take, ⊤}
use Rattle.std.specs.List.{All}
use Rattle.bits.specs.Joined.{joined}
use Rattle.bits.specs.Three.{xored, lists_xored}
use Rattle.acm.specs.Formats.{is_format, format_of}
use Rattle.transfer.specs.Transfer.{stream}
use Rattle.slicer.specs.Calls.{least_frame, most_frame}
use Rattle.header.specs.Header.{header_length}
use Rattle.framing.specs.Frame.{sections, frame, frame_length}
use Rattle.claims.specs.Demand3.{Block as IsBlock, block_labels}
use Rattle.claims.specs.Stream.{Call, Push, Block, Change, begun, calls}

-- a call that changes the format to no other than f
abbrev pub InFormat : ℕ → Call → Type 0
InFormat f (Push frame) = ⊤
InFormat f (Block out) = ⊤
InFormat f (Change g) = g ≡ f

-- Frames through a fresh slicer of format f: in some memory any calls were made, in any order, of which none changed the format. Accepted were
-- just these frames and handed out just these blocks, sixteen or more; calls that are refused change neither.
pub record Through (f : ℕ) (frames blocks : List (List ℕ)) : Type 0 where
  pub memory : List ℕ
  pub made : List Call
  pub one_format : All (InFormat f) made
  pub accepted : (calls (begun f memory) made).frames ≡ frames
  pub handed : (calls (begun f memory) made).blocks ≡ blocks
  pub enough : sections ≤ length blocks

-- the frame that the first sixteen blocks make: encode, labels, frame
abbrev pub built : ℕ → ℕ → List (List ℕ) → List ℕ
built f pilots blocks = frame f pilots (joined (map (block_labels f) (take sections blocks)))

-- so many transfer frames, all of n octets
pub record Frames (count n : ℕ) (frames : List (List ℕ)) : Type 0 where
  pub many : length frames ≡ count
  pub long : All (λ (frame : List ℕ). length frame ≡ n) frames

-- of three equally long lists of frames of one length, in one format and with one choice of pilots: the frame of the list that is their exclusive
-- or, octet by octet, is the exclusive or of their three frames, slot by slot
abbrev pub Adds : Type 0
Adds =
    (f : ℕ) → is_format f ≡ true → (pilots count n : ℕ) (us vs ws ps qs rs ds : List (List ℕ))
    → Frames count n us → Frames count n vs → Frames count n ws
    → Through f us ps → Through f vs qs → Through f ws rs → Through f (lists_xored us vs ws) ds
    → built f pilots ds ≡ xored (built f pilots ps) (built f pilots qs) (built f pilots rs)

-- two do not: each slot of the header is 0 in the exclusive or of two such frames, and in no frame
abbrev pub TwoDoNot : Type 0
TwoDoNot =
    (f pilots : ℕ) (ps qs : List (List ℕ)) (s : ℕ) → s < header_length
    → (bit_xor (get_or (built f pilots ps) s 0) (get_or (built f pilots qs) s 0) ≡ 0) × (0 < get_or (built f pilots ps) s 0)

-- in whatever order the calls were made: frames that went through two fresh slicers make one frame
abbrev pub AnyOrder : Type 0
AnyOrder = (f pilots : ℕ) (frames ps qs : List (List ℕ)) → Through f frames ps → Through f frames qs → built f pilots ps ≡ built f pilots qs

-- and it is a frame: each of its blocks has K ones and zeros, and it has all its slots
pub record Whole (f pilots : ℕ) (blocks : List (List ℕ)) : Type 0 where
  pub each : All (IsBlock f) blocks
  pub long : length (built f pilots blocks) ≡ frame_length pilots

abbrev pub Made : Type 0
Made = (f : ℕ) → is_format f ≡ true → (pilots : ℕ) (frames blocks : List (List ℕ)) → Through f frames blocks → Whole f pilots blocks

-- the exclusive or of three such lists is such a list
abbrev pub Again : Type 0
Again = (count n : ℕ) (us vs ws : List (List ℕ)) → Frames count n us → Frames count n vs → Frames count n ws → Frames count n (lists_xored us vs ws)

-- and such a list goes through a fresh slicer, in every format, if its stream has the bits of sixteen blocks
abbrev pub Goes : Type 0
Goes =
    (f : ℕ) → is_format f ≡ true → (count n : ℕ) → least_frame ≤ n → n ≤ most_frame → (frames : List (List ℕ)) → Frames count n frames
    → sections * (format_of f).k ≤ length (stream frames) → (blocks : List (List ℕ)) × Through f frames blocks

-- the least: in format 1 one frame of 11,512 octets
abbrev pub Least : Type 0
Least = (frame : List ℕ) → length frame ≡ 11512 → (blocks : List (List ℕ)) × Through 1 (frame ∷ []) blocks

pub record ThreeFrames : Type 0 where
  pub adds : Adds
  pub two_do_not : TwoDoNot
  pub any_order : AnyOrder
  pub made : Made
  pub again : Again
  pub goes : Goes
  pub least : Least
