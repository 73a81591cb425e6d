-- Encoding by segments (6).
use Rattle.std.specs.Prelude.{◌≡◌, true, List, ℕ, ◌%◌, ◌≤◌, length, replicate}
use Rattle.bits.specs.Joined.{joined}
use Rattle.bits.specs.Legal.{all_bits}
use Rattle.acm.specs.Formats.{format_of}
use Rattle.trellis.specs.Trellis.{State}
use Rattle.encoder.specs.Calls.{encode_number, encode_workspace, encode_output}
use Rattle.cuts.specs.Cuts.{segments, end_states, start_states, most_cuts, is_inside, Cuts}
use Rattle.cuts.specs.Propagation.{propagated, worked_out}
use Rattle.segments.specs.Calls.{segments_number, segments_workspace, segments_output}

-- equation 6-6: the starting states that are worked out, from where the runs from 00 end and from the cuts alone, are those of the plain run;
-- at any number of cuts that do not fall and are inside the input
abbrev pub WorksOut : Type 0
WorksOut =
    (bits cuts : List ℕ) → all_bits bits ≡ true → is_inside (length bits) cuts ≡ true → worked_out cuts (end_states cuts bits) ≡ start_states cuts bits

-- equation 6-7: the powers of A have period 3
abbrev pub Cycles : Type 0
Cycles = (n : ℕ) (x : State) → x.0 ≤ 1 → x.1 ≤ 1 → propagated n x ≡ propagated (n % 3) x

-- the segments, one behind the other, are the input
abbrev pub Parts : Type 0
Parts = (bits cuts : List ℕ) → is_inside (length bits) cuts ≡ true → joined (segments cuts bits) ≡ bits

-- with any two such lists of at most fifteen cuts, the call answers encode's number and leaves its bytes, when it is refused too
pub record Plain (f : ℕ) (block work out outer_list inner_list : List ℕ) : Type 0 where
  pub number : segments_number f block (length work) (length out) outer_list inner_list ≡ encode_number f block (length work) (length out)
  pub workspace : segments_workspace f block work out outer_list inner_list ≡ encode_workspace f block work out
  pub output : segments_output f block work out outer_list inner_list ≡ encode_output f block work out

abbrev pub SameAsPlain : Type 0
SameAsPlain =
    (f : ℕ) (block work out outer_list inner_list : List ℕ) → Cuts (format_of f).k1 outer_list → Cuts (format_of f).i inner_list
    → Plain f block work out outer_list inner_list

-- and there are such lists: none to fifteen cuts at any place
abbrev pub Cuttable : Type 0
Cuttable = (long place n : ℕ) → place ≤ long → n ≤ most_cuts → Cuts long (replicate n place)

pub record Segmenting : Type 0 where
  pub works_out : WorksOut
  pub cycles : Cycles
  pub parts : Parts
  pub same_as_plain : SameAsPlain
  pub cuttable : Cuttable
