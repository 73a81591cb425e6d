-- The checks of the calls and their numbers; passed is the answer of a call that fails none.
use Rattle.std.specs.Prelude.{Bool, List, [], ◌∷◌, ℕ, if◌then◌else◌, Result, Ok, Err}
use Rattle.bits.specs.declared.checks.Refusal.{Refusal}
use Rattle.bits.specs.declared.checks.Refusal.TheVariants as refusal

abbrev pub passed : ℕ
passed = 0

abbrev pub bad_format : ℕ
bad_format = 1

abbrev pub bad_length : ℕ
bad_length = 2

abbrev pub bad_element : ℕ
bad_element = 3

abbrev pub short_workspace : ℕ
short_workspace = 4

abbrev pub short_output : ℕ
short_output = 5

abbrev pub bad_line : ℕ
bad_line = 6

abbrev pub bad_pattern : ℕ
bad_pattern = 7

abbrev pub bad_place : ℕ
bad_place = 8

abbrev pub bad_frame_length : ℕ
bad_frame_length = 9

abbrev pub other_frame_length : ℕ
other_frame_length = 10

abbrev pub block_waits : ℕ
block_waits = 11

abbrev pub many_cuts : ℕ
many_cuts = 12

abbrev pub bad_cut : ℕ
bad_cut = 13

abbrev pub bad_pilots : ℕ
bad_pilots = 14

abbrev pub short_memory : ℕ
short_memory = 15

abbrev pub bad_code : ℕ
bad_code = 16

abbrev pub no_way_back : ℕ
no_way_back = 17

abbrev pub bad_capture : ℕ
bad_capture = 18

abbrev pub bad_coordinate : ℕ
bad_coordinate = 19

-- a check: whether it holds, and its number
pub record Check : Type 0 where
  pub holds : Bool
  pub number : ℕ

infix 68 ◌or_else◌
abbrev pub ◌or_else◌ : Bool → ℕ → Check
b or_else n = record { holds = b; number = n }

-- the number of the first check that does not hold
abbrev pub first_failed : List Check → ℕ
first_failed [] = passed
first_failed (c ∷ cs) = if c.holds then first_failed cs else c.number

-- the number of a check that failed
abbrev pub check_number : Refusal → ℕ
check_number refusal.Format = bad_format
check_number refusal.Length = bad_length
check_number refusal.Element = bad_element
check_number refusal.Workspace = short_workspace
check_number refusal.Output = short_output
check_number refusal.Line = bad_line
check_number refusal.Pattern = bad_pattern
check_number refusal.Place = bad_place
check_number refusal.FrameLength = bad_frame_length
check_number refusal.ChannelLength = other_frame_length
check_number refusal.BlockWaits = block_waits
check_number refusal.CutCount = many_cuts
check_number refusal.CutPlace = bad_cut
check_number refusal.Pilots = bad_pilots
check_number refusal.Memory = short_memory
check_number refusal.Code = bad_code
check_number refusal.WayBack = no_way_back
check_number refusal.Capture = bad_capture
check_number refusal.Coordinate = bad_coordinate

-- the number of an answer, whatever else it tells
abbrev pub number_of : {A : Type 0} → Result A Refusal → ℕ
number_of (Ok _) = passed
number_of (Err refusal) = check_number refusal
