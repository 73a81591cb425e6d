-- A captured unit judged (document 02, L14): its samples against the labels of a codeword.
use Rattle.std.specs.Prelude.{Bool, true, false, not, ◌&&◌, List, [], ◌∷◌, ◌++◌, ℕ, suc, ◌+◌, eqb, length, if◌then◌else◌, Option, Some, None, option_map, Result, Ok, Err}
use Rattle.bits.specs.Checks.{Check, ◌or_else◌, check_number, first_failed, passed, bad_format, bad_length, bad_element, bad_capture, bad_coordinate}
use Rattle.bits.specs.Legal.{all_at_most}
use Rattle.bits.specs.declared.checks.Refusal.{Refusal}
use Rattle.acm.specs.Formats.{symbols}
use Rattle.waveform.specs.Waveform.{has_points, last_label}
use Rattle.nearest.specs.Nearest.{nearest_label}
use Rattle.samples.specs.declared.Sample.{Sample}
use Rattle.samples.specs.declared.Sample.TheVariants.{Lost, Pair}
use Rattle.samples.specs.Samples.{sample_in_range}
use Rattle.samples.specs.Text.{is_text, samples_in}
use Rattle.capture.specs.declared.Judgement.{Judgement}

-- a sample against its label: a pair is read as the nearest label
abbrev pub agrees : ℕ → Sample → Bool
agrees label Lost = false
agrees label (Pair i q) = eqb (nearest_label i q) label

abbrev pub differs : ℕ → Sample → Bool
differs label Lost = false
differs label (Pair i q) = not (eqb (nearest_label i q) label)

abbrev pub is_lost : ℕ → Sample → Bool
is_lost label Lost = true
is_lost label (Pair i q) = false

-- at how many places it is so, and at which first, counted from 0
unfoldable pub count : (ℕ → Sample → Bool) → List ℕ → List Sample → ℕ
count test [] samples = 0
count test (label ∷ labels) [] = 0
count test (label ∷ labels) (sample ∷ samples) = (if test label sample then 1 else 0) + count test labels samples

unfoldable pub first : (ℕ → Sample → Bool) → List ℕ → List Sample → Option ℕ
first test [] samples = None
first test (label ∷ labels) [] = None
first test (label ∷ labels) (sample ∷ samples) = if test label sample then Some 0 else option_map suc (first test labels samples)

abbrev pub judgement : List ℕ → List Sample → Judgement
judgement labels samples =
    record {
      agreeing = count agrees labels samples;
      differing = count differs labels samples;
      lost = count is_lost labels samples;
      first = first differs labels samples;
    }

unfoldable pub all_in_range : List Sample → Bool
all_in_range [] = true
all_in_range (sample ∷ samples) = sample_in_range sample && all_in_range samples

-- a capture is the text of 8,100 samples
abbrev pub is_capture : List ℕ → Bool
is_capture = is_text symbols

abbrev pub samples_of : List ℕ → List Sample
samples_of = samples_in symbols

abbrev pub labels_checks : ℕ → List ℕ → List Check
labels_checks f labels =
    has_points f or_else bad_format
    ∷ eqb (length labels) symbols or_else bad_length
    ∷ all_at_most last_label labels or_else bad_element
    ∷ []

abbrev pub capture_checks : List ℕ → List Check
capture_checks capture =
    is_capture capture or_else bad_capture
    ∷ all_in_range (samples_of capture) or_else bad_coordinate
    ∷ []

abbrev pub judge_checks : ℕ → List ℕ → List ℕ → List Check
judge_checks f labels capture = labels_checks f labels ++ capture_checks capture

-- the checks of the format and the labels, which are asked before the capture is read
unfoldable pub labels_number : ℕ → List ℕ → ℕ
labels_number f labels = first_failed (labels_checks f labels)

unfoldable pub judge_number : ℕ → List ℕ → List ℕ → ℕ
judge_number f labels capture = first_failed (judge_checks f labels capture)

-- an answer in numbers: a refusal has 0 in every count, and no place
pub record Answer : Type 0 where
  pub number : ℕ
  pub judgement : Judgement

abbrev pub nothing : Judgement
nothing = record { agreeing = 0; differing = 0; lost = 0; first = None }

abbrev pub answer_of : Result Judgement Refusal → Answer
answer_of (Ok j) = record { number = passed; judgement = j }
answer_of (Err refusal) = record { number = check_number refusal; judgement = nothing }

abbrev pub judged : ℕ → List ℕ → List ℕ → Answer
judged f labels capture =
    let number = judge_number f labels capture in
    record { number = number; judgement = if eqb number passed then judgement labels (samples_of capture) else nothing }
