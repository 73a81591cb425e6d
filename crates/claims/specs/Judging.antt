-- A captured unit judged (document 02, L14).
use Rattle.std.specs.Prelude.{◌≡◌, true, false, List, map, ◌↔◌, ℕ, ◌+◌, ◌≤◌, ◌<◌, length, get_or, replicate, Option, Some, None, from_bits}
use Rattle.std.specs.Float.{Float, binary64, ◌≤ᶠ◌, ◌<ᶠ◌}
use Rattle.std.specs.List.{All}
use Rattle.bits.specs.Checks.{passed}
use Rattle.bits.specs.Legal.{all_at_most}
use Rattle.acm.specs.Formats.{symbols}
use Rattle.waveform.specs.Waveform.{last_label}
use Rattle.nearest.specs.Nearest.{distance_to, nearest_label}
use Rattle.samples.specs.declared.Sample.TheVariants.{Lost}
use Rattle.samples.specs.Samples.{number_in_range, sample_in_range}
use Rattle.samples.specs.Text.{Line, TextOf, sample_of, text_of}
use Rattle.capture.specs.declared.Judgement.{Judgement}
use Rattle.capture.specs.Judgement.{Answer, differs, judge_number, judged, nothing, samples_of}

-- the label that a pair of coordinates from −2 to 2 is read as: by the rounded distance none is nearer, and of the equally near none is lower;
-- and this holds of no other label
pub record Nearest (i q : Float) (label : ℕ) : Type 0 where
  pub is_label : label ≤ last_label
  pub no_nearer : (other : ℕ) → other ≤ last_label → distance_to i q label ≤ᶠ distance_to i q other
  pub none_lower : (other : ℕ) → other < label → distance_to i q label <ᶠ distance_to i q other

pub record Read (i q : Float) : Type 0 where
  pub nearest : Nearest i q (nearest_label i q)
  pub only : (label : ℕ) → Nearest i q label → label ≡ nearest_label i q

abbrev pub Reads : Type 0
Reads = (i q : Float) → number_in_range i ≡ true → number_in_range q ≡ true → Read i q

-- −0 and subnormal numbers are numbers from −2 to 2, and so are both ends; what is next beyond an end is none, nor is an infinity or a NaN
pub record Ends : Type 0 where
  pub two : number_in_range (from_bits binary64 0x4000_0000_0000_0000) ≡ true
  pub minus_two : number_in_range (from_bits binary64 0xC000_0000_0000_0000) ≡ true
  pub minus_zero : number_in_range (from_bits binary64 0x8000_0000_0000_0000) ≡ true
  pub subnormal : number_in_range (from_bits binary64 1) ≡ true
  pub beyond_two : number_in_range (from_bits binary64 0x4000_0000_0000_0001) ≡ false
  pub beyond_minus_two : number_in_range (from_bits binary64 0xC000_0000_0000_0001) ≡ false
  pub infinity : number_in_range (from_bits binary64 0x7FF0_0000_0000_0000) ≡ false
  pub nan : number_in_range (from_bits binary64 0x7FF0_0000_0000_0001) ≡ false

-- what the call passes: a capture is the text of 8,100 samples. A text that is none is refused with 18, whatever coordinates stand in it
pub record Labels (f : ℕ) (labels : List ℕ) : Type 0 where
  pub least : 33 ≤ f
  pub most : f ≤ 37
  pub long : length labels ≡ 8100
  pub legal : all_at_most 255 labels ≡ true

pub record Asked (f : ℕ) (labels capture : List ℕ) : Type 0 where
  pub labels_pass : Labels f labels
  pub text : TextOf 8100 capture
  pub in-range : All (λ line. sample_in_range (sample_of line) ≡ true) text.lines

abbrev pub Passes : Type 0
Passes = (f : ℕ) (labels capture : List ℕ) → (judge_number f labels capture ≡ passed) ↔ Asked f labels capture

abbrev pub TextFirst : Type 0
TextFirst = (f : ℕ) (labels capture : List ℕ) → Labels f labels → (TextOf 8100 capture → ⊥) → judge_number f labels capture ≡ 18

-- what it answers of such a capture: the samples judged are those of which it is the text, the counts total 8,100, no place is given exactly if
-- nothing differs, and else the first that does
pub record First (labels capture : List ℕ) (k : ℕ) : Type 0 where
  pub inside : k < 8100
  pub differs_here : differs (get_or labels k 0) (get_or (samples_of capture) k Lost) ≡ true
  pub none-before : (j : ℕ) → j < k → differs (get_or labels j 0) (get_or (samples_of capture) j Lost) ≡ false

pub record Told (labels capture : List ℕ) (j : Judgement) : Type 0 where
  pub samples : (text : TextOf 8100 capture) → samples_of capture ≡ map sample_of text.lines
  pub total : j.agreeing + j.differing + j.lost ≡ 8100
  pub none : (j.first ≡ None) ↔ (j.differing ≡ 0)
  pub first : (k : ℕ) → j.first ≡ Some k → First labels capture k

abbrev pub Tells : Type 0
Tells = (f : ℕ) (labels capture : List ℕ) → judge_number f labels capture ≡ passed → Told labels capture (judged f labels capture).judgement

abbrev pub Refused : Type 0
Refused = (f : ℕ) (labels capture : List ℕ) → (judge_number f labels capture ≡ passed → ⊥) → (judged f labels capture).judgement ≡ nothing

-- there are such captures: with all samples lost, and with all at the point of label 0, by the bits of −0.9412; these agree with labels 0, and
-- each differs from labels 1
abbrev pub told : ℕ → ℕ → ℕ → Option ℕ → Answer
told agreeing differing lost first =
    record { number = passed; judgement = record { agreeing = agreeing; differing = differing; lost = lost; first = first } }

abbrev pub point_0 : Line
point_0 = Some (0xBFEE_1E4F_765F_D8AE, 0xBFEE_1E4F_765F_D8AE)

abbrev pub each : ℕ → Line → Answer
each label line = judged 33 (replicate symbols label) (text_of (replicate symbols line))

pub record Are : Type 0 where
  pub lost : each 0 None ≡ told 0 0 8100 None
  pub agreeing : each 0 point_0 ≡ told 8100 0 0 None
  pub differing : each 1 point_0 ≡ told 0 8100 0 (Some 0)

pub record Judging : Type 0 where
  pub reads : Reads
  pub ends : Ends
  pub passes : Passes
  pub text_first : TextFirst
  pub tells : Tells
  pub refused : Refused
  pub are : Are
