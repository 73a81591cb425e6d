-- Encoding by segments: the number that the call answers, the states, and what it leaves in each buffer.
use Rattle.std.specs.Prelude.{◌&&◌, List, [], ◌∷◌, ℕ, eqb, length, if◌then◌else◌, Result, Ok, Err}
use Rattle.bits.specs.Checks.{Check, ◌or_else◌, check_number, first_failed, passed, many_cuts, bad_cut}
use Rattle.bits.specs.declared.checks.Refusal.{Refusal}
use Rattle.acm.specs.Formats.{format_of}
use Rattle.trellis.specs.Trellis.{outer}
use Rattle.interleaver.specs.Interleaver.{π}
use Rattle.inner.specs.Registers.{interleaved}
use Rattle.encoder.specs.Codeword.{trellis_part}
use Rattle.encoder.specs.Calls.{encode_number, encode_workspace, encode_output}
use Rattle.cuts.specs.Cuts.{is_few, is_inside, states_of, no_states}
use Rattle.cuts.specs.declared.States.{States}
use Rattle.segments.specs.declared.Segmented as below

-- the checks of the two lists of cuts
abbrev pub cuts_checks : ℕ → List ℕ → List ℕ → List Check
cuts_checks f outer_list inner_list =
    (is_few outer_list && is_few inner_list) or_else many_cuts
    ∷ (is_inside (format_of f).k1 outer_list && is_inside (format_of f).i inner_list) or_else bad_cut
    ∷ []

-- behind those of encode
unfoldable pub segments_number : ℕ → List ℕ → ℕ → ℕ → List ℕ → List ℕ → ℕ
segments_number f block work_room out_room outer_list inner_list =
    if eqb (encode_number f block work_room out_room) passed
    then first_failed (cuts_checks f outer_list inner_list)
    else encode_number f block work_room out_room

-- an answer, as it is numbered: the states of the segments of each trellis, on refusal all 0
pub record Segmented : Type 0 where
  pub number : ℕ
  pub outer : States
  pub inner : States

abbrev pub refused : ℕ → Segmented
refused number = record { number = number; outer = no_states; inner = no_states }

abbrev pub answer_of : Result below.Segmented Refusal → Segmented
answer_of (Ok s) = record { number = passed; outer = s.outer; inner = s.inner }
answer_of (Err refusal) = refused (check_number refusal)

-- the input of the outer trellis is the trellis part of the block, that of the inner one the interleaved outer kept bits
unfoldable pub segmented : ℕ → List ℕ → ℕ → ℕ → List ℕ → List ℕ → Segmented
segmented f block work_room out_room outer_list inner_list =
    if eqb (segments_number f block work_room out_room outer_list inner_list) passed
    then record {
      number = passed;
      outer = states_of outer_list (trellis_part f block);
      inner = states_of inner_list (interleaved (format_of f) (π f) (outer (trellis_part f block)));
    }
    else refused (segments_number f block work_room out_room outer_list inner_list)

-- the buffers, as encode leaves them
unfoldable pub segments_workspace : ℕ → List ℕ → List ℕ → List ℕ → List ℕ → List ℕ → List ℕ
segments_workspace f block work out outer_list inner_list =
    if eqb (segments_number f block (length work) (length out) outer_list inner_list) passed
    then encode_workspace f block work out
    else work

unfoldable pub segments_output : ℕ → List ℕ → List ℕ → List ℕ → List ℕ → List ℕ → List ℕ
segments_output f block work out outer_list inner_list =
    if eqb (segments_number f block (length work) (length out) outer_list inner_list) passed
    then encode_output f block work out
    else out
