-- The structs of the C interface: what the layer below answers, field by field. A refusal there has its number and 0 in every other field, and
-- so has it here.
use Rattle.std.specs.Prelude.{List, ℕ, ◌-◌, ◌*◌, ◌^◌, eqb, if◌then◌else◌, Option, Some, None, unwrap_or}
use Rattle.bits.specs.Checks.{passed}
use Rattle.acm.specs.Formats as acm
use Rattle.trellis.specs.Run.{Ran}
use Rattle.trellis.specs.Trellis as trellis
use Rattle.interleaver.specs.Interleaver as interleaver
use Rattle.interleaver.specs.Provenance.{Provenance}
use Rattle.framing.specs.Calls.{section_number}
use Rattle.compare.specs.Comparison as compare
use Rattle.cuts.specs.declared.States.{States}
use Rattle.segments.specs.Calls.{Segmented}
use Rattle.sharing.specs.Calls.{Shared}
use Rattle.slicer.specs.Calls as slicer
use Rattle.slicer.specs.Change.{LookAnswer as Look}
use Rattle.slicer.specs.declared.Slicer as below
use Rattle.job_line.specs.Job as job
use Rattle.job_moves.specs.Moves.{Moved}
use Rattle.waveform.specs.Waveform as waveform
use Rattle.capture.specs.Judgement as capture
use Rattle.sccc.specs.declared.FormatInfo.{FormatInfo}
use Rattle.sccc.specs.declared.Stepped.{Stepped}
use Rattle.sccc.specs.declared.Interleaved.{Interleaved}
use Rattle.sccc.specs.declared.SectionRange.{SectionRange}
use Rattle.sccc.specs.declared.Comparison.{Comparison}
use Rattle.sccc.specs.declared.channels.SharedAnswer.{SharedAnswer}
use Rattle.sccc.specs.declared.judging.Judgement.{Judgement}
use Rattle.sccc.specs.declared.lines.JobAnswer.{JobAnswer}
use Rattle.sccc.specs.declared.lines.LineAnswer.{LineAnswer}
use Rattle.sccc.specs.declared.machine.SegmentStates.{SegmentStates}
use Rattle.sccc.specs.declared.machine.SegmentsAnswer.{SegmentsAnswer}
use Rattle.sccc.specs.declared.run.RunAnswer.{RunAnswer}
use Rattle.sccc.specs.declared.stream.Slicer.{Slicer}
use Rattle.sccc.specs.declared.stream.SlicerAnswer.{SlicerAnswer}
use Rattle.sccc.specs.declared.stream.BlockAnswer.{BlockAnswer}
use Rattle.sccc.specs.declared.stream.LookAnswer.{LookAnswer}
use Rattle.sccc.specs.declared.symbols.PointAnswer.{PointAnswer}

abbrev pub info_struct : acm.Answer → Provenance → FormatInfo
info_struct a p =
    let f = a.format in
    record {
      number = a.number;
      m = f.m;
      k = f.k;
      i = f.i;
      w = f.w;
      n = f.n;
      provisional = p.provisional;
      k1 = f.k1;
      k2 = f.k2;
      soft = f.soft;
    }

abbrev pub step_struct : trellis.Stepped → Stepped
step_struct s = record { number = s.number; systematic = s.systematic; parity = s.parity; state = s.state }

abbrev pub run_struct : Ran → RunAnswer
run_struct r = record { number = r.number; state = r.state }

abbrev pub states_struct : States → SegmentStates
states_struct s = record { ended = s.ended; started = s.started }

abbrev pub segments_struct : Segmented → SegmentsAnswer
segments_struct a = record { number = a.number; outer = states_struct a.outer; inner = states_struct a.inner }

abbrev pub shared_struct : Shared → SharedAnswer
shared_struct a = record { number = a.number; held = a.held }

abbrev pub position_struct : interleaver.Answer → Interleaved
position_struct a = record { number = a.number; position = a.position }

abbrev pub refused : ℕ → SectionRange
refused number = record { number = number; start = 0; length = 0 }

-- the section at a place begins at place × 8100
abbrev pub range_struct : List ℕ → ℕ → SectionRange
range_struct labels place =
    if eqb (section_number labels place) passed
    then record { number = passed; start = place * acm.symbols; length = acm.symbols }
    else refused (section_number labels place)

abbrev pub comparison_struct : compare.Answer → Comparison
comparison_struct a = record { number = a.number; same = if a.same then 1 else 0; count = a.count; first = a.first }

-- a slicer as C has it, and back
abbrev pub slicer_struct : below.Slicer → Slicer
slicer_struct s = record { format = s.format; frame_length = s.octets; waiting = s.waiting }

abbrev pub slicer_of : Slicer → below.Slicer
slicer_of s = record { format = s.format; octets = s.frame_length; waiting = s.waiting }

abbrev pub answer_struct : slicer.Answer → SlicerAnswer
answer_struct a = record { number = a.number; slicer = slicer_struct a.slicer }

abbrev pub block_struct : slicer.BlockAnswer → BlockAnswer
block_struct a = record { number = a.number; wait = if a.wait then 1 else 0; slicer = slicer_struct a.slicer }

abbrev pub look_struct : Look → LookAnswer
look_struct a = record { number = a.number; blocks = a.blocks; bits = a.bits }

-- a code number where there is one, and else the largest number of 64 bits
abbrev pub unscrambled : ℕ
unscrambled = 2 ^ 64 - 1

abbrev pub code_word : Option ℕ → ℕ
code_word (Some code) = code
code_word None = unscrambled

abbrev pub job_struct : job.Answer → JobAnswer
job_struct a =
    record {
      number = a.number;
      format = a.format;
      pattern = a.pattern;
      pilots = a.pilots;
      code = if eqb a.number passed then code_word a.code else 0;
    }

abbrev pub line_struct : Moved → LineAnswer
line_struct m = record { number = m.number; length = m.length }

-- and back
abbrev pub code_of : ℕ → Option ℕ
code_of word = if eqb word unscrambled then None else Some word

abbrev pub point_struct : waveform.Answer → PointAnswer
point_struct a = record { number = a.number; i = a.point.i; q = a.point.q }

-- none is 1 where nothing differs, and first is then 0
abbrev pub told_none : Option ℕ → ℕ
told_none None = 1
told_none (Some first) = 0

abbrev pub judgement_struct : capture.Answer → Judgement
judgement_struct a =
    let j = a.judgement in
    record {
      number = a.number;
      agreeing = j.agreeing;
      differing = j.differing;
      lost = j.lost;
      none = if eqb a.number passed then told_none j.first else 0;
      first = unwrap_or j.first 0;
    }
