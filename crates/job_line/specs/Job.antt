-- The job that a text asks for, or the number of the check that refuses it: 6, then 1, 7, 14 and 16.
use Rattle.std.specs.Prelude.{List, [], ◌∷◌, ◌++◌, ℕ, eqb, leb, ltb, if◌then◌else◌, Option, Some, None, option_map, unwrap_or, Result, Ok, Err}
use Rattle.bits.specs.Checks.{Check, ◌or_else◌, first_failed, check_number, passed, bad_format, bad_line, bad_pattern, bad_pilots, bad_code}
use Rattle.bits.specs.declared.checks.Refusal.{Refusal}
use Rattle.acm.specs.Formats.{is_format}
use Rattle.header.specs.Descriptor.{choice_number, pilots_off, pilots_on}
use Rattle.scrambling.specs.Code.{code_legal}
use Rattle.job_line.specs.declared.steps.Added.{Added}
use Rattle.job_line.specs.declared.steps.Line.{Line}
use Rattle.job_line.specs.declared.Job.{Job}
use Rattle.job_line.specs.Line.{is_line, said}

-- the patterns 0, 1 and 2
abbrev pub patterns : ℕ
patterns = 3

-- no pilots, and nothing scrambled: what a line of the old form stands for
abbrev pub plain : Added
plain = record { pilots = pilots_off; code = None }

abbrev pub added_of : Line → Added
added_of l = unwrap_or l.added plain

-- of what a line of the old form says, and of what the longer says besides
abbrev pub numbers_checks : Line → List Check
numbers_checks l =
    is_format l.format or_else bad_format
    ∷ ltb l.pattern patterns or_else bad_pattern
    ∷ []

abbrev pub added_checks : Line → List Check
added_checks l =
    leb (added_of l).pilots pilots_on or_else bad_pilots
    ∷ code_legal (added_of l).code or_else bad_code
    ∷ []

abbrev pub said_checks : Line → List Check
said_checks l = numbers_checks l ++ added_checks l

unfoldable pub said_number : Line → ℕ
said_number l = first_failed (said_checks l)

abbrev pub job_checks : List ℕ → List Check
job_checks text = is_line text or_else bad_line ∷ said_checks (said text)

unfoldable pub job_number : List ℕ → ℕ
job_number text = first_failed (job_checks text)

-- an answer in numbers: a refusal has 0 in every other field, and no code number
pub record Answer : Type 0 where
  pub number : ℕ
  pub format : ℕ
  pub pattern : ℕ
  pub pilots : ℕ
  pub code : Option ℕ

abbrev pub accepted : Line → Answer
accepted l = record { number = passed; format = l.format; pattern = l.pattern; pilots = (added_of l).pilots; code = (added_of l).code }

abbrev pub refused : ℕ → Answer
refused number = record { number = number; format = 0; pattern = 0; pilots = 0; code = None }

-- the numbers of a job
abbrev pub line_of_job : Job → Line
line_of_job job =
    record {
      format = job.format.number;
      pattern = job.pattern;
      added = Some (record { pilots = choice_number job.pilots; code = option_map (λ c. c.number) job.code });
    }

abbrev pub answer_of : Result Job Refusal → Answer
answer_of (Ok job) = accepted (line_of_job job)
answer_of (Err refusal) = refused (check_number refusal)

abbrev pub asked : List ℕ → Answer
asked text = if eqb (job_number text) passed then accepted (said text) else refused (job_number text)
