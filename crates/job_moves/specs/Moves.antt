-- A job line moves to the other form (document 02, L11): there with no pilots and unscrambled, and only a line with these back.
use Rattle.std.specs.Prelude.{Bool, true, false, ◌&&◌, List, [], ◌∷◌, ◌++◌, ℕ, eqb, leb, length, if◌then◌else◌, Option, Some, None, Result, Ok, Err}
use Rattle.bits.specs.Checks.{Check, ◌or_else◌, first_failed, check_number, passed, bad_line, short_output, no_way_back}
use Rattle.bits.specs.declared.checks.Refusal.{Refusal}
use Rattle.ascii.specs.Text.{at_front}
use Rattle.job_line.specs.declared.steps.Added.{Added}
use Rattle.job_line.specs.declared.steps.Line.{Line}
use Rattle.job_line.specs.Line.{text_of, is_old, is_longer, old_in, longer_in}
use Rattle.job_line.specs.Job.{plain, numbers_checks, said_checks}

-- the same format and pattern in the other form: plain in the longer
abbrev pub with_added : Option Added → Line → Line
with_added added l = record { format = l.format; pattern = l.pattern; added = added }

unfoldable pub lengthened : List ℕ → List ℕ
lengthened text = text_of (with_added (Some plain) (old_in text))

unfoldable pub shortened : List ℕ → List ℕ
shortened text = text_of (with_added None (longer_in text))

-- whether a line goes back
abbrev pub is_unscrambled : Option ℕ → Bool
is_unscrambled None = true
is_unscrambled (Some n) = false

abbrev pub is_plain : Option Added → Bool
is_plain None = false
is_plain (Some a) = eqb a.pilots plain.pilots && is_unscrambled a.code

-- the checks of the line that moves, and of the room for the one that is written
abbrev pub old_checks : List ℕ → List Check
old_checks text = is_old text or_else bad_line ∷ numbers_checks (old_in text)

abbrev pub plain_checks : List ℕ → List Check
plain_checks text =
    is_longer text or_else bad_line
    ∷ said_checks (longer_in text)
    ++ (is_plain (longer_in text).added or_else no_way_back ∷ [])

abbrev pub room_checks : List ℕ → ℕ → List Check
room_checks written room = leb (length written) room or_else short_output ∷ []

-- the numbers of the moves, and of their parts
unfoldable pub old_number : List ℕ → ℕ
old_number text = first_failed (old_checks text)

unfoldable pub plain_number : List ℕ → ℕ
plain_number text = first_failed (plain_checks text)

abbrev pub room_number : List ℕ → ℕ → ℕ
room_number written room = first_failed (room_checks written room)

unfoldable pub lengthen_number : List ℕ → ℕ → ℕ
lengthen_number text room = first_failed (old_checks text ++ room_checks (lengthened text) room)

unfoldable pub shorten_number : List ℕ → ℕ → ℕ
shorten_number text room = first_failed (plain_checks text ++ room_checks (shortened text) room)

-- an answer in numbers: a refusal has length 0
pub record Moved : Type 0 where
  pub number : ℕ
  pub length : ℕ

abbrev pub answer_of : Result ℕ Refusal → Moved
answer_of (Ok long) = record { number = passed; length = long }
answer_of (Err refusal) = record { number = check_number refusal; length = 0 }

-- the answer of a move whose checks say a number and whose line is written, and the output afterwards
abbrev pub moved : ℕ → List ℕ → Moved
moved number written = record { number = number; length = if eqb number passed then length written else 0 }

abbrev pub written_over : ℕ → List ℕ → List ℕ → List ℕ
written_over number written out = if eqb number passed then at_front written out else out

abbrev pub lengthen : List ℕ → ℕ → Moved
lengthen text room = moved (lengthen_number text room) (lengthened text)

abbrev pub lengthen_output : List ℕ → List ℕ → List ℕ
lengthen_output text out = written_over (lengthen_number text (length out)) (lengthened text) out

abbrev pub shorten : List ℕ → ℕ → Moved
shorten text room = moved (shorten_number text room) (shortened text)

abbrev pub shorten_output : List ℕ → List ℕ → List ℕ
shorten_output text out = written_over (shorten_number text (length out)) (shortened text) out
