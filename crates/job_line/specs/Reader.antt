-- What the reader makes of a text, step by step: its parts promise these. What a line is does not stand on them.
use Rattle.std.specs.Prelude.{List, [], ◌∷◌, ℕ, eqb, length, if◌then◌else◌, Option, Some, None, option_map, option_and_then}
use Rattle.bits.specs.Same.{same}
use Rattle.ascii.specs.Text.{comma, line_feed, dash}
use Rattle.fields.specs.Fields.{cut_at, field_of}
use Rattle.job_line.specs.declared.steps.Added.{Added}
use Rattle.job_line.specs.declared.steps.Line.{Line}
use Rattle.job_line.specs.Line.{field_digits, code_digits, old_line, longer_line}

abbrev pub field : List ℕ → Option ℕ
field = field_of field_digits

abbrev pub ended_of : List ℕ → Option (List ℕ)
ended_of text = option_and_then (λ parts. if eqb (length parts.1) 0 then Some parts.0 else None) (cut_at line_feed text)

abbrev pub code_read : List ℕ → Option (Option ℕ)
code_read text = if same text (dash ∷ []) then Some None else option_map Some (field_of code_digits text)

abbrev pub with_code : ℕ → Option ℕ → Added
with_code pilots code = record { pilots = pilots; code = code }

abbrev pub added_read : List ℕ → Option Added
added_read text =
    option_and_then
    (λ parts. option_and_then (λ pilots. option_and_then (λ last. option_map (with_code pilots) (code_read last)) (ended_of parts.1)) (field parts.0))
    (cut_at comma text)

-- what stands behind the format: one field, or more where there is a comma
abbrev pub behind_format : ℕ → List ℕ → Option (List ℕ × List ℕ) → Option Line
behind_format f rest None = option_and_then (λ last. option_map (old_line f) (field last)) (ended_of rest)
behind_format f rest (Some parts) = option_and_then (λ p. option_map (longer_line f p) (added_read parts.1)) (field parts.0)

abbrev pub line_read : List ℕ → Option Line
line_read text =
    option_and_then (λ parts. option_and_then (λ f. behind_format f parts.1 (cut_at comma parts.1)) (field parts.0)) (cut_at comma text)
