-- What the bench prints for a text on its standard input.
use Rattle.std.specs.Prelude.{List, [], ◌∷◌, ◌++◌, ℕ, eqb, if◌then◌else◌}
use Rattle.bits.specs.Checks.{passed}
use Rattle.ascii.specs.Text.{ascii, line, refusal_text}
use Rattle.row.specs.declared.steps.Row.{Row}
use Rattle.row.specs.Row.{row_of}
use Rattle.job_line.specs.Line.{said}
use Rattle.job_line.specs.Job.{job_number}

-- bytes of the longest output
abbrev pub longest_output : ℕ
longest_output = 45

abbrev pub header : List ℕ
header = ascii "format,K,I,N,ones\n"

abbrev pub numbers : Row → List ℕ
numbers r = r.format ∷ r.k ∷ r.i ∷ r.n ∷ r.ones ∷ []

unfoldable pub row_text : Row → List ℕ
row_text r = header ++ line (numbers r)

unfoldable pub output : List ℕ → List ℕ
output text =
    if eqb (job_number text) passed then row_text (row_of (said text).format (said text).pattern)
    else refusal_text (job_number text)
