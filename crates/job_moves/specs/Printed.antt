-- What the programs `lengthen` and `shorten` print for a text on their standard input: the line that is written, or the number of the check that failed.
use Rattle.std.specs.Prelude.{List, ℕ, eqb, if◌then◌else◌}
use Rattle.bits.specs.Checks.{passed}
use Rattle.ascii.specs.Text.{refusal_text}
use Rattle.job_line.specs.Line.{longest_line}
use Rattle.job_moves.specs.Moves.{lengthened, lengthen_number, shortened, shorten_number}

abbrev pub printed : ℕ → List ℕ → List ℕ
printed number written = if eqb number passed then written else refusal_text number

-- there is room for every line
unfoldable pub lengthen_printed : List ℕ → List ℕ
lengthen_printed text = printed (lengthen_number text longest_line) (lengthened text)

unfoldable pub shorten_printed : List ℕ → List ℕ
shorten_printed text = printed (shorten_number text longest_line) (shortened text)
