-- What the reader makes of a text, step by step: its parts promise these. What a text is does not stand on them.
use Rattle.std.specs.Prelude.{Bool, ◌&&◌, ◌||◌, List, ℕ, ◌+◌, ◌*◌, leb, length, drop, if◌then◌else◌, Option, Some, None}
use Prim.Native.Char.{code}
use Rattle.bits.specs.Same.{same}
use Rattle.ascii.specs.Text.{zero_digit, nine_digit}
use Rattle.samples.specs.declared.Sample.{Sample}
use Rattle.samples.specs.Text.{digits, digit_value, hexadecimal, begins, line_text, line_in, pair_in, sample_of, word_in}

abbrev pub is_digit : ℕ → Bool
is_digit b = (leb zero_digit b && leb b nine_digit) || (leb (code "A") b && leb b (code "F"))

abbrev pub digit_of : ℕ → Option ℕ
digit_of b = if is_digit b then Some (digit_value b) else None

unfoldable pub word_of : List ℕ → Option ℕ
word_of text = if same text (hexadecimal digits (word_in text)) then Some (word_in text) else None

-- bytes of the line of a pair
abbrev pub pair_bytes : ℕ
pair_bytes = 2 * digits + 2

unfoldable pub pair_of : List ℕ → Option Sample
pair_of line = if same line (line_text (pair_in line)) then Some (sample_of (pair_in line)) else None

unfoldable pub line_read : List ℕ → Option (Sample × List ℕ)
line_read text =
    let line = line_in text in
    if begins (line_text line) text then Some (sample_of line, drop (length (line_text line)) text) else None
