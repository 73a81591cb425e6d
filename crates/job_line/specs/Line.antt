-- The job line: format, comma, pattern, line feed, end. In its longer form a comma, the pilot choice, a comma and the code number stand before the
-- line feed, or a dash for the code number where nothing is scrambled.
use Rattle.std.specs.Prelude.{◌≡◌, Bool, true, ◌&&◌, ◌||◌, List, [], ◌∷◌, ◌++◌, ℕ, ◌+◌, ◌*◌, ◌^◌, ltb, if◌then◌else◌, Option, Some, None}
use Rattle.bits.specs.Same.{same}
use Rattle.ascii.specs.Text.{comma, line_feed, dash, decimal}
use Rattle.fields.specs.Fields.{value, before, behind}
use Rattle.job_line.specs.declared.steps.Added.{Added}
use Rattle.job_line.specs.declared.steps.Line.{Line}

-- a field has at most so many digits, the code number so many
abbrev pub field_digits : ℕ
field_digits = 3

abbrev pub code_digits : ℕ
code_digits = 6

-- bytes of the longest line of the old form and of the longer: the fields, a comma between any two of them, and the line feed
abbrev pub longest_old : ℕ
longest_old = 2 * field_digits + 2

abbrev pub longest_line : ℕ
longest_line = 3 * field_digits + code_digits + 4

-- the numbers of a line of each form
abbrev pub old_line : ℕ → ℕ → Line
old_line f p = record { format = f; pattern = p; added = None }

abbrev pub longer_line : ℕ → ℕ → Added → Line
longer_line f p a = record { format = f; pattern = p; added = Some a }

-- the writer's side: the text of a line's numbers, and which numbers a line can have
abbrev pub code_text : Option ℕ → List ℕ
code_text None = dash ∷ []
code_text (Some n) = decimal n

abbrev pub added_text : Option Added → List ℕ
added_text None = line_feed ∷ []
added_text (Some a) = comma ∷ decimal a.pilots ++ comma ∷ (code_text a.code ++ line_feed ∷ [])

abbrev pub text_of : Line → List ℕ
text_of l = decimal l.format ++ comma ∷ (decimal l.pattern ++ added_text l.added)

abbrev pub field_fits : ℕ → Bool
field_fits n = ltb n (10 ^ field_digits)

abbrev pub code_fits : Option ℕ → Bool
code_fits None = true
code_fits (Some n) = ltb n (10 ^ code_digits)

abbrev pub added_fits : Option Added → Bool
added_fits None = true
added_fits (Some a) = field_fits a.pilots && code_fits a.code

abbrev pub fits : Line → Bool
fits l = field_fits l.format && field_fits l.pattern && added_fits l.added

-- a text is a line of a form exactly if it is the text of such numbers
pub record OldLine (text : List ℕ) : Type 0 where
  pub format : ℕ
  pub pattern : ℕ
  pub low : fits (old_line format pattern) ≡ true
  pub written : text ≡ text_of (old_line format pattern)

pub record LongerLine (text : List ℕ) : Type 0 where
  pub format : ℕ
  pub pattern : ℕ
  pub added : Added
  pub low : fits (longer_line format pattern added) ≡ true
  pub written : text ≡ text_of (longer_line format pattern added)

-- the reader's side: the numbers that stand where those of the old form would, and of the longer
abbrev pub old_in : List ℕ → Line
old_in text = old_line (value (before comma text)) (value (before line_feed (behind comma text)))

abbrev pub code_in : List ℕ → Option ℕ
code_in text = if same text (dash ∷ []) then None else Some (value text)

abbrev pub added_in : List ℕ → Added
added_in text = record { pilots = value (before comma text); code = code_in (before line_feed (behind comma text)) }

abbrev pub longer_in : List ℕ → Line
longer_in text =
    let rest = behind comma text in
    longer_line (value (before comma text)) (value (before comma rest)) (added_in (behind comma rest))

-- a text is a line of a form if it is the text of these
abbrev pub is_text_of : List ℕ → Line → Bool
is_text_of text l = fits l && same text (text_of l)

unfoldable pub is_old : List ℕ → Bool
is_old text = is_text_of text (old_in text)

unfoldable pub is_longer : List ℕ → Bool
is_longer text = is_text_of text (longer_in text)

abbrev pub is_line : List ℕ → Bool
is_line text = is_old text || is_longer text

-- what a line says
unfoldable pub said : List ℕ → Line
said text = if is_old text then old_in text else longer_in text

abbrev pub line_of : List ℕ → Option Line
line_of text = if is_line text then Some (said text) else None
