-- The text of samples (document 02, L14): a line each, "LOST" or two floats as their bit patterns in hexadecimal, with a comma between.
use Rattle.std.specs.Prelude.{◌≡◌, Bool, true, ◌&&◌, List, [], ◌∷◌, ◌++◌, map, ℕ, zero, suc, ◌+◌, ◌-◌, ◌/◌, ◌%◌, ◌^◌, leb, ltb, length, take, drop, if◌then◌else◌, Option, Some, None, from_bits}
use Prim.Native.Char.{code}
use Rattle.std.specs.Float.{binary64}
use Rattle.std.specs.List.{All}
use Rattle.bits.specs.Digits.{value}
use Rattle.bits.specs.Joined.{joined}
use Rattle.bits.specs.Same.{same}
use Rattle.ascii.specs.Text.{ascii, comma, line_feed, zero_digit, nine_digit}
use Rattle.samples.specs.declared.Sample.{Sample}
use Rattle.samples.specs.declared.Sample.TheVariants.{Lost, Pair}

-- the writer's side: a digit, a word's digits, heaviest first, and a line, of the bit patterns of two floats or of none
abbrev pub digits : ℕ
digits = 16

abbrev pub digit : ℕ → ℕ
digit d = if ltb d 10 then zero_digit + d else code "A" + (d - 10)

unfoldable pub hexadecimal : ℕ → ℕ → List ℕ
hexadecimal zero word = []
hexadecimal (suc n) word = hexadecimal n (word / 16) ++ digit (word % 16) ∷ []

abbrev pub Line : Type 0
Line = Option (ℕ × ℕ)

unfoldable pub line_text : Line → List ℕ
line_text None = ascii "LOST\n"
line_text (Some (i, q)) = hexadecimal digits i ++ comma ∷ (hexadecimal digits q ++ line_feed ∷ [])

abbrev pub text_of : List Line → List ℕ
text_of lines = joined (map line_text lines)

-- a text is that of n samples exactly if it is the text of n such lines; a bit pattern has 64 bits
abbrev pub word_fits : ℕ → Bool
word_fits word = ltb word (2 ^ 64)

abbrev pub line_fits : Line → Bool
line_fits None = true
line_fits (Some (i, q)) = word_fits i && word_fits q

pub record TextOf (n : ℕ) (text : List ℕ) : Type 0 where
  pub lines : List Line
  pub many : length lines ≡ n
  pub fit : All (λ line. line_fits line ≡ true) lines
  pub written : text ≡ text_of lines

-- the sample of a line
abbrev pub sample_of : Line → Sample
sample_of None = Lost
sample_of (Some (i, q)) = Pair (from_bits binary64 i) (from_bits binary64 q)

-- the reader's side: the words that stand where a line's would, the line where a first would, and so on for n lines
abbrev pub digit_value : ℕ → ℕ
digit_value b = if leb b nine_digit then b - zero_digit else b - code "A" + 10

abbrev pub word_in : List ℕ → ℕ
word_in text = value 16 (map digit_value text)

abbrev pub begins : List ℕ → List ℕ → Bool
begins front text = same (take (length front) text) front

unfoldable pub pair_in : List ℕ → Line
pair_in text = Some (word_in (take digits text), word_in (take digits (drop (digits + 1) text)))

unfoldable pub line_in : List ℕ → Line
line_in text = if begins (line_text None) text then None else pair_in text

unfoldable pub lines_in : ℕ → List ℕ → List Line
lines_in zero text = []
lines_in (suc n) text = let line = line_in text in line ∷ lines_in n (drop (length (line_text line)) text)

-- a text is that of n samples if it is the text of these lines, and these are the samples
unfoldable pub is_text : ℕ → List ℕ → Bool
is_text n text = same text (text_of (lines_in n text))

abbrev pub samples_in : ℕ → List ℕ → List Sample
samples_in n text = map sample_of (lines_in n text)
