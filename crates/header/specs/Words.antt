-- Bits as the code holds them: 64 to a word, of which the first weighs most.
use Rattle.std.specs.Prelude.{ℕ}

abbrev pub word_length : ℕ
word_length = 64
