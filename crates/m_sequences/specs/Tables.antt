-- The code's sequences, and what its tables have to hold of each: the words at every 512th place.
use Rattle.std.specs.Prelude.{◌≡◌, List, ℕ, ◌*◌, ◌/◌, ◌^◌, ◌<◌, length, get_or}
use Rattle.m_sequences.specs.declared.steps.Sequence.{Sequence}
use Rattle.m_sequences.specs.declared.steps.Sequence.TheVariants.{X, Y}
use Rattle.m_sequences.specs.MSequences.{MSequence, degree, word_at, x, y}

abbrev pub sequence : Sequence → MSequence
sequence X = x
sequence Y = y

abbrev pub stride : ℕ
stride = 512

abbrev pub entries : ℕ
entries = 2 ^ degree / stride

pub record Words (s : MSequence) (words : List ℕ) : Type 0 where
  pub long : length words ≡ entries
  pub at_stride : (k : ℕ) → k < entries → get_or words k 0 ≡ word_at s (k * stride)
