-- The digits before the next are digits, and write the word, which those from it on bring to the whole.
use mathlib.Core.Path.{◌≡◌}
use mathlib.Core.List.{map}
use Prim.Native.Nat.{◌^◌, ◌<◌}
use lib.ListN.{drop}
use Rattle.bits.specs.Digits.{value_from}
use Rattle.samples.specs.Text.{digit_value, word_in}
use Rattle.samples.proofs.Words.{all_digits}
use Rattle.samples.proofs.steps.word.Given as goal

abbrev pub invariant-loop-b : goal.invariant-loop-b
invariant-loop-b l =
    (l.word < 16 ^ l.b-index) × (value_from 16 l.word (map digit_value (drop l.b-index l.text)) ≡ word_in l.text)
    × (all_digits l.text ≡ all_digits (drop l.b-index l.text))
