-- The table passes its test, and what the register comes to hold are the check bits.
use mathlib.Core.Path.{refl, ◌∙◌}
use Rattle.bits.specs.Words.{bits_of}
use Rattle.bch.specs.Bch.{printed, lower}
use Rattle.bch.proofs.Laws.{register_is}
use Rattle.bch.proofs.Words.{table_of}
use Rattle.bch.proofs.steps.check_word.Goals as goal

pub run-requires : goal.run-requires
unfolding bits_of lower printed
run-requires c =
    (table_of _ refl refl, c.requires.0, c.requires.1)

pub returns : goal.returns
returns c = c.run.ensures ∙ register_is _ c.requires.0
