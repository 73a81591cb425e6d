-- Each table holds its sequence's words: one test of each, by computing.
use mathlib.Core.Path.{refl}
use Rattle.m_sequences.specs.MSequences.{x, y}
use Rattle.m_sequences.proofs.Linked.{after_x, after_x_lem, after_y, after_y_lem, later, linked, linked-words}
use Rattle.m_sequences.proofs.steps.Sequence.words.Goals as goal

pub returns-in-X : goal.returns-in-X
unfolding linked later
returns-in-X c = rw c.in-X.is (linked-words after_x x after_x_lem _ refl refl)

pub returns-in-Y : goal.returns-in-Y
unfolding linked later
returns-in-Y c = rw c.in-Y.is (linked-words after_y y after_y_lem _ refl refl)
