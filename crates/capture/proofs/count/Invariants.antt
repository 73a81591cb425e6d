use Rattle.acm.specs.Formats.{symbols}
use Rattle.capture.proofs.Texts.{Left}
use Rattle.capture.proofs.count.Given as goal

abbrev pub invariant-loop-place : goal.invariant-loop-place
invariant-loop-place l = Left symbols l.labels l.text l.place l.tally l.rest
