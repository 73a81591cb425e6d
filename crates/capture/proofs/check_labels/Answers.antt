-- A label is a byte, and so at most 255.
use mathlib.Core.Path.{refl}
use native.Mathlib.Omega.{arith}
use borrow.Author.Tests.{eq-eqb}
use Rattle.bits.proofs.Legal.{legal_of}
use Rattle.waveform.specs.Waveform.{last_label}
use Rattle.capture.specs.Judgement.{labels_number}
use Rattle.capture.proofs.check_labels.Goals as goal

pub returns : goal.returns
unfolding labels_number
returns c =
    let bytes = legal_of last_label c.args.labels.now (λ k. omega (arith, (c.type_inv.labels k).fits)) in
    rw (← c.if-not-has_points.ensures, eq-eqb _ _ c.if-labels-ne-SYMBOLS.false, bytes) refl
